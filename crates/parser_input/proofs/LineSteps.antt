-- A text's first line, and the others.
use Rattle.std.proofs.Common.{◌≡◌, ℕ, suc, true, false, ◌&&◌, ◌||◌, ◌==◌, List, [], ◌∷◌, ◌++◌, take, get_or, refl, sym, ◌∙◌, ap, inl, inr}
use Rattle.rustc_lexer.specs.Characters.{line_feed}
use Rattle.rustc_lexer.specs.Shebang.{ends_line, line_len}
use Rattle.rustc_lexer.proofs.Booleans.{bool_cases}
use Rattle.parser_input.specs.LineList.{in_front, lines, joined}
use Rattle.parser_input.specs.Lines.{first_line, after_line}

joined-front : (c : ℕ) (ls : List (List ℕ)) → joined (in_front c ls) ≡ c ∷ joined ls
joined-front c [] = refl
joined-front c (l ∷ ls) = refl

lines-feed : (c : ℕ) (cs : List ℕ) → (c == line_feed) ≡ true → lines (c ∷ cs) ≡ (c ∷ []) ∷ lines cs
unfolding lines
lines-feed c cs h = rw (h, lines) refl

lines-other : (c : ℕ) (cs : List ℕ) → (c == line_feed) ≡ false → lines (c ∷ cs) ≡ in_front c (lines cs)
unfolding lines
lines-other c cs h = rw (h, lines) refl

after-feed : (c : ℕ) (cs : List ℕ) → (c == line_feed) ≡ true → after_line (c ∷ cs) ≡ cs
unfolding after_line
after-feed c cs h = rw (h, after_line) refl

after-other : (c : ℕ) (cs : List ℕ) → (c == line_feed) ≡ false → after_line (c ∷ cs) ≡ after_line cs
unfolding after_line
after-other c cs h = rw (h, after_line) refl

pub lines-join : (text : List ℕ) → joined (lines text) ≡ text
unfolding lines
lines-join [] = refl
lines-join (c ∷ cs) =
    elim (bool_cases (c == line_feed)) [
      | inl h ↦ ap joined (lines-feed c cs h) ∙ ap (λ (t : List ℕ). c ∷ t) (lines-join cs)
      | inr h ↦ ap joined (lines-other c cs h) ∙ joined-front c (lines cs) ∙ ap (λ (t : List ℕ). c ∷ t) (lines-join cs)
    ]

-- a line without its end, one character at a time
ends-at-once : (c : ℕ) (cs : List ℕ) → ends_line c (get_or cs 0 0) ≡ true → first_line (c ∷ cs) ≡ []
unfolding line_len
ends-at-once c cs h = let none : line_len (c ∷ cs) ≡ 0 = rw (h, line_len) refl in ap (λ (n : ℕ). take n (c ∷ cs)) none

goes-on : (c : ℕ) (cs : List ℕ) → ends_line c (get_or cs 0 0) ≡ false → first_line (c ∷ cs) ≡ c ∷ first_line cs
unfolding line_len
goes-on c cs h =
    let more : line_len (c ∷ cs) ≡ suc (line_len cs) = rw (h, line_len) refl in ap (λ (n : ℕ). take n (c ∷ cs)) more

-- texts whose first lines are the same, with a character in front
in-front-same : (c : ℕ) (xs ys : List ℕ) → get_or xs 0 0 ≡ get_or ys 0 0 → first_line xs ≡ first_line ys → first_line (c ∷ xs) ≡ first_line (c ∷ ys)
in-front-same c xs ys first same =
    elim (bool_cases (ends_line c (get_or xs 0 0))) [
      | inl h ↦ ends-at-once c xs h ∙ sym (ends-at-once c ys (ap (λ (k : ℕ). ends_line c k) (sym first) ∙ h))
      | inr h ↦
          goes-on c xs h ∙ ap (λ (t : List ℕ). c ∷ t) same ∙ sym (goes-on c ys (ap (λ (k : ℕ). ends_line c k) (sym first) ∙ h))
    ]

-- the first of the lines of a text
pub record FirstLine (text : List ℕ) : Type 0 where
  pub line : List ℕ
  pub lines_are : lines text ≡ line ∷ lines (after_line text)
  pub first_same : get_or line 0 0 ≡ get_or text 0 0
  pub line_same : first_line line ≡ first_line text

feed-first : (c : ℕ) (cs : List ℕ) → (c == line_feed) ≡ true → FirstLine (c ∷ cs)
feed-first c cs h =
    let ends : (next : ℕ) → ends_line c next ≡ true = λ next. ap (λ b. b || (c == 13 && next == line_feed)) h in
    record {
      line = c ∷ [];
      lines_are = lines-feed c cs h ∙ ap (λ (t : List ℕ). (c ∷ []) ∷ lines t) (sym (after-feed c cs h));
      first_same = refl;
      line_same = ends-at-once c [] (ends 0) ∙ sym (ends-at-once c cs (ends (get_or cs 0 0)));
    }

first-there : (c : ℕ) (cs : List ℕ) → FirstLine (c ∷ cs)
unfolding lines after_line
first-there c [] =
    elim (bool_cases (c == line_feed)) [
      | inl h ↦ feed-first c [] h
      | inr h ↦ record {
        line = c ∷ [];
        lines_are = lines-other c [] h ∙ ap (λ (t : List ℕ). (c ∷ []) ∷ lines t) (sym (after-other c [] h));
        first_same = refl;
        line_same = refl;
      }
    ]
first-there c (d ∷ ds) =
    elim (bool_cases (c == line_feed)) [
      | inl h ↦ feed-first c (d ∷ ds) h
      | inr h ↦
          let rest = first-there d ds in
          record {
            line = c ∷ rest.line;
            lines_are =
                lines-other c (d ∷ ds) h ∙ ap (λ (ls : List (List ℕ)). in_front c ls) rest.lines_are
                ∙ ap (λ (t : List ℕ). (c ∷ rest.line) ∷ lines t) (sym (after-other c (d ∷ ds) h));
            first_same = refl;
            line_same = in-front-same c rest.line (d ∷ ds) rest.first_same rest.line_same;
          }
    ]

pub first-of : (text : List ℕ) → (text ≡ [] → ⊥) → FirstLine text
first-of [] some = absurd (some refl)
first-of (c ∷ cs) some = first-there c cs

-- the first line and what is after it are the text
pub line-joined : (text : List ℕ) (first : FirstLine text) → first.line ++ after_line text ≡ text
line-joined text first =
    ap (λ (t : List ℕ). first.line ++ t) (sym (lines-join (after_line text)))
    ∙ ap joined (sym first.lines_are) ∙ lines-join text

-- The line that closes a frontmatter is the first fence among the lines after the one that opens it.
use Rattle.std.proofs.Common.{◌≡◌, ◌≤◌, ◌-◌, ◌+◌, ℕ, zero, suc, true, false, List, [], ◌∷◌, ◌++◌, length, take, drop, refl, sym, ◌∙◌, ap, subst, arith, append_assoc, length-append, inl, inr, Option, Some, None, Ok, Err}
use Rattle.std.specs.List.{All}
use Rattle.std.proofs.Math.Seq.{take-append_seam}
use Rattle.std.proofs.lemmas.List.Elements.{All-cons, All-nil}
use Rattle.rustc_lexer.specs.Scan.{run_len}
use Rattle.rustc_lexer.proofs.Booleans.{bool_cases}
use Rattle.parser_input.specs.Laws.{IsNoFence, FencedLines}
use Rattle.parser_input.specs.LineList.{lines, joined}
use Rattle.parser_input.specs.Lines.{first_line, after_line, dashes, is_fence}
use Rattle.parser_input.specs.Preface.{Source, opening_line, closing_line, enclosed, fenced, unclosed, source}
use Rattle.parser_input.proofs.LineSteps.{first-of, line-joined, lines-join}
use Rattle.parser_input.proofs.Prefaces.{closing-here, closing-next, after-shorter, source-long}

-- the lines of a text up to its first fence
record Search (count : ℕ) (text closing : List ℕ) : Type 0 where
  inside : List (List ℕ)
  lines_are : lines text ≡ inside ++ lines closing
  none_before : All (IsNoFence count) inside
  whole : joined inside ++ closing ≡ text
  found : is_fence count (first_line closing) ≡ true
  some : closing ≡ [] → ⊥

here-found : (count : ℕ) (text : List ℕ) → (text ≡ [] → ⊥) → is_fence count (first_line text) ≡ true → Search count text text
here-found count text some fence = record {
  inside = [];
  lines_are = refl;
  none_before = All-nil (IsNoFence count);
  whole = refl;
  found = fence;
  some = some;
}

found-later : (count : ℕ) (text closing : List ℕ) → (text ≡ [] → ⊥) → is_fence count (first_line text) ≡ false → Search count (after_line text) closing → Search count text closing
found-later count text closing some other rest =
    let first = first-of text some in
    record {
      inside = first.line ∷ rest.inside;
      lines_are = first.lines_are ∙ ap (λ (ls : List (List ℕ)). first.line ∷ ls) rest.lines_are;
      none_before = All-cons (IsNoFence count) first.line rest.inside (ap (λ (l : List ℕ). is_fence count l) first.line_same ∙ other) rest.none_before;
      whole = append_assoc first.line (joined rest.inside) closing ∙ ap (λ (t : List ℕ). first.line ++ t) rest.whole ∙ line-joined text first;
      found = rest.found;
      some = rest.some;
    }

-- by the length of what is searched
search : (count k : ℕ) (text closing : List ℕ) → length text ≤ k → closing_line count true text ≡ Some closing → Search count text closing
unfolding closing_line
search count k [] closing h e = absurd (cc)
search count zero (c ∷ cs) closing h e = absurd (omega arith)
search count (suc k) (c ∷ cs) closing h e =
    let some : (c ∷ cs) ≡ [] → ⊥ = λ z. cc in
    elim (bool_cases (is_fence count (first_line (c ∷ cs)))) [
      | inl fence ↦
          let same : c ∷ cs ≡ closing = let z = closing-here count (c ∷ cs) some fence ∙ e in cc in
          subst (λ (t : List ℕ). Search count (c ∷ cs) t) same (here-found count (c ∷ cs) some fence)
      | inr other ↦
          let few : length (after_line (c ∷ cs)) ≤ k = omega (arith, after-shorter (c ∷ cs) some) in
          found-later count (c ∷ cs) closing some other (search count k (after_line (c ∷ cs)) closing few (closing-next count (c ∷ cs) some other ∙ e))
    ]

none-found : (count k : ℕ) (text : List ℕ) → length text ≤ k → closing_line count true text ≡ None → All (IsNoFence count) (lines text)
unfolding closing_line lines
none-found count k [] h e = All-nil (IsNoFence count)
none-found count zero (c ∷ cs) h e = absurd (omega arith)
none-found count (suc k) (c ∷ cs) h e =
    let some : (c ∷ cs) ≡ [] → ⊥ = λ z. cc in
    elim (bool_cases (is_fence count (first_line (c ∷ cs)))) [
      | inl fence ↦ let z = closing-here count (c ∷ cs) some fence ∙ e in absurd (cc)
      | inr other ↦
          let first = first-of (c ∷ cs) some in
          let few : length (after_line (c ∷ cs)) ≤ k = omega (arith, after-shorter (c ∷ cs) some) in
          let rest = none-found count k (after_line (c ∷ cs)) few (closing-next count (c ∷ cs) some other ∙ e) in
          subst (λ (ls : List (List ℕ)). All (IsNoFence count) ls) (sym first.lines_are)
          (All-cons (IsNoFence count) first.line (lines (after_line (c ∷ cs))) (ap (λ (l : List ℕ). is_fence count l) first.line_same ∙ other) rest)
    ]

none-closes : (count k : ℕ) (text : List ℕ) → length text ≤ k → All (IsNoFence count) (lines text) → closing_line count true text ≡ None
unfolding closing_line
none-closes count k [] h all = refl
none-closes count zero (c ∷ cs) h all = absurd (omega arith)
none-closes count (suc k) (c ∷ cs) h all =
    let some : (c ∷ cs) ≡ [] → ⊥ = λ z. cc in
    let first = first-of (c ∷ cs) some in
    let rest = lines (after_line (c ∷ cs)) in
    let split : All (IsNoFence count) (first.line ∷ rest) = subst (λ (ls : List (List ℕ)). All (IsNoFence count) ls) first.lines_are all in
    let other : is_fence count (first_line (c ∷ cs)) ≡ false = ap (λ (l : List ℕ). is_fence count l) (sym first.line_same) ∙ split 0 [] (omega arith) in
    let few : length (after_line (c ∷ cs)) ≤ k = omega (arith, after-shorter (c ∷ cs) some) in
    sym (closing-next count (c ∷ cs) some other)
    ∙ none-closes count k (after_line (c ∷ cs)) few (λ i d j. split (suc i) d (omega arith))

-- a line with dashes is there
dashes-some : (text : List ℕ) → 3 ≤ dashes text → text ≡ [] → ⊥
unfolding dashes run_len
dashes-some text many none =
    let z : dashes text ≡ 0 = ap dashes none in absurd (omega arith)

fenced-lines : (text closing : List ℕ) → 3 ≤ dashes (opening_line text) → Search (dashes (opening_line text)) (after_line (opening_line text)) closing → FencedLines text (fenced text (opening_line text) closing)
unfolding fenced
fenced-lines text closing many s =
    let opening = opening_line text in
    let first = first-of opening (dashes-some opening many) in
    let last = first-of closing s.some in
    let long : length (joined s.inside) + length closing ≡ length (after_line opening) = sym (length-append (joined s.inside) closing) ∙ ap length s.whole in
    let n : length (after_line opening) - length closing ≡ length (joined s.inside) = omega arith in
    let between : take (length (after_line opening) - length closing) (after_line opening) ≡ joined s.inside =
    ap (λ (k : ℕ). take k (after_line opening)) n ∙ ap (λ (t : List ℕ). take (length (joined s.inside)) t) (sym s.whole) ∙ take-append_seam (joined s.inside) closing in
    record {
      opening_is = first.line;
      inside = s.inside;
      fence = last.line;
      after = lines (after_line closing);
      lines_are =
          first.lines_are ∙ ap (λ (ls : List (List ℕ)). first.line ∷ ls) s.lines_are
          ∙ ap (λ (ls : List (List ℕ)). first.line ∷ s.inside ++ ls) last.lines_are;
      closes = ap (λ (l : List ℕ). is_fence (dashes opening) l) last.line_same ∙ s.found;
      none_before = s.none_before;
      frontmatter_is = ap (λ (t : List ℕ). Some t) between;
      content_is = sym (lines-join (after_line closing));
    }

closed-lines : (text : List ℕ) (o : Option (List ℕ)) (parts : Source) → 3 ≤ dashes (opening_line text) → closing_line (dashes (opening_line text)) true (after_line (opening_line text)) ≡ o → enclosed text (dashes (opening_line text)) o ≡ Ok parts → FencedLines text parts
closed-lines text None parts many e is = absurd (cc)
closed-lines text (Some closing) parts many e is =
    let inside = after_line (opening_line text) in
    let same : fenced text (opening_line text) closing ≡ parts = cc in
    subst (λ (s : Source). FencedLines text s) same (fenced-lines text closing many (search (dashes (opening_line text)) (length inside) inside closing (omega arith) e))

pub first-fence : (text : List ℕ) (parts : Source) → source text ≡ Ok parts → 3 ≤ dashes (opening_line text) → FencedLines text parts
first-fence text parts is many =
    closed-lines text (closing_line (dashes (opening_line text)) true (after_line (opening_line text))) parts many refl (source-long text (dashes (opening_line text)) refl many ∙ is)

none-of : (text : List ℕ) (n : ℕ) (o : Option (List ℕ)) → enclosed text n o ≡ Err (unclosed text n) → o ≡ None
none-of text n None e = refl
none-of text n (Some closing) e = absurd (cc)

-- the lines after the opening one
lines-after : (text : List ℕ) → (text ≡ [] → ⊥) → drop 1 (lines text) ≡ lines (after_line text)
lines-after text some = let first = first-of text some in ap (λ (ls : List (List ℕ)). drop 1 ls) first.lines_are

abbrev NoFence : List ℕ → Type 0
NoFence text = All (IsNoFence (dashes (opening_line text))) (drop 1 (lines (opening_line text)))

pub unclosed-none : (text : List ℕ) → 3 ≤ dashes (opening_line text) → source text ≡ Err (unclosed text (dashes (opening_line text))) → NoFence text
unclosed-none text many is =
    let n = dashes (opening_line text) in
    let inside = after_line (opening_line text) in
    let none = none-of text n (closing_line n true inside) (source-long text n refl many ∙ is) in
    subst (λ (ls : List (List ℕ)). All (IsNoFence n) ls) (sym (lines-after (opening_line text) (dashes-some (opening_line text) many)))
    (none-found n (length inside) inside (omega arith) none)

pub none-unclosed : (text : List ℕ) → 3 ≤ dashes (opening_line text) → NoFence text → source text ≡ Err (unclosed text (dashes (opening_line text)))
none-unclosed text many all =
    let n = dashes (opening_line text) in
    let inside = after_line (opening_line text) in
    let here : All (IsNoFence n) (lines inside) = subst (λ (ls : List (List ℕ)). All (IsNoFence n) ls) (lines-after (opening_line text) (dashes-some (opening_line text) many)) all in
    sym (source-long text n refl many) ∙ ap (λ (o : Option (List ℕ)). enclosed text n o) (none-closes n (length inside) inside (omega arith) here)

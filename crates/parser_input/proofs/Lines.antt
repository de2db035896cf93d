-- Scans over lines and whitespace.
use Rattle.std.proofs.Common.{◌≡◌, ℕ, zero, suc, ◌+◌, ◌<◌, Bool, true, false, not, ◌==◌, List, [], ◌∷◌, drop, get_or, length, eqb-true, refl, sym, ◌∙◌, ap, arith, inl, inr, if◌then◌else◌}
use Rattle.std.specs.Char.{len_utf8}
use Rattle.rustc_lexer.specs.Characters.{size, is_whitespace, line_feed}
use Rattle.rustc_lexer.specs.Scan.{run_len}
use Rattle.rustc_lexer.proofs.Booleans.{bool_cases}
use Rattle.rustc_lexer.proofs.Steps.{run-true, run-false}
use Rattle.parser_input.specs.Lines.{one_more, blank_len, solid_len, after_line, dashes, dash}

-- what is left after n characters of `ahead`; with none, what is kept
unfoldable pub after : ℕ → List ℕ → List ℕ → List ℕ
after zero kept ahead = kept
after (suc n) kept ahead = drop (suc n) ahead

pub after-start : (n : ℕ) (text : List ℕ) → after n text text ≡ drop n text
unfolding after
after-start zero text = refl
after-start (suc n) text = refl

pub after-more : (wanted : Bool) (n c : ℕ) (kept cs : List ℕ) → after n (if wanted then cs else kept) cs ≡ after (one_more wanted n) kept (c ∷ cs)
unfolding after one_more
after-more true zero c kept cs = refl
after-more false zero c kept cs = refl
after-more true (suc n) c kept cs = refl
after-more false (suc n) c kept cs = refl

pub blank-more : (kept ahead : List ℕ) → is_whitespace 0 ≡ false → is_whitespace (get_or ahead 0 0) ≡ true → after (blank_len (drop 1 ahead)) (if get_or ahead 0 0 == line_feed then drop 1 ahead else kept) (drop 1 ahead) ≡ after (blank_len ahead) kept ahead
unfolding blank_len
blank-more kept [] none white = let z : true ≡ false = sym white ∙ none in absurd (cc)
blank-more kept (c ∷ cs) none white =
    let here : blank_len (c ∷ cs) ≡ one_more (c == line_feed) (blank_len cs) = rw (white, blank_len) in
    after-more (c == line_feed) (blank_len cs) c kept cs ∙ ap (λ (n : ℕ). after n kept (c ∷ cs)) (sym here)

pub blank-end : (kept ahead : List ℕ) → is_whitespace (get_or ahead 0 0) ≡ false → after (blank_len ahead) kept ahead ≡ kept
unfolding blank_len after
blank-end kept [] white = refl
blank-end kept (c ∷ cs) white = let none : blank_len (c ∷ cs) ≡ 0 = rw (white, blank_len) in ap (λ (n : ℕ). after n kept (c ∷ cs)) none

pub solid-more : (kept ahead : List ℕ) → (ahead ≡ [] → ⊥) → after (solid_len (drop 1 ahead)) (if not (is_whitespace (get_or ahead 0 0)) then drop 1 ahead else kept) (drop 1 ahead) ≡ after (solid_len ahead) kept ahead
unfolding solid_len
solid-more kept [] some = absurd (some refl)
solid-more kept (c ∷ cs) some = after-more (not (is_whitespace c)) (solid_len cs) c kept cs

pub solid-end : (kept ahead : List ℕ) → ahead ≡ [] → after (solid_len ahead) kept ahead ≡ kept
unfolding solid_len after
solid-end kept [] none = refl
solid-end kept (c ∷ cs) none = absurd (cc)

pub line-more : (text : List ℕ) → (get_or text 0 0 == line_feed) ≡ false → after_line (drop 1 text) ≡ after_line text
unfolding after_line
line-more [] other = refl
line-more (c ∷ cs) other = sym (rw (other, after_line))

pub line-feed : (text : List ℕ) → (get_or text 0 0 == line_feed) ≡ true → drop 1 text ≡ after_line text
unfolding after_line
line-feed [] feed = refl
line-feed (c ∷ cs) feed = sym (rw (feed, after_line))

pub line-none : (text : List ℕ) → text ≡ [] → text ≡ after_line text
unfolding after_line
line-none [] none = refl
line-none (c ∷ cs) none = absurd (cc)

pub shorter : (text : List ℕ) → (text ≡ [] → ⊥) → length (drop 1 text) < length text
shorter [] some = absurd (some refl)
shorter (c ∷ cs) some = omega arith

-- each dash is one byte
pub dashes-size : (text : List ℕ) → size text ≡ dashes text + size (drop (dashes text) text)
unfolding dashes size run_len
dashes-size [] = refl
dashes-size (c ∷ cs) =
    elim (bool_cases (c == dash)) [
      | inl t ↦
          let more : dashes (c ∷ cs) ≡ suc (dashes cs) = run-true (λ (x : ℕ). x == dash) c cs t in
          let left : drop (dashes (c ∷ cs)) (c ∷ cs) ≡ drop (dashes cs) cs = ap (λ (n : ℕ). drop n (c ∷ cs)) more in
          let one : len_utf8 c ≡ 1 = ap len_utf8 (eqb-true c dash t) in
          omega (arith, more, ap size left, one, dashes-size cs)
      | inr f ↦
          let none : dashes (c ∷ cs) ≡ 0 = run-false (λ (x : ℕ). x == dash) c cs f in
          omega (arith, none, ap (λ (n : ℕ). size (drop n (c ∷ cs))) none)
    ]

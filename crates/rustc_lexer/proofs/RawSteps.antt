-- Raw strings: what the loop over them does, step by step.
use Rattle.std.proofs.Common.{◌≡◌, ℕ, Bool, true, false, not, ◌&&◌, ◌==◌, List, [], ◌∷◌, drop, get_or, refl, sym, ◌∙◌, ap, arith, inl, inr}
use Rattle.std.proofs.lemmas.Bool.Decides.{nat_tests}
use Rattle.rustc_lexer.specs.Characters.{double_quote}
use Rattle.rustc_lexer.specs.Scan.{run_len, past, hashes_follow, raw}
use Rattle.rustc_lexer.specs.Reads.{Reads}
use Rattle.rustc_lexer.proofs.Booleans.{bool_cases, and_false}
use Rattle.rustc_lexer.proofs.Steps.{run-true, run-false, raw-true, raw-false}
use Rattle.rustc_lexer.proofs.Runs.{run_end}
use Rattle.rustc_lexer.proofs.Alike.{Alike, alike-refl, alike-trans, alike-at, one_on}

abbrev pub unquoted : ℕ → Bool
unquoted c = not (c == double_quote)

raw-goes : (n x : ℕ) (xs : List ℕ) → unquoted x ≡ true → raw n (x ∷ xs) ≡ past (raw n xs)
raw-goes n x xs h =
    let other : (x == double_quote) ≡ false = grind (arith, nat_tests) in
    raw-false n x xs (ap (λ b. b && hashes_follow n xs) other)

pub raw-plain : (n : ℕ) (xs : List ℕ) → Alike (raw n) (drop (run_len unquoted xs) xs) (raw n) xs
unfolding run_len
raw-plain n [] = alike-refl (raw n) []
raw-plain n (x ∷ xs) =
    elim (bool_cases (unquoted x)) [
      | inl h ↦
          alike-at (ap (λ k. drop k (x ∷ xs)) (run-true unquoted x xs h))
          (alike-trans (raw-plain n xs) (one_on (raw n) (raw n) x xs (raw-goes n x xs h)))
      | inr h ↦ alike-at (ap (λ k. drop k (x ∷ xs)) (run-false unquoted x xs h)) (alike-refl (raw n) (x ∷ xs))
    ]

-- after the run of others stands a quote, or nothing
pub raw-past : (n : ℕ) (xs : List ℕ) → hashes_follow n (drop 1 xs) ≡ false → Alike (raw n) (drop 1 xs) (raw n) xs
raw-past n [] h = alike-refl (raw n) []
raw-past n (x ∷ xs) h =
    one_on (raw n) (raw n) x xs (raw-false n x xs (ap (λ b. (x == double_quote) && b) h ∙ and_false (x == double_quote)))

pub raw-closed : (n : ℕ) (xs : List ℕ) → get_or xs 0 0 ≡ double_quote → hashes_follow n (drop 1 xs) ≡ true → Reads (raw n) xs true (drop n (drop 1 xs))
raw-closed n [] q h = let w : false ≡ true = ap (λ c. c == double_quote) q in cc
raw-closed n (x ∷ xs) q h =
    let e = raw-true n x xs (ap (λ c. (c == double_quote) && hashes_follow n xs) q ∙ h) in
    record { value_is = ap (λ r. r.value) e; rest_is = sym (ap (λ r. drop r.taken (x ∷ xs)) e) }

pub raw-end : (n : ℕ) (xs : List ℕ) → xs ≡ [] → Reads (raw n) xs false xs
unfolding raw
raw-end n [] h = record { value_is = refl; rest_is = refl }
raw-end n (x ∷ xs) h = cc

-- after the others stands nothing where no quote does
pub raw-nothing : (n : ℕ) (xs ys : List ℕ) → ys ≡ drop (run_len unquoted xs) xs → (get_or ys 0 0 == double_quote) ≡ false → Alike (raw n) (drop 1 ys) (raw n) xs
raw-nothing n xs ys e other =
    alike-trans
    (elim (run_end unquoted xs) [
      | inl r ↦ alike-at (ap (λ z. drop 1 z) (e ∙ r)) (alike-at (sym (e ∙ r)) (alike-refl (raw n) ys))
      | inr r ↦
          let quote : not (get_or ys 0 0 == double_quote) ≡ false = ap (λ z. unquoted (get_or z 0 0)) e ∙ r in
          let w : true ≡ false = sym (ap not other) ∙ quote in
          cc
    ])
    (alike-at e (raw-plain n xs))

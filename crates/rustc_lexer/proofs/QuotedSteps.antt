-- Strings: what the loop over them does, step by step.
use Rattle.std.proofs.Common.{◌≡◌, ℕ, ◌≤◌, Bool, true, false, not, ◌&&◌, ◌||◌, ◌==◌, List, [], ◌∷◌, length, drop, get_or, refl, sym, ◌∙◌, ◌≢◌, ap, subst, arith, inl, inr}
use Rattle.std.proofs.lemmas.Bool.Decides.{nat_tests}
use Rattle.rustc_lexer.specs.Characters.{double_quote, backslash}
use Rattle.rustc_lexer.specs.Scan.{run_len, past, quoted}
use Rattle.rustc_lexer.specs.Reads.{Reads}
use Rattle.rustc_lexer.proofs.Booleans.{bool_cases, and_false}
use Rattle.rustc_lexer.proofs.Steps.{run-true, run-false, quoted-true, quoted-false}
use Rattle.rustc_lexer.proofs.Runs.{run_end}
use Rattle.rustc_lexer.proofs.Alike.{Alike, alike-refl, alike-trans, alike-at, one_on, two_on}

abbrev pub plain : ℕ → Bool
plain c = not (c == double_quote || c == backslash)

quoted-goes : (x : ℕ) (xs : List ℕ) → plain x ≡ true → quoted false (x ∷ xs) ≡ past (quoted false xs)
quoted-goes x xs h =
    let quote : ((x == double_quote) && not false) ≡ false = grind (arith, nat_tests) in
    let slashed : ((x == backslash) && not false) ≡ false = grind (arith, nat_tests) in
    quoted-false false x xs quote ∙ ap (λ b. past (quoted b xs)) slashed

pub quoted-plain : (xs : List ℕ) → Alike (quoted false) (drop (run_len plain xs) xs) (quoted false) xs
unfolding run_len
quoted-plain [] = alike-refl (quoted false) []
quoted-plain (x ∷ xs) =
    elim (bool_cases (plain x)) [
      | inl h ↦
          alike-at (ap (λ n. drop n (x ∷ xs)) (run-true plain x xs h))
          (alike-trans (quoted-plain xs) (one_on (quoted false) (quoted false) x xs (quoted-goes x xs h)))
      | inr h ↦ alike-at (ap (λ n. drop n (x ∷ xs)) (run-false plain x xs h)) (alike-refl (quoted false) (x ∷ xs))
    ]

pub quoted-escape : (xs : List ℕ) → 1 ≤ length xs → get_or xs 0 0 ≡ backslash → Alike (quoted false) (drop 2 xs) (quoted false) xs
unfolding quoted
quoted-escape [] l h = absurd (omega arith)
quoted-escape (x ∷ []) l h =
    let P : ℕ → Type 0 = λ c. Alike (quoted false) [] (quoted false) (c ∷ []) in
    subst P (sym h) (record { value_same = refl; rest_same = refl })
quoted-escape (x ∷ y ∷ xs) l h =
    let P : ℕ → Type 0 = λ c. Alike (quoted false) xs (quoted false) (c ∷ y ∷ xs) in
    let first : quoted false (backslash ∷ y ∷ xs) ≡ past (quoted true (y ∷ xs)) = refl in
    let quote : ((y == double_quote) && not true) ≡ false = and_false (y == double_quote) in
    let slashed : ((y == backslash) && not true) ≡ false = and_false (y == backslash) in
    let second : quoted true (y ∷ xs) ≡ past (quoted false xs) = quoted-false true y xs quote ∙ ap (λ b. past (quoted b xs)) slashed in
    subst P (sym h) (two_on (quoted false) (quoted false) backslash y xs (first ∙ ap past second))

pub quoted-close : (xs : List ℕ) → get_or xs 0 0 ≡ double_quote → Reads (quoted false) xs true (drop 1 xs)
quoted-close [] h = let w : false ≡ true = ap (λ c. c == double_quote) h in cc
quoted-close (x ∷ xs) h =
    let e = quoted-true false x xs (ap (λ c. (c == double_quote) && not false) h) in
    record { value_is = ap (λ r. r.value) e; rest_is = sym (ap (λ r. drop r.taken (x ∷ xs)) e) }

pub quoted-end : (xs : List ℕ) → xs ≡ [] → Reads (quoted false) xs false xs
unfolding quoted
quoted-end [] h = record { value_is = refl; rest_is = refl }
quoted-end (x ∷ xs) h = cc

is_backslash : (c : ℕ) → c ≢ double_quote → plain c ≡ false → c ≡ backslash
is_backslash c other h = grind (arith, nat_tests)

escaped : (ys : List ℕ) → get_or ys 0 0 ≢ double_quote → plain (get_or ys 0 0) ≡ false → Alike (quoted false) (drop 2 ys) (quoted false) ys
escaped [] other h = alike-refl (quoted false) []
escaped (y ∷ ys) other h = quoted-escape (y ∷ ys) (omega arith) (is_backslash y other h)

-- after the plain characters stands no quote: a `\` and one more, or the end
pub quoted-next : (xs ys : List ℕ) → ys ≡ drop (run_len plain xs) xs → get_or ys 0 0 ≢ double_quote → Alike (quoted false) (drop 2 ys) (quoted false) xs
quoted-next xs ys e other =
    alike-trans
    (elim (run_end plain xs) [
      | inl r ↦ alike-at (ap (λ z. drop 2 z) (e ∙ r)) (alike-at (sym (e ∙ r)) (alike-refl (quoted false) ys))
      | inr r ↦ escaped ys other (ap (λ z. plain (get_or z 0 0)) e ∙ r)
    ])
    (alike-at e (quoted-plain xs))

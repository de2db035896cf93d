-- Block comments: what the loop over them does, step by step.
use Rattle.std.proofs.Common.{◌≡◌, ℕ, suc, ◌≤◌, Bool, true, false, not, ◌||◌, ◌==◌, List, [], ◌∷◌, length, drop, get_or, refl, sym, ◌∙◌, ap, subst, arith, inl, inr, if◌then◌else◌}
use Rattle.std.proofs.lemmas.Bool.Decides.{nat_tests}
use Rattle.rustc_lexer.specs.Characters.{star, slash}
use Rattle.rustc_lexer.specs.Scan.{Scan, run_len, mark, Opens, Closes, Neither, opens_comment, closes_comment, block}
use Rattle.rustc_lexer.specs.Reads.{Reads}
use Rattle.rustc_lexer.proofs.Booleans.{bool_cases, and_false}
use Rattle.rustc_lexer.proofs.Steps.{run-true, run-false, block-opens, block-ends, block-closes, block-neither}
use Rattle.rustc_lexer.proofs.Alike.{Alike, alike-refl, alike-trans, alike-at, one_on, two_on}

abbrev pub unmarked : ℕ → Bool
unmarked c = not (c == slash || c == star)

-- marks, told by their tests
mark-opens : (a b : ℕ) → opens_comment a b ≡ true → mark a b ≡ Opens
unfolding mark
mark-opens a b h = ap (λ t. if t then Opens else (if closes_comment a b then Closes else Neither)) h

mark-closes : (a b : ℕ) → opens_comment a b ≡ false → closes_comment a b ≡ true → mark a b ≡ Closes
unfolding mark
mark-closes a b h g =
    ap (λ t. if t then Opens else (if closes_comment a b then Closes else Neither)) h ∙ ap (λ t. if t then Closes else Neither) g

mark-neither : (a b : ℕ) → opens_comment a b ≡ false → closes_comment a b ≡ false → mark a b ≡ Neither
unfolding mark
mark-neither a b h g =
    ap (λ t. if t then Opens else (if closes_comment a b then Closes else Neither)) h ∙ ap (λ t. if t then Closes else Neither) g

unmarked-opens : (a b : ℕ) → unmarked a ≡ true → opens_comment a b ≡ false
unmarked-opens a b h = grind (arith, nat_tests)

unmarked-closes : (a b : ℕ) → unmarked a ≡ true → closes_comment a b ≡ false
unmarked-closes a b h = grind (arith, nat_tests)

-- one character that is part of no mark
pub block-other : (d : ℕ) (xs : List ℕ) → opens_comment (get_or xs 0 0) (get_or xs 1 0) ≡ false → closes_comment (get_or xs 0 0) (get_or xs 1 0) ≡ false → Alike (block d) (drop 1 xs) (block d) xs
unfolding block
block-other d [] h g = alike-refl (block d) []
block-other d (x ∷ []) h g = record { value_same = refl; rest_same = refl }
block-other d (x ∷ y ∷ xs) h g = one_on (block d) (block d) x (y ∷ xs) (block-neither d x y xs (mark-neither x y h g))

pub block-plain : (d : ℕ) (xs : List ℕ) → Alike (block d) (drop (run_len unmarked xs) xs) (block d) xs
unfolding run_len
block-plain d [] = alike-refl (block d) []
block-plain d (x ∷ xs) =
    elim (bool_cases (unmarked x)) [
      | inl h ↦
          alike-at (ap (λ n. drop n (x ∷ xs)) (run-true unmarked x xs h))
          (alike-trans (block-plain d xs) (block-other d (x ∷ xs) (unmarked-opens x (get_or xs 0 0) h) (unmarked-closes x (get_or xs 0 0) h)))
      | inr h ↦ alike-at (ap (λ n. drop n (x ∷ xs)) (run-false unmarked x xs h)) (alike-refl (block d) (x ∷ xs))
    ]

pub block-deeper : (d : ℕ) (xs : List ℕ) → opens_comment (get_or xs 0 0) (get_or xs 1 0) ≡ true → Alike (block (suc d)) (drop 2 xs) (block d) xs
block-deeper d [] h = let w : false ≡ true = h in cc
block-deeper d (x ∷ []) h = let w : false ≡ true = sym (and_false (x == slash)) ∙ h in cc
block-deeper d (x ∷ y ∷ xs) h = two_on (block (suc d)) (block d) x y xs (block-opens d x y xs (mark-opens x y h))

pub block-outer : (d : ℕ) (xs : List ℕ) → opens_comment (get_or xs 0 0) (get_or xs 1 0) ≡ false → closes_comment (get_or xs 0 0) (get_or xs 1 0) ≡ true → Alike (block d) (drop 2 xs) (block (suc d)) xs
block-outer d [] g h = let w : false ≡ true = h in cc
block-outer d (x ∷ []) g h = let w : false ≡ true = sym (and_false (x == star)) ∙ h in cc
block-outer d (x ∷ y ∷ xs) g h = two_on (block d) (block (suc d)) x y xs (block-closes d x y xs (mark-closes x y g h))

pub block-done : (xs : List ℕ) → opens_comment (get_or xs 0 0) (get_or xs 1 0) ≡ false → closes_comment (get_or xs 0 0) (get_or xs 1 0) ≡ true → Reads (block 0) xs true (drop 2 xs)
block-done [] g h = let w : false ≡ true = h in cc
block-done (x ∷ []) g h = let w : false ≡ true = sym (and_false (x == star)) ∙ h in cc
block-done (x ∷ y ∷ xs) g h =
    let e = block-ends x y xs (mark-closes x y g h) in
    record { value_is = ap (λ r. r.value) e; rest_is = sym (ap (λ r. drop r.taken (x ∷ y ∷ xs)) e) }

pub block-end : (d : ℕ) (xs : List ℕ) → xs ≡ [] → Reads (block d) xs false xs
unfolding block
block-end d [] h = record { value_is = refl; rest_is = refl }
block-end d (x ∷ xs) h = cc

-- a mark is two characters
pub opens-two : (xs : List ℕ) → opens_comment (get_or xs 0 0) (get_or xs 1 0) ≡ true → 2 ≤ length xs
opens-two [] h = let w : false ≡ true = h in cc
opens-two (x ∷ []) h = let w : false ≡ true = sym (and_false (x == slash)) ∙ h in cc
opens-two (x ∷ y ∷ xs) h = omega arith

pub at_depth : {d e : ℕ} {g : Scan Bool} {xs ys : List ℕ} → d ≡ e → Alike (block d) xs g ys → Alike (block e) xs g ys
at_depth {d} {e} {g} {xs} {ys} same a = let P : ℕ → Type 0 = λ k. Alike (block k) xs g ys in subst P same a

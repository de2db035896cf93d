-- The tokens that touch an offset are the one with the byte before it and the one with the byte after it.
use Rattle.std.proofs.Common.{◌≡◌, ℕ, zero, suc, ◌+◌, ◌<◌, ◌≤◌, List, [], ◌∷◌, refl, ap, sym, ◌∙◌, arith, add-one, Option, Some, None, true, false, nat_lt, cond, ◌⊎◌, inl, inr}
use Rattle.std.specs.List.{filter}
use Rattle.std.proofs.lemmas.Bool.{and_from, and_left, and_right, lt-ltb, le-ltb, le-leb, lt-leb, cases_lt}
use Rattle.rowan_green.specs.Forest.{Tree}
use Rattle.rowan_green.specs.declared.utility_types.NodeOrToken.TheVariants.{Node}
use Rattle.rowan.specs.Place.{Place, term_at, start_of, end_of}
use Rattle.rowan.specs.Around.{first}
use Rattle.rowan.specs.Leaves.{tokens_in}
use Rattle.rowan.specs.Touching.{touches, has_byte, touching, with_byte, before_offset}
use Rattle.rowan.proofs.Touching.{Chain, ordered, picked, passed, has_it, begins_later, ends_before, none_after, tokens_chain}

abbrev one_of : Option Place → List Place
one_of None = []
one_of (Some q) = q ∷ []

-- the token with the byte before an offset, and the one with the byte after it, each once
abbrev pub joined : Option Place → Option Place → ℕ → List Place
joined None r o = one_of r
joined (Some q) r o = q ∷ cond (nat_lt o (end_of q)) [] (one_of r)

touches_it : (o : ℕ) (q : Place) → start_of q < end_of q → start_of q ≤ o → o ≤ end_of q → touches o q ≡ true
touches_it o q a b c =
    and_from _ _ (lt-ltb (start_of q) (end_of q) a) (and_from _ _ (le-leb (start_of q) o b) (le-leb o (end_of q) c))

is_empty : (o : ℕ) (q : Place) → end_of q ≤ start_of q → touches o q ≡ false
is_empty o q a = and_left _ _ (le-ltb (start_of q) (end_of q) a)

lies_after : (o : ℕ) (q : Place) → o < start_of q → touches o q ≡ false
lies_after o q a = and_right _ _ (and_left _ _ (lt-leb (start_of q) o a))

lies_before : (o : ℕ) (q : Place) → end_of q < o → touches o q ≡ false
lies_before o q a = and_right _ _ (and_right _ _ (lt-leb o (end_of q) a))

none_touches : (o a b : ℕ) (qs : List Place) → Chain a qs b → o < a → filter (touches o) qs ≡ []
none_touches o a b [] h l = refl
none_touches o a b (q ∷ qs) h l =
    passed (touches o) q qs (lies_after o q (omega (arith, h.0)))
    ∙ none_touches o (end_of q) b qs h.1 (omega (arith, h.0, ordered q))

-- from the offset on, at most one touches it
at_start : (o a b : ℕ) (qs : List Place) → Chain a qs b → a ≡ o → filter (touches o) qs ≡ one_of (first (filter (has_byte o) qs))
at_start o a b [] h e = refl
at_start o a b (q ∷ qs) h e = at_cases (at_start o (end_of q) b qs h.1) (cases_lt o (end_of q))
  where
    at_cases : (end_of q ≡ o → filter (touches o) qs ≡ one_of (first (filter (has_byte o) qs))) → (o < end_of q) ⊎ (end_of q ≤ o) → filter (touches o) (q ∷ qs) ≡ one_of (first (filter (has_byte o) (q ∷ qs)))
    at_cases ih (inl l) =
        picked (touches o) q qs (touches_it o q (omega (arith, h.0)) (omega (arith, h.0)) (omega arith))
        ∙ ap (λ xs. q ∷ xs) (none_touches o (end_of q) b qs h.1 l)
        ∙ sym (ap (λ xs. one_of (first xs)) (picked (has_byte o) q qs (has_it o q (omega (arith, h.0)) l)))
    at_cases ih (inr l) =
        passed (touches o) q qs (is_empty o q (omega (arith, h.0)))
        ∙ ih (omega (arith, h.0, ordered q))
        ∙ sym (ap (λ xs. one_of (first xs)) (passed (has_byte o) q qs (ends_before o q l)))

-- what is left once the token with the byte before the offset is found
abbrev Split : ℕ → List Place → Type 0
Split k qs = filter (touches (k + 1)) qs ≡ joined (first (filter (has_byte k) qs)) (first (filter (has_byte (k + 1)) qs)) (k + 1)

split_at : (k a b : ℕ) (qs : List Place) → Chain a qs b → a ≤ k + 1 → Split k qs
split_at k a b [] h e = refl
split_at k a b (q ∷ qs) h e = by_end (split_at k (end_of q) b qs h.1) (cases_lt (k + 1) (end_of q)) (cases_lt (start_of q) (k + 1)) (cases_lt (end_of q) (k + 1))
  where
    skip : (end_of q ≤ k + 1 → Split k qs) → touches (k + 1) q ≡ false → has_byte k q ≡ false → has_byte (k + 1) q ≡ false → end_of q ≤ k + 1 → Split k (q ∷ qs)
    skip ih t f g l =
        passed (touches (k + 1)) q qs t
        ∙ ih l
        ∙ sym (ap (λ xs. joined (first xs) (first (filter (has_byte (k + 1)) (q ∷ qs))) (k + 1)) (passed (has_byte k) q qs f)
        ∙ ap (λ xs. joined (first (filter (has_byte k) qs)) (first xs) (k + 1)) (passed (has_byte (k + 1)) q qs g))

    by_end : (end_of q ≤ k + 1 → Split k qs) → ((k + 1) < end_of q) ⊎ (end_of q ≤ (k + 1)) → (start_of q < (k + 1)) ⊎ ((k + 1) ≤ start_of q) → (end_of q < (k + 1)) ⊎ ((k + 1) ≤ end_of q) → Split k (q ∷ qs)
    by_end ih (inl x) (inl y) z =
        picked (touches (k + 1)) q qs (touches_it (k + 1) q (omega arith) (omega arith) (omega arith))
        ∙ ap (λ xs. q ∷ xs) (none_touches (k + 1) (end_of q) b qs h.1 x)
        ∙ sym (ap (λ xs. joined (first xs) (first (filter (has_byte (k + 1)) (q ∷ qs))) (k + 1)) (picked (has_byte k) q qs (has_it k q (omega arith) (omega arith)))
        ∙ ap (λ t. q ∷ cond t [] (one_of (first (filter (has_byte (k + 1)) (q ∷ qs))))) (lt-ltb (k + 1) (end_of q) x))
    by_end ih (inl x) (inr y) z =
        picked (touches (k + 1)) q qs (touches_it (k + 1) q (omega (arith, h.0)) (omega (arith, h.0)) (omega arith))
        ∙ ap (λ xs. q ∷ xs) (none_touches (k + 1) (end_of q) b qs h.1 x)
        ∙ sym (ap (λ xs. joined (first xs) (first (filter (has_byte (k + 1)) (q ∷ qs))) (k + 1)) (passed (has_byte k) q qs (begins_later k q (omega arith)) ∙ none_after k (end_of q) b qs h.1 (omega arith))
        ∙ ap (λ xs. one_of (first xs)) (picked (has_byte (k + 1)) q qs (has_it (k + 1) q (omega (arith, h.0)) x)))
    by_end ih (inr x) y (inl z) = skip ih (lies_before (k + 1) q z) (ends_before k q (omega arith)) (ends_before (k + 1) q x) x
    by_end ih (inr x) (inr y) (inr z) = skip ih (is_empty (k + 1) q (omega arith)) (begins_later k q (omega arith)) (ends_before (k + 1) q x) x
    by_end ih (inr x) (inl y) (inr z) =
        picked (touches (k + 1)) q qs (touches_it (k + 1) q (omega arith) (omega arith) (omega arith))
        ∙ ap (λ xs. q ∷ xs) (at_start (k + 1) (end_of q) b qs h.1 (omega arith))
        ∙ sym (ap (λ xs. joined (first xs) (first (filter (has_byte (k + 1)) (q ∷ qs))) (k + 1)) (picked (has_byte k) q qs (has_it k q (omega arith) (omega arith)))
        ∙ ap (λ t. q ∷ cond t [] (one_of (first (filter (has_byte (k + 1)) (q ∷ qs))))) (le-ltb (k + 1) (end_of q) x)
        ∙ ap (λ xs. q ∷ one_of (first xs)) (passed (has_byte (k + 1)) q qs (ends_before (k + 1) q x)))

-- at any offset in the node's range
joins_by : (o : ℕ) (p : Place) (t : Tree) → term_at p ≡ Some (Node t) → start_of p ≤ o → touching o p ≡ joined (before_offset o p) (first (with_byte o p)) o
joins_by zero p t h l = at_start 0 (start_of p) (end_of p) (tokens_in p) (tokens_chain p t h) (omega arith)
joins_by (suc k) p t h l = rw (← add-one) (split_at k (start_of p) (end_of p) (tokens_in p) (tokens_chain p t h) (omega arith))

module _ (o : ℕ) (p : Place) (t : Tree) (h : term_at p ≡ Some (Node t)) (l : start_of p ≤ o) where
  joins : (x y : Option Place) → x ≡ before_offset o p → y ≡ first (with_byte o p) → joined x y o ≡ touching o p
  joins x y e f = ap (λ z. joined z y o) e ∙ ap (λ z. joined (before_offset o p) z o) f ∙ sym (joins_by o p t h l)

  pub none_at : None ≡ before_offset o p → None ≡ first (with_byte o p) → [] ≡ touching o p
  none_at e f = joins None None e f

  pub right_at : (r : Place) → None ≡ before_offset o p → Some r ≡ first (with_byte o p) → r ∷ [] ≡ touching o p
  right_at r e f = joins None (Some r) e f

  pub inside_at : (q : Place) → Some q ≡ before_offset o p → o < end_of q → q ∷ [] ≡ touching o p
  inside_at q e m =
      ap (λ b. q ∷ cond b [] (one_of (first (with_byte o p)))) (sym (lt-ltb o (end_of q) m))
      ∙ joins (Some q) (first (with_byte o p)) e refl

  pub left_at : (q : Place) → Some q ≡ before_offset o p → end_of q ≤ o → None ≡ first (with_byte o p) → q ∷ [] ≡ touching o p
  left_at q e m f =
      ap (λ b. q ∷ cond b [] []) (sym (le-ltb o (end_of q) m)) ∙ joins (Some q) None e f

  pub both_at : (q r : Place) → Some q ≡ before_offset o p → end_of q ≤ o → Some r ≡ first (with_byte o p) → q ∷ r ∷ [] ≡ touching o p
  both_at q r e m f =
      ap (λ b. q ∷ cond b [] (r ∷ [])) (sym (le-ltb o (end_of q) m)) ∙ joins (Some q) (Some r) e f

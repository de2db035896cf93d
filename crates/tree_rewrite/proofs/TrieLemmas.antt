-- A trie with one node more, and with one number more.
use Rattle.std.proofs.Common.{◌≡◌, ℕ, zero, suc, ◌+◌, ◌<◌, ◌≤◌, List, [], ◌∷◌, ◌++◌, length, set, drop, slice_index, Option, Some, None, option_and_then, is_none, Bool, true, false, ◌&&◌, cond, eqb, refl, ap, sym, ◌∙◌, arith, subst, slice_get}
use Rattle.std.proofs.lemmas.List.{drop_more, drop_all}
use Rattle.std.proofs.lemmas.Bool.{eqb-true, eq-eqb, and_parts, and_right, false≢true, false_from_ne_true}
use Rattle.syntax_tree.specs.Element.{Way, same_way}
use Rattle.tree_rewrite.specs.WayTrie.{node_by, joined, number_of, IsTrie}
use Rattle.tree_rewrite.proofs.JobLemmas.{some_same}
use Rattle.tree_rewrite.proofs.OrderLemmas.{same_way-sound, same_way-own}

none_some : {A : Type 0} (a : A) → None ≡ Some a → ⊥
none_some a h = false≢true (sym (ap is_none h))

and_flip : (a b : Bool) → (a && b) ≡ (b && a)
and_flip true true = refl
and_flip true false = refl
and_flip false true = refl
and_flip false false = refl

-- ---- lists
get_more : {X : Type 0} (xs : List X) (x : X) (a : ℕ) → a < length xs → slice_get (xs ++ x ∷ []) a ≡ slice_get xs a
get_more [] x a h = absurd (omega (arith, h))
get_more (y ∷ xs) x zero h = refl
get_more (y ∷ xs) x (suc a) h = get_more xs x a (omega (arith, h))

get_last : {X : Type 0} (xs : List X) (x : X) → slice_get (xs ++ x ∷ []) (length xs) ≡ Some x
get_last [] x = refl
get_last (y ∷ xs) x = get_last xs x

get_set : {X : Type 0} (xs : List X) (a : ℕ) (x : X) → a < length xs → slice_get (set xs a x) a ≡ Some x
get_set [] a x h = absurd (omega (arith, h))
get_set (y ∷ xs) zero x h = refl
get_set (y ∷ xs) (suc a) x h = get_set xs a x (omega (arith, h))

get_other : {X : Type 0} (xs : List X) (a b : ℕ) (x : X) → (a ≡ b → ⊥) → slice_get (set xs a x) b ≡ slice_get xs b
get_other [] a b x h = refl
get_other (y ∷ xs) zero zero x h = absurd (h refl)
get_other (y ∷ xs) zero (suc b) x h = refl
get_other (y ∷ xs) (suc a) zero x h = refl
get_other (y ∷ xs) (suc a) (suc b) x h = get_other xs a b x (λ e. h (ap suc e))

-- ---- down one way
pub way_step : (w : Way) (d e : ℕ) → e ≡ d + 1 → e ≤ length w → drop d w ≡ slice_index w d ∷ drop e w
way_step w d e h k = drop_more w d 0 (omega (arith, h, k)) ∙ ap (λ n. slice_index w d ∷ drop n w) (sym h)

pub way_top : (w : Way) (d : ℕ) → length w ≤ d → drop d w ≡ []
way_top w d h = drop_all d w h

-- ---- nothing entered
pub number_none : (o : Option ℕ) → number_of (None ∷ []) o ≡ None
number_none None = refl
number_none (Some zero) = refl
number_none (Some (suc k)) = refl

module _ (f : ℕ → ℕ → Option ℕ) (none : (p i : ℕ) → f p i ≡ None) where
  no_child : (o : Option ℕ) (i k : ℕ) → option_and_then (λ p. f p i) o ≡ Some k → ⊥
  no_child None i k h = none_some k h
  no_child (Some p) i k h = none_some k (sym (none p i) ∙ h)

  root_alone : (v w : Way) (k : ℕ) → node_by f v ≡ Some k → node_by f w ≡ Some k → v ≡ w
  root_alone [] [] k x y = refl
  root_alone (i ∷ v) w k x y = absurd (no_child (node_by f v) i k x)
  root_alone [] (i ∷ w) k x y = absurd (no_child (node_by f w) i k y)

  pub trie_new : IsTrie f 1
  trie_new = record { root = omega arith; within = λ p i k h. absurd (none_some k (sym (none p i) ∙ h)); one = root_alone }

-- ---- numbers of nodes
module _ (f : ℕ → ℕ → Option ℕ) (n : ℕ) (is : IsTrie f n) where
  pub below : (w : Way) (k : ℕ) → node_by f w ≡ Some k → k < n
  below [] k h = subst (λ m. m < n) (some_same 0 k h) is.root
  below (i ∷ w) k h = by_parent (node_by f w) h
    where
      by_parent : (o : Option ℕ) → option_and_then (λ p. f p i) o ≡ Some k → k < n
      by_parent None e = absurd (none_some k e)
      by_parent (Some p) e = (is.within p i k e).1

  -- one number more
  pub number_put : (ns : List (Option ℕ)) (v : Way) (k number : ℕ) → length ns ≡ n → node_by f v ≡ Some k
      → (w : Way) → number_of (set ns k (Some number)) (node_by f w) ≡ cond (same_way v w) (Some number) (number_of ns (node_by f w))
  number_put ns v k number long at w = by_way (same_way v w) refl
    where
      apart : (l : ℕ) → node_by f w ≡ Some l → same_way v w ≡ false → k ≡ l → ⊥
      apart l e y same = false≢true (sym y ∙ subst (λ u. same_way v u ≡ true) (is.one v w k at (e ∙ ap Some (sym same))) (same_way-own v))

      by_node : (o : Option ℕ) → node_by f w ≡ o → same_way v w ≡ false → number_of (set ns k (Some number)) o ≡ number_of ns o
      by_node None e y = refl
      by_node (Some l) e y = ap joined (get_other ns k l (Some number) (apart l e y))

      by_way : (b : Bool) → same_way v w ≡ b → number_of (set ns k (Some number)) (node_by f w) ≡ cond b (Some number) (number_of ns (node_by f w))
      by_way true y =
          ap (number_of (set ns k (Some number))) (ap (node_by f) (sym (same_way-sound v w y)) ∙ at)
          ∙ ap joined (get_set ns k (Some number) (omega (arith, long, below v k at)))
      by_way false y = by_node (node_by f w) refl y

-- ---- one node more
module _ (f g : ℕ → ℕ → Option ℕ) (n q j : ℕ) (u : Way) (is : IsTrie f n) (at : node_by f u ≡ Some q) (free : f q j ≡ None)
    (more : (p i : ℕ) → g p i ≡ cond (eqb q p && eqb j i) (Some n) (f p i)) where
  parent_low : q < n
  parent_low = below f n is u q at

  was_none : node_by f (j ∷ u) ≡ None
  was_none = ap (option_and_then (λ p. f p j)) at ∙ free

  old_none : (i : ℕ) (o : Option ℕ) → f n i ≡ o → o ≡ None
  old_none i None e = refl
  old_none i (Some k) e = absurd (omega (arith, (is.within n i k e).0))

  -- the new node has no children
  childless : (i : ℕ) → g n i ≡ None
  childless i =
      let other : eqb q n ≡ false = false_from_ne_true (eqb q n) (λ h. omega (arith, eqb-true q n h, parent_low)) in
      more n i ∙ ap (λ b. cond (b && eqb j i) (Some n) (f n i)) other ∙ old_none i (f n i) refl

  longer : same_way u (j ∷ u) ≡ false
  longer = false_from_ne_true (same_way u (j ∷ u)) (λ h. omega (arith, ap length (same_way-sound u (j ∷ u) h)))

  -- one parent, one way
  same_parent : (v : Way) (p : ℕ) → node_by f v ≡ Some p → eqb q p ≡ same_way u v
  same_parent v p h = by_tests (eqb q p) refl (same_way u v) refl
    where
      by_tests : (a : Bool) → eqb q p ≡ a → (b : Bool) → same_way u v ≡ b → a ≡ b
      by_tests true x true y = refl
      by_tests false x false y = refl
      by_tests true x false y =
          let same : u ≡ v = is.one u v p (at ∙ ap Some (eqb-true q p x)) h in
          absurd (false≢true (sym y ∙ subst (λ w. same_way u w ≡ true) same (same_way-own u)))
      by_tests false x true y =
          let same : q ≡ p = some_same q p (sym at ∙ ap (node_by f) (same_way-sound u v y) ∙ h) in
          absurd (false≢true (sym x ∙ eq-eqb q p same))

  no_way : (v : Way) → node_by f v ≡ None → same_way u v ≡ false
  no_way v h = false_from_ne_true (same_way u v) (λ y. none_some q (sym h ∙ ap (node_by f) (sym (same_way-sound u v y)) ∙ at))

  by_node : (i : ℕ) (v : Way) (o : Option ℕ) → node_by f v ≡ o
      → option_and_then (λ p. g p i) o ≡ cond (eqb j i && same_way u v) (Some n) (option_and_then (λ p. f p i) o)
  by_node i v None e = sym (ap (λ b. cond b (Some n) None) (and_right (eqb j i) (same_way u v) (no_way v e)))
  by_node i v (Some p) e = more p i ∙ ap (λ b. cond b (Some n) (f p i)) (ap (λ b. b && eqb j i) (same_parent v p e) ∙ and_flip (same_way u v) (eqb j i))

  by_way : (i : ℕ) (v : Way) (b : Bool) → same_way (j ∷ u) v ≡ b
      → option_and_then (λ p. g p i) (cond b (Some n) (node_by f v)) ≡ cond (eqb j i && same_way u v) (Some n) (option_and_then (λ p. f p i) (node_by f v))
  by_way i v true y =
      let same : j ∷ u ≡ v = same_way-sound (j ∷ u) v y in
      let none : node_by f v ≡ None = ap (node_by f) (sym same) ∙ was_none in
      let other : same_way u v ≡ false = ap (same_way u) (sym same) ∙ longer in
      childless i
      ∙ sym (ap (λ o. cond (eqb j i && same_way u v) (Some n) (option_and_then (λ p. f p i) o)) none
      ∙ ap (λ b. cond b (Some n) None) (and_right (eqb j i) (same_way u v) other))
  by_way i v false y = by_node i v (node_by f v) refl

  pub node_more : (w : Way) → node_by g w ≡ cond (same_way (j ∷ u) w) (Some n) (node_by f w)
  node_more [] = refl
  node_more (i ∷ v) = ap (option_and_then (λ p. g p i)) (node_more v) ∙ by_way i v (same_way (j ∷ u) v) refl

  pub node_new : node_by g (j ∷ u) ≡ Some n
  node_new = node_more (j ∷ u) ∙ ap (λ b. cond b (Some n) (node_by f (j ∷ u))) (same_way-own (j ∷ u))

  pub node_kept : (w : Way) (k : ℕ) → node_by f w ≡ Some k → node_by g w ≡ Some k
  node_kept w k h =
      let other : same_way (j ∷ u) w ≡ false = false_from_ne_true (same_way (j ∷ u) w) (λ y. none_some k (sym was_none ∙ ap (node_by f) (same_way-sound (j ∷ u) w y) ∙ h)) in
      node_more w ∙ ap (λ b. cond b (Some n) (node_by f w)) other ∙ h

  within_more : (p i k : ℕ) (b : Bool) → (eqb q p && eqb j i) ≡ b → cond b (Some n) (f p i) ≡ Some k → (p < suc n) × (k < suc n)
  within_more p i k true x h =
      let parent : q ≡ p = eqb-true q p (and_parts (eqb q p) (eqb j i) x).0 in
      let here : n ≡ k = some_same n k h in (omega (arith, parent, parent_low), omega (arith, here))
  within_more p i k false x h = let old = is.within p i k h in (omega (arith, old.0), omega (arith, old.1))

  one_more : (v w : Way) (k : ℕ) (a : Bool) → same_way (j ∷ u) v ≡ a → (b : Bool) → same_way (j ∷ u) w ≡ b
      → cond a (Some n) (node_by f v) ≡ Some k → cond b (Some n) (node_by f w) ≡ Some k → v ≡ w
  one_more v w k true x true y s t = sym (same_way-sound (j ∷ u) v x) ∙ same_way-sound (j ∷ u) w y
  one_more v w k true x false y s t = absurd (omega (arith, some_same n k s, below f n is w k t))
  one_more v w k false x true y s t = absurd (omega (arith, some_same n k t, below f n is v k s))
  one_more v w k false x false y s t = is.one v w k s t

  pub trie_more : IsTrie g (suc n)
  trie_more = record {
    root = omega arith;
    within = λ p i k h. within_more p i k (eqb q p && eqb j i) refl (sym (more p i) ∙ h);
    one = λ v w k x y. one_more v w k (same_way (j ∷ u) v) refl (same_way (j ∷ u) w) refl (sym (node_more v) ∙ x) (sym (node_more w) ∙ y);
  }

  number_old : (ns : List (Option ℕ)) → length ns ≡ n → (w : Way) (o : Option ℕ) → node_by f w ≡ o → number_of (ns ++ None ∷ []) o ≡ number_of ns o
  number_old ns long w None e = refl
  number_old ns long w (Some k) e = ap joined (get_more ns None k (omega (arith, long, below f n is w k e)))

  number_by : (ns : List (Option ℕ)) → length ns ≡ n → (w : Way) (b : Bool) → same_way (j ∷ u) w ≡ b → number_of (ns ++ None ∷ []) (cond b (Some n) (node_by f w)) ≡ number_of ns (node_by f w)
  number_by ns long w true y =
      let last : slice_get (ns ++ None ∷ []) n ≡ Some None = ap (slice_get (ns ++ None ∷ [])) (sym long) ∙ get_last ns None in
      ap joined last ∙ sym (ap (number_of ns) (ap (node_by f) (sym (same_way-sound (j ∷ u) w y)) ∙ was_none))
  number_by ns long w false y = number_old ns long w (node_by f w) refl

  -- the new node has no number
  pub number_kept : (ns : List (Option ℕ)) → length ns ≡ n → (w : Way) → number_of (ns ++ None ∷ []) (node_by g w) ≡ number_of ns (node_by f w)
  number_kept ns long w = ap (number_of (ns ++ None ∷ [])) (node_more w) ∙ number_by ns long w (same_way (j ∷ u) w) refl

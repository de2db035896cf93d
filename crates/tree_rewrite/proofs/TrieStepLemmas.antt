-- What the code of a trie goes by.
use Rattle.std.proofs.Common.{◌||◌, Bool, leb, ltb, ◌≡◌, ℕ, suc, ◌+◌, ◌≤◌, List, [], ◌∷◌, ◌++◌, length, set, drop, slice_index, Option, Some, None, option_and_then, is_some, true, false, ◌&&◌, cond, eqb, refl, ap, sym, ◌∙◌, arith, subst}
use Rattle.std.proofs.lemmas.Bool.{false≢true}
use Rattle.std.proofs.lemmas.List.{length_push, length-set}
use Rattle.syntax_tree.specs.Element.{Way, same_way}
use Rattle.tree_rewrite.specs.WayTrie.{child_in, node_by, number_of, node_at, number_at, IsTrie, IsSound, HasNode}
use Rattle.tree_rewrite.specs.Change.{covers}
use Rattle.tree_rewrite.specs.Held.{IsPut, IsTaken, is_among}
use Rattle.tree_rewrite.specs.declared.way_trie.WayTrie.{WayTrie}
use Rattle.tree_rewrite.proofs.OrderLemmas.{same_way-sound, same_way-own}
use Rattle.tree_rewrite.proofs.TrieLemmas.{number_put, trie_more, node_new, node_kept, number_kept, way_step, way_top}

-- ---- down one way
pub walk_step : (t : WayTrie) (w : Way) (d e : ℕ) (o : Option ℕ) → e ≡ d + 1 → e ≤ length w → o ≡ node_at t (drop e w)
    → option_and_then (λ p. child_in t.children p (slice_index w d)) o ≡ node_at t (drop d w)
walk_step t w d e o h k at = ap (option_and_then (λ p. child_in t.children p (slice_index w d))) at ∙ sym (ap (node_at t) (way_step w d e h k))

pub walk_top : (t : WayTrie) (w : Way) (d : ℕ) → length w ≤ d → Some 0 ≡ node_at t (drop d w)
walk_top t w d h = sym (ap (node_at t) (way_top w d h))

-- ---- one node
pub has_root : (t : WayTrie) (w : Way) → w ≡ [] → IsSound t → HasNode w 0 t t
has_root t w is sound = record { sound = sound; here = ap (node_at t) is; nodes = λ v m h. h; numbers = λ v. refl }

pub has_after : (v u x : Way) (k m : ℕ) (t s r : WayTrie) → u ≡ x → HasNode v k t s → HasNode u m s r → HasNode x m t r
has_after v u x k m t s r same a b = record {
  sound = b.sound;
  here = sym (ap (node_at r) same) ∙ b.here;
  nodes = λ w n h. b.nodes w n (a.nodes w n h);
  numbers = λ w. b.numbers w ∙ a.numbers w;
}

pub has_child : (t : WayTrie) (u : Way) (q j k : ℕ) → IsSound t → node_at t u ≡ Some q → child_in t.children q j ≡ Some k → HasNode (j ∷ u) k t t
has_child t u q j k sound at found = record {
  sound = sound;
  here = ap (option_and_then (λ p. child_in t.children p j)) at ∙ found;
  nodes = λ w m h. h;
  numbers = λ w. refl;
}

pub has_new : (t s : WayTrie) (u : Way) (q j n : ℕ) → IsSound t → n ≡ length t.numbers.items → node_at t u ≡ Some q → child_in t.children q j ≡ None
    → ((p i : ℕ) → child_in s.children p i ≡ cond (eqb q p && eqb j i) (Some n) (child_in t.children p i)) → s.numbers.items ≡ t.numbers.items ++ None ∷ []
    → HasNode (j ∷ u) n t s
has_new t s u q j n sound long at free more numbers =
    let f : ℕ → ℕ → Option ℕ = child_in t.children in
    let g : ℕ → ℕ → Option ℕ = child_in s.children in
    let ns : List (Option ℕ) = t.numbers.items in
    let is : IsTrie f n = subst (IsTrie f) (sym long) sound in
    let count : suc n ≡ length s.numbers.items = omega (arith, long, ap length numbers, length_push ns None) in
    record {
      sound = subst (IsTrie g) count (trie_more f g n q j u is at free more);
      here = node_new f g n q j u is at free more;
      nodes = node_kept f g n q j u is at free more;
      numbers = λ w. ap (λ (l : List (Option ℕ)). number_of l (node_by g w)) numbers ∙ number_kept f g n q j u is at free more ns (sym long) w;
    }

-- ---- one number
none_from : (o : Option ℕ) → is_some o ≡ false → o ≡ None
none_from None h = refl
none_from (Some k) h = absurd (false≢true (sym h))

pub put_taken : (t s : WayTrie) (v : Way) (k : ℕ) → HasNode v k t s → is_some (number_of s.numbers.items (Some k)) ≡ true → IsTaken (same_way v) t
put_taken t s v k has some = (v, same_way-own v, ap is_some (sym (has.numbers v) ∙ ap (number_of s.numbers.items) has.here) ∙ some)

module _ (t s r : WayTrie) (v : Way) (k number : ℕ) (has : HasNode v k t s) (none : is_some (number_of s.numbers.items (Some k)) ≡ false)
    (children : s.children ≡ r.children) (numbers : r.numbers.items ≡ set s.numbers.items k (Some number)) where
  free_here : (w : Way) → same_way v w ≡ true → number_at t w ≡ None
  free_here w x =
      sym (has.numbers w)
      ∙ ap (number_at s) (sym (same_way-sound v w x))
      ∙ ap (number_of s.numbers.items) has.here
      ∙ none_from (number_of s.numbers.items (Some k)) none

  number_here : (w : Way) → number_at r w ≡ cond (same_way v w) (Some number) (number_at t w)
  number_here w =
      ap (λ (l : List (Option ℕ)). number_of l (node_at r w)) numbers
      ∙ ap (λ m. number_of (set s.numbers.items k (Some number)) (node_by (child_in m) w)) (sym children)
      ∙ number_put (child_in s.children) (length s.numbers.items) has.sound s.numbers.items v k number refl has.here w
      ∙ ap (cond (same_way v w) (Some number)) (has.numbers w)

  pub put_here : IsPut (same_way v) number t r
  put_here = record { free = free_here; put = number_here }

pub put_sound : (s : WayTrie) (k number : ℕ) → IsSound s → IsTrie (child_in s.children) (length (set s.numbers.items k (Some number)))
put_sound s k number sound = subst (IsTrie (child_in s.children)) (sym (length-set s.numbers.items k (Some number))) sound

-- ---- a row
among_more : (a k : ℕ) (p w : Way) → is_among a p (k + 1) w ≡ (same_way ((a + k) ∷ p) w || is_among a p k w)
among_more a k p [] = refl
among_more a k p (i ∷ w) = by_above (same_way p w)
  where
    by_above : (b : Bool) → (b && (leb a i && ltb i (a + (k + 1)))) ≡ ((eqb (a + k) i && b) || (b && (leb a i && ltb i (a + k))))
    by_above false = grind arith
    by_above true = grind arith

module _ (a k : ℕ) (p : Way) (number : ℕ) (m s r : WayTrie) (one : IsPut (is_among a p k) number m s) (two : IsPut (same_way ((a + k) ∷ p)) number s r) where
  free_more : (w : Way) (x y : Bool) → same_way ((a + k) ∷ p) w ≡ x → is_among a p k w ≡ y → (x || y) ≡ true → number_at m w ≡ None
  free_more w x true e d h = one.free w d
  free_more w false false e d h = absurd (false≢true h)
  free_more w true false e d h = sym (one.put w ∙ ap (λ b. cond b (Some number) (number_at m w)) d) ∙ two.free w e

  both : (x y : Bool) (n o : Option ℕ) → cond x n (cond y n o) ≡ cond (x || y) n o
  both true y n o = refl
  both false y n o = refl

  pub row_more : IsPut (is_among a p (k + 1)) number m r
  row_more = record {
    free = λ w h. free_more w (same_way ((a + k) ∷ p) w) (is_among a p k w) refl refl (sym (among_more a k p w) ∙ h);
    put = λ w.
        two.put w
        ∙ ap (cond (same_way ((a + k) ∷ p) w) (Some number)) (one.put w)
        ∙ both (same_way ((a + k) ∷ p) w) (is_among a p k w) (Some number) (number_at m w)
        ∙ ap (λ b. cond b (Some number) (number_at m w)) (sym (among_more a k p w));
  }

covers_among : (a n : ℕ) (p w : Way) → covers (a ∷ p) n w ≡ is_among a p (n + 1) w
covers_among a n p [] = refl
covers_among a n p (i ∷ w) =
    let last : leb i (a + n) ≡ ltb i (a + (n + 1)) = grind arith in
    ap (λ b. same_way p w && (leb a i && b)) last

pub row_all : (a k n : ℕ) (p : Way) (number : ℕ) (m r : WayTrie) → k ≡ n → IsPut (is_among a p (k + 1)) number m r → IsPut (covers (a ∷ p) n) number m r
row_all a k n p number m r same put =
    let is : (w : Way) → covers (a ∷ p) n w ≡ is_among a p (k + 1) w = λ w. covers_among a n p w ∙ ap (λ j. is_among a p (j + 1) w) (sym same) in
    record { free = λ w h. put.free w (sym (is w) ∙ h); put = λ w. put.put w ∙ ap (λ b. cond b (Some number) (number_at m w)) (sym (is w)) }

-- Replacements of leaves that are apart may be made in either order.
use mathlib.Core.List.{reverse_aux}
use Rattle.std.proofs.Common.{◌≡◌, ℕ, ◌+◌, Bool, true, false, ◌&&◌, ◌||◌, nat_le, arith, List, [], ◌∷◌, ◌++◌, reverse, map, refl, sym, ◌∙◌, ap, inl, inr, if◌then◌else◌}
use Rattle.std.specs.List.{list_any}
use Rattle.std.proofs.lemmas.Bool.{cases_Bool}
use Rattle.rowan_green.specs.Leaf.{Leaf}
use Rattle.rowan_green.specs.Forest.{Forest, empty, node, leaf}
use Rattle.syntax_tree.specs.Element.{Way, same_way}
use Rattle.tree_rewrite.specs.Change.{has_collision, meets, rows_meet}
use Rattle.plain_names.specs.Replacements.{Replacement, leaf_after, with_leaves, AreApart}
use Rattle.plain_changes.specs.LeafChanges.{LeafChange, change_of, replacement_of, LeavesAreReplaced}
use Rattle.plain_changes.proofs.Rewritten.{same_way-sound, same_way-own, bool-same, covers-is, in-order}

-- ---- changes that do not collide are apart

flipped : (v w : Way) → same_way v w ≡ same_way w v
flipped v w = bool-same _ _
    (λ h. ap (λ x. same_way x v) (sym (same_way-sound v w h)) ∙ same_way-own v)
    (λ h. ap (λ x. same_way x w) (sym (same_way-sound w v h)) ∙ same_way-own w)

-- rows of one element each meet where they are one
rows-are : (v w : Way) → rows_meet v 0 w 0 ≡ same_way v w
rows-are [] w = covers-is w [] ∙ flipped w []
rows-are (a ∷ p) [] = refl
rows-are (a ∷ p) (c ∷ u) =
    ap (λ (n : ℕ). same_way p u && (nat_le a n && nat_le c (a + 0))) (let z : c + 0 ≡ c = omega arith in z) ∙ covers-is (a ∷ p) (c ∷ u)

or-parts : (a b : Bool) → (a || b) ≡ false → (a ≡ false) × (b ≡ false)
or-parts true b h = let z : true ≡ false = h in absurd (cc)
or-parts false b h = (refl, h)

one-apart : (c : LeafChange) (cs : List LeafChange) → list_any (meets (change_of c)) (map change_of cs) ≡ list_any (λ (s : Replacement). same_way s.up c.up) (map replacement_of cs)
one-apart c [] = refl
one-apart c (d ∷ cs) =
    ap (λ (b : Bool). b || list_any (meets (change_of c)) (map change_of cs)) (rows-are c.up d.up ∙ flipped c.up d.up)
    ∙ ap (λ (b : Bool). same_way d.up c.up || b) (one-apart c cs)

pub are-apart : (cs : List LeafChange) → has_collision (map change_of cs) ≡ false → AreApart (map replacement_of cs)
are-apart [] h = tt
are-apart (c ∷ cs) h =
    let x = or-parts (list_any (meets (change_of c)) (map change_of cs)) (has_collision (map change_of cs)) h in
    (sym (one-apart c cs) ∙ x.0, are-apart cs x.1)

-- ---- the other way round

either : (s r w : Way) (l m n : Leaf) → same_way s r ≡ false
    → (if same_way s w then m else (if same_way r w then l else n)) ≡ (if same_way r w then l else (if same_way s w then m else n))
either s r w l m n apart = elim (cases_Bool (same_way s w)) [
  | inl e ↦ elim (cases_Bool (same_way r w)) [
    | inl i ↦ let z : true ≡ false = sym (same_way-own s) ∙ ap (λ x. same_way s x) (same_way-sound s w e ∙ sym (same_way-sound r w i)) ∙ apart in absurd (cc)
    | inr i ↦ rw (e, i) refl
  ]
  | inr e ↦ rw e refl
]

moved : (r : Replacement) (rs more : List Replacement) (w : Way) (l : Leaf) → list_any (λ (s : Replacement). same_way s.up r.up) rs ≡ false
    → leaf_after (rs ++ r ∷ more) w l ≡ leaf_after (r ∷ rs ++ more) w l
moved r [] more w l h = refl
moved r (s ∷ rs) more w l h =
    let x = or-parts (same_way s.up r.up) (list_any (λ (q : Replacement). same_way q.up r.up) rs) h in
    ap (λ (n : Leaf). if same_way s.up w then s.leaf else n) (moved r rs more w l x.1)
    ∙ either s.up r.up w r.leaf s.leaf (leaf_after (rs ++ more) w l) x.0

turned : (rs more : List Replacement) (w : Way) (l : Leaf) → AreApart rs → leaf_after (reverse_aux rs more) w l ≡ leaf_after (rs ++ more) w l
turned [] more w l a = refl
turned (r ∷ rs) more w l a = turned rs (r ∷ more) w l a.1 ∙ moved r rs more w l a.0

append-none : (rs : List Replacement) → rs ++ [] ≡ rs
append-none [] = refl
append-none (r ∷ rs) = ap (λ (x : List Replacement). r ∷ x) (append-none rs)

leaves-turned : (rs : List Replacement) (w : Way) (l : Leaf) → AreApart rs → leaf_after (reverse rs) w l ≡ leaf_after rs w l
leaves-turned rs w l a = turned rs [] w l a ∙ ap (λ (x : List Replacement). leaf_after x w l) (append-none rs)

forest-turned : (rs : List Replacement) (w : Way) (i : ℕ) (f : Forest) → AreApart rs → with_leaves (reverse rs) w i f ≡ with_leaves rs w i f
forest-turned rs w i empty a = refl
forest-turned rs w i (node k f r) a =
    ap (λ (x : Forest). node k x (with_leaves (reverse rs) w (i + 1) r)) (forest-turned rs (i ∷ w) 0 f a)
    ∙ ap (λ (x : Forest). node k (with_leaves rs (i ∷ w) 0 f) x) (forest-turned rs w (i + 1) r a)
forest-turned rs w i (leaf l r) a =
    ap (λ (x : Leaf). leaf x (with_leaves (reverse rs) w (i + 1) r)) (leaves-turned rs (i ∷ w) l a)
    ∙ ap (λ (x : Forest). leaf (leaf_after rs (i ∷ w) l) x) (forest-turned rs w (i + 1) r a)

map-turned : (cs ds : List LeafChange) → map replacement_of (reverse_aux cs ds) ≡ reverse_aux (map replacement_of cs) (map replacement_of ds)
map-turned [] ds = refl
map-turned (c ∷ cs) ds = map-turned cs (c ∷ ds)

pub leaves-replaced : LeavesAreReplaced
leaves-replaced top cs ms up all free =
    let x = in-order top cs ms up all in
    let t = top.place.root in (
      x.0,
      x.1
          ∙ ap (λ (rs : List Replacement). node t.kind (with_leaves rs [] 0 t.forest) empty) (map-turned cs [])
          ∙ ap (λ (f : Forest). node t.kind f empty) (forest-turned (map replacement_of cs) [] 0 t.forest (are-apart cs free)),
    )

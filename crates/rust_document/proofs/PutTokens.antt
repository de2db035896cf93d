-- A tree with one token replaced is the tree with that leaf replaced.
use Rattle.std.proofs.Common.{◌≡◌, ℕ, zero, suc, ◌+◌, ◌≤◌, Bool, false, List, [], ◌∷◌, ◌++◌, length, drop, slice_get, Option, Some, None, append_assoc, length-append, refl, sym, ◌∙◌, ap, arith, inl, inr, if◌then◌else◌}
use Rattle.std.proofs.lemmas.Bool.{cases_Bool}
use Rattle.std.proofs.Math.Seq.{drop-append_seam}
use Rattle.rowan_green.specs.Leaf.{Leaf}
use Rattle.rowan_green.specs.Forest.{Forest, empty, node, leaf, Tree}
use Rattle.rowan_green.specs.Term.{Term, terms, forest_of, tree_of, forest_of-terms, spliced}
use Rattle.rowan_green.specs.declared.utility_types.NodeOrToken.TheVariants.{Node, Token}
use Rattle.rowan.specs.Place.{children_in, kind_in, term_by}
use Rattle.rowan.specs.Replace.{put, put_in, put_token}
use Rattle.plain_names.specs.Replacements.{Replacement, leaf_after, with_leaves}
use Rattle.plain_names.proofs.Paths.{same, same-own, same-sound}

-- paths through two children of one node
others : (y x w : List ℕ) (j k : ℕ) → (k ≡ j → ⊥) → same (y ++ j ∷ w) (x ++ k ∷ w) ≡ false
others y x w j k ne = elim (cases_Bool (same (y ++ j ∷ w) (x ++ k ∷ w))) [
  | inr e ↦ e
  | inl e ↦
      let one : y ++ j ∷ w ≡ x ++ k ∷ w = same-sound (y ++ j ∷ w) (x ++ k ∷ w) e in
      let sizes = ap length one in
      let a = length-append y (j ∷ w) in
      let b = length-append x (k ∷ w) in
      let long : length y ≡ length x = omega (arith, sizes, a, b) in
      let ends : j ∷ w ≡ k ∷ w = sym (drop-append_seam y (j ∷ w)) ∙ ap (λ z. drop (length y) z) one ∙ ap (λ n. drop n (x ++ k ∷ w)) long ∙ drop-append_seam x (k ∷ w) in
      absurd (ne (cc))
]

-- a child replaced behind the first one
next-child : (k : ℕ) (y : Term) (ys : List Term) (x : Term) → forest_of (spliced (y ∷ ys) (suc k) (suc k + 1) (x ∷ [])) ≡ forest_of (y ∷ spliced ys k (k + 1) (x ∷ []))
next-child k y ys x = ap (λ (n : ℕ). forest_of (spliced (y ∷ ys) (suc k) n (x ∷ []))) (let z : suc k + 1 ≡ suc (k + 1) = omega arith in z)

-- the only replacement
module _ (up : List ℕ) (new : Leaf) where
  abbrev one : List Replacement
  one = record { up = up; leaf = new } ∷ []

  abbrev put_leaf : List ℕ → ℕ → Forest → Forest
  put_leaf w i f = with_leaves one w i f

  -- a term at an up-path, with the leaf replaced
  abbrev after : List ℕ → Term → Term
  after v (Node t) = Node (record { kind = t.kind; forest = put_leaf v 0 t.forest })
  after v (Token l) = Token (leaf_after one v l)

  -- children that the path does not lead through
  untouched : (w : List ℕ) (i : ℕ) (f : Forest) → ((x : List ℕ) (k : ℕ) → i ≤ k → same up (x ++ k ∷ w) ≡ false) → put_leaf w i f ≡ f
  untouched w i empty h = refl
  untouched w i (node k f r) h =
      let low = untouched (i ∷ w) 0 f (λ x m _. ap (λ v. same up v) (sym (append_assoc x (m ∷ []) (i ∷ w))) ∙ h (x ++ m ∷ []) i (omega arith)) in
      let rest = untouched w (i + 1) r (λ x m le. h x m (omega (arith, le))) in
      λ j. node k (low j) (rest j)
  untouched w i (leaf l r) h =
      let rest = untouched w (i + 1) r (λ x m le. h x m (omega (arith, le))) in
      let own = ap (λ (b : Bool). if b then new else l) (h [] i (omega arith)) in
      λ j. leaf (own j) (rest j)

  abbrev IsOut : List ℕ → ℕ → Type 0
  IsOut w j = (x : List ℕ) (k : ℕ) → (k ≡ j → ⊥) → same up (x ++ k ∷ w) ≡ false

  -- the rest of the children, behind the one that the path leads through
  behind : (w : List ℕ) (i j : ℕ) (r : Forest) → j ≡ i → IsOut w j → forest_of (terms r) ≡ put_leaf w (i + 1) r
  behind w i j r is out = forest_of-terms r ∙ sym (untouched w (i + 1) r (λ x k le. out x k (λ e. absurd (omega (arith, le, e, is)))))

  -- the children of a node, with the one replaced that the path leads through
  child-replaced :
      (w : List ℕ) (i j k : ℕ) (f : Forest) (x : Term) → j ≡ i + k → slice_get (terms f) k ≡ Some x → IsOut w j
      → forest_of (spliced (terms f) k (k + 1) (after (j ∷ w) x ∷ [])) ≡ put_leaf w i f
  child-replaced w i j zero empty x at is out = absurd (let z : None ≡ Some x = is in cc)
  child-replaced w i j (suc k) empty x at is out = absurd (let z : None ≡ Some x = is in cc)
  child-replaced w i j zero (node c f r) x at is out =
      let here : j ≡ i = omega (arith, at) in
      let own : Node (record { kind = c; forest = f }) ≡ x = cc in
      ap (λ (y : Term). forest_of (after (j ∷ w) y ∷ terms r)) (sym own)
      ∙ ap (λ (m : ℕ). node c (put_leaf (m ∷ w) 0 f) (forest_of (terms r))) here
      ∙ ap (λ (g : Forest). node c (put_leaf (i ∷ w) 0 f) g) (behind w i j r here out)
  child-replaced w i j zero (leaf l r) x at is out =
      let here : j ≡ i = omega (arith, at) in
      let own : Token l ≡ x = cc in
      ap (λ (y : Term). forest_of (after (j ∷ w) y ∷ terms r)) (sym own)
      ∙ ap (λ (m : ℕ). leaf (leaf_after one (m ∷ w) l) (forest_of (terms r))) here
      ∙ ap (λ (g : Forest). leaf (leaf_after one (i ∷ w) l) g) (behind w i j r here out)
  child-replaced w i j (suc k) (node c f r) x at is out =
      let own : i ≡ j → ⊥ = λ e. absurd (omega (arith, at, e)) in
      let low = untouched (i ∷ w) 0 f (λ y m _. ap (λ v. same up v) (sym (append_assoc y (m ∷ []) (i ∷ w))) ∙ out (y ++ m ∷ []) i own) in
      let rest = child-replaced w (i + 1) j k r x (omega (arith, at)) is out in
      next-child k (Node (record { kind = c; forest = f })) (terms r) (after (j ∷ w) x)
      ∙ ap (λ (g : Forest). node c f g) rest ∙ ap (λ (g : Forest). node c g (put_leaf w (i + 1) r)) (sym low)
  child-replaced w i j (suc k) (leaf l r) x at is out =
      let own : i ≡ j → ⊥ = λ e. absurd (omega (arith, at, e)) in
      let low = ap (λ (b : Bool). if b then new else l) (out [] i own) in
      let rest = child-replaced w (i + 1) j k r x (omega (arith, at)) is out in
      next-child k (Token l) (terms r) (after (j ∷ w) x)
      ∙ ap (λ (g : Forest). leaf l g) rest ∙ ap (λ (m : Leaf). leaf m (put_leaf w (i + 1) r)) (sym low)

  abbrev replaced : List ℕ → Tree → Tree
  replaced w t = record { kind = t.kind; forest = put_leaf w 0 t.forest }

  -- the node over a child
  node-over : (t : Tree) (j : ℕ) (w : List ℕ) (x : Term) → term_by t (j ∷ w) ≡ Some x → (m : Tree) × (term_by t w ≡ Some (Node m)) × (slice_get (terms m.forest) j ≡ Some x)
  node-over t j w x h = by_term (term_by t w) refl h
    where
      by_term : (o : Option Term) → term_by t w ≡ o → slice_get (children_in o) j ≡ Some x → (m : Tree) × (term_by t w ≡ Some (Node m)) × (slice_get (terms m.forest) j ≡ Some x)
      by_term None e g = absurd (let z : None ≡ Some x = g in cc)
      by_term (Some (Node m)) e g = (m, e, g)
      by_term (Some (Token l)) e g = absurd (let z : None ≡ Some x = g in cc)

  -- that node with the child replaced
  node-put :
      (t m : Tree) (j : ℕ) (w y : List ℕ) (x : Term) → up ≡ y ++ j ∷ w → term_by t w ≡ Some (Node m) → slice_get (terms m.forest) j ≡ Some x
      → put_in (record { root = t; up = w }) j (after (j ∷ w) x) ≡ replaced w m
  node-put t m j w y x is node_is child_is =
      ap (λ (o : Option Term). tree_of (kind_in o) (spliced (children_in o) j (j + 1) (after (j ∷ w) x ∷ []))) node_is
      ∙ ap (λ (g : Forest). let n : Tree = record { kind = m.kind; forest = g } in n)
      (child-replaced w 0 j j m.forest x (omega arith) child_is (λ z k ne. ap (λ v. same v (z ++ k ∷ w)) is ∙ others y z w j k ne))

  climbed : (t n : Tree) (w y : List ℕ) → up ≡ y ++ w → term_by t w ≡ Some (Node n) → put t w (replaced w n) ≡ replaced [] t
  climbed t n [] y is node_is = let own : t ≡ n = let z : Some (Node t) ≡ Some (Node n) = node_is in cc in ap (λ (m : Tree). replaced [] m) (sym own)
  climbed t n (j ∷ w) y is node_is =
      let over = node-over t j w (Node n) node_is in
      ap (λ (g : Tree). put t w g) (node-put t over.0 j w y (Node n) is over.1 over.2)
      ∙ climbed t over.0 w (y ++ j ∷ []) (is ∙ sym (append_assoc y (j ∷ []) w)) over.1

pub put-token : (t : Tree) (up : List ℕ) (old new : Leaf) → term_by t up ≡ Some (Token old) → put_token t up new ≡ replaced up new [] t
put-token t [] old new stands = absurd (let z : Some (Node t) ≡ Some (Token old) = stands in cc)
put-token t (i ∷ w) old new stands =
    let up : List ℕ = i ∷ w in
    let over = node-over up new t i w (Token old) stands in
    let own : leaf_after (one up new) up old ≡ new = ap (λ (b : Bool). if b then new else old) (same-own up) in
    ap (λ (l : Leaf). put t w (put_in (record { root = t; up = w }) i (Token l))) (sym own)
    ∙ ap (λ (g : Tree). put t w g) (node-put up new t over.0 i w [] (Token old) refl over.1 over.2)
    ∙ climbed up new t over.0 w (i ∷ []) refl over.1

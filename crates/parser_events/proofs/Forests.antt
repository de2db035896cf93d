-- A forest by calls: trees side by side stay side by side.
use Rattle.std.proofs.Common.{◌≡◌, ℕ, Bool, true, false, refl, ap, sym, ◌∙◌}
use Rattle.parser_input.specs.Kinds.{ERROR, FIELD_EXPR}
use Rattle.parser_events.specs.Forest as forest
use Rattle.parser_events.specs.Forest.{Forest, Message, ◌then◌}
use Rattle.parser_events.specs.Marked.{Marked, End, Leaf, Said, Node, Split, ◌beside◌, into, into_children, marked}

pub beside-end : (f : Marked) → f beside End ≡ f
beside-end End = refl
beside-end (Leaf k n f) = ap (Leaf k n) (beside-end f)
beside-end (Said m f) = ap (Said m) (beside-end f)
beside-end (Node k c f) = ap (Node k c) (beside-end f)
beside-end (Split e c f) = ap (Split e c) (beside-end f)

pub beside_assoc : (f g h : Marked) → (f beside g) beside h ≡ f beside (g beside h)
beside_assoc End g h = refl
beside_assoc (Leaf k n f) g h = ap (Leaf k n) (beside_assoc f g h)
beside_assoc (Said m f) g h = ap (Said m) (beside_assoc f g h)
beside_assoc (Node k c f) g h = ap (Node k c) (beside_assoc f g h)
beside_assoc (Split e c f) g h = ap (Split e c) (beside_assoc f g h)

pub marked-then : (f g : Forest) → marked (f then g) ≡ marked f beside marked g
unfolding marked
marked-then forest.End g = refl
marked-then (forest.Leaf k n f) g = ap (Leaf k n) (marked-then f g)
marked-then (forest.Said m f) g = ap (Said m) (marked-then f g)
marked-then (forest.ErrorLeaf m k f) g = ap (Node ERROR (Said m (Leaf k 1 End))) (marked-then f g)
marked-then (forest.Node k c f) g = ap (Node k (marked c)) (marked-then f g)
marked-then (forest.Float true c f) g = ap (Split true (marked c)) (marked-then f g)
marked-then (forest.Float false c f) g = ap (Node FIELD_EXPR (Split false (marked c) End)) (marked-then f g)

-- children of a forest are no access by a float alone
into-children : (g : Marked) (c : Forest) → into_children g (marked c) ≡ g beside marked c
unfolding marked
into-children g forest.End = refl
into-children g (forest.Leaf k n f) = refl
into-children g (forest.Said m f) = refl
into-children g (forest.ErrorLeaf m k f) = refl
into-children g (forest.Node k c f) = refl
into-children g (forest.Float true c f) = refl
into-children g (forest.Float false c f) = refl

-- trees put first into a node, a float and an error leaf, which is a node
pub into-node : (k : ℕ) (g c : Forest) → into (marked g) (marked (forest.Node k c forest.End)) ≡ marked (forest.Node k (g then c) forest.End)
unfolding marked
into-node k g c = ap (λ (x : Marked). Node k x End) (into-children (marked g) c ∙ sym (marked-then g c))

pub into-float : (e : Bool) (g c : Forest) → into (marked g) (marked (forest.Float e c forest.End)) ≡ marked (forest.Float e (g then c) forest.End)
unfolding marked
into-float true g c = ap (λ (x : Marked). Split true x End) (sym (marked-then g c))
into-float false g c = ap (λ (x : Marked). Node FIELD_EXPR (Split false x End) End) (sym (marked-then g c))

pub into-error_leaf :
    (m : Message) (k : ℕ) (g : Forest)
    → into (marked g) (marked (forest.ErrorLeaf m k forest.End)) ≡ marked (forest.Node ERROR (g then forest.Said m (forest.Leaf k 1 forest.End)) forest.End)
unfolding marked
into-error_leaf m k g = ap (λ (x : Marked). Node ERROR x End) (sym (marked-then g (forest.Said m (forest.Leaf k 1 forest.End))))

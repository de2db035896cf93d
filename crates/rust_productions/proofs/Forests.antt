-- Forests one after the other.
use Rattle.std.proofs.Common.{◌≡◌, refl, ap}
use Rattle.parser_events.specs.Forest as forest
use Rattle.parser_events.specs.Forest.{Forest, ◌then◌}

pub then-end : (f : Forest) → (f then forest.End) ≡ f
then-end forest.End = refl
then-end (forest.Leaf k n f) = ap (λ (x : Forest). forest.Leaf k n x) (then-end f)
then-end (forest.Said m f) = ap (λ (x : Forest). forest.Said m x) (then-end f)
then-end (forest.ErrorLeaf m k f) = ap (λ (x : Forest). forest.ErrorLeaf m k x) (then-end f)
then-end (forest.Node k c f) = ap (λ (x : Forest). forest.Node k c x) (then-end f)
then-end (forest.Float e c f) = ap (λ (x : Forest). forest.Float e c x) (then-end f)

pub then-assoc : (f g h : Forest) → ((f then g) then h) ≡ (f then (g then h))
then-assoc forest.End g h = refl
then-assoc (forest.Leaf k n f) g h = ap (λ (x : Forest). forest.Leaf k n x) (then-assoc f g h)
then-assoc (forest.Said m f) g h = ap (λ (x : Forest). forest.Said m x) (then-assoc f g h)
then-assoc (forest.ErrorLeaf m k f) g h = ap (λ (x : Forest). forest.ErrorLeaf m k x) (then-assoc f g h)
then-assoc (forest.Node k c f) g h = ap (λ (x : Forest). forest.Node k c x) (then-assoc f g h)
then-assoc (forest.Float e c f) g h = ap (λ (x : Forest). forest.Float e c x) (then-assoc f g h)

-- The green node of a root.
use Rattle.std.proofs.Common.{◌≡◌, [], sym, ◌∙◌, ap}
use Rattle.std.specs.Prelude.{Option, Some}
use Rattle.rowan_green.specs.Forest.{Tree}
use Rattle.rowan_green.specs.Term.{Term}
use Rattle.rowan_green.specs.declared.utility_types.NodeOrToken.TheVariants.{Node}
use Rattle.rowan.specs.Place.{Place, term_at, term_by}

abbrev tree_in : Tree → Option Term → Tree
tree_in d (Some (Node t)) = t
tree_in d o = d

pub green-root : (p : Place) (g : Tree) → p.up ≡ [] → term_at p ≡ Some (Node g) → g ≡ p.root
green-root p g top is = sym (ap (tree_in g) (sym (ap (term_by p.root) top) ∙ is))

-- The state of a walk down an up-path at each element. Model of the code; only proofs use it.
use Rattle.std.specs.Prelude.{List, [], ◌∷◌, Option, Some, None, Bool, false, ◌&&◌}
use Rattle.rowan_green.specs.Forest.{Tree}
use Rattle.rowan_green.specs.Term.{Term, children_of}
use Rattle.rowan_green.specs.declared.utility_types.NodeOrToken.TheVariants.{Node, Token}
use Rattle.syntax_tree.specs.Element.{term_of, is_node}
use Rattle.tree_rewrite.specs.Change.{Change, insert, replace}

-- the term, if it is a node
abbrev pub node_in : Option Term → Option Tree
node_in None = None
node_in (Some (Node t)) = Some t
node_in (Some (Token l)) = None

abbrev pub children_below : Option Tree → List Term
children_below None = []
children_below (Some t) = children_of t

-- the change names a single element and replaces it by a node
abbrev pub names_node : Change → Bool
names_node (insert p i new) = false
names_node (replace first n [] single) = false
names_node (replace first n (e ∷ []) single) = single && is_node (term_of e)
names_node (replace first n (e ∷ (d ∷ new)) single) = false

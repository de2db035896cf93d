-- What a node is seen as, in either of its forms, and what holds of the form.
use Rattle.rowan_green.specs.Forest.{Tree}
use Rattle.rowan_green.specs.FlatNode.{IsNodeAt, tree_at}
use Rattle.rowan_green.specs.declared.node.NodeForm.{NodeForm}
use Rattle.rowan_green.specs.declared.node.NodeForm.TheVariants.{Flat, Data}

-- the tree
abbrev pub form_tree : NodeForm → Tree
form_tree (Flat i a) = tree_at a.value i
form_tree (Data d) = d.value

-- an entry that is a node
abbrev pub IsNodeForm : NodeForm → Type 0
IsNodeForm (Flat i a) = IsNodeAt a.value i
IsNodeForm (Data d) = Unit {0}

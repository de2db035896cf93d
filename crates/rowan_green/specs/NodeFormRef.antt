-- What a borrowed node is seen as, in either of its forms, and what holds of the form.
use Rattle.rowan_green.specs.Forest.{Tree}
use Rattle.rowan_green.specs.FlatNode.{IsNodeAt, tree_at}
use Rattle.rowan_green.specs.declared.element_ref.NodeFormRef.{NodeFormRef}
use Rattle.rowan_green.specs.declared.element_ref.NodeFormRef.TheVariants.{Flat, Data}

-- the tree
abbrev pub ref_tree : NodeFormRef → Tree
ref_tree (Flat i a) = tree_at a.now.value i
ref_tree (Data d) = d.now.value

-- an entry that is a node
abbrev pub IsNodeRef : NodeFormRef → Type 0
IsNodeRef (Flat i a) = IsNodeAt a.now.value i
IsNodeRef (Data d) = Unit {0}

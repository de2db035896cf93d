-- The tree that a reader of a node reads.
use Rattle.rowan_green.specs.Forest.{Tree}
use Rattle.rowan_green.specs.declared.element_ref.NodeReader.{NodeReader}
use Rattle.rowan_green.specs.declared.element_ref.NodeReader.TheVariants.{Flat, Data}

abbrev pub tree_read : NodeReader → Tree
tree_read (Flat n) = n
tree_read (Data d) = d.now.value

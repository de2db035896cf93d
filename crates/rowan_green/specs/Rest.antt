-- The children of a node that are left, in the form of their node.
use Rattle.std.specs.Prelude.{List}
use Rattle.rowan_green.specs.Term.{Term}
use Rattle.rowan_green.specs.declared.node_children.Rest.{Rest}
use Rattle.rowan_green.specs.declared.node_children.Rest.TheVariants.{Flat, Data}

abbrev pub terms_left : Rest → List Term
terms_left (Flat c) = c
terms_left (Data c) = c

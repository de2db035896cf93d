use Rattle.std.proofs.Common.{◌≡◌, ◌++◌, map}
use Rattle.rowan_green.specs.declared.utility_types.NodeOrToken.TheVariants.{Node}
use Rattle.rowan.specs.Walk.{walk}
use Rattle.syntax_tree.specs.Handle.{element_of, elements_left}
use Rattle.tree_rewrite.proofs.CameLemmas.{walked}
use Rattle.tree_rewrite.proofs.origins.push_walk.Given as goal

abbrev pub invariant-loop-element : goal.invariant-loop-element
invariant-loop-element l =
    map element_of l.to.items ++ map element_of (elements_left l.left) ≡ map element_of l.initial.to.items ++ walked l.node.number (walk (Node l.node.place))

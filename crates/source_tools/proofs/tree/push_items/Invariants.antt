use Rattle.std.proofs.Common.{◌≡◌, ◌++◌, length}
use Rattle.rowan_green.specs.declared.utility_types.NodeOrToken.TheVariants.{Node}
use Rattle.rowan.specs.Walk.{walk}
use Rattle.rust_document.specs.Step.{root_element}
use Rattle.source_tools.specs.Texts.{tree_items}
use Rattle.source_tools.proofs.tree.push_items.Given as goal

abbrev pub invariant-events : goal.invariant-events
invariant-events l =
    l.items.items ++ tree_items (length l.levels.items) l.events
    ≡ l.fn.items.items ++ tree_items 0 (walk (Node (root_element l.document).place))

abbrev pub decreases-events : goal.decreases-events
decreases-events l = length l.events

use Rattle.std.proofs.Common.{◌≡◌, ◌≤◌, take, length}
use Rattle.rowan_green.specs.Forest.{Tree}
use Rattle.syntax_tree.specs.Element.{element_at}
use Rattle.syntax_tree.specs.Mapping.{image_of}
use Rattle.syntax_tree.proofs.mapping.SyntaxMapping.image_at.Given as goal

abbrev pub invariant-loop-before : goal.invariant-loop-before
invariant-loop-before l = record {
  within : l.before ≤ length l.self-inside.entries.items;
  others_differ : (t : Tree) → image_of l.self-inside.entries.items (element_at l.tree t l.way) ≡ image_of (take l.before l.self-inside.entries.items) (element_at l.tree t l.way);
}

abbrev pub decreases-loop-before : goal.decreases-loop-before
decreases-loop-before l = l.before

use Rattle.std.proofs.Common.{arith}
use Rattle.rowan.proofs.Places.{child_stands}
use Rattle.rowan.proofs.cursor.SyntaxNode.child_node.Goals as goal

pub invariant_of-result : goal.invariant_of-result
invariant_of-result c =
    rw (c.in_ok-shared.ensures.ok, c.in_ok-clone.ensures.cases)
    (child_stands c.args.self.now _ _ _ c.start.ensures.fits c.requires.is_child c.requires.at_offset, omega arith)

use Rattle.std.proofs.Common.{arith, ◌∙◌}
use Rattle.rowan_green.proofs.Lengths.{prefix_all}
use Rattle.rowan_green.proofs.node.fitting_len.Goals as goal

pub returns : goal.returns
returns c = let e = prefix_all c.args.children.now c.loop-child.child-index c.loop-child-test.false in (omega (arith, e), c.loop-child.invariant.0 ∙ e)

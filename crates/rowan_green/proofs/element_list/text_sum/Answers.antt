use Rattle.std.proofs.Common.{◌∙◌}
use Rattle.rowan_green.proofs.Lengths.{prefix_all}
use Rattle.rowan_green.proofs.element_list.text_sum.Goals as goal

pub returns : goal.returns
returns c = c.loop-element.invariant ∙ prefix_all c.args.elements.now c.loop-element.element-index c.loop-element-test.false

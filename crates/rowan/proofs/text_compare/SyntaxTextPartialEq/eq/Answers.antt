use Rattle.std.proofs.Common.{arith, ◌∙◌}
use Rattle.rowan.proofs.Stretches.{equal_fronts}
use Rattle.rowan.proofs.text_compare.SyntaxTextPartialEq.eq.Goals as goal

pub returns : goal.returns
returns c =
    let s = c.same_front.ensures in
    equal_fronts _ _ _ _ _ _ (c.of.ensures.bytes ∙ c.part-part.ensures.text) (c.of-2.ensures.bytes ∙ c.part-there.ensures.text) (omega (arith, c.of.ensures.left, c.of-2.ensures.left, c.part-part.ensures.len, c.part-there.ensures.len)) c.of.ensures.sound c.of-2.ensures.sound _ s.same s.ends s.differ

-- The leaf at a place, if there is one.
use Rattle.std.proofs.Common.{length, sym}
use Rattle.std.proofs.lemmas.Bool.{ltb-true}
use Rattle.parser_input.proofs.InputSteps.{angle-none, angle-some, angle-told}
use Rattle.parser_input.proofs.lexed_str.is_angle.Goals as goal

pub returns-in-Some : goal.returns-in-Some
returns-in-Some c text place =
    angle-some text place c.args.leaves.now c.args.i c.in-Some.leaf.now c.eq.result (ltb-true c.args.i (length c.args.leaves.now) (sym c.in-Some.ensures.lookup.0)) c.in-Some.ensures.lookup.1 (angle-told c.in-Some.leaf.now.kind c.eq.result c.eq.ensures)

pub returns-in-None : goal.returns-in-None
returns-in-None c text place = angle-none text place c.args.leaves.now c.args.i c.in-None.ensures.lookup.3

-- The leaf at a place, if there is one.
use Rattle.std.proofs.Common.{length, sym}
use Rattle.std.proofs.lemmas.Bool.{ltb-true}
use Rattle.parser_input.proofs.InputSteps.{touches-none, touches-some}
use Rattle.parser_input.proofs.lexed_str.is_solid.Goals as goal

pub returns-in-Some : goal.returns-in-Some
returns-in-Some c text place =
    touches-some text place c.args.leaves.now c.args.i c.in-Some.leaf.now c.is_trivia.result (ltb-true c.args.i (length c.args.leaves.now) (sym c.in-Some.ensures.lookup.0)) c.in-Some.ensures.lookup.1 c.is_trivia.ensures

pub returns-in-None : goal.returns-in-None
returns-in-None c text place = touches-none text place c.args.leaves.now c.args.i c.in-None.ensures.lookup.3

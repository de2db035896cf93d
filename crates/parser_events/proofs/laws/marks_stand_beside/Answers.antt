-- The law is a lemma on the definitions.
use Rattle.parser_events.proofs.Forests.{marked-then}
use Rattle.parser_events.proofs.laws.marks_stand_beside.Goals as goal

pub returns : goal.returns
returns c = marked-then

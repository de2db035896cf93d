-- The law is a lemma on the definitions.
use Rattle.parser_events.proofs.Balance.{walk-marked}
use Rattle.parser_events.proofs.laws.marks_keep_steps.Goals as goal

pub returns : goal.returns
returns c = walk-marked

-- The law is a lemma on the definitions.
use Rattle.parser_events.proofs.Balance.{steps-balanced}
use Rattle.parser_events.proofs.laws.steps_are_balanced.Goals as goal

pub returns : goal.returns
returns c = steps-balanced

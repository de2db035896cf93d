-- The law is a lemma on the definitions.
use Rattle.parser_events.proofs.Balance.{walk-balanced}
use Rattle.parser_events.proofs.laws.walks_are_balanced.Goals as goal

pub returns : goal.returns
returns c = walk-balanced

-- The law is a lemma on the table.
use Rattle.rust_grammar.proofs.PartsOfWhole.{repetitions-read}
use Rattle.rust_grammar.proofs.laws.repetitions_are_read_turn_by_turn.Goals as goal

pub returns : goal.returns
returns c = repetitions-read

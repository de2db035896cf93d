-- The law is a lemma on the definitions.
use Rattle.parser_input.proofs.LexedTexts.{leaves-joined}
use Rattle.parser_input.proofs.laws.leaves_are_the_text.Goals as goal

pub returns : goal.returns
returns c = leaves-joined

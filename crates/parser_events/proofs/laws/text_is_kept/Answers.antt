-- The law is a lemma on the definitions.
use Rattle.parser_events.proofs.Texts.{text-is-text}
use Rattle.parser_events.proofs.laws.text_is_kept.Goals as goal

pub returns : goal.returns
returns c = text-is-text

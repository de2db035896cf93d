-- The law is a lemma on the definitions.
use Rattle.parser_events.proofs.Coverings.{dressed-is-put}
use Rattle.parser_events.proofs.laws.dressed_is_put.Goals as goal

pub returns : goal.returns
returns c = dressed-is-put

-- The law is a lemma on the definitions.
use Rattle.rowan.proofs.PlaceLaws.{tokens-order}
use Rattle.rowan.proofs.laws.tokens_stand_in_order.Goals as goal

pub returns : goal.returns
returns c = tokens-order

-- The law is a lemma on the definitions.
use Rattle.rowan.proofs.PlaceLaws.{walks-words}
use Rattle.rowan.proofs.laws.walks_are_words.Goals as goal

pub returns : goal.returns
returns c = walks-words

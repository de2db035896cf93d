use Rattle.lexed_text.proofs.Ones.{kept-one}
use Rattle.lexed_text.proofs.laws.counts_are_one.Goals as goal

pub returns : goal.returns
returns c = kept-one

use Rattle.lexed_text.proofs.Backs.{counts-sum}
use Rattle.lexed_text.proofs.laws.counts_sum.Goals as goal

pub returns : goal.returns
returns c = counts-sum

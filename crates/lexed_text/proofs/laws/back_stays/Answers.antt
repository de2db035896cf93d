use Rattle.lexed_text.proofs.Backs.{back-tokens}
use Rattle.lexed_text.proofs.laws.back_stays.Goals as goal

pub returns : goal.returns
returns c = back-tokens

use Rattle.lexed_text.proofs.Fronts.{front-tokens}
use Rattle.lexed_text.proofs.laws.front_stays.Goals as goal

pub returns : goal.returns
returns c = λ e kept k. front-tokens e kept.front k.front

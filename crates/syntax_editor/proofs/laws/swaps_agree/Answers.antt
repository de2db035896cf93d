use Rattle.syntax_editor.proofs.Swaps.{ends_alike}
use Rattle.syntax_editor.proofs.laws.swaps_agree.Goals as goal

pub returns : goal.returns
returns c = λ e before after one other far. ends_alike e _ _ (c.swaps_agree.ensures e.top before after one other e.mapping far)

use Rattle.syntax_editor.proofs.CallLemmas.{calls_agree}
use Rattle.syntax_editor.proofs.laws.calls_agree.Goals as goal

pub returns : goal.returns
returns c = calls_agree c.swaps_agree.ensures

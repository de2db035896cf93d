use Rattle.syntax_editor.proofs.CallLemmas.{verdicts_stay}
use Rattle.syntax_editor.proofs.laws.verdicts_stay.Goals as goal

pub returns : goal.returns
returns c = verdicts_stay

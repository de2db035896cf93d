use Rattle.spaced_core.proofs.CoreInputs.{core-input}
use Rattle.spaced_core.proofs.laws.well_spaced_texts_are_core.Goals as goal

pub returns : goal.returns
returns c = core-input

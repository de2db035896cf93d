use Rattle.spaced_core.proofs.TreeTexts.{tree-read, tree-silent}
use Rattle.spaced_core.proofs.laws.well_spaced_texts_have_their_leaves.Goals as goal

pub returns-clause-leaves : goal.returns-clause-leaves
returns-clause-leaves c = tree-read

pub returns-clause-silent : goal.returns-clause-silent
returns-clause-silent c = tree-silent

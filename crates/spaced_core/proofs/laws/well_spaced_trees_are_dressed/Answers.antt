use Rattle.spaced_core.proofs.Dressed.{tree-dressed}
use Rattle.spaced_core.proofs.laws.well_spaced_trees_are_dressed.Goals as goal

pub returns : goal.returns
returns c = tree-dressed

use Rattle.plain_changes.proofs.Fits.{small-fit, keeps-counts}
use Rattle.plain_changes.proofs.laws.small_trees_fit.Goals as goal

pub returns-clause-fit : goal.returns-clause-fit
returns-clause-fit c = small-fit

pub returns-clause-counts : goal.returns-clause-counts
returns-clause-counts c = keeps-counts

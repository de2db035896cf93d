use Rattle.spaced_core.proofs.Examples.{examples-classified}
use Rattle.spaced_core.proofs.laws.examples_are_classified.Goals as goal

pub returns : goal.returns
returns c = examples-classified

-- The law is one lemma.
use Rattle.core_language.proofs.Examples.{examples-are-core}
use Rattle.core_language.proofs.laws.examples_are_core.Goals as goal

pub returns : goal.returns
returns c = examples-are-core

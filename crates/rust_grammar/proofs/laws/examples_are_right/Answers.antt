-- The law is one lemma.
use Rattle.rust_grammar.proofs.Examples.{examples-are-right}
use Rattle.rust_grammar.proofs.laws.examples_are_right.Goals as goal

pub returns : goal.returns
returns c = examples-are-right

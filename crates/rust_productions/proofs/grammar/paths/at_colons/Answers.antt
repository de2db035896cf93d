-- Two colons that touch.
use Rattle.rust_grammar.specs.Rule.{there_at}
use Rattle.rust_productions.proofs.grammar.paths.at_colons.Goals as goal

pub returns-clause-sees : goal.returns-clause-sees
unfolding there_at
returns-clause-sees c cond = c.at_pair.ensures.sees cond

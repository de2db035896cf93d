use Rattle.rust_productions.specs.declared.condition.Condition.TheVariants.{Off}
use Rattle.ra_parser.proofs.entries.begins.Goals as goal

pub returns-in-Expression-clause-sees : goal.returns-in-Expression-clause-sees
returns-in-Expression-clause-sees c = rw c.in-Expression.is c.at_expression.ensures.sees

pub returns-in-Meta-clause-sees : goal.returns-in-Meta-clause-sees
returns-in-Meta-clause-sees c = rw c.in-Meta.is (c.at_meta.ensures.sees Off)

pub returns-in-Pattern-clause-sees : goal.returns-in-Pattern-clause-sees
returns-in-Pattern-clause-sees c = rw c.in-Pattern.is (c.at_pattern.ensures.sees Off)

pub returns-in-Type-clause-sees : goal.returns-in-Type-clause-sees
returns-in-Type-clause-sees c = rw c.in-Type.is (c.at_type.ensures.sees Off)

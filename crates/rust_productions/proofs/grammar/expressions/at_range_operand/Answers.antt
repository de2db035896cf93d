-- No brace that ends a condition, no further range operator, and an operand.
use Rattle.std.proofs.Common.{refl, arith}
use Rattle.rust_grammar.specs.Expressions.{expressions, range_operand}
use Rattle.rust_grammar.specs.Items.{items}
use Rattle.rust_grammar.specs.Meaning.{begins_below, look_of}
use Rattle.rust_grammar.specs.Notation.{any_of, is_longer, no_longer, longest, one_of, row}
use Rattle.rust_grammar.specs.Paths.{paths}
use Rattle.rust_grammar.specs.Patterns.{patterns}
use Rattle.rust_grammar.specs.Rule as rules
use Rattle.rust_grammar.specs.Rule.{begins, in_mode, from_start, is_silent, passes, shift, there_at}
use Rattle.rust_grammar.specs.Statements.{statements}
use Rattle.rust_grammar.specs.Types.{types}
use Rattle.rust_grammar.specs.Whole.{rule, whole}
use Rattle.rust_productions.proofs.Facts.{begun, nothing, saw-so, ◌and◌}
use Rattle.rust_productions.proofs.Layering.{saw-disjunction}
use Rattle.rust_productions.proofs.Seen.{saw-before, starts-here}
use Rattle.rust_productions.proofs.Peeking.{peeks-then, peeks-within}
use Rattle.rust_productions.proofs.grammar.expressions.at_range_operand.Goals as goal

pub returns-then-at_body-clause-sees : goal.returns-then-at_body-clause-sees
unfolding look_of begins_below whole rule items statements expressions patterns types paths there_at shift passes is_silent begins in_mode from_start row one_of any_of no_longer longest is_longer
returns-then-at_body-clause-sees c = starts-here range_operand (saw-so c.at_body.ensures.sees c.if-at_body.true and nothing) refl

pub returns-then-at_new_mark-clause-sees : goal.returns-then-at_new_mark-clause-sees
unfolding look_of begins_below whole rule items statements expressions patterns types paths there_at shift passes is_silent begins in_mode from_start row one_of any_of no_longer longest is_longer
returns-then-at_new_mark-clause-sees c = starts-here range_operand (saw-so c.at_body.ensures.sees c.if-at_body.false and saw-before c.at_body.ensures.peeks.same (saw-so (c.at_new_mark.ensures.sees c.args.condition) c.if-at_new_mark.true) and nothing) refl

pub returns-then-at_new_mark-clause-peeks : goal.returns-then-at_new_mark-clause-peeks
returns-then-at_new_mark-clause-peeks c = peeks-within (peeks-then c.at_body.ensures.peeks c.at_new_mark.ensures.peeks) (omega arith)

pub returns-clause-sees : goal.returns-clause-sees
unfolding look_of begins_below whole rule items statements expressions patterns types paths there_at shift passes is_silent begins in_mode from_start row one_of any_of no_longer longest is_longer
returns-clause-sees c =
    starts-here range_operand
    (saw-so c.at_body.ensures.sees c.if-at_body.false
    and saw-before c.at_body.ensures.peeks.same (saw-so (c.at_new_mark.ensures.sees c.args.condition) c.if-at_new_mark.false)
    and begun rules.disjunction (saw-disjunction (saw-before c.at_body.ensures.peeks.same (saw-before c.at_new_mark.ensures.peeks.same c.at_operand.ensures.sees))) nothing)
    refl

pub returns-clause-operand : goal.returns-clause-operand
returns-clause-operand c = λ is. saw-before c.at_body.ensures.peeks.same (saw-before c.at_new_mark.ensures.peeks.same (saw-so c.at_operand.ensures.sees is))

pub returns-clause-peeks : goal.returns-clause-peeks
returns-clause-peeks c = peeks-then c.at_body.ensures.peeks (peeks-then c.at_new_mark.ensures.peeks c.at_operand.ensures.peeks)

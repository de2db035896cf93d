-- Each path reads what the rule comes to there.
use Rattle.std.proofs.Common.{refl, arith}
use Rattle.rust_grammar.specs.Expressions.{expressions}
use Rattle.rust_grammar.specs.Items.{items}
use Rattle.rust_grammar.specs.Meaning.{begins_below, look_of}
use Rattle.rust_grammar.specs.Notation.{any_of, is_longer, no_longer, longest, one_of, row}
use Rattle.rust_grammar.specs.Paths.{paths}
use Rattle.rust_grammar.specs.Patterns.{patterns}
use Rattle.rust_grammar.specs.Rule.{begins, in_mode, from_start, is_silent, passes, shift, there_at}
use Rattle.rust_grammar.specs.Statements.{statements}
use Rattle.rust_grammar.specs.Types.{types}
use Rattle.rust_grammar.specs.Whole.{rule, whole}
use Rattle.rust_grammar.specs.Rule as rules
use Rattle.rust_productions.proofs.Facts.{begun, nothing, saw-so, ◌and◌}
use Rattle.rust_productions.proofs.Seen.{begins-row, saw-before}
use Rattle.rust_productions.proofs.Peeking.{peeks-then, peeks-within}
use Rattle.rust_productions.proofs.grammar.generic_params.at_where_pred.Goals as goal

pub returns-then-at_new_pred-clause-sees : goal.returns-then-at_new_pred-clause-sees
unfolding look_of begins_below whole rule items statements expressions patterns types paths there_at shift passes is_silent begins in_mode from_start row one_of any_of no_longer longest is_longer
returns-then-at_new_pred-clause-sees c cond = begins-row rules.where_pred (saw-so (c.at_new_pred.ensures.sees cond) c.if-at_new_pred.true and nothing) refl

pub returns-then-at_new_pred-clause-peeks : goal.returns-then-at_new_pred-clause-peeks
returns-then-at_new_pred-clause-peeks c = peeks-within (c.at_new_pred.ensures.peeks) (omega arith)

pub returns-then-at-clause-sees : goal.returns-then-at-clause-sees
unfolding look_of begins_below whole rule items statements expressions patterns types paths there_at shift passes is_silent begins in_mode from_start row one_of any_of no_longer longest is_longer
returns-then-at-clause-sees c cond = begins-row rules.where_pred (saw-so (c.at_new_pred.ensures.sees cond) c.if-at_new_pred.false and saw-before c.at_new_pred.ensures.peeks.same (saw-so (c.at.ensures.sees cond) c.if-at.true) and nothing) refl

pub returns-then-at-clause-peeks : goal.returns-then-at-clause-peeks
returns-then-at-clause-peeks c = peeks-within (peeks-then c.at_new_pred.ensures.peeks c.at.ensures.peeks) (omega arith)

pub returns-then-at_type-clause-sees : goal.returns-then-at_type-clause-sees
unfolding look_of begins_below whole rule items statements expressions patterns types paths there_at shift passes is_silent begins in_mode from_start row one_of any_of no_longer longest is_longer
returns-then-at_type-clause-sees c cond = begins-row rules.where_pred (saw-so (c.at_new_pred.ensures.sees cond) c.if-at_new_pred.false and saw-before c.at_new_pred.ensures.peeks.same (saw-so (c.at.ensures.sees cond) c.if-at.false) and begun rules.any_type (saw-before c.at_new_pred.ensures.peeks.same (saw-before c.at.ensures.peeks.same (saw-so (c.at_type.ensures.sees cond) c.if-at_type.true))) (nothing)) refl

pub returns-then-at_type-clause-peeks : goal.returns-then-at_type-clause-peeks
returns-then-at_type-clause-peeks c = peeks-within (peeks-then c.at_new_pred.ensures.peeks (peeks-then c.at.ensures.peeks c.at_type.ensures.peeks)) (omega arith)

pub returns-clause-sees : goal.returns-clause-sees
unfolding look_of begins_below whole rule items statements expressions patterns types paths there_at shift passes is_silent begins in_mode from_start row one_of any_of no_longer longest is_longer
returns-clause-sees c cond = begins-row rules.where_pred (saw-so (c.at_new_pred.ensures.sees cond) c.if-at_new_pred.false and saw-before c.at_new_pred.ensures.peeks.same (saw-so (c.at.ensures.sees cond) c.if-at.false) and begun rules.any_type (saw-before c.at_new_pred.ensures.peeks.same (saw-before c.at.ensures.peeks.same (saw-so (c.at_type.ensures.sees cond) c.if-at_type.false))) (nothing)) refl

pub returns-clause-peeks : goal.returns-clause-peeks
returns-clause-peeks c = peeks-within (peeks-then c.at_new_pred.ensures.peeks (peeks-then c.at.ensures.peeks c.at_type.ensures.peeks)) (omega arith)

-- Each path reads what the rule comes to there.
use Rattle.std.proofs.Common.{inl, inr, refl, arith}
use Rattle.rust_grammar.specs.Expressions.{expressions}
use Rattle.rust_grammar.specs.Items.{items}
use Rattle.rust_grammar.specs.Meaning.{begins_below, look_of}
use Rattle.rust_grammar.specs.Notation.{any_of, is_longer, no_longer, longest, one_of, row}
use Rattle.rust_grammar.specs.Paths.{paths}
use Rattle.rust_grammar.specs.Patterns.{patterns}
use Rattle.rust_grammar.specs.Rule.{begins, in_mode, from_start, is_silent, passes, shift, there_at}
use Rattle.rust_grammar.specs.Statements.{statements}
use Rattle.rust_grammar.specs.Types.{types}
use Rattle.rust_grammar.specs.Whole.{rule, whole}
use Rattle.rust_grammar.specs.Rule as rules
use Rattle.rust_productions.proofs.Facts.{begun, nothing, saw-so, ◌and◌}
use Rattle.rust_productions.proofs.Looking.{left-arm, saw-arm, saw-not}
use Rattle.rust_productions.proofs.Seen.{begins-row, saw-before}
use Rattle.rust_productions.proofs.Peeking.{peeks-then, peeks-within}
use Rattle.rust_productions.proofs.grammar.generic_args.at_generic_arg.Goals as goal

pub returns-then-at-clause-sees : goal.returns-then-at-clause-sees
unfolding look_of begins_below whole rule items statements expressions patterns types paths there_at shift passes is_silent begins in_mode from_start row one_of any_of no_longer longest is_longer
returns-then-at-clause-sees c cond = begins-row rules.generic_arg (saw-so (c.at.ensures.sees cond) c.if-at.true and nothing) refl

pub returns-then-at-clause-peeks : goal.returns-then-at-clause-peeks
returns-then-at-clause-peeks c = peeks-within (c.at.ensures.peeks) (omega arith)

pub returns-then-at_new_arg-clause-sees : goal.returns-then-at_new_arg-clause-sees
unfolding look_of begins_below whole rule items statements expressions patterns types paths there_at shift passes is_silent begins in_mode from_start row one_of any_of no_longer longest is_longer
returns-then-at_new_arg-clause-sees c cond = begins-row rules.generic_arg (saw-so (c.at.ensures.sees cond) c.if-at.false and saw-before c.at.ensures.peeks.same (saw-so (c.at_new_arg.ensures.sees cond) c.if-at_new_arg.true) and nothing) refl

pub returns-then-at_new_arg-clause-peeks : goal.returns-then-at_new_arg-clause-peeks
returns-then-at_new_arg-clause-peeks c = peeks-within (peeks-then c.at.ensures.peeks (c.at_new_arg.ensures.peeks)) (omega arith)

pub returns-then-at_type-clause-sees : goal.returns-then-at_type-clause-sees
unfolding look_of begins_below whole rule items statements expressions patterns types paths there_at shift passes is_silent begins in_mode from_start row one_of any_of no_longer longest is_longer
returns-then-at_type-clause-sees c cond = begins-row rules.generic_arg (saw-so (c.at.ensures.sees cond) c.if-at.false and saw-before c.at.ensures.peeks.same (saw-so (c.at_new_arg.ensures.sees cond) c.if-at_new_arg.false) and begun rules.any_type (saw-before c.at.ensures.peeks.same (saw-before c.at_new_arg.ensures.peeks.same (saw-so (c.at_type.ensures.sees cond) c.if-at_type.true))) (nothing)) refl

pub returns-then-at_type-clause-peeks : goal.returns-then-at_type-clause-peeks
returns-then-at_type-clause-peeks c = peeks-within (peeks-then c.at.ensures.peeks (peeks-then c.at_new_arg.ensures.peeks (c.at_type.ensures.peeks))) (omega arith)

pub returns-then-at_literal-clause-sees : goal.returns-then-at_literal-clause-sees
unfolding look_of begins_below whole rule items statements expressions patterns types paths there_at shift passes is_silent begins in_mode from_start row one_of any_of no_longer longest is_longer
returns-then-at_literal-clause-sees c cond = begins-row rules.generic_arg (saw-so (c.at.ensures.sees cond) c.if-at.false and saw-before c.at.ensures.peeks.same (saw-so (c.at_new_arg.ensures.sees cond) c.if-at_new_arg.false) and begun rules.any_type (saw-before c.at.ensures.peeks.same (saw-before c.at_new_arg.ensures.peeks.same (saw-so (c.at_type.ensures.sees cond) c.if-at_type.false))) (begun rules.literal (saw-before c.at.ensures.peeks.same (saw-before c.at_new_arg.ensures.peeks.same (saw-before c.at_type.ensures.peeks.same (saw-so (c.at_literal.ensures.sees cond) c.if-at_literal.true)))) (nothing))) refl

pub returns-then-at_literal-clause-peeks : goal.returns-then-at_literal-clause-peeks
returns-then-at_literal-clause-peeks c = peeks-within (peeks-then c.at.ensures.peeks (peeks-then c.at_new_arg.ensures.peeks (peeks-then c.at_type.ensures.peeks (c.at_literal.ensures.peeks)))) (omega arith)

pub returns-in-LIFETIME_IDENT-clause-sees : goal.returns-in-LIFETIME_IDENT-clause-sees
unfolding look_of begins_below whole rule items statements expressions patterns types paths there_at shift passes is_silent begins in_mode from_start row one_of any_of no_longer longest is_longer
returns-in-LIFETIME_IDENT-clause-sees c cond = elim c.in-LIFETIME_IDENT.is [ inl a0 ↦ begins-row rules.generic_arg (saw-so (c.at.ensures.sees cond) c.if-at.false and saw-before c.at.ensures.peeks.same (saw-so (c.at_new_arg.ensures.sees cond) c.if-at_new_arg.false) and begun rules.any_type (saw-before c.at.ensures.peeks.same (saw-before c.at_new_arg.ensures.peeks.same (saw-so (c.at_type.ensures.sees cond) c.if-at_type.false))) (begun rules.literal (saw-before c.at.ensures.peeks.same (saw-before c.at_new_arg.ensures.peeks.same (saw-before c.at_type.ensures.peeks.same (saw-so (c.at_literal.ensures.sees cond) c.if-at_literal.false)))) (saw-before c.at.ensures.peeks.same (saw-before c.at_new_arg.ensures.peeks.same (saw-before c.at_type.ensures.peeks.same (saw-before c.at_literal.ensures.peeks.same (left-arm a0 (c.current.ensures.end cond))))) and saw-before c.at.ensures.peeks.same (saw-before c.at_new_arg.ensures.peeks.same (saw-before c.at_type.ensures.peeks.same (saw-before c.at_literal.ensures.peeks.same (saw-arm a0 (c.current.ensures.sees cond))))) and nothing))) refl | inr b0 ↦ begins-row rules.generic_arg (saw-so (c.at.ensures.sees cond) c.if-at.false and saw-before c.at.ensures.peeks.same (saw-so (c.at_new_arg.ensures.sees cond) c.if-at_new_arg.false) and begun rules.any_type (saw-before c.at.ensures.peeks.same (saw-before c.at_new_arg.ensures.peeks.same (saw-so (c.at_type.ensures.sees cond) c.if-at_type.false))) (begun rules.literal (saw-before c.at.ensures.peeks.same (saw-before c.at_new_arg.ensures.peeks.same (saw-before c.at_type.ensures.peeks.same (saw-so (c.at_literal.ensures.sees cond) c.if-at_literal.false)))) (saw-before c.at.ensures.peeks.same (saw-before c.at_new_arg.ensures.peeks.same (saw-before c.at_type.ensures.peeks.same (saw-before c.at_literal.ensures.peeks.same (left-arm b0 (c.current.ensures.end cond))))) and saw-before c.at.ensures.peeks.same (saw-before c.at_new_arg.ensures.peeks.same (saw-before c.at_type.ensures.peeks.same (saw-before c.at_literal.ensures.peeks.same (saw-arm b0 (c.current.ensures.sees cond))))) and nothing))) refl ]

pub returns-in-LIFETIME_IDENT-clause-peeks : goal.returns-in-LIFETIME_IDENT-clause-peeks
returns-in-LIFETIME_IDENT-clause-peeks c = peeks-within (peeks-then c.at.ensures.peeks (peeks-then c.at_new_arg.ensures.peeks (peeks-then c.at_type.ensures.peeks (peeks-then c.at_literal.ensures.peeks (c.current.ensures.peeks))))) (omega arith)

pub returns-in_default-clause-sees : goal.returns-in_default-clause-sees
unfolding look_of begins_below whole rule items statements expressions patterns types paths there_at shift passes is_silent begins in_mode from_start row one_of any_of no_longer longest is_longer
returns-in_default-clause-sees c cond = begins-row rules.generic_arg (saw-so (c.at.ensures.sees cond) c.if-at.false and saw-before c.at.ensures.peeks.same (saw-so (c.at_new_arg.ensures.sees cond) c.if-at_new_arg.false) and begun rules.any_type (saw-before c.at.ensures.peeks.same (saw-before c.at_new_arg.ensures.peeks.same (saw-so (c.at_type.ensures.sees cond) c.if-at_type.false))) (begun rules.literal (saw-before c.at.ensures.peeks.same (saw-before c.at_new_arg.ensures.peeks.same (saw-before c.at_type.ensures.peeks.same (saw-so (c.at_literal.ensures.sees cond) c.if-at_literal.false)))) (saw-before c.at.ensures.peeks.same (saw-before c.at_new_arg.ensures.peeks.same (saw-before c.at_type.ensures.peeks.same (saw-before c.at_literal.ensures.peeks.same (saw-not c.in_default.not-LIFETIME_IDENT (c.current.ensures.sees cond))))) and saw-before c.at.ensures.peeks.same (saw-before c.at_new_arg.ensures.peeks.same (saw-before c.at_type.ensures.peeks.same (saw-before c.at_literal.ensures.peeks.same (saw-not c.in_default.not-MINUS (c.current.ensures.sees cond))))) and nothing))) refl

pub returns-in_default-clause-peeks : goal.returns-in_default-clause-peeks
returns-in_default-clause-peeks c = peeks-within (peeks-then c.at.ensures.peeks (peeks-then c.at_new_arg.ensures.peeks (peeks-then c.at_type.ensures.peeks (peeks-then c.at_literal.ensures.peeks (c.current.ensures.peeks))))) (omega arith)

-- Each path reads what the rule comes to there.
use Rattle.std.proofs.Common.{inl, inr, refl, arith}
use Rattle.rust_grammar.specs.Expressions.{expressions}
use Rattle.rust_grammar.specs.Items.{items}
use Rattle.rust_grammar.specs.Meaning.{begins_below, look_of}
use Rattle.rust_grammar.specs.Notation.{any_of, is_longer, no_longer, longest, one_of, row}
use Rattle.rust_grammar.specs.Paths.{paths}
use Rattle.rust_grammar.specs.Patterns.{patterns}
use Rattle.rust_grammar.specs.Rule.{begins, in_mode, from_start, is_silent, passes, shift, there_at}
use Rattle.rust_grammar.specs.Statements.{statements}
use Rattle.rust_grammar.specs.Types.{types}
use Rattle.rust_grammar.specs.Whole.{rule, whole}
use Rattle.rust_grammar.specs.Rule as rules
use Rattle.rust_productions.proofs.Begins.{saw-expr-path, saw-path-begins, saw-type-path}
use Rattle.rust_productions.proofs.Facts.{begun, nothing, saw-so, ◌and◌}
use Rattle.rust_productions.proofs.Looking.{saw-arm, saw-not}
use Rattle.rust_productions.proofs.Seen.{saw-before, saw-told}
use Rattle.rust_productions.proofs.Peeking.{peeks-then, peeks-within, stays-then}
use Rattle.rust_productions.proofs.grammar.types.at_bare_type.Goals as goal

pub returns-then-not-at_whole-clause-sees : goal.returns-then-not-at_whole-clause-sees
unfolding look_of begins_below whole rule items statements expressions patterns types paths there_at shift passes is_silent begins in_mode from_start row one_of any_of no_longer longest is_longer
returns-then-not-at_whole-clause-sees c cond = saw-told (saw-so (c.at_whole.ensures.sees cond) c.if-not-at_whole.true and nothing) refl

pub returns-in-L_ANGLE-clause-sees : goal.returns-in-L_ANGLE-clause-sees
unfolding look_of begins_below whole rule items statements expressions patterns types paths there_at shift passes is_silent begins in_mode from_start row one_of any_of no_longer longest is_longer
returns-in-L_ANGLE-clause-sees c cond = saw-told (saw-so (c.at_whole.ensures.sees cond) c.if-not-at_whole.false and saw-before c.at_whole.ensures.same (saw-arm c.in-L_ANGLE.is (c.current.ensures.sees cond)) and nothing) refl

pub returns-in-L_ANGLE-clause-front : goal.returns-in-L_ANGLE-clause-front
unfolding look_of begins_below whole rule items statements expressions patterns types paths there_at shift passes is_silent begins in_mode from_start row one_of any_of no_longer longest is_longer
returns-in-L_ANGLE-clause-front c _ cond = saw-told (saw-so (c.at_whole.ensures.sees cond) c.if-not-at_whole.false and saw-before c.at_whole.ensures.same (saw-arm c.in-L_ANGLE.is (c.current.ensures.sees cond)) and nothing) refl

pub returns-in-L_ANGLE-clause-peeks : goal.returns-in-L_ANGLE-clause-peeks
returns-in-L_ANGLE-clause-peeks c = peeks-within (stays-then c.at_whole.ensures.same c.at_whole.ensures.stays (c.current.ensures.peeks)) (omega arith)

pub returns-then-at_second-clause-sees : goal.returns-then-at_second-clause-sees
unfolding look_of begins_below whole rule items statements expressions patterns types paths there_at shift passes is_silent begins in_mode from_start row one_of any_of no_longer longest is_longer
returns-then-at_second-clause-sees c cond = saw-told (saw-so (c.at_whole.ensures.sees cond) c.if-not-at_whole.false and saw-before c.at_whole.ensures.same (saw-arm c.in-FOR_KW.is (c.current.ensures.sees cond)) and saw-before c.at_whole.ensures.same (saw-before c.current.ensures.peeks.same (saw-so (c.at_second.ensures.sees cond) c.if-at_second.true)) and nothing) refl

pub returns-then-at_second-clause-front : goal.returns-then-at_second-clause-front
unfolding look_of begins_below whole rule items statements expressions patterns types paths there_at shift passes is_silent begins in_mode from_start row one_of any_of no_longer longest is_longer
returns-then-at_second-clause-front c _ cond = saw-told (saw-so (c.at_whole.ensures.sees cond) c.if-not-at_whole.false and saw-before c.at_whole.ensures.same (saw-arm c.in-FOR_KW.is (c.current.ensures.sees cond)) and saw-before c.at_whole.ensures.same (saw-before c.current.ensures.peeks.same (saw-so (c.at_second.ensures.sees cond) c.if-at_second.true)) and nothing) refl

pub returns-then-at_second-clause-peeks : goal.returns-then-at_second-clause-peeks
returns-then-at_second-clause-peeks c = peeks-within (stays-then c.at_whole.ensures.same c.at_whole.ensures.stays (peeks-then c.current.ensures.peeks (c.at_second.ensures.peeks))) (omega arith)

pub returns-else-at_second-clause-sees : goal.returns-else-at_second-clause-sees
unfolding look_of begins_below whole rule items statements expressions patterns types paths there_at shift passes is_silent begins in_mode from_start row one_of any_of no_longer longest is_longer
returns-else-at_second-clause-sees c cond = saw-told (saw-so (c.at_whole.ensures.sees cond) c.if-not-at_whole.false and saw-before c.at_whole.ensures.same (saw-arm c.in-FOR_KW.is (c.current.ensures.sees cond)) and saw-before c.at_whole.ensures.same (saw-before c.current.ensures.peeks.same (saw-so (c.at_second.ensures.sees cond) c.if-at_second.false)) and nothing) refl

pub returns-else-at_second-clause-peeks : goal.returns-else-at_second-clause-peeks
returns-else-at_second-clause-peeks c = peeks-within (stays-then c.at_whole.ensures.same c.at_whole.ensures.stays (peeks-then c.current.ensures.peeks (c.at_second.ensures.peeks))) (omega arith)

pub returns-then-not-at_path-clause-sees : goal.returns-then-not-at_path-clause-sees
unfolding look_of begins_below whole rule items statements expressions patterns types paths there_at shift passes is_silent begins in_mode from_start row one_of any_of no_longer longest is_longer
returns-then-not-at_path-clause-sees c cond = saw-told (saw-so (c.at_whole.ensures.sees cond) c.if-not-at_whole.false and saw-before c.at_whole.ensures.same (saw-not c.in_default.not-L_ANGLE (c.current.ensures.sees cond)) and saw-before c.at_whole.ensures.same (saw-not c.in_default.not-FOR_KW (c.current.ensures.sees cond)) and begun rules.type_path (saw-type-path (saw-before c.at_whole.ensures.same (saw-before c.current.ensures.peeks.same (saw-so (c.at_path.ensures.sees cond) c.if-not-at_path.true)))) (begun rules.expr_path (saw-expr-path (saw-before c.at_whole.ensures.same (saw-before c.current.ensures.peeks.same (saw-so (c.at_path.ensures.sees cond) c.if-not-at_path.true)))) (begun rules.path (saw-before c.at_whole.ensures.same (saw-before c.current.ensures.peeks.same (saw-so (c.at_path.ensures.sees cond) c.if-not-at_path.true))) (saw-path-begins (saw-before c.at_whole.ensures.same (saw-before c.current.ensures.peeks.same (saw-so (c.at_path.ensures.sees cond) c.if-not-at_path.true))) and nothing)))) refl

pub returns-then-not-at_path-clause-peeks : goal.returns-then-not-at_path-clause-peeks
returns-then-not-at_path-clause-peeks c = peeks-within (stays-then c.at_whole.ensures.same c.at_whole.ensures.stays (peeks-then c.current.ensures.peeks (c.at_path.ensures.peeks))) (omega arith)

pub returns-then-at_dyn_word-clause-sees : goal.returns-then-at_dyn_word-clause-sees
unfolding look_of begins_below whole rule items statements expressions patterns types paths there_at shift passes is_silent begins in_mode from_start row one_of any_of no_longer longest is_longer
returns-then-at_dyn_word-clause-sees c cond = saw-told (saw-so (c.at_whole.ensures.sees cond) c.if-not-at_whole.false and saw-before c.at_whole.ensures.same (saw-not c.in_default.not-L_ANGLE (c.current.ensures.sees cond)) and saw-before c.at_whole.ensures.same (saw-not c.in_default.not-FOR_KW (c.current.ensures.sees cond)) and begun rules.type_path (saw-type-path (saw-before c.at_whole.ensures.same (saw-before c.current.ensures.peeks.same (saw-so (c.at_path.ensures.sees cond) c.if-not-at_path.false)))) (begun rules.expr_path (saw-expr-path (saw-before c.at_whole.ensures.same (saw-before c.current.ensures.peeks.same (saw-so (c.at_path.ensures.sees cond) c.if-not-at_path.false)))) (begun rules.path (saw-before c.at_whole.ensures.same (saw-before c.current.ensures.peeks.same (saw-so (c.at_path.ensures.sees cond) c.if-not-at_path.false))) (saw-path-begins (saw-before c.at_whole.ensures.same (saw-before c.current.ensures.peeks.same (saw-so (c.at_path.ensures.sees cond) c.if-not-at_path.false))) and saw-before c.at_whole.ensures.same (saw-before c.current.ensures.peeks.same (saw-before c.at_path.ensures.peeks.same (saw-so (c.at_dyn_word.ensures.sees cond) c.if-at_dyn_word.true))) and nothing)))) refl

pub returns-then-at_dyn_word-clause-peeks : goal.returns-then-at_dyn_word-clause-peeks
returns-then-at_dyn_word-clause-peeks c = peeks-within (stays-then c.at_whole.ensures.same c.at_whole.ensures.stays (peeks-then c.current.ensures.peeks (peeks-then c.at_path.ensures.peeks (c.at_dyn_word.ensures.peeks)))) (omega arith)

pub returns-else-at_dyn_word-clause-sees : goal.returns-else-at_dyn_word-clause-sees
unfolding look_of begins_below whole rule items statements expressions patterns types paths there_at shift passes is_silent begins in_mode from_start row one_of any_of no_longer longest is_longer
returns-else-at_dyn_word-clause-sees c cond = saw-told (saw-so (c.at_whole.ensures.sees cond) c.if-not-at_whole.false and saw-before c.at_whole.ensures.same (saw-not c.in_default.not-L_ANGLE (c.current.ensures.sees cond)) and saw-before c.at_whole.ensures.same (saw-not c.in_default.not-FOR_KW (c.current.ensures.sees cond)) and begun rules.type_path (saw-type-path (saw-before c.at_whole.ensures.same (saw-before c.current.ensures.peeks.same (saw-so (c.at_path.ensures.sees cond) c.if-not-at_path.false)))) (begun rules.expr_path (saw-expr-path (saw-before c.at_whole.ensures.same (saw-before c.current.ensures.peeks.same (saw-so (c.at_path.ensures.sees cond) c.if-not-at_path.false)))) (begun rules.path (saw-before c.at_whole.ensures.same (saw-before c.current.ensures.peeks.same (saw-so (c.at_path.ensures.sees cond) c.if-not-at_path.false))) (saw-path-begins (saw-before c.at_whole.ensures.same (saw-before c.current.ensures.peeks.same (saw-so (c.at_path.ensures.sees cond) c.if-not-at_path.false))) and saw-before c.at_whole.ensures.same (saw-before c.current.ensures.peeks.same (saw-before c.at_path.ensures.peeks.same (saw-so (c.at_dyn_word.ensures.sees cond) c.if-at_dyn_word.false))) and nothing)))) refl

pub returns-else-at_dyn_word-clause-front : goal.returns-else-at_dyn_word-clause-front
unfolding look_of begins_below whole rule items statements expressions patterns types paths there_at shift passes is_silent begins in_mode from_start row one_of any_of no_longer longest is_longer
returns-else-at_dyn_word-clause-front c _ cond = saw-told (saw-so (c.at_whole.ensures.sees cond) c.if-not-at_whole.false and saw-before c.at_whole.ensures.same (saw-not c.in_default.not-L_ANGLE (c.current.ensures.sees cond)) and saw-before c.at_whole.ensures.same (saw-not c.in_default.not-FOR_KW (c.current.ensures.sees cond)) and begun rules.type_path (saw-type-path (saw-before c.at_whole.ensures.same (saw-before c.current.ensures.peeks.same (saw-so (c.at_path.ensures.sees cond) c.if-not-at_path.false)))) (begun rules.expr_path (saw-expr-path (saw-before c.at_whole.ensures.same (saw-before c.current.ensures.peeks.same (saw-so (c.at_path.ensures.sees cond) c.if-not-at_path.false)))) (begun rules.path (saw-before c.at_whole.ensures.same (saw-before c.current.ensures.peeks.same (saw-so (c.at_path.ensures.sees cond) c.if-not-at_path.false))) (saw-path-begins (saw-before c.at_whole.ensures.same (saw-before c.current.ensures.peeks.same (saw-so (c.at_path.ensures.sees cond) c.if-not-at_path.false))) and saw-before c.at_whole.ensures.same (saw-before c.current.ensures.peeks.same (saw-before c.at_path.ensures.peeks.same (saw-so (c.at_dyn_word.ensures.sees cond) c.if-at_dyn_word.false))) and nothing)))) refl

pub returns-else-at_dyn_word-clause-peeks : goal.returns-else-at_dyn_word-clause-peeks
returns-else-at_dyn_word-clause-peeks c = peeks-within (stays-then c.at_whole.ensures.same c.at_whole.ensures.stays (peeks-then c.current.ensures.peeks (peeks-then c.at_path.ensures.peeks (c.at_dyn_word.ensures.peeks)))) (omega arith)

-- Each path reads what the rule comes to there.
use Rattle.std.proofs.Common.{inl, inr, refl, arith}
use Rattle.rust_grammar.specs.Expressions.{expressions}
use Rattle.rust_grammar.specs.Items.{items}
use Rattle.rust_grammar.specs.Meaning.{begins_below, look_of}
use Rattle.rust_grammar.specs.Notation.{any_of, is_longer, no_longer, longest, one_of, row}
use Rattle.rust_grammar.specs.Paths.{paths}
use Rattle.rust_grammar.specs.Patterns.{patterns}
use Rattle.rust_grammar.specs.Rule.{begins, in_mode, from_start, is_silent, passes, shift, there_at}
use Rattle.rust_grammar.specs.Statements.{statements}
use Rattle.rust_grammar.specs.Types.{types}
use Rattle.rust_grammar.specs.Whole.{rule, whole}
use Rattle.rust_productions.proofs.Facts.{nothing, saw-so, ◌and◌}
use Rattle.rust_productions.proofs.Looking.{saw-arm, saw-not}
use Rattle.rust_productions.proofs.Seen.{saw-before, saw-told}
use Rattle.rust_productions.proofs.Peeking.{peeks-then, peeks-within, stays-then}
use Rattle.rust_productions.proofs.Staying.{stays-peeks}
use Rattle.rust_productions.proofs.grammar.expression_words.at_new_atom.Goals as goal

pub returns-then-not-at_whole-clause-sees : goal.returns-then-not-at_whole-clause-sees
unfolding look_of begins_below whole rule items statements expressions patterns types paths there_at shift passes is_silent begins in_mode from_start row one_of any_of no_longer longest is_longer
returns-then-not-at_whole-clause-sees c cond = saw-told (saw-so (c.at_whole.ensures.sees cond) c.if-not-at_whole.true and nothing) refl

pub returns-then-not-at_whole-clause-peeks : goal.returns-then-not-at_whole-clause-peeks
returns-then-not-at_whole-clause-peeks c = peeks-within (stays-peeks c.at_whole.ensures.same c.at_whole.ensures.stays) (omega arith)

pub returns-in-LET_KW-clause-sees : goal.returns-in-LET_KW-clause-sees
unfolding look_of begins_below whole rule items statements expressions patterns types paths there_at shift passes is_silent begins in_mode from_start row one_of any_of no_longer longest is_longer
returns-in-LET_KW-clause-sees c cond = elim c.in-LET_KW.is [ inl a0 ↦ saw-told (saw-so (c.at_whole.ensures.sees cond) c.if-not-at_whole.false and saw-before c.at_whole.ensures.same (saw-arm a0 (c.current.ensures.sees cond)) and nothing) refl | inr b0 ↦ elim b0 [ inl a1 ↦ saw-told (saw-so (c.at_whole.ensures.sees cond) c.if-not-at_whole.false and saw-before c.at_whole.ensures.same (saw-arm a1 (c.current.ensures.sees cond)) and nothing) refl | inr b1 ↦ elim b1 [ inl a2 ↦ saw-told (saw-so (c.at_whole.ensures.sees cond) c.if-not-at_whole.false and saw-before c.at_whole.ensures.same (saw-arm a2 (c.current.ensures.sees cond)) and nothing) refl | inr b2 ↦ saw-told (saw-so (c.at_whole.ensures.sees cond) c.if-not-at_whole.false and saw-before c.at_whole.ensures.same (saw-arm b2 (c.current.ensures.sees cond)) and nothing) refl ] ] ]

pub returns-in-LET_KW-clause-peeks : goal.returns-in-LET_KW-clause-peeks
returns-in-LET_KW-clause-peeks c = peeks-within (stays-then c.at_whole.ensures.same c.at_whole.ensures.stays (c.current.ensures.peeks)) (omega arith)

pub returns-then-at_second-clause-sees : goal.returns-then-at_second-clause-sees
unfolding look_of begins_below whole rule items statements expressions patterns types paths there_at shift passes is_silent begins in_mode from_start row one_of any_of no_longer longest is_longer
returns-then-at_second-clause-sees c cond = saw-told (saw-so (c.at_whole.ensures.sees cond) c.if-not-at_whole.false and saw-before c.at_whole.ensures.same (saw-arm c.in-L_ANGLE.is (c.current.ensures.sees cond)) and saw-before c.at_whole.ensures.same (saw-before c.current.ensures.peeks.same (saw-so (c.at_second.ensures.sees cond) c.if-at_second.true)) and nothing) refl

pub returns-then-at_second-clause-peeks : goal.returns-then-at_second-clause-peeks
returns-then-at_second-clause-peeks c = peeks-within (stays-then c.at_whole.ensures.same c.at_whole.ensures.stays (peeks-then c.current.ensures.peeks (c.at_second.ensures.peeks))) (omega arith)

pub returns-else-at_second-clause-sees : goal.returns-else-at_second-clause-sees
unfolding look_of begins_below whole rule items statements expressions patterns types paths there_at shift passes is_silent begins in_mode from_start row one_of any_of no_longer longest is_longer
returns-else-at_second-clause-sees c cond = saw-told (saw-so (c.at_whole.ensures.sees cond) c.if-not-at_whole.false and saw-before c.at_whole.ensures.same (saw-arm c.in-L_ANGLE.is (c.current.ensures.sees cond)) and saw-before c.at_whole.ensures.same (saw-before c.current.ensures.peeks.same (saw-so (c.at_second.ensures.sees cond) c.if-at_second.false)) and nothing) refl

pub returns-else-at_second-clause-peeks : goal.returns-else-at_second-clause-peeks
returns-else-at_second-clause-peeks c = peeks-within (stays-then c.at_whole.ensures.same c.at_whole.ensures.stays (peeks-then c.current.ensures.peeks (c.at_second.ensures.peeks))) (omega arith)

pub returns-then-at_second-2-clause-sees : goal.returns-then-at_second-2-clause-sees
unfolding look_of begins_below whole rule items statements expressions patterns types paths there_at shift passes is_silent begins in_mode from_start row one_of any_of no_longer longest is_longer
returns-then-at_second-2-clause-sees c cond = saw-told (saw-so (c.at_whole.ensures.sees cond) c.if-not-at_whole.false and saw-before c.at_whole.ensures.same (saw-arm c.in-FOR_KW.is (c.current.ensures.sees cond)) and saw-before c.at_whole.ensures.same (saw-before c.current.ensures.peeks.same (saw-so (c.at_second-in-FOR_KW.ensures.sees cond) c.if-at_second-2.true)) and nothing) refl

pub returns-then-at_second-2-clause-peeks : goal.returns-then-at_second-2-clause-peeks
returns-then-at_second-2-clause-peeks c = peeks-within (stays-then c.at_whole.ensures.same c.at_whole.ensures.stays (peeks-then c.current.ensures.peeks (c.at_second-in-FOR_KW.ensures.peeks))) (omega arith)

pub returns-else-at_second-2-clause-sees : goal.returns-else-at_second-2-clause-sees
unfolding look_of begins_below whole rule items statements expressions patterns types paths there_at shift passes is_silent begins in_mode from_start row one_of any_of no_longer longest is_longer
returns-else-at_second-2-clause-sees c cond = saw-told (saw-so (c.at_whole.ensures.sees cond) c.if-not-at_whole.false and saw-before c.at_whole.ensures.same (saw-arm c.in-FOR_KW.is (c.current.ensures.sees cond)) and saw-before c.at_whole.ensures.same (saw-before c.current.ensures.peeks.same (saw-so (c.at_second-in-FOR_KW.ensures.sees cond) c.if-at_second-2.false)) and nothing) refl

pub returns-else-at_second-2-clause-peeks : goal.returns-else-at_second-2-clause-peeks
returns-else-at_second-2-clause-peeks c = peeks-within (stays-then c.at_whole.ensures.same c.at_whole.ensures.stays (peeks-then c.current.ensures.peeks (c.at_second-in-FOR_KW.ensures.peeks))) (omega arith)

pub returns-then-at_const_closure-clause-sees : goal.returns-then-at_const_closure-clause-sees
unfolding look_of begins_below whole rule items statements expressions patterns types paths there_at shift passes is_silent begins in_mode from_start row one_of any_of no_longer longest is_longer
returns-then-at_const_closure-clause-sees c cond = saw-told (saw-so (c.at_whole.ensures.sees cond) c.if-not-at_whole.false and saw-before c.at_whole.ensures.same (saw-not c.in_default.not-LET_KW (c.current.ensures.sees cond)) and saw-before c.at_whole.ensures.same (saw-not c.in_default.not-UNDERSCORE (c.current.ensures.sees cond)) and saw-before c.at_whole.ensures.same (saw-not c.in_default.not-ASYNC_KW (c.current.ensures.sees cond)) and saw-before c.at_whole.ensures.same (saw-not c.in_default.not-STATIC_KW (c.current.ensures.sees cond)) and saw-before c.at_whole.ensures.same (saw-not c.in_default.not-L_ANGLE (c.current.ensures.sees cond)) and saw-before c.at_whole.ensures.same (saw-not c.in_default.not-FOR_KW (c.current.ensures.sees cond)) and saw-before c.at_whole.ensures.same (saw-before c.current.ensures.peeks.same (saw-so (c.at_const_closure.ensures.sees cond) c.if-at_const_closure.true)) and nothing) refl

pub returns-then-at_const_closure-clause-peeks : goal.returns-then-at_const_closure-clause-peeks
returns-then-at_const_closure-clause-peeks c = peeks-within (stays-then c.at_whole.ensures.same c.at_whole.ensures.stays (peeks-then c.current.ensures.peeks (c.at_const_closure.ensures.peeks))) (omega arith)

pub returns-else-at_const_closure-clause-sees : goal.returns-else-at_const_closure-clause-sees
unfolding look_of begins_below whole rule items statements expressions patterns types paths there_at shift passes is_silent begins in_mode from_start row one_of any_of no_longer longest is_longer
returns-else-at_const_closure-clause-sees c cond = saw-told (saw-so (c.at_whole.ensures.sees cond) c.if-not-at_whole.false and saw-before c.at_whole.ensures.same (saw-not c.in_default.not-LET_KW (c.current.ensures.sees cond)) and saw-before c.at_whole.ensures.same (saw-not c.in_default.not-UNDERSCORE (c.current.ensures.sees cond)) and saw-before c.at_whole.ensures.same (saw-not c.in_default.not-ASYNC_KW (c.current.ensures.sees cond)) and saw-before c.at_whole.ensures.same (saw-not c.in_default.not-STATIC_KW (c.current.ensures.sees cond)) and saw-before c.at_whole.ensures.same (saw-not c.in_default.not-L_ANGLE (c.current.ensures.sees cond)) and saw-before c.at_whole.ensures.same (saw-not c.in_default.not-FOR_KW (c.current.ensures.sees cond)) and saw-before c.at_whole.ensures.same (saw-before c.current.ensures.peeks.same (saw-so (c.at_const_closure.ensures.sees cond) c.if-at_const_closure.false)) and nothing) refl

pub returns-else-at_const_closure-clause-peeks : goal.returns-else-at_const_closure-clause-peeks
returns-else-at_const_closure-clause-peeks c = peeks-within (stays-then c.at_whole.ensures.same c.at_whole.ensures.stays (peeks-then c.current.ensures.peeks (c.at_const_closure.ensures.peeks))) (omega arith)

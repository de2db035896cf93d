-- Each path reads what the rule comes to there.
use Rattle.std.proofs.Common.{inl, inr, refl, arith}
use Rattle.rust_grammar.specs.Expressions.{expressions}
use Rattle.rust_grammar.specs.Items.{items}
use Rattle.rust_grammar.specs.Meaning.{begins_below, look_of}
use Rattle.rust_grammar.specs.Notation.{any_of, is_longer, no_longer, longest, one_of, row}
use Rattle.rust_grammar.specs.Paths.{paths}
use Rattle.rust_grammar.specs.Patterns.{patterns}
use Rattle.rust_grammar.specs.Rule.{begins, in_mode, from_start, is_silent, passes, shift, there_at}
use Rattle.rust_grammar.specs.Statements.{statements}
use Rattle.rust_grammar.specs.Types.{types}
use Rattle.rust_grammar.specs.Whole.{rule, whole}
use Rattle.rust_productions.proofs.Facts.{nothing, saw-so, ◌and◌}
use Rattle.rust_productions.proofs.Looking.{saw-arm, saw-not}
use Rattle.rust_productions.proofs.Seen.{saw-before, saw-told}
use Rattle.rust_productions.proofs.Peeking.{peeks-then, peeks-within, stays-then}
use Rattle.rust_productions.proofs.grammar.generic_params.at_new_bound.Goals as goal

pub returns-then-not-at_whole-clause-sees : goal.returns-then-not-at_whole-clause-sees
unfolding look_of begins_below whole rule items statements expressions patterns types paths there_at shift passes is_silent begins in_mode from_start row one_of any_of no_longer longest is_longer
returns-then-not-at_whole-clause-sees c cond = saw-told (saw-so (c.at_whole.ensures.sees cond) c.if-not-at_whole.true and nothing) refl

pub returns-then-not-at_whole-clause-peeks : goal.returns-then-not-at_whole-clause-peeks
returns-then-not-at_whole-clause-peeks c = record { same = c.at_whole.ensures.same; left = c.at_whole.ensures.stays.left; looks = omega (arith, c.at_whole.ensures.stays.looks) }

pub returns-in-L_PAREN-clause-sees : goal.returns-in-L_PAREN-clause-sees
unfolding look_of begins_below whole rule items statements expressions patterns types paths there_at shift passes is_silent begins in_mode from_start row one_of any_of no_longer longest is_longer
returns-in-L_PAREN-clause-sees c cond = elim c.in-L_PAREN.is [ inl a0 ↦ saw-told (saw-so (c.at_whole.ensures.sees cond) c.if-not-at_whole.false and saw-before c.at_whole.ensures.same (saw-arm a0 (c.current.ensures.sees cond)) and nothing) refl | inr b0 ↦ elim b0 [ inl a1 ↦ saw-told (saw-so (c.at_whole.ensures.sees cond) c.if-not-at_whole.false and saw-before c.at_whole.ensures.same (saw-arm a1 (c.current.ensures.sees cond)) and nothing) refl | inr b1 ↦ saw-told (saw-so (c.at_whole.ensures.sees cond) c.if-not-at_whole.false and saw-before c.at_whole.ensures.same (saw-arm b1 (c.current.ensures.sees cond)) and nothing) refl ] ]

pub returns-in-L_PAREN-clause-peeks : goal.returns-in-L_PAREN-clause-peeks
returns-in-L_PAREN-clause-peeks c = peeks-within (stays-then c.at_whole.ensures.same c.at_whole.ensures.stays c.current.ensures.peeks) (omega arith)

pub returns-then-at_second-clause-sees : goal.returns-then-at_second-clause-sees
unfolding look_of begins_below whole rule items statements expressions patterns types paths there_at shift passes is_silent begins in_mode from_start row one_of any_of no_longer longest is_longer
returns-then-at_second-clause-sees c cond = saw-told (saw-so (c.at_whole.ensures.sees cond) c.if-not-at_whole.false and saw-before c.at_whole.ensures.same (saw-arm c.in-TILDE.is (c.current.ensures.sees cond)) and saw-before c.at_whole.ensures.same (saw-before c.current.ensures.peeks.same (saw-so (c.at_second.ensures.sees cond) c.if-at_second.true)) and nothing) refl

pub returns-then-at_second-clause-peeks : goal.returns-then-at_second-clause-peeks
returns-then-at_second-clause-peeks c = peeks-within (stays-then c.at_whole.ensures.same c.at_whole.ensures.stays (peeks-then c.current.ensures.peeks c.at_second.ensures.peeks)) (omega arith)

pub returns-else-at_second-clause-sees : goal.returns-else-at_second-clause-sees
unfolding look_of begins_below whole rule items statements expressions patterns types paths there_at shift passes is_silent begins in_mode from_start row one_of any_of no_longer longest is_longer
returns-else-at_second-clause-sees c cond = saw-told (saw-so (c.at_whole.ensures.sees cond) c.if-not-at_whole.false and saw-before c.at_whole.ensures.same (saw-arm c.in-TILDE.is (c.current.ensures.sees cond)) and saw-before c.at_whole.ensures.same (saw-before c.current.ensures.peeks.same (saw-so (c.at_second.ensures.sees cond) c.if-at_second.false)) and nothing) refl

pub returns-else-at_second-clause-peeks : goal.returns-else-at_second-clause-peeks
returns-else-at_second-clause-peeks c = peeks-within (stays-then c.at_whole.ensures.same c.at_whole.ensures.stays (peeks-then c.current.ensures.peeks c.at_second.ensures.peeks)) (omega arith)

pub returns-then-at_second-2-clause-sees : goal.returns-then-at_second-2-clause-sees
unfolding look_of begins_below whole rule items statements expressions patterns types paths there_at shift passes is_silent begins in_mode from_start row one_of any_of no_longer longest is_longer
returns-then-at_second-2-clause-sees c cond = elim c.in-FOR_KW.is [ inl a0 ↦ saw-told (saw-so (c.at_whole.ensures.sees cond) c.if-not-at_whole.false and saw-before c.at_whole.ensures.same (saw-arm a0 (c.current.ensures.sees cond)) and saw-before c.at_whole.ensures.same (saw-before c.current.ensures.peeks.same (saw-so (c.at_second-in-FOR_KW.ensures.sees cond) c.if-at_second-2.true)) and nothing) refl | inr b0 ↦ saw-told (saw-so (c.at_whole.ensures.sees cond) c.if-not-at_whole.false and saw-before c.at_whole.ensures.same (saw-arm b0 (c.current.ensures.sees cond)) and saw-before c.at_whole.ensures.same (saw-before c.current.ensures.peeks.same (saw-so (c.at_second-in-FOR_KW.ensures.sees cond) c.if-at_second-2.true)) and nothing) refl ]

pub returns-then-at_second-2-clause-peeks : goal.returns-then-at_second-2-clause-peeks
returns-then-at_second-2-clause-peeks c = peeks-within (stays-then c.at_whole.ensures.same c.at_whole.ensures.stays (peeks-then c.current.ensures.peeks c.at_second-in-FOR_KW.ensures.peeks)) (omega arith)

pub returns-else-at_second-2-clause-sees : goal.returns-else-at_second-2-clause-sees
unfolding look_of begins_below whole rule items statements expressions patterns types paths there_at shift passes is_silent begins in_mode from_start row one_of any_of no_longer longest is_longer
returns-else-at_second-2-clause-sees c cond = elim c.in-FOR_KW.is [ inl a0 ↦ saw-told (saw-so (c.at_whole.ensures.sees cond) c.if-not-at_whole.false and saw-before c.at_whole.ensures.same (saw-arm a0 (c.current.ensures.sees cond)) and saw-before c.at_whole.ensures.same (saw-before c.current.ensures.peeks.same (saw-so (c.at_second-in-FOR_KW.ensures.sees cond) c.if-at_second-2.false)) and nothing) refl | inr b0 ↦ saw-told (saw-so (c.at_whole.ensures.sees cond) c.if-not-at_whole.false and saw-before c.at_whole.ensures.same (saw-arm b0 (c.current.ensures.sees cond)) and saw-before c.at_whole.ensures.same (saw-before c.current.ensures.peeks.same (saw-so (c.at_second-in-FOR_KW.ensures.sees cond) c.if-at_second-2.false)) and nothing) refl ]

pub returns-else-at_second-2-clause-peeks : goal.returns-else-at_second-2-clause-peeks
returns-else-at_second-2-clause-peeks c = peeks-within (stays-then c.at_whole.ensures.same c.at_whole.ensures.stays (peeks-then c.current.ensures.peeks c.at_second-in-FOR_KW.ensures.peeks)) (omega arith)

pub returns-then-not-at_second-clause-sees : goal.returns-then-not-at_second-clause-sees
unfolding look_of begins_below whole rule items statements expressions patterns types paths there_at shift passes is_silent begins in_mode from_start row one_of any_of no_longer longest is_longer
returns-then-not-at_second-clause-sees c cond = saw-told (saw-so (c.at_whole.ensures.sees cond) c.if-not-at_whole.false and saw-before c.at_whole.ensures.same (saw-arm c.in-L_BRACK.is (c.current.ensures.sees cond)) and saw-before c.at_whole.ensures.same (saw-before c.current.ensures.peeks.same (saw-so (c.at_second-in-L_BRACK.ensures.sees cond) c.if-not-at_second.true)) and nothing) refl

pub returns-then-not-at_second-clause-peeks : goal.returns-then-not-at_second-clause-peeks
returns-then-not-at_second-clause-peeks c = peeks-within (stays-then c.at_whole.ensures.same c.at_whole.ensures.stays (peeks-then c.current.ensures.peeks c.at_second-in-L_BRACK.ensures.peeks)) (omega arith)

pub returns-then-at_third-clause-sees : goal.returns-then-at_third-clause-sees
unfolding look_of begins_below whole rule items statements expressions patterns types paths there_at shift passes is_silent begins in_mode from_start row one_of any_of no_longer longest is_longer
returns-then-at_third-clause-sees c cond = saw-told (saw-so (c.at_whole.ensures.sees cond) c.if-not-at_whole.false and saw-before c.at_whole.ensures.same (saw-arm c.in-L_BRACK.is (c.current.ensures.sees cond)) and saw-before c.at_whole.ensures.same (saw-before c.current.ensures.peeks.same (saw-so (c.at_second-in-L_BRACK.ensures.sees cond) c.if-not-at_second.false)) and saw-before c.at_whole.ensures.same (saw-before c.current.ensures.peeks.same (saw-before c.at_second-in-L_BRACK.ensures.peeks.same (saw-so (c.at_third.ensures.sees cond) c.if-at_third.true))) and nothing) refl

pub returns-then-at_third-clause-peeks : goal.returns-then-at_third-clause-peeks
returns-then-at_third-clause-peeks c = stays-then c.at_whole.ensures.same c.at_whole.ensures.stays (peeks-then c.current.ensures.peeks (peeks-then c.at_second-in-L_BRACK.ensures.peeks c.at_third.ensures.peeks))

pub returns-else-at_third-clause-sees : goal.returns-else-at_third-clause-sees
unfolding look_of begins_below whole rule items statements expressions patterns types paths there_at shift passes is_silent begins in_mode from_start row one_of any_of no_longer longest is_longer
returns-else-at_third-clause-sees c cond = saw-told (saw-so (c.at_whole.ensures.sees cond) c.if-not-at_whole.false and saw-before c.at_whole.ensures.same (saw-arm c.in-L_BRACK.is (c.current.ensures.sees cond)) and saw-before c.at_whole.ensures.same (saw-before c.current.ensures.peeks.same (saw-so (c.at_second-in-L_BRACK.ensures.sees cond) c.if-not-at_second.false)) and saw-before c.at_whole.ensures.same (saw-before c.current.ensures.peeks.same (saw-before c.at_second-in-L_BRACK.ensures.peeks.same (saw-so (c.at_third.ensures.sees cond) c.if-at_third.false))) and nothing) refl

pub returns-else-at_third-clause-peeks : goal.returns-else-at_third-clause-peeks
returns-else-at_third-clause-peeks c = stays-then c.at_whole.ensures.same c.at_whole.ensures.stays (peeks-then c.current.ensures.peeks (peeks-then c.at_second-in-L_BRACK.ensures.peeks c.at_third.ensures.peeks))

pub returns-in_default-clause-sees : goal.returns-in_default-clause-sees
unfolding look_of begins_below whole rule items statements expressions patterns types paths there_at shift passes is_silent begins in_mode from_start row one_of any_of no_longer longest is_longer
returns-in_default-clause-sees c cond = saw-told (saw-so (c.at_whole.ensures.sees cond) c.if-not-at_whole.false and saw-before c.at_whole.ensures.same (saw-not c.in_default.not-L_PAREN (c.current.ensures.sees cond)) and saw-before c.at_whole.ensures.same (saw-not c.in_default.not-ASYNC_KW (c.current.ensures.sees cond)) and saw-before c.at_whole.ensures.same (saw-not c.in_default.not-CONST_KW (c.current.ensures.sees cond)) and saw-before c.at_whole.ensures.same (saw-not c.in_default.not-TILDE (c.current.ensures.sees cond)) and saw-before c.at_whole.ensures.same (saw-not c.in_default.not-FOR_KW (c.current.ensures.sees cond)) and saw-before c.at_whole.ensures.same (saw-not c.in_default.not-USE_KW (c.current.ensures.sees cond)) and saw-before c.at_whole.ensures.same (saw-not c.in_default.not-L_BRACK (c.current.ensures.sees cond)) and nothing) refl

pub returns-in_default-clause-peeks : goal.returns-in_default-clause-peeks
returns-in_default-clause-peeks c = peeks-within (stays-then c.at_whole.ensures.same c.at_whole.ensures.stays c.current.ensures.peeks) (omega arith)

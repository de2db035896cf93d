-- Each path reads what the rule comes to there.
use Rattle.std.proofs.Common.{inl, inr, refl, arith}
use Rattle.rust_grammar.specs.Expressions.{expressions}
use Rattle.rust_grammar.specs.Items.{items}
use Rattle.rust_grammar.specs.Meaning.{begins_below, look_of}
use Rattle.rust_grammar.specs.Notation.{any_of, is_longer, no_longer, longest, one_of, row}
use Rattle.rust_grammar.specs.Paths.{paths}
use Rattle.rust_grammar.specs.Patterns.{patterns}
use Rattle.rust_grammar.specs.Rule.{begins, in_mode, from_start, is_silent, passes, shift, there_at}
use Rattle.rust_grammar.specs.Statements.{statements}
use Rattle.rust_grammar.specs.Types.{types}
use Rattle.rust_grammar.specs.Whole.{rule, whole}
use Rattle.rust_grammar.specs.Rule as rules
use Rattle.rust_productions.proofs.Facts.{nothing, saw-so, ◌and◌}
use Rattle.rust_productions.proofs.Looking.{saw-arm, saw-not}
use Rattle.rust_productions.proofs.Seen.{saw-before, saw-told}
use Rattle.rust_productions.proofs.Peeking.{peeks-then, peeks-within, stays-then}
use Rattle.rust_productions.proofs.grammar.types.at_dyn_word.Goals as goal

pub returns-then-not-at_contextual-clause-sees : goal.returns-then-not-at_contextual-clause-sees
unfolding look_of begins_below whole rule items statements expressions patterns types paths there_at shift passes is_silent begins in_mode from_start row one_of any_of no_longer longest is_longer
returns-then-not-at_contextual-clause-sees c cond = saw-told (saw-so (c.at_contextual.ensures.sees cond) c.if-not-at_contextual.true and nothing) refl

pub returns-in-QUESTION-clause-sees : goal.returns-in-QUESTION-clause-sees
unfolding look_of begins_below whole rule items statements expressions patterns types paths there_at shift passes is_silent begins in_mode from_start row one_of any_of no_longer longest is_longer
returns-in-QUESTION-clause-sees c cond = elim c.in-QUESTION.is [ inl a0 ↦ saw-told (saw-so (c.at_contextual.ensures.sees cond) c.if-not-at_contextual.false and saw-before c.at_contextual.ensures.same (saw-arm a0 (c.nth.ensures.sees cond)) and nothing) refl | inr b0 ↦ elim b0 [ inl a1 ↦ saw-told (saw-so (c.at_contextual.ensures.sees cond) c.if-not-at_contextual.false and saw-before c.at_contextual.ensures.same (saw-arm a1 (c.nth.ensures.sees cond)) and nothing) refl | inr b1 ↦ elim b1 [ inl a2 ↦ saw-told (saw-so (c.at_contextual.ensures.sees cond) c.if-not-at_contextual.false and saw-before c.at_contextual.ensures.same (saw-arm a2 (c.nth.ensures.sees cond)) and nothing) refl | inr b2 ↦ elim b2 [ inl a3 ↦ saw-told (saw-so (c.at_contextual.ensures.sees cond) c.if-not-at_contextual.false and saw-before c.at_contextual.ensures.same (saw-arm a3 (c.nth.ensures.sees cond)) and nothing) refl | inr b3 ↦ elim b3 [ inl a4 ↦ saw-told (saw-so (c.at_contextual.ensures.sees cond) c.if-not-at_contextual.false and saw-before c.at_contextual.ensures.same (saw-arm a4 (c.nth.ensures.sees cond)) and nothing) refl | inr b4 ↦ elim b4 [ inl a5 ↦ saw-told (saw-so (c.at_contextual.ensures.sees cond) c.if-not-at_contextual.false and saw-before c.at_contextual.ensures.same (saw-arm a5 (c.nth.ensures.sees cond)) and nothing) refl | inr b5 ↦ saw-told (saw-so (c.at_contextual.ensures.sees cond) c.if-not-at_contextual.false and saw-before c.at_contextual.ensures.same (saw-arm b5 (c.nth.ensures.sees cond)) and nothing) refl ] ] ] ] ] ]

pub returns-in-QUESTION-clause-peeks : goal.returns-in-QUESTION-clause-peeks
returns-in-QUESTION-clause-peeks c = peeks-within (stays-then c.at_contextual.ensures.same c.at_contextual.ensures.stays (c.nth.ensures.peeks)) (omega arith)

pub returns-then-at_new_after_dyn-clause-sees : goal.returns-then-at_new_after_dyn-clause-sees
unfolding look_of begins_below whole rule items statements expressions patterns types paths there_at shift passes is_silent begins in_mode from_start row one_of any_of no_longer longest is_longer
returns-then-at_new_after_dyn-clause-sees c cond = saw-told (saw-so (c.at_contextual.ensures.sees cond) c.if-not-at_contextual.false and saw-before c.at_contextual.ensures.same (saw-not c.in_default.not-QUESTION (c.nth.ensures.sees cond)) and saw-before c.at_contextual.ensures.same (saw-not c.in_default.not-LIFETIME_IDENT (c.nth.ensures.sees cond)) and saw-before c.at_contextual.ensures.same (saw-not c.in_default.not-IDENT (c.nth.ensures.sees cond)) and saw-before c.at_contextual.ensures.same (saw-not c.in_default.not-SELF_KW (c.nth.ensures.sees cond)) and saw-before c.at_contextual.ensures.same (saw-not c.in_default.not-SUPER_KW (c.nth.ensures.sees cond)) and saw-before c.at_contextual.ensures.same (saw-not c.in_default.not-CRATE_KW (c.nth.ensures.sees cond)) and saw-before c.at_contextual.ensures.same (saw-not c.in_default.not-SELF_TYPE_KW (c.nth.ensures.sees cond)) and saw-before c.at_contextual.ensures.same (saw-before c.nth.ensures.peeks.same (saw-so (c.at_new_after_dyn.ensures.sees cond) c.if-at_new_after_dyn.true)) and nothing) refl

pub returns-then-at_new_after_dyn-clause-peeks : goal.returns-then-at_new_after_dyn-clause-peeks
returns-then-at_new_after_dyn-clause-peeks c = peeks-within (stays-then c.at_contextual.ensures.same c.at_contextual.ensures.stays (peeks-then c.nth.ensures.peeks (c.at_new_after_dyn.ensures.peeks))) (omega arith)

pub returns-else-at_new_after_dyn-clause-sees : goal.returns-else-at_new_after_dyn-clause-sees
unfolding look_of begins_below whole rule items statements expressions patterns types paths there_at shift passes is_silent begins in_mode from_start row one_of any_of no_longer longest is_longer
returns-else-at_new_after_dyn-clause-sees c cond = saw-told (saw-so (c.at_contextual.ensures.sees cond) c.if-not-at_contextual.false and saw-before c.at_contextual.ensures.same (saw-not c.in_default.not-QUESTION (c.nth.ensures.sees cond)) and saw-before c.at_contextual.ensures.same (saw-not c.in_default.not-LIFETIME_IDENT (c.nth.ensures.sees cond)) and saw-before c.at_contextual.ensures.same (saw-not c.in_default.not-IDENT (c.nth.ensures.sees cond)) and saw-before c.at_contextual.ensures.same (saw-not c.in_default.not-SELF_KW (c.nth.ensures.sees cond)) and saw-before c.at_contextual.ensures.same (saw-not c.in_default.not-SUPER_KW (c.nth.ensures.sees cond)) and saw-before c.at_contextual.ensures.same (saw-not c.in_default.not-CRATE_KW (c.nth.ensures.sees cond)) and saw-before c.at_contextual.ensures.same (saw-not c.in_default.not-SELF_TYPE_KW (c.nth.ensures.sees cond)) and saw-before c.at_contextual.ensures.same (saw-before c.nth.ensures.peeks.same (saw-so (c.at_new_after_dyn.ensures.sees cond) c.if-at_new_after_dyn.false)) and nothing) refl

pub returns-else-at_new_after_dyn-clause-peeks : goal.returns-else-at_new_after_dyn-clause-peeks
returns-else-at_new_after_dyn-clause-peeks c = peeks-within (stays-then c.at_contextual.ensures.same c.at_contextual.ensures.stays (peeks-then c.nth.ensures.peeks (c.at_new_after_dyn.ensures.peeks))) (omega arith)

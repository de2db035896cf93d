-- Each path reads what the rule comes to there.
use Rattle.std.proofs.Common.{inl, inr, refl, arith}
use Rattle.rust_grammar.specs.Expressions.{expressions}
use Rattle.rust_grammar.specs.Items.{items}
use Rattle.rust_grammar.specs.Meaning.{begins_below, look_of}
use Rattle.rust_grammar.specs.Notation.{any_of, is_longer, no_longer, longest, one_of, row}
use Rattle.rust_grammar.specs.Paths.{paths}
use Rattle.rust_grammar.specs.Patterns.{patterns}
use Rattle.rust_grammar.specs.Rule.{begins, in_mode, from_start, is_silent, passes, shift, there_at}
use Rattle.rust_grammar.specs.Statements.{statements}
use Rattle.rust_grammar.specs.Types.{types}
use Rattle.rust_grammar.specs.Whole.{rule, whole}
use Rattle.rust_productions.specs.Reads.{On}
use Rattle.rust_productions.proofs.Facts.{nothing, saw-so, ◌and◌}
use Rattle.rust_productions.proofs.NoPath.{two-there}
use Rattle.rust_productions.proofs.Looking.{saw-arm, saw-not}
use Rattle.rust_productions.proofs.Seen.{saw-before, saw-told}
use Rattle.rust_productions.proofs.Peeking.{peeks-then, peeks-within}
use Rattle.rust_productions.proofs.grammar.const_args.at_negated.Goals as goal

pub returns-then-not-at-clause-sees : goal.returns-then-not-at-clause-sees
unfolding look_of begins_below whole rule items statements expressions patterns types paths there_at shift passes is_silent begins in_mode from_start row one_of any_of no_longer longest is_longer
returns-then-not-at-clause-sees c cond = saw-told (saw-so (c.at.ensures.sees cond) c.if-not-at.true and nothing) refl

pub returns-then-not-at-clause-peeks : goal.returns-then-not-at-clause-peeks
returns-then-not-at-clause-peeks c = peeks-within (c.at.ensures.peeks) (omega arith)

pub returns-in-INT_NUMBER-clause-sees : goal.returns-in-INT_NUMBER-clause-sees
unfolding look_of begins_below whole rule items statements expressions patterns types paths there_at shift passes is_silent begins in_mode from_start row one_of any_of no_longer longest is_longer
returns-in-INT_NUMBER-clause-sees c cond = elim c.in-INT_NUMBER.is [ inl a0 ↦ saw-told (saw-so (c.at.ensures.sees cond) c.if-not-at.false and saw-before c.at.ensures.peeks.same (saw-arm a0 (c.nth.ensures.sees cond)) and nothing) refl | inr b0 ↦ elim b0 [ inl a1 ↦ saw-told (saw-so (c.at.ensures.sees cond) c.if-not-at.false and saw-before c.at.ensures.peeks.same (saw-arm a1 (c.nth.ensures.sees cond)) and nothing) refl | inr b1 ↦ elim b1 [ inl a2 ↦ saw-told (saw-so (c.at.ensures.sees cond) c.if-not-at.false and saw-before c.at.ensures.peeks.same (saw-arm a2 (c.nth.ensures.sees cond)) and nothing) refl | inr b2 ↦ elim b2 [ inl a3 ↦ saw-told (saw-so (c.at.ensures.sees cond) c.if-not-at.false and saw-before c.at.ensures.peeks.same (saw-arm a3 (c.nth.ensures.sees cond)) and nothing) refl | inr b3 ↦ elim b3 [ inl a4 ↦ saw-told (saw-so (c.at.ensures.sees cond) c.if-not-at.false and saw-before c.at.ensures.peeks.same (saw-arm a4 (c.nth.ensures.sees cond)) and nothing) refl | inr b4 ↦ elim b4 [ inl a5 ↦ saw-told (saw-so (c.at.ensures.sees cond) c.if-not-at.false and saw-before c.at.ensures.peeks.same (saw-arm a5 (c.nth.ensures.sees cond)) and nothing) refl | inr b5 ↦ elim b5 [ inl a6 ↦ saw-told (saw-so (c.at.ensures.sees cond) c.if-not-at.false and saw-before c.at.ensures.peeks.same (saw-arm a6 (c.nth.ensures.sees cond)) and nothing) refl | inr b6 ↦ elim b6 [ inl a7 ↦ saw-told (saw-so (c.at.ensures.sees cond) c.if-not-at.false and saw-before c.at.ensures.peeks.same (saw-arm a7 (c.nth.ensures.sees cond)) and nothing) refl | inr b7 ↦ saw-told (saw-so (c.at.ensures.sees cond) c.if-not-at.false and saw-before c.at.ensures.peeks.same (saw-arm b7 (c.nth.ensures.sees cond)) and nothing) refl ] ] ] ] ] ] ] ]

pub returns-in-INT_NUMBER-clause-peeks : goal.returns-in-INT_NUMBER-clause-peeks
returns-in-INT_NUMBER-clause-peeks c = peeks-then c.at.ensures.peeks c.nth.ensures.peeks

pub returns-in-INT_NUMBER-clause-some : goal.returns-in-INT_NUMBER-clause-some
returns-in-INT_NUMBER-clause-some c e = elim c.in-INT_NUMBER.is [ inl a0 ↦ two-there (saw-before c.at.ensures.peeks.same (saw-arm a0 (c.nth.ensures.sees On))) (λ e. absurd (omega (arith, e))) | inr b0 ↦ elim b0 [ inl a1 ↦ two-there (saw-before c.at.ensures.peeks.same (saw-arm a1 (c.nth.ensures.sees On))) (λ e. absurd (omega (arith, e))) | inr b1 ↦ elim b1 [ inl a2 ↦ two-there (saw-before c.at.ensures.peeks.same (saw-arm a2 (c.nth.ensures.sees On))) (λ e. absurd (omega (arith, e))) | inr b2 ↦ elim b2 [ inl a3 ↦ two-there (saw-before c.at.ensures.peeks.same (saw-arm a3 (c.nth.ensures.sees On))) (λ e. absurd (omega (arith, e))) | inr b3 ↦ elim b3 [ inl a4 ↦ two-there (saw-before c.at.ensures.peeks.same (saw-arm a4 (c.nth.ensures.sees On))) (λ e. absurd (omega (arith, e))) | inr b4 ↦ elim b4 [ inl a5 ↦ two-there (saw-before c.at.ensures.peeks.same (saw-arm a5 (c.nth.ensures.sees On))) (λ e. absurd (omega (arith, e))) | inr b5 ↦ elim b5 [ inl a6 ↦ two-there (saw-before c.at.ensures.peeks.same (saw-arm a6 (c.nth.ensures.sees On))) (λ e. absurd (omega (arith, e))) | inr b6 ↦ elim b6 [ inl a7 ↦ two-there (saw-before c.at.ensures.peeks.same (saw-arm a7 (c.nth.ensures.sees On))) (λ e. absurd (omega (arith, e))) | inr b7 ↦ two-there (saw-before c.at.ensures.peeks.same (saw-arm b7 (c.nth.ensures.sees On))) (λ e. absurd (omega (arith, e))) ] ] ] ] ] ] ] ]

pub returns-in_default-clause-sees : goal.returns-in_default-clause-sees
unfolding look_of begins_below whole rule items statements expressions patterns types paths there_at shift passes is_silent begins in_mode from_start row one_of any_of no_longer longest is_longer
returns-in_default-clause-sees c cond = saw-told (saw-so (c.at.ensures.sees cond) c.if-not-at.false and saw-before c.at.ensures.peeks.same (saw-not c.in_default.not-INT_NUMBER (c.nth.ensures.sees cond)) and saw-before c.at.ensures.peeks.same (saw-not c.in_default.not-FLOAT_NUMBER (c.nth.ensures.sees cond)) and saw-before c.at.ensures.peeks.same (saw-not c.in_default.not-CHAR (c.nth.ensures.sees cond)) and saw-before c.at.ensures.peeks.same (saw-not c.in_default.not-BYTE (c.nth.ensures.sees cond)) and saw-before c.at.ensures.peeks.same (saw-not c.in_default.not-STRING (c.nth.ensures.sees cond)) and saw-before c.at.ensures.peeks.same (saw-not c.in_default.not-BYTE_STRING (c.nth.ensures.sees cond)) and saw-before c.at.ensures.peeks.same (saw-not c.in_default.not-C_STRING (c.nth.ensures.sees cond)) and saw-before c.at.ensures.peeks.same (saw-not c.in_default.not-TRUE_KW (c.nth.ensures.sees cond)) and saw-before c.at.ensures.peeks.same (saw-not c.in_default.not-FALSE_KW (c.nth.ensures.sees cond)) and nothing) refl

pub returns-in_default-clause-peeks : goal.returns-in_default-clause-peeks
returns-in_default-clause-peeks c = peeks-then c.at.ensures.peeks c.nth.ensures.peeks

-- Each path reads what the rule comes to there.
use Rattle.std.proofs.Common.{inl, inr, refl, arith}
use Rattle.rust_grammar.specs.Expressions.{expressions}
use Rattle.rust_grammar.specs.Items.{items}
use Rattle.rust_grammar.specs.Meaning.{begins_below, look_of}
use Rattle.rust_grammar.specs.Notation.{any_of, is_longer, no_longer, longest, one_of, row}
use Rattle.rust_grammar.specs.Paths.{paths}
use Rattle.rust_grammar.specs.Patterns.{patterns}
use Rattle.rust_grammar.specs.Rule.{begins, in_mode, from_start, is_silent, passes, shift, there_at}
use Rattle.rust_grammar.specs.Statements.{statements}
use Rattle.rust_grammar.specs.Types.{types}
use Rattle.rust_grammar.specs.Whole.{rule, whole}
use Rattle.rust_grammar.specs.Rule as rules
use Rattle.rust_productions.proofs.Facts.{nothing, saw-so, ◌and◌}
use Rattle.rust_productions.proofs.Looking.{saw-arm, saw-not}
use Rattle.rust_productions.proofs.Seen.{saw-before, saw-told}
use Rattle.rust_productions.proofs.Peeking.{peeks-then, peeks-within}
use Rattle.rust_productions.proofs.grammar.pattern_ranges.at_dots_before_end.Goals as goal

pub returns-then-not-at_pair-clause-sees : goal.returns-then-not-at_pair-clause-sees
unfolding look_of begins_below whole rule items statements expressions patterns types paths there_at shift passes is_silent begins in_mode from_start row one_of any_of no_longer longest is_longer
returns-then-not-at_pair-clause-sees c cond = saw-told (saw-so (c.at_pair.ensures.sees cond) c.if-not-at_pair.true and nothing) refl

pub returns-then-not-at_pair-clause-peeks : goal.returns-then-not-at_pair-clause-peeks
returns-then-not-at_pair-clause-peeks c = peeks-within (c.at_pair.ensures.peeks) (omega arith)

pub returns-in-INT_NUMBER-clause-sees : goal.returns-in-INT_NUMBER-clause-sees
unfolding look_of begins_below whole rule items statements expressions patterns types paths there_at shift passes is_silent begins in_mode from_start row one_of any_of no_longer longest is_longer
returns-in-INT_NUMBER-clause-sees c cond = elim c.in-INT_NUMBER.is [ inl a0 ↦ saw-told (saw-so (c.at_pair.ensures.sees cond) c.if-not-at_pair.false and saw-before c.at_pair.ensures.peeks.same (saw-arm a0 (c.nth.ensures.sees cond)) and nothing) refl | inr b0 ↦ elim b0 [ inl a1 ↦ saw-told (saw-so (c.at_pair.ensures.sees cond) c.if-not-at_pair.false and saw-before c.at_pair.ensures.peeks.same (saw-arm a1 (c.nth.ensures.sees cond)) and nothing) refl | inr b1 ↦ elim b1 [ inl a2 ↦ saw-told (saw-so (c.at_pair.ensures.sees cond) c.if-not-at_pair.false and saw-before c.at_pair.ensures.peeks.same (saw-arm a2 (c.nth.ensures.sees cond)) and nothing) refl | inr b2 ↦ elim b2 [ inl a3 ↦ saw-told (saw-so (c.at_pair.ensures.sees cond) c.if-not-at_pair.false and saw-before c.at_pair.ensures.peeks.same (saw-arm a3 (c.nth.ensures.sees cond)) and nothing) refl | inr b3 ↦ elim b3 [ inl a4 ↦ saw-told (saw-so (c.at_pair.ensures.sees cond) c.if-not-at_pair.false and saw-before c.at_pair.ensures.peeks.same (saw-arm a4 (c.nth.ensures.sees cond)) and nothing) refl | inr b4 ↦ elim b4 [ inl a5 ↦ saw-told (saw-so (c.at_pair.ensures.sees cond) c.if-not-at_pair.false and saw-before c.at_pair.ensures.peeks.same (saw-arm a5 (c.nth.ensures.sees cond)) and nothing) refl | inr b5 ↦ elim b5 [ inl a6 ↦ saw-told (saw-so (c.at_pair.ensures.sees cond) c.if-not-at_pair.false and saw-before c.at_pair.ensures.peeks.same (saw-arm a6 (c.nth.ensures.sees cond)) and nothing) refl | inr b6 ↦ elim b6 [ inl a7 ↦ saw-told (saw-so (c.at_pair.ensures.sees cond) c.if-not-at_pair.false and saw-before c.at_pair.ensures.peeks.same (saw-arm a7 (c.nth.ensures.sees cond)) and nothing) refl | inr b7 ↦ elim b7 [ inl a8 ↦ saw-told (saw-so (c.at_pair.ensures.sees cond) c.if-not-at_pair.false and saw-before c.at_pair.ensures.peeks.same (saw-arm a8 (c.nth.ensures.sees cond)) and nothing) refl | inr b8 ↦ elim b8 [ inl a9 ↦ saw-told (saw-so (c.at_pair.ensures.sees cond) c.if-not-at_pair.false and saw-before c.at_pair.ensures.peeks.same (saw-arm a9 (c.nth.ensures.sees cond)) and nothing) refl | inr b9 ↦ elim b9 [ inl a10 ↦ saw-told (saw-so (c.at_pair.ensures.sees cond) c.if-not-at_pair.false and saw-before c.at_pair.ensures.peeks.same (saw-arm a10 (c.nth.ensures.sees cond)) and nothing) refl | inr b10 ↦ elim b10 [ inl a11 ↦ saw-told (saw-so (c.at_pair.ensures.sees cond) c.if-not-at_pair.false and saw-before c.at_pair.ensures.peeks.same (saw-arm a11 (c.nth.ensures.sees cond)) and nothing) refl | inr b11 ↦ elim b11 [ inl a12 ↦ saw-told (saw-so (c.at_pair.ensures.sees cond) c.if-not-at_pair.false and saw-before c.at_pair.ensures.peeks.same (saw-arm a12 (c.nth.ensures.sees cond)) and nothing) refl | inr b12 ↦ elim b12 [ inl a13 ↦ saw-told (saw-so (c.at_pair.ensures.sees cond) c.if-not-at_pair.false and saw-before c.at_pair.ensures.peeks.same (saw-arm a13 (c.nth.ensures.sees cond)) and nothing) refl | inr b13 ↦ elim b13 [ inl a14 ↦ saw-told (saw-so (c.at_pair.ensures.sees cond) c.if-not-at_pair.false and saw-before c.at_pair.ensures.peeks.same (saw-arm a14 (c.nth.ensures.sees cond)) and nothing) refl | inr b14 ↦ saw-told (saw-so (c.at_pair.ensures.sees cond) c.if-not-at_pair.false and saw-before c.at_pair.ensures.peeks.same (saw-arm b14 (c.nth.ensures.sees cond)) and nothing) refl ] ] ] ] ] ] ] ] ] ] ] ] ] ] ]

pub returns-in-INT_NUMBER-clause-peeks : goal.returns-in-INT_NUMBER-clause-peeks
returns-in-INT_NUMBER-clause-peeks c = peeks-within (peeks-then c.at_pair.ensures.peeks (c.nth.ensures.peeks)) (omega arith)

pub returns-then-at_third_pair-clause-sees : goal.returns-then-at_third_pair-clause-sees
unfolding look_of begins_below whole rule items statements expressions patterns types paths there_at shift passes is_silent begins in_mode from_start row one_of any_of no_longer longest is_longer
returns-then-at_third_pair-clause-sees c cond = saw-told (saw-so (c.at_pair.ensures.sees cond) c.if-not-at_pair.false and saw-before c.at_pair.ensures.peeks.same (saw-not c.in_default.not-INT_NUMBER (c.nth.ensures.sees cond)) and saw-before c.at_pair.ensures.peeks.same (saw-not c.in_default.not-FLOAT_NUMBER (c.nth.ensures.sees cond)) and saw-before c.at_pair.ensures.peeks.same (saw-not c.in_default.not-CHAR (c.nth.ensures.sees cond)) and saw-before c.at_pair.ensures.peeks.same (saw-not c.in_default.not-BYTE (c.nth.ensures.sees cond)) and saw-before c.at_pair.ensures.peeks.same (saw-not c.in_default.not-STRING (c.nth.ensures.sees cond)) and saw-before c.at_pair.ensures.peeks.same (saw-not c.in_default.not-BYTE_STRING (c.nth.ensures.sees cond)) and saw-before c.at_pair.ensures.peeks.same (saw-not c.in_default.not-C_STRING (c.nth.ensures.sees cond)) and saw-before c.at_pair.ensures.peeks.same (saw-not c.in_default.not-TRUE_KW (c.nth.ensures.sees cond)) and saw-before c.at_pair.ensures.peeks.same (saw-not c.in_default.not-FALSE_KW (c.nth.ensures.sees cond)) and saw-before c.at_pair.ensures.peeks.same (saw-not c.in_default.not-MINUS (c.nth.ensures.sees cond)) and saw-before c.at_pair.ensures.peeks.same (saw-not c.in_default.not-IDENT (c.nth.ensures.sees cond)) and saw-before c.at_pair.ensures.peeks.same (saw-not c.in_default.not-SELF_KW (c.nth.ensures.sees cond)) and saw-before c.at_pair.ensures.peeks.same (saw-not c.in_default.not-SUPER_KW (c.nth.ensures.sees cond)) and saw-before c.at_pair.ensures.peeks.same (saw-not c.in_default.not-CRATE_KW (c.nth.ensures.sees cond)) and saw-before c.at_pair.ensures.peeks.same (saw-not c.in_default.not-SELF_TYPE_KW (c.nth.ensures.sees cond)) and saw-before c.at_pair.ensures.peeks.same (saw-not c.in_default.not-L_ANGLE (c.nth.ensures.sees cond)) and saw-before c.at_pair.ensures.peeks.same (saw-before c.nth.ensures.peeks.same (saw-so (c.at_third_pair.ensures.sees cond) c.if-at_third_pair.true)) and nothing) refl

pub returns-then-at_third_pair-clause-peeks : goal.returns-then-at_third_pair-clause-peeks
returns-then-at_third_pair-clause-peeks c = peeks-within (peeks-then c.at_pair.ensures.peeks (peeks-then c.nth.ensures.peeks (c.at_third_pair.ensures.peeks))) (omega arith)

pub returns-else-at_third_pair-clause-sees : goal.returns-else-at_third_pair-clause-sees
unfolding look_of begins_below whole rule items statements expressions patterns types paths there_at shift passes is_silent begins in_mode from_start row one_of any_of no_longer longest is_longer
returns-else-at_third_pair-clause-sees c cond = saw-told (saw-so (c.at_pair.ensures.sees cond) c.if-not-at_pair.false and saw-before c.at_pair.ensures.peeks.same (saw-not c.in_default.not-INT_NUMBER (c.nth.ensures.sees cond)) and saw-before c.at_pair.ensures.peeks.same (saw-not c.in_default.not-FLOAT_NUMBER (c.nth.ensures.sees cond)) and saw-before c.at_pair.ensures.peeks.same (saw-not c.in_default.not-CHAR (c.nth.ensures.sees cond)) and saw-before c.at_pair.ensures.peeks.same (saw-not c.in_default.not-BYTE (c.nth.ensures.sees cond)) and saw-before c.at_pair.ensures.peeks.same (saw-not c.in_default.not-STRING (c.nth.ensures.sees cond)) and saw-before c.at_pair.ensures.peeks.same (saw-not c.in_default.not-BYTE_STRING (c.nth.ensures.sees cond)) and saw-before c.at_pair.ensures.peeks.same (saw-not c.in_default.not-C_STRING (c.nth.ensures.sees cond)) and saw-before c.at_pair.ensures.peeks.same (saw-not c.in_default.not-TRUE_KW (c.nth.ensures.sees cond)) and saw-before c.at_pair.ensures.peeks.same (saw-not c.in_default.not-FALSE_KW (c.nth.ensures.sees cond)) and saw-before c.at_pair.ensures.peeks.same (saw-not c.in_default.not-MINUS (c.nth.ensures.sees cond)) and saw-before c.at_pair.ensures.peeks.same (saw-not c.in_default.not-IDENT (c.nth.ensures.sees cond)) and saw-before c.at_pair.ensures.peeks.same (saw-not c.in_default.not-SELF_KW (c.nth.ensures.sees cond)) and saw-before c.at_pair.ensures.peeks.same (saw-not c.in_default.not-SUPER_KW (c.nth.ensures.sees cond)) and saw-before c.at_pair.ensures.peeks.same (saw-not c.in_default.not-CRATE_KW (c.nth.ensures.sees cond)) and saw-before c.at_pair.ensures.peeks.same (saw-not c.in_default.not-SELF_TYPE_KW (c.nth.ensures.sees cond)) and saw-before c.at_pair.ensures.peeks.same (saw-not c.in_default.not-L_ANGLE (c.nth.ensures.sees cond)) and saw-before c.at_pair.ensures.peeks.same (saw-before c.nth.ensures.peeks.same (saw-so (c.at_third_pair.ensures.sees cond) c.if-at_third_pair.false)) and nothing) refl

pub returns-else-at_third_pair-clause-peeks : goal.returns-else-at_third_pair-clause-peeks
returns-else-at_third_pair-clause-peeks c = peeks-within (peeks-then c.at_pair.ensures.peeks (peeks-then c.nth.ensures.peeks (c.at_third_pair.ensures.peeks))) (omega arith)

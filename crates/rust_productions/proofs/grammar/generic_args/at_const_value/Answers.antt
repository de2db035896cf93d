-- Each path reads what the rule comes to there.
use Rattle.std.proofs.Common.{inl, inr, refl, arith}
use Rattle.rust_grammar.specs.Expressions.{expressions}
use Rattle.rust_grammar.specs.Items.{items}
use Rattle.rust_grammar.specs.Meaning.{begins_below, look_of}
use Rattle.rust_grammar.specs.Notation.{any_of, is_longer, no_longer, longest, one_of, row}
use Rattle.rust_grammar.specs.Paths.{paths}
use Rattle.rust_grammar.specs.Patterns.{patterns}
use Rattle.rust_grammar.specs.Rule.{begins, in_mode, from_start, is_silent, passes, shift, there_at}
use Rattle.rust_grammar.specs.Statements.{statements}
use Rattle.rust_grammar.specs.Types.{types}
use Rattle.rust_grammar.specs.Whole.{rule, whole}
use Rattle.rust_grammar.specs.Rule as rules
use Rattle.rust_productions.proofs.Facts.{nothing, ◌and◌}
use Rattle.rust_productions.proofs.Looking.{saw-arm, saw-not}
use Rattle.rust_productions.proofs.Seen.{saw-told}
use Rattle.rust_productions.proofs.Peeking.{peeks-within}
use Rattle.rust_productions.proofs.grammar.generic_args.at_const_value.Goals as goal

pub returns-in-L_CURLY-clause-sees : goal.returns-in-L_CURLY-clause-sees
unfolding look_of begins_below whole rule items statements expressions patterns types paths there_at shift passes is_silent begins in_mode from_start row one_of any_of no_longer longest is_longer
returns-in-L_CURLY-clause-sees c cond = elim c.in-L_CURLY.is [ inl a0 ↦ saw-told (saw-arm a0 (c.current.ensures.sees cond) and nothing) refl | inr b0 ↦ elim b0 [ inl a1 ↦ saw-told (saw-arm a1 (c.current.ensures.sees cond) and nothing) refl | inr b1 ↦ elim b1 [ inl a2 ↦ saw-told (saw-arm a2 (c.current.ensures.sees cond) and nothing) refl | inr b2 ↦ elim b2 [ inl a3 ↦ saw-told (saw-arm a3 (c.current.ensures.sees cond) and nothing) refl | inr b3 ↦ elim b3 [ inl a4 ↦ saw-told (saw-arm a4 (c.current.ensures.sees cond) and nothing) refl | inr b4 ↦ elim b4 [ inl a5 ↦ saw-told (saw-arm a5 (c.current.ensures.sees cond) and nothing) refl | inr b5 ↦ elim b5 [ inl a6 ↦ saw-told (saw-arm a6 (c.current.ensures.sees cond) and nothing) refl | inr b6 ↦ elim b6 [ inl a7 ↦ saw-told (saw-arm a7 (c.current.ensures.sees cond) and nothing) refl | inr b7 ↦ elim b7 [ inl a8 ↦ saw-told (saw-arm a8 (c.current.ensures.sees cond) and nothing) refl | inr b8 ↦ elim b8 [ inl a9 ↦ saw-told (saw-arm a9 (c.current.ensures.sees cond) and nothing) refl | inr b9 ↦ saw-told (saw-arm b9 (c.current.ensures.sees cond) and nothing) refl ] ] ] ] ] ] ] ] ] ]

pub returns-in-L_CURLY-clause-peeks : goal.returns-in-L_CURLY-clause-peeks
returns-in-L_CURLY-clause-peeks c = peeks-within (c.current.ensures.peeks) (omega arith)

pub returns-in_default-clause-sees : goal.returns-in_default-clause-sees
unfolding look_of begins_below whole rule items statements expressions patterns types paths there_at shift passes is_silent begins in_mode from_start row one_of any_of no_longer longest is_longer
returns-in_default-clause-sees c cond = saw-told (saw-not c.in_default.not-L_CURLY (c.current.ensures.sees cond) and saw-not c.in_default.not-MINUS (c.current.ensures.sees cond) and saw-not c.in_default.not-INT_NUMBER (c.current.ensures.sees cond) and saw-not c.in_default.not-FLOAT_NUMBER (c.current.ensures.sees cond) and saw-not c.in_default.not-CHAR (c.current.ensures.sees cond) and saw-not c.in_default.not-BYTE (c.current.ensures.sees cond) and saw-not c.in_default.not-STRING (c.current.ensures.sees cond) and saw-not c.in_default.not-BYTE_STRING (c.current.ensures.sees cond) and saw-not c.in_default.not-C_STRING (c.current.ensures.sees cond) and saw-not c.in_default.not-TRUE_KW (c.current.ensures.sees cond) and saw-not c.in_default.not-FALSE_KW (c.current.ensures.sees cond) and nothing) refl

pub returns-in_default-clause-peeks : goal.returns-in_default-clause-peeks
returns-in_default-clause-peeks c = peeks-within (c.current.ensures.peeks) (omega arith)

-- Each path reads what the rule comes to there.
use Rattle.std.proofs.Common.{inl, inr, refl, arith}
use Rattle.rust_grammar.specs.Expressions.{expressions}
use Rattle.rust_grammar.specs.Items.{items}
use Rattle.rust_grammar.specs.Meaning.{begins_below, look_of}
use Rattle.rust_grammar.specs.Notation.{any_of, is_longer, no_longer, longest, one_of, row}
use Rattle.rust_grammar.specs.Paths.{paths}
use Rattle.rust_grammar.specs.Patterns.{patterns}
use Rattle.rust_grammar.specs.Rule.{begins, in_mode, from_start, is_silent, passes, shift, there_at}
use Rattle.rust_grammar.specs.Statements.{statements}
use Rattle.rust_grammar.specs.Types.{types}
use Rattle.rust_grammar.specs.Whole.{rule, whole}
use Rattle.rust_grammar.specs.Rule as rules
use Rattle.rust_productions.proofs.Facts.{nothing, saw-so, ◌and◌}
use Rattle.rust_productions.proofs.Looking.{saw-arm, saw-not}
use Rattle.rust_productions.proofs.Seen.{saw-before, saw-told}
use Rattle.rust_productions.proofs.Peeking.{peeks-then, peeks-within}
use Rattle.rust_productions.proofs.grammar.statements.at_item.Goals as goal

pub returns-in-POUND-clause-sees : goal.returns-in-POUND-clause-sees
unfolding look_of begins_below whole rule items statements expressions patterns types paths there_at shift passes is_silent begins in_mode from_start row one_of any_of no_longer longest is_longer
returns-in-POUND-clause-sees c cond = elim c.in-POUND.is [ inl a0 ↦ saw-told (saw-arm a0 (c.current.ensures.sees cond) and nothing) refl | inr b0 ↦ elim b0 [ inl a1 ↦ saw-told (saw-arm a1 (c.current.ensures.sees cond) and nothing) refl | inr b1 ↦ elim b1 [ inl a2 ↦ saw-told (saw-arm a2 (c.current.ensures.sees cond) and nothing) refl | inr b2 ↦ elim b2 [ inl a3 ↦ saw-told (saw-arm a3 (c.current.ensures.sees cond) and nothing) refl | inr b3 ↦ elim b3 [ inl a4 ↦ saw-told (saw-arm a4 (c.current.ensures.sees cond) and nothing) refl | inr b4 ↦ elim b4 [ inl a5 ↦ saw-told (saw-arm a5 (c.current.ensures.sees cond) and nothing) refl | inr b5 ↦ elim b5 [ inl a6 ↦ saw-told (saw-arm a6 (c.current.ensures.sees cond) and nothing) refl | inr b6 ↦ elim b6 [ inl a7 ↦ saw-told (saw-arm a7 (c.current.ensures.sees cond) and nothing) refl | inr b7 ↦ elim b7 [ inl a8 ↦ saw-told (saw-arm a8 (c.current.ensures.sees cond) and nothing) refl | inr b8 ↦ elim b8 [ inl a9 ↦ saw-told (saw-arm a9 (c.current.ensures.sees cond) and nothing) refl | inr b9 ↦ elim b9 [ inl a10 ↦ saw-told (saw-arm a10 (c.current.ensures.sees cond) and nothing) refl | inr b10 ↦ saw-told (saw-arm b10 (c.current.ensures.sees cond) and nothing) refl ] ] ] ] ] ] ] ] ] ] ]

pub returns-in-POUND-clause-peeks : goal.returns-in-POUND-clause-peeks
returns-in-POUND-clause-peeks c = peeks-within (c.current.ensures.peeks) (omega arith)

pub returns-then-at_item_after_unsafe-clause-sees : goal.returns-then-at_item_after_unsafe-clause-sees
unfolding look_of begins_below whole rule items statements expressions patterns types paths there_at shift passes is_silent begins in_mode from_start row one_of any_of no_longer longest is_longer
returns-then-at_item_after_unsafe-clause-sees c cond = saw-told (saw-arm c.in-UNSAFE_KW.is (c.current.ensures.sees cond) and saw-before c.current.ensures.peeks.same (saw-so (c.at_item_after_unsafe.ensures.sees cond) c.if-at_item_after_unsafe.true) and nothing) refl

pub returns-then-at_item_after_unsafe-clause-peeks : goal.returns-then-at_item_after_unsafe-clause-peeks
returns-then-at_item_after_unsafe-clause-peeks c = peeks-within (peeks-then c.current.ensures.peeks (c.at_item_after_unsafe.ensures.peeks)) (omega arith)

pub returns-else-at_item_after_unsafe-clause-sees : goal.returns-else-at_item_after_unsafe-clause-sees
unfolding look_of begins_below whole rule items statements expressions patterns types paths there_at shift passes is_silent begins in_mode from_start row one_of any_of no_longer longest is_longer
returns-else-at_item_after_unsafe-clause-sees c cond = saw-told (saw-arm c.in-UNSAFE_KW.is (c.current.ensures.sees cond) and saw-before c.current.ensures.peeks.same (saw-so (c.at_item_after_unsafe.ensures.sees cond) c.if-at_item_after_unsafe.false) and nothing) refl

pub returns-else-at_item_after_unsafe-clause-peeks : goal.returns-else-at_item_after_unsafe-clause-peeks
returns-else-at_item_after_unsafe-clause-peeks c = peeks-within (peeks-then c.current.ensures.peeks (c.at_item_after_unsafe.ensures.peeks)) (omega arith)

pub returns-in_default-clause-sees : goal.returns-in_default-clause-sees
unfolding look_of begins_below whole rule items statements expressions patterns types paths there_at shift passes is_silent begins in_mode from_start row one_of any_of no_longer longest is_longer
returns-in_default-clause-sees c cond = saw-told (saw-not c.in_default.not-POUND (c.current.ensures.sees cond) and saw-not c.in_default.not-PUB_KW (c.current.ensures.sees cond) and saw-not c.in_default.not-MOD_KW (c.current.ensures.sees cond) and saw-not c.in_default.not-USE_KW (c.current.ensures.sees cond) and saw-not c.in_default.not-STRUCT_KW (c.current.ensures.sees cond) and saw-not c.in_default.not-ENUM_KW (c.current.ensures.sees cond) and saw-not c.in_default.not-FN_KW (c.current.ensures.sees cond) and saw-not c.in_default.not-CONST_KW (c.current.ensures.sees cond) and saw-not c.in_default.not-STATIC_KW (c.current.ensures.sees cond) and saw-not c.in_default.not-TYPE_KW (c.current.ensures.sees cond) and saw-not c.in_default.not-IMPL_KW (c.current.ensures.sees cond) and saw-not c.in_default.not-TRAIT_KW (c.current.ensures.sees cond) and saw-not c.in_default.not-UNSAFE_KW (c.current.ensures.sees cond) and nothing) refl

pub returns-in_default-clause-peeks : goal.returns-in_default-clause-peeks
returns-in_default-clause-peeks c = peeks-within (c.current.ensures.peeks) (omega arith)

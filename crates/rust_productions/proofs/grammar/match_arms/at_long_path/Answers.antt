-- Each path reads what the rule comes to there.
use Rattle.std.proofs.Common.{inl, inr, refl, arith}
use Rattle.rust_grammar.specs.Expressions.{expressions}
use Rattle.rust_grammar.specs.Items.{items}
use Rattle.rust_grammar.specs.Meaning.{begins_below, look_of}
use Rattle.rust_grammar.specs.Notation.{any_of, is_longer, no_longer, longest, one_of, row}
use Rattle.rust_grammar.specs.Paths.{paths}
use Rattle.rust_grammar.specs.Patterns.{patterns}
use Rattle.rust_grammar.specs.Rule.{begins, in_mode, from_start, is_silent, passes, shift, there_at}
use Rattle.rust_grammar.specs.Statements.{statements}
use Rattle.rust_grammar.specs.Types.{types}
use Rattle.rust_grammar.specs.Whole.{rule, whole}
use Rattle.rust_productions.proofs.Facts.{nothing, saw-so, ◌and◌}
use Rattle.rust_productions.proofs.Looking.{saw-arm, saw-not}
use Rattle.rust_productions.proofs.Seen.{saw-before, saw-told}
use Rattle.rust_productions.proofs.Peeking.{peeks-then, peeks-within}
use Rattle.rust_productions.proofs.grammar.match_arms.at_long_path.Goals as goal

pub returns-then-at_colons-clause-sees : goal.returns-then-at_colons-clause-sees
unfolding look_of begins_below whole rule items statements expressions patterns types paths there_at shift passes is_silent begins in_mode from_start row one_of any_of no_longer longest is_longer
returns-then-at_colons-clause-sees c cond = saw-told (saw-so (c.at_colons.ensures.sees cond) c.if-at_colons.true and nothing) refl

pub returns-then-at_colons-clause-peeks : goal.returns-then-at_colons-clause-peeks
returns-then-at_colons-clause-peeks c = peeks-within (c.at_colons.ensures.peeks) (omega arith)

pub returns-then-at_pair_after-clause-sees : goal.returns-then-at_pair_after-clause-sees
unfolding look_of begins_below whole rule items statements expressions patterns types paths there_at shift passes is_silent begins in_mode from_start row one_of any_of no_longer longest is_longer
returns-then-at_pair_after-clause-sees c cond = elim c.in-IDENT.is [ inl a0 ↦ saw-told (saw-so (c.at_colons.ensures.sees cond) c.if-at_colons.false and saw-before c.at_colons.ensures.peeks.same (saw-arm a0 (c.current.ensures.sees cond)) and saw-before c.at_colons.ensures.peeks.same (saw-before c.current.ensures.peeks.same (saw-so (c.at_pair_after.ensures.sees cond) c.if-at_pair_after.true)) and nothing) refl | inr b0 ↦ elim b0 [ inl a1 ↦ saw-told (saw-so (c.at_colons.ensures.sees cond) c.if-at_colons.false and saw-before c.at_colons.ensures.peeks.same (saw-arm a1 (c.current.ensures.sees cond)) and saw-before c.at_colons.ensures.peeks.same (saw-before c.current.ensures.peeks.same (saw-so (c.at_pair_after.ensures.sees cond) c.if-at_pair_after.true)) and nothing) refl | inr b1 ↦ elim b1 [ inl a2 ↦ saw-told (saw-so (c.at_colons.ensures.sees cond) c.if-at_colons.false and saw-before c.at_colons.ensures.peeks.same (saw-arm a2 (c.current.ensures.sees cond)) and saw-before c.at_colons.ensures.peeks.same (saw-before c.current.ensures.peeks.same (saw-so (c.at_pair_after.ensures.sees cond) c.if-at_pair_after.true)) and nothing) refl | inr b2 ↦ elim b2 [ inl a3 ↦ saw-told (saw-so (c.at_colons.ensures.sees cond) c.if-at_colons.false and saw-before c.at_colons.ensures.peeks.same (saw-arm a3 (c.current.ensures.sees cond)) and saw-before c.at_colons.ensures.peeks.same (saw-before c.current.ensures.peeks.same (saw-so (c.at_pair_after.ensures.sees cond) c.if-at_pair_after.true)) and nothing) refl | inr b3 ↦ saw-told (saw-so (c.at_colons.ensures.sees cond) c.if-at_colons.false and saw-before c.at_colons.ensures.peeks.same (saw-arm b3 (c.current.ensures.sees cond)) and saw-before c.at_colons.ensures.peeks.same (saw-before c.current.ensures.peeks.same (saw-so (c.at_pair_after.ensures.sees cond) c.if-at_pair_after.true)) and nothing) refl ] ] ] ]

pub returns-then-at_pair_after-clause-peeks : goal.returns-then-at_pair_after-clause-peeks
returns-then-at_pair_after-clause-peeks c = peeks-within (peeks-then c.at_colons.ensures.peeks (peeks-then c.current.ensures.peeks (c.at_pair_after.ensures.peeks))) (omega arith)

pub returns-else-at_pair_after-clause-sees : goal.returns-else-at_pair_after-clause-sees
unfolding look_of begins_below whole rule items statements expressions patterns types paths there_at shift passes is_silent begins in_mode from_start row one_of any_of no_longer longest is_longer
returns-else-at_pair_after-clause-sees c cond = elim c.in-IDENT.is [ inl a0 ↦ saw-told (saw-so (c.at_colons.ensures.sees cond) c.if-at_colons.false and saw-before c.at_colons.ensures.peeks.same (saw-arm a0 (c.current.ensures.sees cond)) and saw-before c.at_colons.ensures.peeks.same (saw-before c.current.ensures.peeks.same (saw-so (c.at_pair_after.ensures.sees cond) c.if-at_pair_after.false)) and nothing) refl | inr b0 ↦ elim b0 [ inl a1 ↦ saw-told (saw-so (c.at_colons.ensures.sees cond) c.if-at_colons.false and saw-before c.at_colons.ensures.peeks.same (saw-arm a1 (c.current.ensures.sees cond)) and saw-before c.at_colons.ensures.peeks.same (saw-before c.current.ensures.peeks.same (saw-so (c.at_pair_after.ensures.sees cond) c.if-at_pair_after.false)) and nothing) refl | inr b1 ↦ elim b1 [ inl a2 ↦ saw-told (saw-so (c.at_colons.ensures.sees cond) c.if-at_colons.false and saw-before c.at_colons.ensures.peeks.same (saw-arm a2 (c.current.ensures.sees cond)) and saw-before c.at_colons.ensures.peeks.same (saw-before c.current.ensures.peeks.same (saw-so (c.at_pair_after.ensures.sees cond) c.if-at_pair_after.false)) and nothing) refl | inr b2 ↦ elim b2 [ inl a3 ↦ saw-told (saw-so (c.at_colons.ensures.sees cond) c.if-at_colons.false and saw-before c.at_colons.ensures.peeks.same (saw-arm a3 (c.current.ensures.sees cond)) and saw-before c.at_colons.ensures.peeks.same (saw-before c.current.ensures.peeks.same (saw-so (c.at_pair_after.ensures.sees cond) c.if-at_pair_after.false)) and nothing) refl | inr b3 ↦ saw-told (saw-so (c.at_colons.ensures.sees cond) c.if-at_colons.false and saw-before c.at_colons.ensures.peeks.same (saw-arm b3 (c.current.ensures.sees cond)) and saw-before c.at_colons.ensures.peeks.same (saw-before c.current.ensures.peeks.same (saw-so (c.at_pair_after.ensures.sees cond) c.if-at_pair_after.false)) and nothing) refl ] ] ] ]

pub returns-else-at_pair_after-clause-peeks : goal.returns-else-at_pair_after-clause-peeks
returns-else-at_pair_after-clause-peeks c = peeks-within (peeks-then c.at_colons.ensures.peeks (peeks-then c.current.ensures.peeks (c.at_pair_after.ensures.peeks))) (omega arith)

pub returns-in_default-clause-sees : goal.returns-in_default-clause-sees
unfolding look_of begins_below whole rule items statements expressions patterns types paths there_at shift passes is_silent begins in_mode from_start row one_of any_of no_longer longest is_longer
returns-in_default-clause-sees c cond = saw-told (saw-so (c.at_colons.ensures.sees cond) c.if-at_colons.false and saw-before c.at_colons.ensures.peeks.same (saw-not c.in_default.not-IDENT (c.current.ensures.sees cond)) and saw-before c.at_colons.ensures.peeks.same (saw-not c.in_default.not-SELF_KW (c.current.ensures.sees cond)) and saw-before c.at_colons.ensures.peeks.same (saw-not c.in_default.not-SUPER_KW (c.current.ensures.sees cond)) and saw-before c.at_colons.ensures.peeks.same (saw-not c.in_default.not-CRATE_KW (c.current.ensures.sees cond)) and saw-before c.at_colons.ensures.peeks.same (saw-not c.in_default.not-SELF_TYPE_KW (c.current.ensures.sees cond)) and nothing) refl

pub returns-in_default-clause-peeks : goal.returns-in_default-clause-peeks
returns-in_default-clause-peeks c = peeks-within (peeks-then c.at_colons.ensures.peeks (c.current.ensures.peeks)) (omega arith)

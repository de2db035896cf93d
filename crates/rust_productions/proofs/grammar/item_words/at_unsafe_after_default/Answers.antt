-- Each path reads what the rule comes to there.
use Rattle.std.proofs.Common.{inl, inr, refl, arith}
use Rattle.rust_grammar.specs.Expressions.{expressions}
use Rattle.rust_grammar.specs.Items.{items}
use Rattle.rust_grammar.specs.Meaning.{begins_below, look_of}
use Rattle.rust_grammar.specs.Notation.{any_of, is_longer, no_longer, longest, one_of, row}
use Rattle.rust_grammar.specs.Paths.{paths}
use Rattle.rust_grammar.specs.Patterns.{patterns}
use Rattle.rust_grammar.specs.Rule.{begins, in_mode, from_start, is_silent, passes, shift, there_at}
use Rattle.rust_grammar.specs.Statements.{statements}
use Rattle.rust_grammar.specs.Types.{types}
use Rattle.rust_grammar.specs.Whole.{rule, whole}
use Rattle.rust_grammar.specs.Rule as rules
use Rattle.rust_productions.proofs.Facts.{nothing, saw-so, ◌and◌}
use Rattle.rust_productions.proofs.Looking.{saw-arm, saw-not}
use Rattle.rust_productions.proofs.Seen.{saw-before, saw-told}
use Rattle.rust_productions.proofs.Peeking.{peeks-then, peeks-within}
use Rattle.rust_productions.proofs.grammar.item_words.at_unsafe_after_default.Goals as goal

pub returns-then-not-at-clause-sees : goal.returns-then-not-at-clause-sees
unfolding look_of begins_below whole rule items statements expressions patterns types paths there_at shift passes is_silent begins in_mode from_start row one_of any_of no_longer longest is_longer
returns-then-not-at-clause-sees c cond = saw-told (saw-so (c.at.ensures.sees cond) c.if-not-at.true and nothing) refl

pub returns-then-not-at-clause-peeks : goal.returns-then-not-at-clause-peeks
returns-then-not-at-clause-peeks c = peeks-within (c.at.ensures.peeks) (omega arith)

pub returns-in-FN_KW-clause-sees : goal.returns-in-FN_KW-clause-sees
unfolding look_of begins_below whole rule items statements expressions patterns types paths there_at shift passes is_silent begins in_mode from_start row one_of any_of no_longer longest is_longer
returns-in-FN_KW-clause-sees c cond = elim c.in-FN_KW.is [ inl a0 ↦ saw-told (saw-so (c.at.ensures.sees cond) c.if-not-at.false and saw-before c.at.ensures.peeks.same (saw-arm a0 (c.nth.ensures.sees cond)) and nothing) refl | inr b0 ↦ saw-told (saw-so (c.at.ensures.sees cond) c.if-not-at.false and saw-before c.at.ensures.peeks.same (saw-arm b0 (c.nth.ensures.sees cond)) and nothing) refl ]

pub returns-in-FN_KW-clause-peeks : goal.returns-in-FN_KW-clause-peeks
returns-in-FN_KW-clause-peeks c = peeks-within (peeks-then c.at.ensures.peeks (c.nth.ensures.peeks)) (omega arith)

pub returns-in_default-clause-sees : goal.returns-in_default-clause-sees
unfolding look_of begins_below whole rule items statements expressions patterns types paths there_at shift passes is_silent begins in_mode from_start row one_of any_of no_longer longest is_longer
returns-in_default-clause-sees c cond = saw-told (saw-so (c.at.ensures.sees cond) c.if-not-at.false and saw-before c.at.ensures.peeks.same (saw-not c.in_default.not-FN_KW (c.nth.ensures.sees cond)) and saw-before c.at.ensures.peeks.same (saw-not c.in_default.not-IMPL_KW (c.nth.ensures.sees cond)) and nothing) refl

pub returns-in_default-clause-peeks : goal.returns-in_default-clause-peeks
returns-in_default-clause-peeks c = peeks-within (peeks-then c.at.ensures.peeks (c.nth.ensures.peeks)) (omega arith)

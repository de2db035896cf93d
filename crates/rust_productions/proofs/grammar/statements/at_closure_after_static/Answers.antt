-- Each path reads what the rule comes to there.
use Rattle.std.proofs.Common.{inl, inr, refl, arith}
use Rattle.rust_grammar.specs.Expressions.{expressions}
use Rattle.rust_grammar.specs.Items.{items}
use Rattle.rust_grammar.specs.Meaning.{begins_below, look_of}
use Rattle.rust_grammar.specs.Notation.{any_of, is_longer, no_longer, longest, one_of, row}
use Rattle.rust_grammar.specs.Paths.{paths}
use Rattle.rust_grammar.specs.Patterns.{patterns}
use Rattle.rust_grammar.specs.Rule.{begins, in_mode, from_start, is_silent, passes, shift, there_at}
use Rattle.rust_grammar.specs.Statements.{statements}
use Rattle.rust_grammar.specs.Types.{types}
use Rattle.rust_grammar.specs.Whole.{rule, whole}
use Rattle.rust_grammar.specs.Rule as rules
use Rattle.rust_productions.proofs.Facts.{nothing, ◌and◌}
use Rattle.rust_productions.proofs.Looking.{saw-arm, saw-not}
use Rattle.rust_productions.proofs.Seen.{saw-told}
use Rattle.rust_productions.proofs.Peeking.{peeks-within}
use Rattle.rust_productions.proofs.grammar.statements.at_closure_after_static.Goals as goal

pub returns-in-PIPE-clause-sees : goal.returns-in-PIPE-clause-sees
unfolding look_of begins_below whole rule items statements expressions patterns types paths there_at shift passes is_silent begins in_mode from_start row one_of any_of no_longer longest is_longer
returns-in-PIPE-clause-sees c cond = elim c.in-PIPE.is [ inl a0 ↦ saw-told (saw-arm a0 (c.nth.ensures.sees cond) and nothing) refl | inr b0 ↦ elim b0 [ inl a1 ↦ saw-told (saw-arm a1 (c.nth.ensures.sees cond) and nothing) refl | inr b1 ↦ saw-told (saw-arm b1 (c.nth.ensures.sees cond) and nothing) refl ] ]

pub returns-in-PIPE-clause-peeks : goal.returns-in-PIPE-clause-peeks
returns-in-PIPE-clause-peeks c = peeks-within (c.nth.ensures.peeks) (omega arith)

pub returns-in_default-clause-sees : goal.returns-in_default-clause-sees
unfolding look_of begins_below whole rule items statements expressions patterns types paths there_at shift passes is_silent begins in_mode from_start row one_of any_of no_longer longest is_longer
returns-in_default-clause-sees c cond = saw-told (saw-not c.in_default.not-PIPE (c.nth.ensures.sees cond) and saw-not c.in_default.not-MOVE_KW (c.nth.ensures.sees cond) and saw-not c.in_default.not-ASYNC_KW (c.nth.ensures.sees cond) and nothing) refl

pub returns-in_default-clause-peeks : goal.returns-in_default-clause-peeks
returns-in_default-clause-peeks c = peeks-within (c.nth.ensures.peeks) (omega arith)

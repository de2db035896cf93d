-- Each path reads what the rule comes to there.
use Rattle.std.proofs.Common.{inl, inr, refl}
use Rattle.rust_grammar.specs.Expressions.{expressions}
use Rattle.rust_grammar.specs.Items.{items}
use Rattle.rust_grammar.specs.Meaning.{begins_below, look_of}
use Rattle.rust_grammar.specs.Notation.{any_of, is_longer, no_longer, longest, one_of, row}
use Rattle.rust_grammar.specs.Paths.{paths}
use Rattle.rust_grammar.specs.Patterns.{patterns}
use Rattle.rust_grammar.specs.Rule.{begins, in_mode, from_start, is_silent, passes, shift, there_at}
use Rattle.rust_grammar.specs.Statements.{statements}
use Rattle.rust_grammar.specs.Types.{types}
use Rattle.rust_grammar.specs.Whole.{rule, whole}
use Rattle.rust_productions.proofs.Facts.{nothing, ◌and◌}
use Rattle.rust_productions.proofs.Looking.{left-arm, left-not, saw-arm, saw-not}
use Rattle.rust_productions.proofs.Seen.{saw-told}
use Rattle.rust_productions.proofs.grammar.token_trees.at_inner.Goals as goal

pub returns-in-R_PAREN-clause-sees : goal.returns-in-R_PAREN-clause-sees
unfolding look_of begins_below whole rule items statements expressions patterns types paths there_at shift passes is_silent begins in_mode from_start row one_of any_of no_longer longest is_longer
returns-in-R_PAREN-clause-sees c cond = elim c.in-R_PAREN.is [ inl a0 ↦ saw-told (left-arm a0 (c.current.ensures.end cond) and saw-arm a0 (c.current.ensures.sees cond) and nothing) refl | inr b0 ↦ elim b0 [ inl a1 ↦ saw-told (left-arm a1 (c.current.ensures.end cond) and saw-arm a1 (c.current.ensures.sees cond) and nothing) refl | inr b1 ↦ elim b1 [ inl a2 ↦ saw-told (left-arm a2 (c.current.ensures.end cond) and saw-arm a2 (c.current.ensures.sees cond) and nothing) refl | inr b2 ↦ saw-told (left-arm b2 (c.current.ensures.end cond) and saw-arm b2 (c.current.ensures.sees cond) and nothing) refl ] ] ]

pub returns-in_default-clause-sees : goal.returns-in_default-clause-sees
unfolding look_of begins_below whole rule items statements expressions patterns types paths there_at shift passes is_silent begins in_mode from_start row one_of any_of no_longer longest is_longer
returns-in_default-clause-sees c cond = saw-told (left-not c.in_default.not-EOF (c.current.ensures.end cond) and saw-not c.in_default.not-R_PAREN (c.current.ensures.sees cond) and saw-not c.in_default.not-R_CURLY (c.current.ensures.sees cond) and saw-not c.in_default.not-R_BRACK (c.current.ensures.sees cond) and saw-not c.in_default.not-EOF (c.current.ensures.sees cond) and nothing) refl

-- Each path reads what the rule comes to there.
use Rattle.std.proofs.Common.{inl, inr, refl}
use Rattle.rust_grammar.specs.Expressions.{expressions}
use Rattle.rust_grammar.specs.Items.{items}
use Rattle.rust_grammar.specs.Meaning.{begins_below, look_of}
use Rattle.rust_grammar.specs.Notation.{any_of, is_longer, no_longer, longest, one_of, row}
use Rattle.rust_grammar.specs.Paths.{paths}
use Rattle.rust_grammar.specs.Patterns.{patterns}
use Rattle.rust_grammar.specs.Rule.{begins, in_mode, from_start, is_silent, passes, shift, there_at}
use Rattle.rust_grammar.specs.Statements.{statements}
use Rattle.rust_grammar.specs.Types.{types}
use Rattle.rust_grammar.specs.Whole.{rule, whole}
use Rattle.rust_productions.proofs.Facts.{nothing, ◌and◌}
use Rattle.rust_productions.proofs.Looking.{left-arm, left-not, saw-arm, saw-not}
use Rattle.rust_productions.proofs.Seen.{saw-told}
use Rattle.rust_productions.proofs.grammar.lists.at_unexpected.Goals as goal

pub returns-in-SEMICOLON-clause-sees : goal.returns-in-SEMICOLON-clause-sees
unfolding look_of begins_below whole rule items statements expressions patterns types paths there_at shift passes is_silent begins in_mode from_start row one_of any_of no_longer longest is_longer
returns-in-SEMICOLON-clause-sees c cond = elim c.in-SEMICOLON.is [ inl a0 ↦ saw-told (left-arm a0 (c.current.ensures.end cond) and saw-arm a0 (c.current.ensures.sees cond) and nothing) refl | inr b0 ↦ elim b0 [ inl a1 ↦ saw-told (left-arm a1 (c.current.ensures.end cond) and saw-arm a1 (c.current.ensures.sees cond) and nothing) refl | inr b1 ↦ elim b1 [ inl a2 ↦ saw-told (left-arm a2 (c.current.ensures.end cond) and saw-arm a2 (c.current.ensures.sees cond) and nothing) refl | inr b2 ↦ elim b2 [ inl a3 ↦ saw-told (left-arm a3 (c.current.ensures.end cond) and saw-arm a3 (c.current.ensures.sees cond) and nothing) refl | inr b3 ↦ elim b3 [ inl a4 ↦ saw-told (left-arm a4 (c.current.ensures.end cond) and saw-arm a4 (c.current.ensures.sees cond) and nothing) refl | inr b4 ↦ saw-told (left-arm b4 (c.current.ensures.end cond) and saw-arm b4 (c.current.ensures.sees cond) and nothing) refl ] ] ] ] ]

pub returns-in_default-clause-sees : goal.returns-in_default-clause-sees
unfolding look_of begins_below whole rule items statements expressions patterns types paths there_at shift passes is_silent begins in_mode from_start row one_of any_of no_longer longest is_longer
returns-in_default-clause-sees c cond = saw-told (left-not c.in_default.not-EOF (c.current.ensures.end cond) and saw-not c.in_default.not-SEMICOLON (c.current.ensures.sees cond) and saw-not c.in_default.not-L_CURLY (c.current.ensures.sees cond) and saw-not c.in_default.not-R_CURLY (c.current.ensures.sees cond) and saw-not c.in_default.not-R_PAREN (c.current.ensures.sees cond) and saw-not c.in_default.not-R_BRACK (c.current.ensures.sees cond) and saw-not c.in_default.not-EOF (c.current.ensures.sees cond) and nothing) refl

-- Each path reads what the rule comes to there.
use Rattle.std.proofs.Common.{inl, inr, refl, arith}
use Rattle.rust_grammar.specs.Expressions.{expressions}
use Rattle.rust_grammar.specs.Items.{items}
use Rattle.rust_grammar.specs.Meaning.{begins_below, look_of}
use Rattle.rust_grammar.specs.Notation.{any_of, is_longer, no_longer, longest, one_of, row}
use Rattle.rust_grammar.specs.Paths.{paths}
use Rattle.rust_grammar.specs.Patterns.{patterns}
use Rattle.rust_grammar.specs.Rule.{begins, in_mode, from_start, is_silent, passes, shift, there_at}
use Rattle.rust_grammar.specs.Statements.{statements}
use Rattle.rust_grammar.specs.Types.{types}
use Rattle.rust_grammar.specs.Whole.{rule, whole}
use Rattle.rust_grammar.specs.Rule as rules
use Rattle.rust_productions.proofs.Facts.{nothing, saw-so, ◌and◌}
use Rattle.rust_productions.proofs.Looking.{saw-arm, saw-not}
use Rattle.rust_productions.proofs.Seen.{begins-row, saw-before}
use Rattle.rust_productions.proofs.Peeking.{peeks-then, peeks-within, stays-then}
use Rattle.rust_productions.proofs.Staying.{stays-peeks}
use Rattle.rust_productions.proofs.grammar.expressions.at_block_like.Goals as goal

pub returns-in-L_CURLY-clause-sees : goal.returns-in-L_CURLY-clause-sees
unfolding look_of begins_below whole rule items statements expressions patterns types paths there_at shift passes is_silent begins in_mode from_start row one_of any_of no_longer longest is_longer
returns-in-L_CURLY-clause-sees c cond = elim c.in-L_CURLY.is [ inl a0 ↦ begins-row rules.block_like (saw-arm a0 (c.current.ensures.sees cond) and nothing) refl | inr b0 ↦ elim b0 [ inl a1 ↦ begins-row rules.block_like (saw-arm a1 (c.current.ensures.sees cond) and nothing) refl | inr b1 ↦ elim b1 [ inl a2 ↦ begins-row rules.block_like (saw-arm a2 (c.current.ensures.sees cond) and nothing) refl | inr b2 ↦ elim b2 [ inl a3 ↦ begins-row rules.block_like (saw-arm a3 (c.current.ensures.sees cond) and nothing) refl | inr b3 ↦ elim b3 [ inl a4 ↦ begins-row rules.block_like (saw-arm a4 (c.current.ensures.sees cond) and nothing) refl | inr b4 ↦ begins-row rules.block_like (saw-arm b4 (c.current.ensures.sees cond) and nothing) refl ] ] ] ] ]

pub returns-in-L_CURLY-clause-peeks : goal.returns-in-L_CURLY-clause-peeks
returns-in-L_CURLY-clause-peeks c = peeks-within (c.current.ensures.peeks) (omega arith)

pub returns-then-not-at_whole-clause-sees : goal.returns-then-not-at_whole-clause-sees
unfolding look_of begins_below whole rule items statements expressions patterns types paths there_at shift passes is_silent begins in_mode from_start row one_of any_of no_longer longest is_longer
returns-then-not-at_whole-clause-sees c cond = begins-row rules.block_like (saw-arm c.in-FOR_KW.is (c.current.ensures.sees cond) and saw-before c.current.ensures.peeks.same (saw-so (c.at_whole.ensures.sees cond) c.if-not-at_whole.true) and nothing) refl

pub returns-then-not-at_whole-clause-peeks : goal.returns-then-not-at_whole-clause-peeks
returns-then-not-at_whole-clause-peeks c = peeks-within (peeks-then c.current.ensures.peeks (stays-peeks c.at_whole.ensures.same c.at_whole.ensures.stays)) (omega arith)

pub returns-then-at_second-clause-sees : goal.returns-then-at_second-clause-sees
unfolding look_of begins_below whole rule items statements expressions patterns types paths there_at shift passes is_silent begins in_mode from_start row one_of any_of no_longer longest is_longer
returns-then-at_second-clause-sees c cond = begins-row rules.block_like (saw-arm c.in-FOR_KW.is (c.current.ensures.sees cond) and saw-before c.current.ensures.peeks.same (saw-so (c.at_whole.ensures.sees cond) c.if-not-at_whole.false) and saw-before c.current.ensures.peeks.same (saw-before c.at_whole.ensures.same (saw-so (c.at_second.ensures.sees cond) c.if-at_second.true)) and nothing) refl

pub returns-then-at_second-clause-peeks : goal.returns-then-at_second-clause-peeks
returns-then-at_second-clause-peeks c = peeks-within (peeks-then c.current.ensures.peeks (stays-then c.at_whole.ensures.same c.at_whole.ensures.stays (c.at_second.ensures.peeks))) (omega arith)

pub returns-else-at_second-clause-sees : goal.returns-else-at_second-clause-sees
unfolding look_of begins_below whole rule items statements expressions patterns types paths there_at shift passes is_silent begins in_mode from_start row one_of any_of no_longer longest is_longer
returns-else-at_second-clause-sees c cond = begins-row rules.block_like (saw-arm c.in-FOR_KW.is (c.current.ensures.sees cond) and saw-before c.current.ensures.peeks.same (saw-so (c.at_whole.ensures.sees cond) c.if-not-at_whole.false) and saw-before c.current.ensures.peeks.same (saw-before c.at_whole.ensures.same (saw-so (c.at_second.ensures.sees cond) c.if-at_second.false)) and nothing) refl

pub returns-else-at_second-clause-peeks : goal.returns-else-at_second-clause-peeks
returns-else-at_second-clause-peeks c = peeks-within (peeks-then c.current.ensures.peeks (stays-then c.at_whole.ensures.same c.at_whole.ensures.stays (c.at_second.ensures.peeks))) (omega arith)

pub returns-then-at_macro_block-clause-sees : goal.returns-then-at_macro_block-clause-sees
unfolding look_of begins_below whole rule items statements expressions patterns types paths there_at shift passes is_silent begins in_mode from_start row one_of any_of no_longer longest is_longer
returns-then-at_macro_block-clause-sees c cond = begins-row rules.block_like (saw-arm c.in-IDENT.is (c.current.ensures.sees cond) and saw-before c.current.ensures.peeks.same (saw-so (c.at_macro_block.ensures.sees cond) c.if-at_macro_block.true) and nothing) refl

pub returns-then-at_macro_block-clause-peeks : goal.returns-then-at_macro_block-clause-peeks
returns-then-at_macro_block-clause-peeks c = peeks-within (peeks-then c.current.ensures.peeks (c.at_macro_block.ensures.peeks)) (omega arith)

pub returns-else-at_macro_block-clause-sees : goal.returns-else-at_macro_block-clause-sees
unfolding look_of begins_below whole rule items statements expressions patterns types paths there_at shift passes is_silent begins in_mode from_start row one_of any_of no_longer longest is_longer
returns-else-at_macro_block-clause-sees c cond = begins-row rules.block_like (saw-arm c.in-IDENT.is (c.current.ensures.sees cond) and saw-before c.current.ensures.peeks.same (saw-so (c.at_macro_block.ensures.sees cond) c.if-at_macro_block.false) and nothing) refl

pub returns-else-at_macro_block-clause-peeks : goal.returns-else-at_macro_block-clause-peeks
returns-else-at_macro_block-clause-peeks c = peeks-within (peeks-then c.current.ensures.peeks (c.at_macro_block.ensures.peeks)) (omega arith)

pub returns-then-at_new_block-clause-sees : goal.returns-then-at_new_block-clause-sees
unfolding look_of begins_below whole rule items statements expressions patterns types paths there_at shift passes is_silent begins in_mode from_start row one_of any_of no_longer longest is_longer
returns-then-at_new_block-clause-sees c cond = begins-row rules.block_like (saw-not c.in_default.not-L_CURLY (c.current.ensures.sees cond) and saw-not c.in_default.not-UNSAFE_KW (c.current.ensures.sees cond) and saw-not c.in_default.not-IF_KW (c.current.ensures.sees cond) and saw-not c.in_default.not-WHILE_KW (c.current.ensures.sees cond) and saw-not c.in_default.not-LOOP_KW (c.current.ensures.sees cond) and saw-not c.in_default.not-MATCH_KW (c.current.ensures.sees cond) and saw-not c.in_default.not-FOR_KW (c.current.ensures.sees cond) and saw-not c.in_default.not-IDENT (c.current.ensures.sees cond) and saw-before c.current.ensures.peeks.same (saw-so (c.at_new_block.ensures.sees cond) c.if-at_new_block.true) and nothing) refl

pub returns-then-at_new_block-clause-peeks : goal.returns-then-at_new_block-clause-peeks
returns-then-at_new_block-clause-peeks c = peeks-within (peeks-then c.current.ensures.peeks (c.at_new_block.ensures.peeks)) (omega arith)

pub returns-else-at_new_block-clause-sees : goal.returns-else-at_new_block-clause-sees
unfolding look_of begins_below whole rule items statements expressions patterns types paths there_at shift passes is_silent begins in_mode from_start row one_of any_of no_longer longest is_longer
returns-else-at_new_block-clause-sees c cond = begins-row rules.block_like (saw-not c.in_default.not-L_CURLY (c.current.ensures.sees cond) and saw-not c.in_default.not-UNSAFE_KW (c.current.ensures.sees cond) and saw-not c.in_default.not-IF_KW (c.current.ensures.sees cond) and saw-not c.in_default.not-WHILE_KW (c.current.ensures.sees cond) and saw-not c.in_default.not-LOOP_KW (c.current.ensures.sees cond) and saw-not c.in_default.not-MATCH_KW (c.current.ensures.sees cond) and saw-not c.in_default.not-FOR_KW (c.current.ensures.sees cond) and saw-not c.in_default.not-IDENT (c.current.ensures.sees cond) and saw-before c.current.ensures.peeks.same (saw-so (c.at_new_block.ensures.sees cond) c.if-at_new_block.false) and nothing) refl

pub returns-else-at_new_block-clause-peeks : goal.returns-else-at_new_block-clause-peeks
returns-else-at_new_block-clause-peeks c = peeks-within (peeks-then c.current.ensures.peeks (c.at_new_block.ensures.peeks)) (omega arith)

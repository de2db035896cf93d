-- Each path reads what the rule comes to there.
use Rattle.std.proofs.Common.{inl, inr, refl, arith}
use Rattle.rust_grammar.specs.Expressions.{expressions}
use Rattle.rust_grammar.specs.Items.{items}
use Rattle.rust_grammar.specs.Meaning.{begins_below, look_of}
use Rattle.rust_grammar.specs.Notation.{any_of, is_longer, no_longer, longest, one_of, row}
use Rattle.rust_grammar.specs.Paths.{paths}
use Rattle.rust_grammar.specs.Patterns.{patterns}
use Rattle.rust_grammar.specs.Rule.{begins, in_mode, from_start, is_silent, passes, shift, there_at}
use Rattle.rust_grammar.specs.Statements.{statements}
use Rattle.rust_grammar.specs.Types.{types}
use Rattle.rust_grammar.specs.Whole.{rule, whole}
use Rattle.rust_grammar.specs.Rule as rules
use Rattle.rust_productions.proofs.Begins.{saw-expr-path, saw-path-begins, saw-type-path}
use Rattle.rust_productions.proofs.Facts.{begun, nothing, saw-so, ◌and◌}
use Rattle.rust_productions.proofs.Looking.{saw-arm, saw-not}
use Rattle.rust_productions.proofs.Seen.{begins-row, saw-before}
use Rattle.rust_productions.proofs.Peeking.{peeks-then, peeks-within, stays-then}
use Rattle.rust_productions.proofs.Staying.{stays-peeks}
use Rattle.rust_productions.proofs.grammar.patterns.at_single_pattern.Goals as goal

pub returns-then-at-clause-sees : goal.returns-then-at-clause-sees
unfolding look_of begins_below whole rule items statements expressions patterns types paths there_at shift passes is_silent begins in_mode from_start row one_of any_of no_longer longest is_longer
returns-then-at-clause-sees c cond = begins-row rules.single_pattern (saw-so (c.at.ensures.sees cond) c.if-at.true and nothing) refl

pub returns-then-at-clause-peeks : goal.returns-then-at-clause-peeks
returns-then-at-clause-peeks c = peeks-within (c.at.ensures.peeks) (omega arith)

pub returns-then-at_path-clause-sees : goal.returns-then-at_path-clause-sees
unfolding look_of begins_below whole rule items statements expressions patterns types paths there_at shift passes is_silent begins in_mode from_start row one_of any_of no_longer longest is_longer
returns-then-at_path-clause-sees c cond = begins-row rules.single_pattern (saw-so (c.at.ensures.sees cond) c.if-at.false and begun rules.type_path (saw-type-path (saw-before c.at.ensures.peeks.same (saw-so (c.at_path.ensures.sees cond) c.if-at_path.true))) (begun rules.expr_path (saw-expr-path (saw-before c.at.ensures.peeks.same (saw-so (c.at_path.ensures.sees cond) c.if-at_path.true))) (begun rules.path (saw-before c.at.ensures.peeks.same (saw-so (c.at_path.ensures.sees cond) c.if-at_path.true)) (saw-path-begins (saw-before c.at.ensures.peeks.same (saw-so (c.at_path.ensures.sees cond) c.if-at_path.true)) and nothing)))) refl

pub returns-then-at_path-clause-peeks : goal.returns-then-at_path-clause-peeks
returns-then-at_path-clause-peeks c = peeks-within (peeks-then c.at.ensures.peeks (c.at_path.ensures.peeks)) (omega arith)

pub returns-then-at_literal-clause-sees : goal.returns-then-at_literal-clause-sees
unfolding look_of begins_below whole rule items statements expressions patterns types paths there_at shift passes is_silent begins in_mode from_start row one_of any_of no_longer longest is_longer
returns-then-at_literal-clause-sees c cond = begins-row rules.single_pattern (saw-so (c.at.ensures.sees cond) c.if-at.false and begun rules.type_path (saw-type-path (saw-before c.at.ensures.peeks.same (saw-so (c.at_path.ensures.sees cond) c.if-at_path.false))) (begun rules.expr_path (saw-expr-path (saw-before c.at.ensures.peeks.same (saw-so (c.at_path.ensures.sees cond) c.if-at_path.false))) (begun rules.path (saw-before c.at.ensures.peeks.same (saw-so (c.at_path.ensures.sees cond) c.if-at_path.false)) (saw-path-begins (saw-before c.at.ensures.peeks.same (saw-so (c.at_path.ensures.sees cond) c.if-at_path.false)) and begun rules.literal (saw-before c.at.ensures.peeks.same (saw-before c.at_path.ensures.peeks.same (saw-so (c.at_literal.ensures.sees cond) c.if-at_literal.true))) (saw-before c.at.ensures.peeks.same (saw-before c.at_path.ensures.peeks.same (saw-so (c.at_literal.ensures.sees cond) c.if-at_literal.true)) and nothing))))) refl

pub returns-then-at_literal-clause-peeks : goal.returns-then-at_literal-clause-peeks
returns-then-at_literal-clause-peeks c = peeks-within (peeks-then c.at.ensures.peeks (peeks-then c.at_path.ensures.peeks (c.at_literal.ensures.peeks))) (omega arith)

pub returns-in-MINUS-clause-sees : goal.returns-in-MINUS-clause-sees
unfolding look_of begins_below whole rule items statements expressions patterns types paths there_at shift passes is_silent begins in_mode from_start row one_of any_of no_longer longest is_longer
returns-in-MINUS-clause-sees c cond = elim c.in-MINUS.is [ inl a0 ↦ begins-row rules.single_pattern (saw-so (c.at.ensures.sees cond) c.if-at.false and begun rules.type_path (saw-type-path (saw-before c.at.ensures.peeks.same (saw-so (c.at_path.ensures.sees cond) c.if-at_path.false))) (begun rules.expr_path (saw-expr-path (saw-before c.at.ensures.peeks.same (saw-so (c.at_path.ensures.sees cond) c.if-at_path.false))) (begun rules.path (saw-before c.at.ensures.peeks.same (saw-so (c.at_path.ensures.sees cond) c.if-at_path.false)) (saw-path-begins (saw-before c.at.ensures.peeks.same (saw-so (c.at_path.ensures.sees cond) c.if-at_path.false)) and begun rules.literal (saw-before c.at.ensures.peeks.same (saw-before c.at_path.ensures.peeks.same (saw-so (c.at_literal.ensures.sees cond) c.if-at_literal.false))) (saw-before c.at.ensures.peeks.same (saw-before c.at_path.ensures.peeks.same (saw-so (c.at_literal.ensures.sees cond) c.if-at_literal.false)) and saw-before c.at.ensures.peeks.same (saw-before c.at_path.ensures.peeks.same (saw-before c.at_literal.ensures.peeks.same (saw-arm a0 (c.current.ensures.sees cond)))) and nothing))))) refl | inr b0 ↦ elim b0 [ inl a1 ↦ begins-row rules.single_pattern (saw-so (c.at.ensures.sees cond) c.if-at.false and begun rules.type_path (saw-type-path (saw-before c.at.ensures.peeks.same (saw-so (c.at_path.ensures.sees cond) c.if-at_path.false))) (begun rules.expr_path (saw-expr-path (saw-before c.at.ensures.peeks.same (saw-so (c.at_path.ensures.sees cond) c.if-at_path.false))) (begun rules.path (saw-before c.at.ensures.peeks.same (saw-so (c.at_path.ensures.sees cond) c.if-at_path.false)) (saw-path-begins (saw-before c.at.ensures.peeks.same (saw-so (c.at_path.ensures.sees cond) c.if-at_path.false)) and begun rules.literal (saw-before c.at.ensures.peeks.same (saw-before c.at_path.ensures.peeks.same (saw-so (c.at_literal.ensures.sees cond) c.if-at_literal.false))) (saw-before c.at.ensures.peeks.same (saw-before c.at_path.ensures.peeks.same (saw-so (c.at_literal.ensures.sees cond) c.if-at_literal.false)) and saw-before c.at.ensures.peeks.same (saw-before c.at_path.ensures.peeks.same (saw-before c.at_literal.ensures.peeks.same (saw-arm a1 (c.current.ensures.sees cond)))) and nothing))))) refl | inr b1 ↦ elim b1 [ inl a2 ↦ begins-row rules.single_pattern (saw-so (c.at.ensures.sees cond) c.if-at.false and begun rules.type_path (saw-type-path (saw-before c.at.ensures.peeks.same (saw-so (c.at_path.ensures.sees cond) c.if-at_path.false))) (begun rules.expr_path (saw-expr-path (saw-before c.at.ensures.peeks.same (saw-so (c.at_path.ensures.sees cond) c.if-at_path.false))) (begun rules.path (saw-before c.at.ensures.peeks.same (saw-so (c.at_path.ensures.sees cond) c.if-at_path.false)) (saw-path-begins (saw-before c.at.ensures.peeks.same (saw-so (c.at_path.ensures.sees cond) c.if-at_path.false)) and begun rules.literal (saw-before c.at.ensures.peeks.same (saw-before c.at_path.ensures.peeks.same (saw-so (c.at_literal.ensures.sees cond) c.if-at_literal.false))) (saw-before c.at.ensures.peeks.same (saw-before c.at_path.ensures.peeks.same (saw-so (c.at_literal.ensures.sees cond) c.if-at_literal.false)) and saw-before c.at.ensures.peeks.same (saw-before c.at_path.ensures.peeks.same (saw-before c.at_literal.ensures.peeks.same (saw-arm a2 (c.current.ensures.sees cond)))) and nothing))))) refl | inr b2 ↦ elim b2 [ inl a3 ↦ begins-row rules.single_pattern (saw-so (c.at.ensures.sees cond) c.if-at.false and begun rules.type_path (saw-type-path (saw-before c.at.ensures.peeks.same (saw-so (c.at_path.ensures.sees cond) c.if-at_path.false))) (begun rules.expr_path (saw-expr-path (saw-before c.at.ensures.peeks.same (saw-so (c.at_path.ensures.sees cond) c.if-at_path.false))) (begun rules.path (saw-before c.at.ensures.peeks.same (saw-so (c.at_path.ensures.sees cond) c.if-at_path.false)) (saw-path-begins (saw-before c.at.ensures.peeks.same (saw-so (c.at_path.ensures.sees cond) c.if-at_path.false)) and begun rules.literal (saw-before c.at.ensures.peeks.same (saw-before c.at_path.ensures.peeks.same (saw-so (c.at_literal.ensures.sees cond) c.if-at_literal.false))) (saw-before c.at.ensures.peeks.same (saw-before c.at_path.ensures.peeks.same (saw-so (c.at_literal.ensures.sees cond) c.if-at_literal.false)) and saw-before c.at.ensures.peeks.same (saw-before c.at_path.ensures.peeks.same (saw-before c.at_literal.ensures.peeks.same (saw-arm a3 (c.current.ensures.sees cond)))) and nothing))))) refl | inr b3 ↦ elim b3 [ inl a4 ↦ begins-row rules.single_pattern (saw-so (c.at.ensures.sees cond) c.if-at.false and begun rules.type_path (saw-type-path (saw-before c.at.ensures.peeks.same (saw-so (c.at_path.ensures.sees cond) c.if-at_path.false))) (begun rules.expr_path (saw-expr-path (saw-before c.at.ensures.peeks.same (saw-so (c.at_path.ensures.sees cond) c.if-at_path.false))) (begun rules.path (saw-before c.at.ensures.peeks.same (saw-so (c.at_path.ensures.sees cond) c.if-at_path.false)) (saw-path-begins (saw-before c.at.ensures.peeks.same (saw-so (c.at_path.ensures.sees cond) c.if-at_path.false)) and begun rules.literal (saw-before c.at.ensures.peeks.same (saw-before c.at_path.ensures.peeks.same (saw-so (c.at_literal.ensures.sees cond) c.if-at_literal.false))) (saw-before c.at.ensures.peeks.same (saw-before c.at_path.ensures.peeks.same (saw-so (c.at_literal.ensures.sees cond) c.if-at_literal.false)) and saw-before c.at.ensures.peeks.same (saw-before c.at_path.ensures.peeks.same (saw-before c.at_literal.ensures.peeks.same (saw-arm a4 (c.current.ensures.sees cond)))) and nothing))))) refl | inr b4 ↦ elim b4 [ inl a5 ↦ begins-row rules.single_pattern (saw-so (c.at.ensures.sees cond) c.if-at.false and begun rules.type_path (saw-type-path (saw-before c.at.ensures.peeks.same (saw-so (c.at_path.ensures.sees cond) c.if-at_path.false))) (begun rules.expr_path (saw-expr-path (saw-before c.at.ensures.peeks.same (saw-so (c.at_path.ensures.sees cond) c.if-at_path.false))) (begun rules.path (saw-before c.at.ensures.peeks.same (saw-so (c.at_path.ensures.sees cond) c.if-at_path.false)) (saw-path-begins (saw-before c.at.ensures.peeks.same (saw-so (c.at_path.ensures.sees cond) c.if-at_path.false)) and begun rules.literal (saw-before c.at.ensures.peeks.same (saw-before c.at_path.ensures.peeks.same (saw-so (c.at_literal.ensures.sees cond) c.if-at_literal.false))) (saw-before c.at.ensures.peeks.same (saw-before c.at_path.ensures.peeks.same (saw-so (c.at_literal.ensures.sees cond) c.if-at_literal.false)) and saw-before c.at.ensures.peeks.same (saw-before c.at_path.ensures.peeks.same (saw-before c.at_literal.ensures.peeks.same (saw-arm a5 (c.current.ensures.sees cond)))) and nothing))))) refl | inr b5 ↦ begins-row rules.single_pattern (saw-so (c.at.ensures.sees cond) c.if-at.false and begun rules.type_path (saw-type-path (saw-before c.at.ensures.peeks.same (saw-so (c.at_path.ensures.sees cond) c.if-at_path.false))) (begun rules.expr_path (saw-expr-path (saw-before c.at.ensures.peeks.same (saw-so (c.at_path.ensures.sees cond) c.if-at_path.false))) (begun rules.path (saw-before c.at.ensures.peeks.same (saw-so (c.at_path.ensures.sees cond) c.if-at_path.false)) (saw-path-begins (saw-before c.at.ensures.peeks.same (saw-so (c.at_path.ensures.sees cond) c.if-at_path.false)) and begun rules.literal (saw-before c.at.ensures.peeks.same (saw-before c.at_path.ensures.peeks.same (saw-so (c.at_literal.ensures.sees cond) c.if-at_literal.false))) (saw-before c.at.ensures.peeks.same (saw-before c.at_path.ensures.peeks.same (saw-so (c.at_literal.ensures.sees cond) c.if-at_literal.false)) and saw-before c.at.ensures.peeks.same (saw-before c.at_path.ensures.peeks.same (saw-before c.at_literal.ensures.peeks.same (saw-arm b5 (c.current.ensures.sees cond)))) and nothing))))) refl ] ] ] ] ] ]

pub returns-in-MINUS-clause-peeks : goal.returns-in-MINUS-clause-peeks
returns-in-MINUS-clause-peeks c = peeks-within (peeks-then c.at.ensures.peeks (peeks-then c.at_path.ensures.peeks (peeks-then c.at_literal.ensures.peeks (c.current.ensures.peeks)))) (omega arith)

pub returns-then-not-at_joint-clause-sees : goal.returns-then-not-at_joint-clause-sees
unfolding look_of begins_below whole rule items statements expressions patterns types paths there_at shift passes is_silent begins in_mode from_start row one_of any_of no_longer longest is_longer
returns-then-not-at_joint-clause-sees c cond = begins-row rules.single_pattern (saw-so (c.at.ensures.sees cond) c.if-at.false and begun rules.type_path (saw-type-path (saw-before c.at.ensures.peeks.same (saw-so (c.at_path.ensures.sees cond) c.if-at_path.false))) (begun rules.expr_path (saw-expr-path (saw-before c.at.ensures.peeks.same (saw-so (c.at_path.ensures.sees cond) c.if-at_path.false))) (begun rules.path (saw-before c.at.ensures.peeks.same (saw-so (c.at_path.ensures.sees cond) c.if-at_path.false)) (saw-path-begins (saw-before c.at.ensures.peeks.same (saw-so (c.at_path.ensures.sees cond) c.if-at_path.false)) and begun rules.literal (saw-before c.at.ensures.peeks.same (saw-before c.at_path.ensures.peeks.same (saw-so (c.at_literal.ensures.sees cond) c.if-at_literal.false))) (saw-before c.at.ensures.peeks.same (saw-before c.at_path.ensures.peeks.same (saw-so (c.at_literal.ensures.sees cond) c.if-at_literal.false)) and saw-before c.at.ensures.peeks.same (saw-before c.at_path.ensures.peeks.same (saw-before c.at_literal.ensures.peeks.same (saw-arm c.in-DOT.is (c.current.ensures.sees cond)))) and saw-before c.at.ensures.peeks.same (saw-before c.at_path.ensures.peeks.same (saw-before c.at_literal.ensures.peeks.same (saw-before c.current.ensures.peeks.same (saw-so (c.at_joint.ensures.sees cond) c.if-not-at_joint.true)))) and nothing))))) refl

pub returns-then-not-at_joint-clause-peeks : goal.returns-then-not-at_joint-clause-peeks
returns-then-not-at_joint-clause-peeks c = peeks-within (peeks-then c.at.ensures.peeks (peeks-then c.at_path.ensures.peeks (peeks-then c.at_literal.ensures.peeks (peeks-then c.current.ensures.peeks (stays-peeks c.at_joint.ensures.same c.at_joint.ensures.stays))))) (omega arith)

pub returns-then-at_second-clause-sees : goal.returns-then-at_second-clause-sees
unfolding look_of begins_below whole rule items statements expressions patterns types paths there_at shift passes is_silent begins in_mode from_start row one_of any_of no_longer longest is_longer
returns-then-at_second-clause-sees c cond = begins-row rules.single_pattern (saw-so (c.at.ensures.sees cond) c.if-at.false and begun rules.type_path (saw-type-path (saw-before c.at.ensures.peeks.same (saw-so (c.at_path.ensures.sees cond) c.if-at_path.false))) (begun rules.expr_path (saw-expr-path (saw-before c.at.ensures.peeks.same (saw-so (c.at_path.ensures.sees cond) c.if-at_path.false))) (begun rules.path (saw-before c.at.ensures.peeks.same (saw-so (c.at_path.ensures.sees cond) c.if-at_path.false)) (saw-path-begins (saw-before c.at.ensures.peeks.same (saw-so (c.at_path.ensures.sees cond) c.if-at_path.false)) and begun rules.literal (saw-before c.at.ensures.peeks.same (saw-before c.at_path.ensures.peeks.same (saw-so (c.at_literal.ensures.sees cond) c.if-at_literal.false))) (saw-before c.at.ensures.peeks.same (saw-before c.at_path.ensures.peeks.same (saw-so (c.at_literal.ensures.sees cond) c.if-at_literal.false)) and saw-before c.at.ensures.peeks.same (saw-before c.at_path.ensures.peeks.same (saw-before c.at_literal.ensures.peeks.same (saw-arm c.in-DOT.is (c.current.ensures.sees cond)))) and saw-before c.at.ensures.peeks.same (saw-before c.at_path.ensures.peeks.same (saw-before c.at_literal.ensures.peeks.same (saw-before c.current.ensures.peeks.same (saw-so (c.at_joint.ensures.sees cond) c.if-not-at_joint.false)))) and saw-before c.at.ensures.peeks.same (saw-before c.at_path.ensures.peeks.same (saw-before c.at_literal.ensures.peeks.same (saw-before c.current.ensures.peeks.same (saw-before c.at_joint.ensures.same (saw-so (c.at_second.ensures.sees cond) c.if-at_second.true))))) and nothing))))) refl

pub returns-then-at_second-clause-peeks : goal.returns-then-at_second-clause-peeks
returns-then-at_second-clause-peeks c = peeks-within (peeks-then c.at.ensures.peeks (peeks-then c.at_path.ensures.peeks (peeks-then c.at_literal.ensures.peeks (peeks-then c.current.ensures.peeks (stays-then c.at_joint.ensures.same c.at_joint.ensures.stays (c.at_second.ensures.peeks)))))) (omega arith)

pub returns-else-at_second-clause-sees : goal.returns-else-at_second-clause-sees
unfolding look_of begins_below whole rule items statements expressions patterns types paths there_at shift passes is_silent begins in_mode from_start row one_of any_of no_longer longest is_longer
returns-else-at_second-clause-sees c cond = begins-row rules.single_pattern (saw-so (c.at.ensures.sees cond) c.if-at.false and begun rules.type_path (saw-type-path (saw-before c.at.ensures.peeks.same (saw-so (c.at_path.ensures.sees cond) c.if-at_path.false))) (begun rules.expr_path (saw-expr-path (saw-before c.at.ensures.peeks.same (saw-so (c.at_path.ensures.sees cond) c.if-at_path.false))) (begun rules.path (saw-before c.at.ensures.peeks.same (saw-so (c.at_path.ensures.sees cond) c.if-at_path.false)) (saw-path-begins (saw-before c.at.ensures.peeks.same (saw-so (c.at_path.ensures.sees cond) c.if-at_path.false)) and begun rules.literal (saw-before c.at.ensures.peeks.same (saw-before c.at_path.ensures.peeks.same (saw-so (c.at_literal.ensures.sees cond) c.if-at_literal.false))) (saw-before c.at.ensures.peeks.same (saw-before c.at_path.ensures.peeks.same (saw-so (c.at_literal.ensures.sees cond) c.if-at_literal.false)) and saw-before c.at.ensures.peeks.same (saw-before c.at_path.ensures.peeks.same (saw-before c.at_literal.ensures.peeks.same (saw-arm c.in-DOT.is (c.current.ensures.sees cond)))) and saw-before c.at.ensures.peeks.same (saw-before c.at_path.ensures.peeks.same (saw-before c.at_literal.ensures.peeks.same (saw-before c.current.ensures.peeks.same (saw-so (c.at_joint.ensures.sees cond) c.if-not-at_joint.false)))) and saw-before c.at.ensures.peeks.same (saw-before c.at_path.ensures.peeks.same (saw-before c.at_literal.ensures.peeks.same (saw-before c.current.ensures.peeks.same (saw-before c.at_joint.ensures.same (saw-so (c.at_second.ensures.sees cond) c.if-at_second.false))))) and nothing))))) refl

pub returns-else-at_second-clause-peeks : goal.returns-else-at_second-clause-peeks
returns-else-at_second-clause-peeks c = peeks-within (peeks-then c.at.ensures.peeks (peeks-then c.at_path.ensures.peeks (peeks-then c.at_literal.ensures.peeks (peeks-then c.current.ensures.peeks (stays-then c.at_joint.ensures.same c.at_joint.ensures.stays (c.at_second.ensures.peeks)))))) (omega arith)

pub returns-then-at_whole-clause-sees : goal.returns-then-at_whole-clause-sees
unfolding look_of begins_below whole rule items statements expressions patterns types paths there_at shift passes is_silent begins in_mode from_start row one_of any_of no_longer longest is_longer
returns-then-at_whole-clause-sees c cond = begins-row rules.single_pattern (saw-so (c.at.ensures.sees cond) c.if-at.false and begun rules.type_path (saw-type-path (saw-before c.at.ensures.peeks.same (saw-so (c.at_path.ensures.sees cond) c.if-at_path.false))) (begun rules.expr_path (saw-expr-path (saw-before c.at.ensures.peeks.same (saw-so (c.at_path.ensures.sees cond) c.if-at_path.false))) (begun rules.path (saw-before c.at.ensures.peeks.same (saw-so (c.at_path.ensures.sees cond) c.if-at_path.false)) (saw-path-begins (saw-before c.at.ensures.peeks.same (saw-so (c.at_path.ensures.sees cond) c.if-at_path.false)) and begun rules.literal (saw-before c.at.ensures.peeks.same (saw-before c.at_path.ensures.peeks.same (saw-so (c.at_literal.ensures.sees cond) c.if-at_literal.false))) (saw-before c.at.ensures.peeks.same (saw-before c.at_path.ensures.peeks.same (saw-so (c.at_literal.ensures.sees cond) c.if-at_literal.false)) and saw-before c.at.ensures.peeks.same (saw-before c.at_path.ensures.peeks.same (saw-before c.at_literal.ensures.peeks.same (saw-arm c.in-L_ANGLE.is (c.current.ensures.sees cond)))) and saw-before c.at.ensures.peeks.same (saw-before c.at_path.ensures.peeks.same (saw-before c.at_literal.ensures.peeks.same (saw-before c.current.ensures.peeks.same (saw-so (c.at_whole.ensures.sees cond) c.if-at_whole.true)))) and nothing))))) refl

pub returns-then-at_whole-clause-peeks : goal.returns-then-at_whole-clause-peeks
returns-then-at_whole-clause-peeks c = peeks-within (peeks-then c.at.ensures.peeks (peeks-then c.at_path.ensures.peeks (peeks-then c.at_literal.ensures.peeks (peeks-then c.current.ensures.peeks (stays-peeks c.at_whole.ensures.same c.at_whole.ensures.stays))))) (omega arith)

pub returns-else-at_whole-clause-sees : goal.returns-else-at_whole-clause-sees
unfolding look_of begins_below whole rule items statements expressions patterns types paths there_at shift passes is_silent begins in_mode from_start row one_of any_of no_longer longest is_longer
returns-else-at_whole-clause-sees c cond = begins-row rules.single_pattern (saw-so (c.at.ensures.sees cond) c.if-at.false and begun rules.type_path (saw-type-path (saw-before c.at.ensures.peeks.same (saw-so (c.at_path.ensures.sees cond) c.if-at_path.false))) (begun rules.expr_path (saw-expr-path (saw-before c.at.ensures.peeks.same (saw-so (c.at_path.ensures.sees cond) c.if-at_path.false))) (begun rules.path (saw-before c.at.ensures.peeks.same (saw-so (c.at_path.ensures.sees cond) c.if-at_path.false)) (saw-path-begins (saw-before c.at.ensures.peeks.same (saw-so (c.at_path.ensures.sees cond) c.if-at_path.false)) and begun rules.literal (saw-before c.at.ensures.peeks.same (saw-before c.at_path.ensures.peeks.same (saw-so (c.at_literal.ensures.sees cond) c.if-at_literal.false))) (saw-before c.at.ensures.peeks.same (saw-before c.at_path.ensures.peeks.same (saw-so (c.at_literal.ensures.sees cond) c.if-at_literal.false)) and saw-before c.at.ensures.peeks.same (saw-before c.at_path.ensures.peeks.same (saw-before c.at_literal.ensures.peeks.same (saw-arm c.in-L_ANGLE.is (c.current.ensures.sees cond)))) and saw-before c.at.ensures.peeks.same (saw-before c.at_path.ensures.peeks.same (saw-before c.at_literal.ensures.peeks.same (saw-before c.current.ensures.peeks.same (saw-so (c.at_whole.ensures.sees cond) c.if-at_whole.false)))) and nothing))))) refl

pub returns-else-at_whole-clause-peeks : goal.returns-else-at_whole-clause-peeks
returns-else-at_whole-clause-peeks c = peeks-within (peeks-then c.at.ensures.peeks (peeks-then c.at_path.ensures.peeks (peeks-then c.at_literal.ensures.peeks (peeks-then c.current.ensures.peeks (stays-peeks c.at_whole.ensures.same c.at_whole.ensures.stays))))) (omega arith)

pub returns-in_default-clause-sees : goal.returns-in_default-clause-sees
unfolding look_of begins_below whole rule items statements expressions patterns types paths there_at shift passes is_silent begins in_mode from_start row one_of any_of no_longer longest is_longer
returns-in_default-clause-sees c cond = begins-row rules.single_pattern (saw-so (c.at.ensures.sees cond) c.if-at.false and begun rules.type_path (saw-type-path (saw-before c.at.ensures.peeks.same (saw-so (c.at_path.ensures.sees cond) c.if-at_path.false))) (begun rules.expr_path (saw-expr-path (saw-before c.at.ensures.peeks.same (saw-so (c.at_path.ensures.sees cond) c.if-at_path.false))) (begun rules.path (saw-before c.at.ensures.peeks.same (saw-so (c.at_path.ensures.sees cond) c.if-at_path.false)) (saw-path-begins (saw-before c.at.ensures.peeks.same (saw-so (c.at_path.ensures.sees cond) c.if-at_path.false)) and begun rules.literal (saw-before c.at.ensures.peeks.same (saw-before c.at_path.ensures.peeks.same (saw-so (c.at_literal.ensures.sees cond) c.if-at_literal.false))) (saw-before c.at.ensures.peeks.same (saw-before c.at_path.ensures.peeks.same (saw-so (c.at_literal.ensures.sees cond) c.if-at_literal.false)) and saw-before c.at.ensures.peeks.same (saw-before c.at_path.ensures.peeks.same (saw-before c.at_literal.ensures.peeks.same (saw-not c.in_default.not-MINUS (c.current.ensures.sees cond)))) and saw-before c.at.ensures.peeks.same (saw-before c.at_path.ensures.peeks.same (saw-before c.at_literal.ensures.peeks.same (saw-not c.in_default.not-UNDERSCORE (c.current.ensures.sees cond)))) and saw-before c.at.ensures.peeks.same (saw-before c.at_path.ensures.peeks.same (saw-before c.at_literal.ensures.peeks.same (saw-not c.in_default.not-AMP (c.current.ensures.sees cond)))) and saw-before c.at.ensures.peeks.same (saw-before c.at_path.ensures.peeks.same (saw-before c.at_literal.ensures.peeks.same (saw-not c.in_default.not-L_PAREN (c.current.ensures.sees cond)))) and saw-before c.at.ensures.peeks.same (saw-before c.at_path.ensures.peeks.same (saw-before c.at_literal.ensures.peeks.same (saw-not c.in_default.not-L_BRACK (c.current.ensures.sees cond)))) and saw-before c.at.ensures.peeks.same (saw-before c.at_path.ensures.peeks.same (saw-before c.at_literal.ensures.peeks.same (saw-not c.in_default.not-REF_KW (c.current.ensures.sees cond)))) and saw-before c.at.ensures.peeks.same (saw-before c.at_path.ensures.peeks.same (saw-before c.at_literal.ensures.peeks.same (saw-not c.in_default.not-MUT_KW (c.current.ensures.sees cond)))) and saw-before c.at.ensures.peeks.same (saw-before c.at_path.ensures.peeks.same (saw-before c.at_literal.ensures.peeks.same (saw-not c.in_default.not-DOT (c.current.ensures.sees cond)))) and saw-before c.at.ensures.peeks.same (saw-before c.at_path.ensures.peeks.same (saw-before c.at_literal.ensures.peeks.same (saw-not c.in_default.not-L_ANGLE (c.current.ensures.sees cond)))) and nothing))))) refl

pub returns-in_default-clause-peeks : goal.returns-in_default-clause-peeks
returns-in_default-clause-peeks c = peeks-within (peeks-then c.at.ensures.peeks (peeks-then c.at_path.ensures.peeks (peeks-then c.at_literal.ensures.peeks (c.current.ensures.peeks)))) (omega arith)

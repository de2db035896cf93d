-- Each path reads what the rule comes to there.
use Rattle.std.proofs.Common.{inl, inr, refl, arith}
use Rattle.rust_grammar.specs.Expressions.{expressions}
use Rattle.rust_grammar.specs.Items.{items}
use Rattle.rust_grammar.specs.Meaning.{begins_below, look_of}
use Rattle.rust_grammar.specs.Notation.{any_of, is_longer, no_longer, longest, one_of, row}
use Rattle.rust_grammar.specs.Paths.{paths}
use Rattle.rust_grammar.specs.Patterns.{patterns}
use Rattle.rust_grammar.specs.Rule.{begins, in_mode, from_start, is_silent, passes, shift, there_at}
use Rattle.rust_grammar.specs.Statements.{statements}
use Rattle.rust_grammar.specs.Types.{types}
use Rattle.rust_grammar.specs.Whole.{rule, whole}
use Rattle.rust_grammar.specs.Rule as rules
use Rattle.rust_productions.proofs.Begins.{saw-expr-path, saw-path-begins, saw-type-path}
use Rattle.rust_productions.proofs.Facts.{begun, nothing, saw-so, ◌and◌}
use Rattle.rust_productions.proofs.Looking.{saw-arm, saw-not}
use Rattle.rust_productions.proofs.Seen.{begins-row, saw-before}
use Rattle.rust_productions.proofs.Peeking.{peeks-then, peeks-within}
use Rattle.rust_productions.proofs.grammar.types.at_type.Goals as goal

pub returns-then-at_path-clause-sees : goal.returns-then-at_path-clause-sees
unfolding look_of begins_below whole rule items statements expressions patterns types paths there_at shift passes is_silent begins in_mode from_start row one_of any_of no_longer longest is_longer
returns-then-at_path-clause-sees c cond = begins-row rules.any_type (begun rules.type_path (saw-type-path (saw-so (c.at_path.ensures.sees cond) c.if-at_path.true)) (begun rules.expr_path (saw-expr-path (saw-so (c.at_path.ensures.sees cond) c.if-at_path.true)) (begun rules.path (saw-so (c.at_path.ensures.sees cond) c.if-at_path.true) (saw-path-begins (saw-so (c.at_path.ensures.sees cond) c.if-at_path.true) and nothing)))) refl

pub returns-then-at_path-clause-peeks : goal.returns-then-at_path-clause-peeks
returns-then-at_path-clause-peeks c = peeks-within (c.at_path.ensures.peeks) (omega arith)

pub returns-then-at_dyn_word-clause-sees : goal.returns-then-at_dyn_word-clause-sees
unfolding look_of begins_below whole rule items statements expressions patterns types paths there_at shift passes is_silent begins in_mode from_start row one_of any_of no_longer longest is_longer
returns-then-at_dyn_word-clause-sees c cond = begins-row rules.any_type (begun rules.type_path (saw-type-path (saw-so (c.at_path.ensures.sees cond) c.if-at_path.false)) (begun rules.expr_path (saw-expr-path (saw-so (c.at_path.ensures.sees cond) c.if-at_path.false)) (begun rules.path (saw-so (c.at_path.ensures.sees cond) c.if-at_path.false) (saw-path-begins (saw-so (c.at_path.ensures.sees cond) c.if-at_path.false) and saw-before c.at_path.ensures.peeks.same (saw-so (c.at_dyn_word.ensures.sees cond) c.if-at_dyn_word.true) and nothing)))) refl

pub returns-then-at_dyn_word-clause-peeks : goal.returns-then-at_dyn_word-clause-peeks
returns-then-at_dyn_word-clause-peeks c = peeks-within (peeks-then c.at_path.ensures.peeks (c.at_dyn_word.ensures.peeks)) (omega arith)

pub returns-in-L_PAREN-clause-sees : goal.returns-in-L_PAREN-clause-sees
unfolding look_of begins_below whole rule items statements expressions patterns types paths there_at shift passes is_silent begins in_mode from_start row one_of any_of no_longer longest is_longer
returns-in-L_PAREN-clause-sees c cond = elim c.in-L_PAREN.is [ inl a0 ↦ begins-row rules.any_type (begun rules.type_path (saw-type-path (saw-so (c.at_path.ensures.sees cond) c.if-at_path.false)) (begun rules.expr_path (saw-expr-path (saw-so (c.at_path.ensures.sees cond) c.if-at_path.false)) (begun rules.path (saw-so (c.at_path.ensures.sees cond) c.if-at_path.false) (saw-path-begins (saw-so (c.at_path.ensures.sees cond) c.if-at_path.false) and saw-before c.at_path.ensures.peeks.same (saw-so (c.at_dyn_word.ensures.sees cond) c.if-at_dyn_word.false) and saw-before c.at_path.ensures.peeks.same (saw-before c.at_dyn_word.ensures.peeks.same (saw-arm a0 (c.current.ensures.sees cond))) and nothing)))) refl | inr b0 ↦ elim b0 [ inl a1 ↦ begins-row rules.any_type (begun rules.type_path (saw-type-path (saw-so (c.at_path.ensures.sees cond) c.if-at_path.false)) (begun rules.expr_path (saw-expr-path (saw-so (c.at_path.ensures.sees cond) c.if-at_path.false)) (begun rules.path (saw-so (c.at_path.ensures.sees cond) c.if-at_path.false) (saw-path-begins (saw-so (c.at_path.ensures.sees cond) c.if-at_path.false) and saw-before c.at_path.ensures.peeks.same (saw-so (c.at_dyn_word.ensures.sees cond) c.if-at_dyn_word.false) and saw-before c.at_path.ensures.peeks.same (saw-before c.at_dyn_word.ensures.peeks.same (saw-arm a1 (c.current.ensures.sees cond))) and nothing)))) refl | inr b1 ↦ elim b1 [ inl a2 ↦ begins-row rules.any_type (begun rules.type_path (saw-type-path (saw-so (c.at_path.ensures.sees cond) c.if-at_path.false)) (begun rules.expr_path (saw-expr-path (saw-so (c.at_path.ensures.sees cond) c.if-at_path.false)) (begun rules.path (saw-so (c.at_path.ensures.sees cond) c.if-at_path.false) (saw-path-begins (saw-so (c.at_path.ensures.sees cond) c.if-at_path.false) and saw-before c.at_path.ensures.peeks.same (saw-so (c.at_dyn_word.ensures.sees cond) c.if-at_dyn_word.false) and saw-before c.at_path.ensures.peeks.same (saw-before c.at_dyn_word.ensures.peeks.same (saw-arm a2 (c.current.ensures.sees cond))) and nothing)))) refl | inr b2 ↦ elim b2 [ inl a3 ↦ begins-row rules.any_type (begun rules.type_path (saw-type-path (saw-so (c.at_path.ensures.sees cond) c.if-at_path.false)) (begun rules.expr_path (saw-expr-path (saw-so (c.at_path.ensures.sees cond) c.if-at_path.false)) (begun rules.path (saw-so (c.at_path.ensures.sees cond) c.if-at_path.false) (saw-path-begins (saw-so (c.at_path.ensures.sees cond) c.if-at_path.false) and saw-before c.at_path.ensures.peeks.same (saw-so (c.at_dyn_word.ensures.sees cond) c.if-at_dyn_word.false) and saw-before c.at_path.ensures.peeks.same (saw-before c.at_dyn_word.ensures.peeks.same (saw-arm a3 (c.current.ensures.sees cond))) and nothing)))) refl | inr b3 ↦ elim b3 [ inl a4 ↦ begins-row rules.any_type (begun rules.type_path (saw-type-path (saw-so (c.at_path.ensures.sees cond) c.if-at_path.false)) (begun rules.expr_path (saw-expr-path (saw-so (c.at_path.ensures.sees cond) c.if-at_path.false)) (begun rules.path (saw-so (c.at_path.ensures.sees cond) c.if-at_path.false) (saw-path-begins (saw-so (c.at_path.ensures.sees cond) c.if-at_path.false) and saw-before c.at_path.ensures.peeks.same (saw-so (c.at_dyn_word.ensures.sees cond) c.if-at_dyn_word.false) and saw-before c.at_path.ensures.peeks.same (saw-before c.at_dyn_word.ensures.peeks.same (saw-arm a4 (c.current.ensures.sees cond))) and nothing)))) refl | inr b4 ↦ elim b4 [ inl a5 ↦ begins-row rules.any_type (begun rules.type_path (saw-type-path (saw-so (c.at_path.ensures.sees cond) c.if-at_path.false)) (begun rules.expr_path (saw-expr-path (saw-so (c.at_path.ensures.sees cond) c.if-at_path.false)) (begun rules.path (saw-so (c.at_path.ensures.sees cond) c.if-at_path.false) (saw-path-begins (saw-so (c.at_path.ensures.sees cond) c.if-at_path.false) and saw-before c.at_path.ensures.peeks.same (saw-so (c.at_dyn_word.ensures.sees cond) c.if-at_dyn_word.false) and saw-before c.at_path.ensures.peeks.same (saw-before c.at_dyn_word.ensures.peeks.same (saw-arm a5 (c.current.ensures.sees cond))) and nothing)))) refl | inr b5 ↦ elim b5 [ inl a6 ↦ begins-row rules.any_type (begun rules.type_path (saw-type-path (saw-so (c.at_path.ensures.sees cond) c.if-at_path.false)) (begun rules.expr_path (saw-expr-path (saw-so (c.at_path.ensures.sees cond) c.if-at_path.false)) (begun rules.path (saw-so (c.at_path.ensures.sees cond) c.if-at_path.false) (saw-path-begins (saw-so (c.at_path.ensures.sees cond) c.if-at_path.false) and saw-before c.at_path.ensures.peeks.same (saw-so (c.at_dyn_word.ensures.sees cond) c.if-at_dyn_word.false) and saw-before c.at_path.ensures.peeks.same (saw-before c.at_dyn_word.ensures.peeks.same (saw-arm a6 (c.current.ensures.sees cond))) and nothing)))) refl | inr b6 ↦ begins-row rules.any_type (begun rules.type_path (saw-type-path (saw-so (c.at_path.ensures.sees cond) c.if-at_path.false)) (begun rules.expr_path (saw-expr-path (saw-so (c.at_path.ensures.sees cond) c.if-at_path.false)) (begun rules.path (saw-so (c.at_path.ensures.sees cond) c.if-at_path.false) (saw-path-begins (saw-so (c.at_path.ensures.sees cond) c.if-at_path.false) and saw-before c.at_path.ensures.peeks.same (saw-so (c.at_dyn_word.ensures.sees cond) c.if-at_dyn_word.false) and saw-before c.at_path.ensures.peeks.same (saw-before c.at_dyn_word.ensures.peeks.same (saw-arm b6 (c.current.ensures.sees cond))) and nothing)))) refl ] ] ] ] ] ] ]

pub returns-in-L_PAREN-clause-peeks : goal.returns-in-L_PAREN-clause-peeks
returns-in-L_PAREN-clause-peeks c = peeks-within (peeks-then c.at_path.ensures.peeks (peeks-then c.at_dyn_word.ensures.peeks (c.current.ensures.peeks))) (omega arith)

pub returns-then-at_new_type-clause-sees : goal.returns-then-at_new_type-clause-sees
unfolding look_of begins_below whole rule items statements expressions patterns types paths there_at shift passes is_silent begins in_mode from_start row one_of any_of no_longer longest is_longer
returns-then-at_new_type-clause-sees c cond = begins-row rules.any_type (begun rules.type_path (saw-type-path (saw-so (c.at_path.ensures.sees cond) c.if-at_path.false)) (begun rules.expr_path (saw-expr-path (saw-so (c.at_path.ensures.sees cond) c.if-at_path.false)) (begun rules.path (saw-so (c.at_path.ensures.sees cond) c.if-at_path.false) (saw-path-begins (saw-so (c.at_path.ensures.sees cond) c.if-at_path.false) and saw-before c.at_path.ensures.peeks.same (saw-so (c.at_dyn_word.ensures.sees cond) c.if-at_dyn_word.false) and saw-before c.at_path.ensures.peeks.same (saw-before c.at_dyn_word.ensures.peeks.same (saw-not c.in_default.not-L_PAREN (c.current.ensures.sees cond))) and saw-before c.at_path.ensures.peeks.same (saw-before c.at_dyn_word.ensures.peeks.same (saw-not c.in_default.not-BANG (c.current.ensures.sees cond))) and saw-before c.at_path.ensures.peeks.same (saw-before c.at_dyn_word.ensures.peeks.same (saw-not c.in_default.not-STAR (c.current.ensures.sees cond))) and saw-before c.at_path.ensures.peeks.same (saw-before c.at_dyn_word.ensures.peeks.same (saw-not c.in_default.not-L_BRACK (c.current.ensures.sees cond))) and saw-before c.at_path.ensures.peeks.same (saw-before c.at_dyn_word.ensures.peeks.same (saw-not c.in_default.not-AMP (c.current.ensures.sees cond))) and saw-before c.at_path.ensures.peeks.same (saw-before c.at_dyn_word.ensures.peeks.same (saw-not c.in_default.not-UNDERSCORE (c.current.ensures.sees cond))) and saw-before c.at_path.ensures.peeks.same (saw-before c.at_dyn_word.ensures.peeks.same (saw-not c.in_default.not-IMPL_KW (c.current.ensures.sees cond))) and saw-before c.at_path.ensures.peeks.same (saw-before c.at_dyn_word.ensures.peeks.same (saw-not c.in_default.not-DYN_KW (c.current.ensures.sees cond))) and saw-before c.at_path.ensures.peeks.same (saw-before c.at_dyn_word.ensures.peeks.same (saw-before c.current.ensures.peeks.same (saw-so (c.at_new_type.ensures.sees cond) c.if-at_new_type.true))) and nothing)))) refl

pub returns-then-at_new_type-clause-peeks : goal.returns-then-at_new_type-clause-peeks
returns-then-at_new_type-clause-peeks c = peeks-within (peeks-then c.at_path.ensures.peeks (peeks-then c.at_dyn_word.ensures.peeks (peeks-then c.current.ensures.peeks (c.at_new_type.ensures.peeks)))) (omega arith)

pub returns-else-at_new_type-clause-sees : goal.returns-else-at_new_type-clause-sees
unfolding look_of begins_below whole rule items statements expressions patterns types paths there_at shift passes is_silent begins in_mode from_start row one_of any_of no_longer longest is_longer
returns-else-at_new_type-clause-sees c cond = begins-row rules.any_type (begun rules.type_path (saw-type-path (saw-so (c.at_path.ensures.sees cond) c.if-at_path.false)) (begun rules.expr_path (saw-expr-path (saw-so (c.at_path.ensures.sees cond) c.if-at_path.false)) (begun rules.path (saw-so (c.at_path.ensures.sees cond) c.if-at_path.false) (saw-path-begins (saw-so (c.at_path.ensures.sees cond) c.if-at_path.false) and saw-before c.at_path.ensures.peeks.same (saw-so (c.at_dyn_word.ensures.sees cond) c.if-at_dyn_word.false) and saw-before c.at_path.ensures.peeks.same (saw-before c.at_dyn_word.ensures.peeks.same (saw-not c.in_default.not-L_PAREN (c.current.ensures.sees cond))) and saw-before c.at_path.ensures.peeks.same (saw-before c.at_dyn_word.ensures.peeks.same (saw-not c.in_default.not-BANG (c.current.ensures.sees cond))) and saw-before c.at_path.ensures.peeks.same (saw-before c.at_dyn_word.ensures.peeks.same (saw-not c.in_default.not-STAR (c.current.ensures.sees cond))) and saw-before c.at_path.ensures.peeks.same (saw-before c.at_dyn_word.ensures.peeks.same (saw-not c.in_default.not-L_BRACK (c.current.ensures.sees cond))) and saw-before c.at_path.ensures.peeks.same (saw-before c.at_dyn_word.ensures.peeks.same (saw-not c.in_default.not-AMP (c.current.ensures.sees cond))) and saw-before c.at_path.ensures.peeks.same (saw-before c.at_dyn_word.ensures.peeks.same (saw-not c.in_default.not-UNDERSCORE (c.current.ensures.sees cond))) and saw-before c.at_path.ensures.peeks.same (saw-before c.at_dyn_word.ensures.peeks.same (saw-not c.in_default.not-IMPL_KW (c.current.ensures.sees cond))) and saw-before c.at_path.ensures.peeks.same (saw-before c.at_dyn_word.ensures.peeks.same (saw-not c.in_default.not-DYN_KW (c.current.ensures.sees cond))) and saw-before c.at_path.ensures.peeks.same (saw-before c.at_dyn_word.ensures.peeks.same (saw-before c.current.ensures.peeks.same (saw-so (c.at_new_type.ensures.sees cond) c.if-at_new_type.false))) and nothing)))) refl

pub returns-else-at_new_type-clause-peeks : goal.returns-else-at_new_type-clause-peeks
returns-else-at_new_type-clause-peeks c = peeks-within (peeks-then c.at_path.ensures.peeks (peeks-then c.at_dyn_word.ensures.peeks (peeks-then c.current.ensures.peeks (c.at_new_type.ensures.peeks)))) (omega arith)

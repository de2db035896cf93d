-- Each path reads what the rule comes to there.
use Rattle.std.proofs.Common.{inl, inr, refl, arith}
use Rattle.rust_grammar.specs.Expressions.{expressions}
use Rattle.rust_grammar.specs.Items.{items}
use Rattle.rust_grammar.specs.Meaning.{begins_below, look_of}
use Rattle.rust_grammar.specs.Notation.{any_of, is_longer, no_longer, longest, one_of, row}
use Rattle.rust_grammar.specs.Paths.{paths}
use Rattle.rust_grammar.specs.Patterns.{patterns}
use Rattle.rust_grammar.specs.Rule.{begins, in_mode, from_start, is_silent, passes, shift, there_at}
use Rattle.rust_grammar.specs.Statements.{statements}
use Rattle.rust_grammar.specs.Types.{types}
use Rattle.rust_grammar.specs.Whole.{rule, whole}
use Rattle.rust_grammar.specs.Rule as rules
use Rattle.rust_productions.proofs.Begins.{saw-expr-path, saw-path-begins, saw-type-path}
use Rattle.rust_productions.proofs.Facts.{begun, nothing, saw-so, ◌and◌}
use Rattle.rust_productions.proofs.Looking.{saw-arm, saw-not}
use Rattle.rust_productions.proofs.Seen.{begins-row, saw-before}
use Rattle.rust_productions.proofs.Peeking.{peeks-then, peeks-within}
use Rattle.rust_productions.proofs.grammar.expressions.at_atom.Goals as goal

pub returns-then-at_path-clause-sees : goal.returns-then-at_path-clause-sees
unfolding look_of begins_below whole rule items statements expressions patterns types paths there_at shift passes is_silent begins in_mode from_start row one_of any_of no_longer longest is_longer
returns-then-at_path-clause-sees c = begins-row rules.atom (begun rules.type_path (saw-type-path (saw-so (c.at_path.ensures.sees c.args.condition) c.if-at_path.true)) (begun rules.expr_path (saw-expr-path (saw-so (c.at_path.ensures.sees c.args.condition) c.if-at_path.true)) (begun rules.path (saw-so (c.at_path.ensures.sees c.args.condition) c.if-at_path.true) (saw-path-begins (saw-so (c.at_path.ensures.sees c.args.condition) c.if-at_path.true) and nothing)))) refl

pub returns-then-at_path-clause-peeks : goal.returns-then-at_path-clause-peeks
returns-then-at_path-clause-peeks c = peeks-within (c.at_path.ensures.peeks) (omega arith)

pub returns-then-at_literal-clause-sees : goal.returns-then-at_literal-clause-sees
unfolding look_of begins_below whole rule items statements expressions patterns types paths there_at shift passes is_silent begins in_mode from_start row one_of any_of no_longer longest is_longer
returns-then-at_literal-clause-sees c = begins-row rules.atom (begun rules.type_path (saw-type-path (saw-so (c.at_path.ensures.sees c.args.condition) c.if-at_path.false)) (begun rules.expr_path (saw-expr-path (saw-so (c.at_path.ensures.sees c.args.condition) c.if-at_path.false)) (begun rules.path (saw-so (c.at_path.ensures.sees c.args.condition) c.if-at_path.false) (saw-path-begins (saw-so (c.at_path.ensures.sees c.args.condition) c.if-at_path.false) and begun rules.literal (saw-before c.at_path.ensures.peeks.same (saw-so (c.at_literal.ensures.sees c.args.condition) c.if-at_literal.true)) (saw-before c.at_path.ensures.peeks.same (saw-so (c.at_literal.ensures.sees c.args.condition) c.if-at_literal.true) and nothing))))) refl

pub returns-then-at_literal-clause-peeks : goal.returns-then-at_literal-clause-peeks
returns-then-at_literal-clause-peeks c = peeks-within (peeks-then c.at_path.ensures.peeks (c.at_literal.ensures.peeks)) (omega arith)

pub returns-then-at_block_like-clause-sees : goal.returns-then-at_block_like-clause-sees
unfolding look_of begins_below whole rule items statements expressions patterns types paths there_at shift passes is_silent begins in_mode from_start row one_of any_of no_longer longest is_longer
returns-then-at_block_like-clause-sees c = begins-row rules.atom (begun rules.type_path (saw-type-path (saw-so (c.at_path.ensures.sees c.args.condition) c.if-at_path.false)) (begun rules.expr_path (saw-expr-path (saw-so (c.at_path.ensures.sees c.args.condition) c.if-at_path.false)) (begun rules.path (saw-so (c.at_path.ensures.sees c.args.condition) c.if-at_path.false) (saw-path-begins (saw-so (c.at_path.ensures.sees c.args.condition) c.if-at_path.false) and begun rules.literal (saw-before c.at_path.ensures.peeks.same (saw-so (c.at_literal.ensures.sees c.args.condition) c.if-at_literal.false)) (saw-before c.at_path.ensures.peeks.same (saw-so (c.at_literal.ensures.sees c.args.condition) c.if-at_literal.false) and begun rules.block_like (saw-before c.at_path.ensures.peeks.same (saw-before c.at_literal.ensures.peeks.same (saw-so (c.at_block_like.ensures.sees c.args.condition) c.if-at_block_like.true))) (nothing)))))) refl

pub returns-then-at_block_like-clause-peeks : goal.returns-then-at_block_like-clause-peeks
returns-then-at_block_like-clause-peeks c = peeks-within (peeks-then c.at_path.ensures.peeks (peeks-then c.at_literal.ensures.peeks (c.at_block_like.ensures.peeks))) (omega arith)

pub returns-then-at_new_atom-clause-sees : goal.returns-then-at_new_atom-clause-sees
unfolding look_of begins_below whole rule items statements expressions patterns types paths there_at shift passes is_silent begins in_mode from_start row one_of any_of no_longer longest is_longer
returns-then-at_new_atom-clause-sees c = begins-row rules.atom (begun rules.type_path (saw-type-path (saw-so (c.at_path.ensures.sees c.args.condition) c.if-at_path.false)) (begun rules.expr_path (saw-expr-path (saw-so (c.at_path.ensures.sees c.args.condition) c.if-at_path.false)) (begun rules.path (saw-so (c.at_path.ensures.sees c.args.condition) c.if-at_path.false) (saw-path-begins (saw-so (c.at_path.ensures.sees c.args.condition) c.if-at_path.false) and begun rules.literal (saw-before c.at_path.ensures.peeks.same (saw-so (c.at_literal.ensures.sees c.args.condition) c.if-at_literal.false)) (saw-before c.at_path.ensures.peeks.same (saw-so (c.at_literal.ensures.sees c.args.condition) c.if-at_literal.false) and begun rules.block_like (saw-before c.at_path.ensures.peeks.same (saw-before c.at_literal.ensures.peeks.same (saw-so (c.at_block_like.ensures.sees c.args.condition) c.if-at_block_like.false))) (saw-before c.at_path.ensures.peeks.same (saw-before c.at_literal.ensures.peeks.same (saw-before c.at_block_like.ensures.peeks.same (saw-so (c.at_new_atom.ensures.sees c.args.condition) c.if-at_new_atom.true))) and nothing)))))) refl

pub returns-then-at_new_atom-clause-peeks : goal.returns-then-at_new_atom-clause-peeks
returns-then-at_new_atom-clause-peeks c = peeks-within (peeks-then c.at_path.ensures.peeks (peeks-then c.at_literal.ensures.peeks (peeks-then c.at_block_like.ensures.peeks (c.at_new_atom.ensures.peeks)))) (omega arith)

pub returns-then-at_let-clause-sees : goal.returns-then-at_let-clause-sees
unfolding look_of begins_below whole rule items statements expressions patterns types paths there_at shift passes is_silent begins in_mode from_start row one_of any_of no_longer longest is_longer
returns-then-at_let-clause-sees c = begins-row rules.atom (begun rules.type_path (saw-type-path (saw-so (c.at_path.ensures.sees c.args.condition) c.if-at_path.false)) (begun rules.expr_path (saw-expr-path (saw-so (c.at_path.ensures.sees c.args.condition) c.if-at_path.false)) (begun rules.path (saw-so (c.at_path.ensures.sees c.args.condition) c.if-at_path.false) (saw-path-begins (saw-so (c.at_path.ensures.sees c.args.condition) c.if-at_path.false) and begun rules.literal (saw-before c.at_path.ensures.peeks.same (saw-so (c.at_literal.ensures.sees c.args.condition) c.if-at_literal.false)) (saw-before c.at_path.ensures.peeks.same (saw-so (c.at_literal.ensures.sees c.args.condition) c.if-at_literal.false) and begun rules.block_like (saw-before c.at_path.ensures.peeks.same (saw-before c.at_literal.ensures.peeks.same (saw-so (c.at_block_like.ensures.sees c.args.condition) c.if-at_block_like.false))) (saw-before c.at_path.ensures.peeks.same (saw-before c.at_literal.ensures.peeks.same (saw-before c.at_block_like.ensures.peeks.same (saw-so (c.at_new_atom.ensures.sees c.args.condition) c.if-at_new_atom.false))) and saw-before c.at_path.ensures.peeks.same (saw-before c.at_literal.ensures.peeks.same (saw-before c.at_block_like.ensures.peeks.same (saw-before c.at_new_atom.ensures.peeks.same (saw-so (c.at_let.ensures.sees) c.if-at_let.true)))) and nothing)))))) refl

pub returns-then-at_let-clause-peeks : goal.returns-then-at_let-clause-peeks
returns-then-at_let-clause-peeks c = peeks-within (peeks-then c.at_path.ensures.peeks (peeks-then c.at_literal.ensures.peeks (peeks-then c.at_block_like.ensures.peeks (peeks-then c.at_new_atom.ensures.peeks (c.at_let.ensures.peeks))))) (omega arith)

pub returns-in-L_PAREN-clause-sees : goal.returns-in-L_PAREN-clause-sees
unfolding look_of begins_below whole rule items statements expressions patterns types paths there_at shift passes is_silent begins in_mode from_start row one_of any_of no_longer longest is_longer
returns-in-L_PAREN-clause-sees c = elim c.in-L_PAREN.is [ inl a0 ↦ begins-row rules.atom (begun rules.type_path (saw-type-path (saw-so (c.at_path.ensures.sees c.args.condition) c.if-at_path.false)) (begun rules.expr_path (saw-expr-path (saw-so (c.at_path.ensures.sees c.args.condition) c.if-at_path.false)) (begun rules.path (saw-so (c.at_path.ensures.sees c.args.condition) c.if-at_path.false) (saw-path-begins (saw-so (c.at_path.ensures.sees c.args.condition) c.if-at_path.false) and begun rules.literal (saw-before c.at_path.ensures.peeks.same (saw-so (c.at_literal.ensures.sees c.args.condition) c.if-at_literal.false)) (saw-before c.at_path.ensures.peeks.same (saw-so (c.at_literal.ensures.sees c.args.condition) c.if-at_literal.false) and begun rules.block_like (saw-before c.at_path.ensures.peeks.same (saw-before c.at_literal.ensures.peeks.same (saw-so (c.at_block_like.ensures.sees c.args.condition) c.if-at_block_like.false))) (saw-before c.at_path.ensures.peeks.same (saw-before c.at_literal.ensures.peeks.same (saw-before c.at_block_like.ensures.peeks.same (saw-so (c.at_new_atom.ensures.sees c.args.condition) c.if-at_new_atom.false))) and saw-before c.at_path.ensures.peeks.same (saw-before c.at_literal.ensures.peeks.same (saw-before c.at_block_like.ensures.peeks.same (saw-before c.at_new_atom.ensures.peeks.same (saw-so (c.at_let.ensures.sees) c.if-at_let.false)))) and saw-before c.at_path.ensures.peeks.same (saw-before c.at_literal.ensures.peeks.same (saw-before c.at_block_like.ensures.peeks.same (saw-before c.at_new_atom.ensures.peeks.same (saw-before c.at_let.ensures.peeks.same (saw-arm a0 (c.current.ensures.sees c.args.condition)))))) and nothing)))))) refl | inr b0 ↦ elim b0 [ inl a1 ↦ begins-row rules.atom (begun rules.type_path (saw-type-path (saw-so (c.at_path.ensures.sees c.args.condition) c.if-at_path.false)) (begun rules.expr_path (saw-expr-path (saw-so (c.at_path.ensures.sees c.args.condition) c.if-at_path.false)) (begun rules.path (saw-so (c.at_path.ensures.sees c.args.condition) c.if-at_path.false) (saw-path-begins (saw-so (c.at_path.ensures.sees c.args.condition) c.if-at_path.false) and begun rules.literal (saw-before c.at_path.ensures.peeks.same (saw-so (c.at_literal.ensures.sees c.args.condition) c.if-at_literal.false)) (saw-before c.at_path.ensures.peeks.same (saw-so (c.at_literal.ensures.sees c.args.condition) c.if-at_literal.false) and begun rules.block_like (saw-before c.at_path.ensures.peeks.same (saw-before c.at_literal.ensures.peeks.same (saw-so (c.at_block_like.ensures.sees c.args.condition) c.if-at_block_like.false))) (saw-before c.at_path.ensures.peeks.same (saw-before c.at_literal.ensures.peeks.same (saw-before c.at_block_like.ensures.peeks.same (saw-so (c.at_new_atom.ensures.sees c.args.condition) c.if-at_new_atom.false))) and saw-before c.at_path.ensures.peeks.same (saw-before c.at_literal.ensures.peeks.same (saw-before c.at_block_like.ensures.peeks.same (saw-before c.at_new_atom.ensures.peeks.same (saw-so (c.at_let.ensures.sees) c.if-at_let.false)))) and saw-before c.at_path.ensures.peeks.same (saw-before c.at_literal.ensures.peeks.same (saw-before c.at_block_like.ensures.peeks.same (saw-before c.at_new_atom.ensures.peeks.same (saw-before c.at_let.ensures.peeks.same (saw-arm a1 (c.current.ensures.sees c.args.condition)))))) and nothing)))))) refl | inr b1 ↦ elim b1 [ inl a2 ↦ begins-row rules.atom (begun rules.type_path (saw-type-path (saw-so (c.at_path.ensures.sees c.args.condition) c.if-at_path.false)) (begun rules.expr_path (saw-expr-path (saw-so (c.at_path.ensures.sees c.args.condition) c.if-at_path.false)) (begun rules.path (saw-so (c.at_path.ensures.sees c.args.condition) c.if-at_path.false) (saw-path-begins (saw-so (c.at_path.ensures.sees c.args.condition) c.if-at_path.false) and begun rules.literal (saw-before c.at_path.ensures.peeks.same (saw-so (c.at_literal.ensures.sees c.args.condition) c.if-at_literal.false)) (saw-before c.at_path.ensures.peeks.same (saw-so (c.at_literal.ensures.sees c.args.condition) c.if-at_literal.false) and begun rules.block_like (saw-before c.at_path.ensures.peeks.same (saw-before c.at_literal.ensures.peeks.same (saw-so (c.at_block_like.ensures.sees c.args.condition) c.if-at_block_like.false))) (saw-before c.at_path.ensures.peeks.same (saw-before c.at_literal.ensures.peeks.same (saw-before c.at_block_like.ensures.peeks.same (saw-so (c.at_new_atom.ensures.sees c.args.condition) c.if-at_new_atom.false))) and saw-before c.at_path.ensures.peeks.same (saw-before c.at_literal.ensures.peeks.same (saw-before c.at_block_like.ensures.peeks.same (saw-before c.at_new_atom.ensures.peeks.same (saw-so (c.at_let.ensures.sees) c.if-at_let.false)))) and saw-before c.at_path.ensures.peeks.same (saw-before c.at_literal.ensures.peeks.same (saw-before c.at_block_like.ensures.peeks.same (saw-before c.at_new_atom.ensures.peeks.same (saw-before c.at_let.ensures.peeks.same (saw-arm a2 (c.current.ensures.sees c.args.condition)))))) and nothing)))))) refl | inr b2 ↦ elim b2 [ inl a3 ↦ begins-row rules.atom (begun rules.type_path (saw-type-path (saw-so (c.at_path.ensures.sees c.args.condition) c.if-at_path.false)) (begun rules.expr_path (saw-expr-path (saw-so (c.at_path.ensures.sees c.args.condition) c.if-at_path.false)) (begun rules.path (saw-so (c.at_path.ensures.sees c.args.condition) c.if-at_path.false) (saw-path-begins (saw-so (c.at_path.ensures.sees c.args.condition) c.if-at_path.false) and begun rules.literal (saw-before c.at_path.ensures.peeks.same (saw-so (c.at_literal.ensures.sees c.args.condition) c.if-at_literal.false)) (saw-before c.at_path.ensures.peeks.same (saw-so (c.at_literal.ensures.sees c.args.condition) c.if-at_literal.false) and begun rules.block_like (saw-before c.at_path.ensures.peeks.same (saw-before c.at_literal.ensures.peeks.same (saw-so (c.at_block_like.ensures.sees c.args.condition) c.if-at_block_like.false))) (saw-before c.at_path.ensures.peeks.same (saw-before c.at_literal.ensures.peeks.same (saw-before c.at_block_like.ensures.peeks.same (saw-so (c.at_new_atom.ensures.sees c.args.condition) c.if-at_new_atom.false))) and saw-before c.at_path.ensures.peeks.same (saw-before c.at_literal.ensures.peeks.same (saw-before c.at_block_like.ensures.peeks.same (saw-before c.at_new_atom.ensures.peeks.same (saw-so (c.at_let.ensures.sees) c.if-at_let.false)))) and saw-before c.at_path.ensures.peeks.same (saw-before c.at_literal.ensures.peeks.same (saw-before c.at_block_like.ensures.peeks.same (saw-before c.at_new_atom.ensures.peeks.same (saw-before c.at_let.ensures.peeks.same (saw-arm a3 (c.current.ensures.sees c.args.condition)))))) and nothing)))))) refl | inr b3 ↦ elim b3 [ inl a4 ↦ begins-row rules.atom (begun rules.type_path (saw-type-path (saw-so (c.at_path.ensures.sees c.args.condition) c.if-at_path.false)) (begun rules.expr_path (saw-expr-path (saw-so (c.at_path.ensures.sees c.args.condition) c.if-at_path.false)) (begun rules.path (saw-so (c.at_path.ensures.sees c.args.condition) c.if-at_path.false) (saw-path-begins (saw-so (c.at_path.ensures.sees c.args.condition) c.if-at_path.false) and begun rules.literal (saw-before c.at_path.ensures.peeks.same (saw-so (c.at_literal.ensures.sees c.args.condition) c.if-at_literal.false)) (saw-before c.at_path.ensures.peeks.same (saw-so (c.at_literal.ensures.sees c.args.condition) c.if-at_literal.false) and begun rules.block_like (saw-before c.at_path.ensures.peeks.same (saw-before c.at_literal.ensures.peeks.same (saw-so (c.at_block_like.ensures.sees c.args.condition) c.if-at_block_like.false))) (saw-before c.at_path.ensures.peeks.same (saw-before c.at_literal.ensures.peeks.same (saw-before c.at_block_like.ensures.peeks.same (saw-so (c.at_new_atom.ensures.sees c.args.condition) c.if-at_new_atom.false))) and saw-before c.at_path.ensures.peeks.same (saw-before c.at_literal.ensures.peeks.same (saw-before c.at_block_like.ensures.peeks.same (saw-before c.at_new_atom.ensures.peeks.same (saw-so (c.at_let.ensures.sees) c.if-at_let.false)))) and saw-before c.at_path.ensures.peeks.same (saw-before c.at_literal.ensures.peeks.same (saw-before c.at_block_like.ensures.peeks.same (saw-before c.at_new_atom.ensures.peeks.same (saw-before c.at_let.ensures.peeks.same (saw-arm a4 (c.current.ensures.sees c.args.condition)))))) and nothing)))))) refl | inr b4 ↦ elim b4 [ inl a5 ↦ begins-row rules.atom (begun rules.type_path (saw-type-path (saw-so (c.at_path.ensures.sees c.args.condition) c.if-at_path.false)) (begun rules.expr_path (saw-expr-path (saw-so (c.at_path.ensures.sees c.args.condition) c.if-at_path.false)) (begun rules.path (saw-so (c.at_path.ensures.sees c.args.condition) c.if-at_path.false) (saw-path-begins (saw-so (c.at_path.ensures.sees c.args.condition) c.if-at_path.false) and begun rules.literal (saw-before c.at_path.ensures.peeks.same (saw-so (c.at_literal.ensures.sees c.args.condition) c.if-at_literal.false)) (saw-before c.at_path.ensures.peeks.same (saw-so (c.at_literal.ensures.sees c.args.condition) c.if-at_literal.false) and begun rules.block_like (saw-before c.at_path.ensures.peeks.same (saw-before c.at_literal.ensures.peeks.same (saw-so (c.at_block_like.ensures.sees c.args.condition) c.if-at_block_like.false))) (saw-before c.at_path.ensures.peeks.same (saw-before c.at_literal.ensures.peeks.same (saw-before c.at_block_like.ensures.peeks.same (saw-so (c.at_new_atom.ensures.sees c.args.condition) c.if-at_new_atom.false))) and saw-before c.at_path.ensures.peeks.same (saw-before c.at_literal.ensures.peeks.same (saw-before c.at_block_like.ensures.peeks.same (saw-before c.at_new_atom.ensures.peeks.same (saw-so (c.at_let.ensures.sees) c.if-at_let.false)))) and saw-before c.at_path.ensures.peeks.same (saw-before c.at_literal.ensures.peeks.same (saw-before c.at_block_like.ensures.peeks.same (saw-before c.at_new_atom.ensures.peeks.same (saw-before c.at_let.ensures.peeks.same (saw-arm a5 (c.current.ensures.sees c.args.condition)))))) and nothing)))))) refl | inr b5 ↦ begins-row rules.atom (begun rules.type_path (saw-type-path (saw-so (c.at_path.ensures.sees c.args.condition) c.if-at_path.false)) (begun rules.expr_path (saw-expr-path (saw-so (c.at_path.ensures.sees c.args.condition) c.if-at_path.false)) (begun rules.path (saw-so (c.at_path.ensures.sees c.args.condition) c.if-at_path.false) (saw-path-begins (saw-so (c.at_path.ensures.sees c.args.condition) c.if-at_path.false) and begun rules.literal (saw-before c.at_path.ensures.peeks.same (saw-so (c.at_literal.ensures.sees c.args.condition) c.if-at_literal.false)) (saw-before c.at_path.ensures.peeks.same (saw-so (c.at_literal.ensures.sees c.args.condition) c.if-at_literal.false) and begun rules.block_like (saw-before c.at_path.ensures.peeks.same (saw-before c.at_literal.ensures.peeks.same (saw-so (c.at_block_like.ensures.sees c.args.condition) c.if-at_block_like.false))) (saw-before c.at_path.ensures.peeks.same (saw-before c.at_literal.ensures.peeks.same (saw-before c.at_block_like.ensures.peeks.same (saw-so (c.at_new_atom.ensures.sees c.args.condition) c.if-at_new_atom.false))) and saw-before c.at_path.ensures.peeks.same (saw-before c.at_literal.ensures.peeks.same (saw-before c.at_block_like.ensures.peeks.same (saw-before c.at_new_atom.ensures.peeks.same (saw-so (c.at_let.ensures.sees) c.if-at_let.false)))) and saw-before c.at_path.ensures.peeks.same (saw-before c.at_literal.ensures.peeks.same (saw-before c.at_block_like.ensures.peeks.same (saw-before c.at_new_atom.ensures.peeks.same (saw-before c.at_let.ensures.peeks.same (saw-arm b5 (c.current.ensures.sees c.args.condition)))))) and nothing)))))) refl ] ] ] ] ] ]

pub returns-in-L_PAREN-clause-peeks : goal.returns-in-L_PAREN-clause-peeks
returns-in-L_PAREN-clause-peeks c = peeks-within (peeks-then c.at_path.ensures.peeks (peeks-then c.at_literal.ensures.peeks (peeks-then c.at_block_like.ensures.peeks (peeks-then c.at_new_atom.ensures.peeks (peeks-then c.at_let.ensures.peeks (c.current.ensures.peeks)))))) (omega arith)

pub returns-in_default-clause-sees : goal.returns-in_default-clause-sees
unfolding look_of begins_below whole rule items statements expressions patterns types paths there_at shift passes is_silent begins in_mode from_start row one_of any_of no_longer longest is_longer
returns-in_default-clause-sees c = begins-row rules.atom (begun rules.type_path (saw-type-path (saw-so (c.at_path.ensures.sees c.args.condition) c.if-at_path.false)) (begun rules.expr_path (saw-expr-path (saw-so (c.at_path.ensures.sees c.args.condition) c.if-at_path.false)) (begun rules.path (saw-so (c.at_path.ensures.sees c.args.condition) c.if-at_path.false) (saw-path-begins (saw-so (c.at_path.ensures.sees c.args.condition) c.if-at_path.false) and begun rules.literal (saw-before c.at_path.ensures.peeks.same (saw-so (c.at_literal.ensures.sees c.args.condition) c.if-at_literal.false)) (saw-before c.at_path.ensures.peeks.same (saw-so (c.at_literal.ensures.sees c.args.condition) c.if-at_literal.false) and begun rules.block_like (saw-before c.at_path.ensures.peeks.same (saw-before c.at_literal.ensures.peeks.same (saw-so (c.at_block_like.ensures.sees c.args.condition) c.if-at_block_like.false))) (saw-before c.at_path.ensures.peeks.same (saw-before c.at_literal.ensures.peeks.same (saw-before c.at_block_like.ensures.peeks.same (saw-so (c.at_new_atom.ensures.sees c.args.condition) c.if-at_new_atom.false))) and saw-before c.at_path.ensures.peeks.same (saw-before c.at_literal.ensures.peeks.same (saw-before c.at_block_like.ensures.peeks.same (saw-before c.at_new_atom.ensures.peeks.same (saw-so (c.at_let.ensures.sees) c.if-at_let.false)))) and saw-before c.at_path.ensures.peeks.same (saw-before c.at_literal.ensures.peeks.same (saw-before c.at_block_like.ensures.peeks.same (saw-before c.at_new_atom.ensures.peeks.same (saw-before c.at_let.ensures.peeks.same (saw-not c.in_default.not-L_PAREN (c.current.ensures.sees c.args.condition)))))) and saw-before c.at_path.ensures.peeks.same (saw-before c.at_literal.ensures.peeks.same (saw-before c.at_block_like.ensures.peeks.same (saw-before c.at_new_atom.ensures.peeks.same (saw-before c.at_let.ensures.peeks.same (saw-not c.in_default.not-L_BRACK (c.current.ensures.sees c.args.condition)))))) and saw-before c.at_path.ensures.peeks.same (saw-before c.at_literal.ensures.peeks.same (saw-before c.at_block_like.ensures.peeks.same (saw-before c.at_new_atom.ensures.peeks.same (saw-before c.at_let.ensures.peeks.same (saw-not c.in_default.not-RETURN_KW (c.current.ensures.sees c.args.condition)))))) and saw-before c.at_path.ensures.peeks.same (saw-before c.at_literal.ensures.peeks.same (saw-before c.at_block_like.ensures.peeks.same (saw-before c.at_new_atom.ensures.peeks.same (saw-before c.at_let.ensures.peeks.same (saw-not c.in_default.not-BREAK_KW (c.current.ensures.sees c.args.condition)))))) and saw-before c.at_path.ensures.peeks.same (saw-before c.at_literal.ensures.peeks.same (saw-before c.at_block_like.ensures.peeks.same (saw-before c.at_new_atom.ensures.peeks.same (saw-before c.at_let.ensures.peeks.same (saw-not c.in_default.not-CONTINUE_KW (c.current.ensures.sees c.args.condition)))))) and saw-before c.at_path.ensures.peeks.same (saw-before c.at_literal.ensures.peeks.same (saw-before c.at_block_like.ensures.peeks.same (saw-before c.at_new_atom.ensures.peeks.same (saw-before c.at_let.ensures.peeks.same (saw-not c.in_default.not-MOVE_KW (c.current.ensures.sees c.args.condition)))))) and saw-before c.at_path.ensures.peeks.same (saw-before c.at_literal.ensures.peeks.same (saw-before c.at_block_like.ensures.peeks.same (saw-before c.at_new_atom.ensures.peeks.same (saw-before c.at_let.ensures.peeks.same (saw-not c.in_default.not-PIPE (c.current.ensures.sees c.args.condition)))))) and nothing)))))) refl

pub returns-in_default-clause-peeks : goal.returns-in_default-clause-peeks
returns-in_default-clause-peeks c = peeks-within (peeks-then c.at_path.ensures.peeks (peeks-then c.at_literal.ensures.peeks (peeks-then c.at_block_like.ensures.peeks (peeks-then c.at_new_atom.ensures.peeks (peeks-then c.at_let.ensures.peeks (c.current.ensures.peeks)))))) (omega arith)

-- Each path reads what the rule comes to there.
use Rattle.std.proofs.Common.{inl, inr, refl, arith}
use Rattle.rust_grammar.specs.Expressions.{expressions}
use Rattle.rust_grammar.specs.Items.{items}
use Rattle.rust_grammar.specs.Meaning.{begins_below, look_of}
use Rattle.rust_grammar.specs.Notation.{any_of, is_longer, no_longer, longest, one_of, row}
use Rattle.rust_grammar.specs.Paths.{paths}
use Rattle.rust_grammar.specs.Patterns.{patterns}
use Rattle.rust_grammar.specs.Rule.{begins, in_mode, from_start, is_silent, passes, shift, there_at}
use Rattle.rust_grammar.specs.Statements.{statements}
use Rattle.rust_grammar.specs.Types.{types}
use Rattle.rust_grammar.specs.Whole.{rule, whole}
use Rattle.rust_grammar.specs.Rule as rules
use Rattle.rust_productions.proofs.Begins.{saw-expr-path, saw-type-path}
use Rattle.rust_productions.proofs.Facts.{begun, nothing, saw-so, ◌and◌}
use Rattle.rust_productions.proofs.Looking.{left-arm, saw-arm, saw-not}
use Rattle.rust_productions.proofs.Seen.{begins-row, saw-before}
use Rattle.rust_productions.proofs.Peeking.{peeks-then, peeks-within}
use Rattle.rust_productions.proofs.grammar.use_trees.at_use_tree.Goals as goal

pub returns-then-at_colons-clause-sees : goal.returns-then-at_colons-clause-sees
unfolding look_of begins_below whole rule items statements expressions patterns types paths there_at shift passes is_silent begins in_mode from_start row one_of any_of no_longer longest is_longer
returns-then-at_colons-clause-sees c cond = begins-row rules.use_tree (saw-so (c.at_colons.ensures.sees cond) c.if-at_colons.true and nothing) refl

pub returns-then-at_path-clause-sees : goal.returns-then-at_path-clause-sees
unfolding look_of begins_below whole rule items statements expressions patterns types paths there_at shift passes is_silent begins in_mode from_start row one_of any_of no_longer longest is_longer
returns-then-at_path-clause-sees c cond = begins-row rules.use_tree (saw-so (c.at_colons.ensures.sees cond) c.if-at_colons.false and begun rules.type_path (saw-type-path (saw-before c.at_colons.ensures.peeks.same (saw-so (c.at_path.ensures.sees cond) c.if-at_path.true))) (begun rules.expr_path (saw-expr-path (saw-before c.at_colons.ensures.peeks.same (saw-so (c.at_path.ensures.sees cond) c.if-at_path.true))) (begun rules.path (saw-before c.at_colons.ensures.peeks.same (saw-so (c.at_path.ensures.sees cond) c.if-at_path.true)) (nothing)))) refl

pub returns-then-at_path-clause-peeks : goal.returns-then-at_path-clause-peeks
returns-then-at_path-clause-peeks c = peeks-within (peeks-then c.at_colons.ensures.peeks c.at_path.ensures.peeks) (omega arith)

pub returns-in-STAR-clause-sees : goal.returns-in-STAR-clause-sees
unfolding look_of begins_below whole rule items statements expressions patterns types paths there_at shift passes is_silent begins in_mode from_start row one_of any_of no_longer longest is_longer
returns-in-STAR-clause-sees c cond = elim c.in-STAR.is [ inl a0 ↦ begins-row rules.use_tree (saw-so (c.at_colons.ensures.sees cond) c.if-at_colons.false and begun rules.type_path (saw-type-path (saw-before c.at_colons.ensures.peeks.same (saw-so (c.at_path.ensures.sees cond) c.if-at_path.false))) (begun rules.expr_path (saw-expr-path (saw-before c.at_colons.ensures.peeks.same (saw-so (c.at_path.ensures.sees cond) c.if-at_path.false))) (begun rules.path (saw-before c.at_colons.ensures.peeks.same (saw-so (c.at_path.ensures.sees cond) c.if-at_path.false)) (saw-before c.at_colons.ensures.peeks.same (saw-before c.at_path.ensures.peeks.same (left-arm a0 (c.current.ensures.end cond))) and saw-before c.at_colons.ensures.peeks.same (saw-before c.at_path.ensures.peeks.same (saw-arm a0 (c.current.ensures.sees cond))) and nothing)))) refl | inr b0 ↦ begins-row rules.use_tree (saw-so (c.at_colons.ensures.sees cond) c.if-at_colons.false and begun rules.type_path (saw-type-path (saw-before c.at_colons.ensures.peeks.same (saw-so (c.at_path.ensures.sees cond) c.if-at_path.false))) (begun rules.expr_path (saw-expr-path (saw-before c.at_colons.ensures.peeks.same (saw-so (c.at_path.ensures.sees cond) c.if-at_path.false))) (begun rules.path (saw-before c.at_colons.ensures.peeks.same (saw-so (c.at_path.ensures.sees cond) c.if-at_path.false)) (saw-before c.at_colons.ensures.peeks.same (saw-before c.at_path.ensures.peeks.same (left-arm b0 (c.current.ensures.end cond))) and saw-before c.at_colons.ensures.peeks.same (saw-before c.at_path.ensures.peeks.same (saw-arm b0 (c.current.ensures.sees cond))) and nothing)))) refl ]

pub returns-in-STAR-clause-peeks : goal.returns-in-STAR-clause-peeks
returns-in-STAR-clause-peeks c = peeks-then c.at_colons.ensures.peeks (peeks-then c.at_path.ensures.peeks c.current.ensures.peeks)

pub returns-in_default-clause-sees : goal.returns-in_default-clause-sees
unfolding look_of begins_below whole rule items statements expressions patterns types paths there_at shift passes is_silent begins in_mode from_start row one_of any_of no_longer longest is_longer
returns-in_default-clause-sees c cond = begins-row rules.use_tree (saw-so (c.at_colons.ensures.sees cond) c.if-at_colons.false and begun rules.type_path (saw-type-path (saw-before c.at_colons.ensures.peeks.same (saw-so (c.at_path.ensures.sees cond) c.if-at_path.false))) (begun rules.expr_path (saw-expr-path (saw-before c.at_colons.ensures.peeks.same (saw-so (c.at_path.ensures.sees cond) c.if-at_path.false))) (begun rules.path (saw-before c.at_colons.ensures.peeks.same (saw-so (c.at_path.ensures.sees cond) c.if-at_path.false)) (saw-before c.at_colons.ensures.peeks.same (saw-before c.at_path.ensures.peeks.same (saw-not c.in_default.not-STAR (c.current.ensures.sees cond))) and saw-before c.at_colons.ensures.peeks.same (saw-before c.at_path.ensures.peeks.same (saw-not c.in_default.not-L_CURLY (c.current.ensures.sees cond))) and nothing)))) refl

pub returns-in_default-clause-peeks : goal.returns-in_default-clause-peeks
returns-in_default-clause-peeks c = peeks-then c.at_colons.ensures.peeks (peeks-then c.at_path.ensures.peeks c.current.ensures.peeks)

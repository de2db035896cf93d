-- Const arguments.
use Rattle.std.proofs.Common.{arith}
use Rattle.rust_grammar.specs.Expressions.{expressions}
use Rattle.rust_grammar.specs.Items.{items}
use Rattle.rust_grammar.specs.Meaning.{begins_below, look_of}
use Rattle.rust_grammar.specs.Notation.{any_of, is_longer, no_longer, longest, one_of, row}
use Rattle.rust_grammar.specs.Paths.{paths}
use Rattle.rust_grammar.specs.Patterns.{patterns}
use Rattle.rust_grammar.specs.Rule.{begins, in_mode, from_start, is_silent, passes, shift, there_at}
use Rattle.rust_grammar.specs.Statements.{statements}
use Rattle.rust_grammar.specs.Types.{types}
use Rattle.rust_grammar.specs.Whole.{rule, whole}
use Rattle.rust_grammar.specs.Rule as rules
use Rattle.rust_productions.specs.declared.condition.Condition.TheVariants.{On}
use Rattle.grammar_reader.proofs.Seeing.{gives-look}
use Rattle.rust_productions.proofs.ByHand.{after-look, reads-call, reads-node, reads-want, reads-missing}
use Rattle.rust_productions.proofs.Choices.{reads-here}
use Rattle.rust_productions.proofs.Facts.{begun, nothing, saw-so, ◌and◌}
use Rattle.rust_productions.proofs.Seen.{saw-after, saw-before}
use Rattle.grammar_reader.proofs.grammar.+grammar.Goals as goal

pub const_args::expect_const_arg-returns-then-at_const_arg-clause-reads : goal.const_args::expect_const_arg-returns-then-at_const_arg-clause-reads
unfolding look_of begins_below whole rule items statements expressions patterns types paths there_at shift passes is_silent begins in_mode from_start row one_of any_of no_longer longest is_longer
const_args::expect_const_arg-returns-then-at_const_arg-clause-reads t c = λ cond. after-look cond c.at_const_arg.ensures.peeks.same (reads-want cond (saw-after c.at_const_arg.ensures.peeks.same (saw-so (c.at_const_arg.ensures.sees cond) c.if-at_const_arg.true)) (c.const_arg.ensures.reads cond))

pub const_args::expect_const_arg-returns-clause-reads : goal.const_args::expect_const_arg-returns-clause-reads
unfolding look_of begins_below whole rule items statements expressions patterns types paths there_at shift passes is_silent begins in_mode from_start row one_of any_of no_longer longest is_longer
const_args::expect_const_arg-returns-clause-reads t c = λ cond. after-look cond c.at_const_arg.ensures.peeks.same (reads-missing cond (saw-after c.at_const_arg.ensures.peeks.same (saw-so (c.at_const_arg.ensures.sees cond) c.if-at_const_arg.false)) (c.error.ensures.reads cond))

pub const_args::const_arg-complete-requires : goal.const_args::const_arg-complete-requires
const_args::const_arg-complete-requires t c = (c.const_value.ensures.reads On).does.innermost _ (c.start-node.ensures.marker)

pub const_args::const_arg-returns-clause-reads : goal.const_args::const_arg-returns-clause-reads
const_args::const_arg-returns-clause-reads t c = λ cond. reads-node cond c.start-node.ensures.opens (c.const_value.ensures.reads cond) c.complete.ensures.closes

pub const_args::const_value-returns-then-at-clause-reads : goal.const_args::const_value-returns-then-at-clause-reads
unfolding look_of begins_below whole rule items statements expressions patterns types paths there_at shift passes is_silent begins in_mode from_start row one_of any_of no_longer longest is_longer
const_args::const_value-returns-then-at-clause-reads t c = λ cond. reads-here (saw-so (c.at.ensures.sees cond) c.if-at.true and nothing) (after-look cond c.at.ensures.peeks.same (reads-call cond (c.block.ensures.gives cond)))

pub const_args::const_value-returns-then-at_literal-clause-reads : goal.const_args::const_value-returns-then-at_literal-clause-reads
unfolding look_of begins_below whole rule items statements expressions patterns types paths there_at shift passes is_silent begins in_mode from_start row one_of any_of no_longer longest is_longer
const_args::const_value-returns-then-at_literal-clause-reads t c = λ cond. reads-here (saw-so (c.at.ensures.sees cond) c.if-at.false and begun rules.literal (saw-before c.at.ensures.peeks.same (saw-so (c.at_literal.ensures.sees cond) c.if-at_literal.true)) nothing) (after-look cond c.at.ensures.peeks.same (after-look cond c.at_literal.ensures.peeks.same (reads-call cond (c.literal.ensures.gives cond))))

pub const_args::const_value-returns-then-at_negated-clause-reads : goal.const_args::const_value-returns-then-at_negated-clause-reads
unfolding look_of begins_below whole rule items statements expressions patterns types paths there_at shift passes is_silent begins in_mode from_start row one_of any_of no_longer longest is_longer
const_args::const_value-returns-then-at_negated-clause-reads t c = λ cond. reads-here (saw-so (c.at.ensures.sees cond) c.if-at.false and begun rules.literal (saw-before c.at.ensures.peeks.same (saw-so (c.at_literal.ensures.sees cond) c.if-at_literal.false)) (saw-before c.at.ensures.peeks.same (saw-before c.at_literal.ensures.peeks.same (saw-so (c.at_negated.ensures.sees cond) c.if-at_negated.true)) and nothing)) (after-look cond c.at.ensures.peeks.same (after-look cond c.at_literal.ensures.peeks.same (after-look cond c.at_negated.ensures.peeks.same (c.negated_literal.ensures.reads cond))))

pub const_args::const_value-returns-clause-reads : goal.const_args::const_value-returns-clause-reads
unfolding look_of begins_below whole rule items statements expressions patterns types paths there_at shift passes is_silent begins in_mode from_start row one_of any_of no_longer longest is_longer
const_args::const_value-returns-clause-reads t c = λ cond. reads-here (saw-so (c.at.ensures.sees cond) c.if-at.false and begun rules.literal (saw-before c.at.ensures.peeks.same (saw-so (c.at_literal.ensures.sees cond) c.if-at_literal.false)) (saw-before c.at.ensures.peeks.same (saw-before c.at_literal.ensures.peeks.same (saw-so (c.at_negated.ensures.sees cond) c.if-at_negated.false)) and nothing)) (after-look cond c.at.ensures.peeks.same (after-look cond c.at_literal.ensures.peeks.same (after-look cond c.at_negated.ensures.peeks.same (c.const_path.ensures.reads cond))))

pub const_args::const_path-complete-requires : goal.const_args::const_path-complete-requires
const_args::const_path-complete-requires t c = (c.expr_path.ensures.gives On).does.innermost _ (c.start-node.ensures.marker)

pub const_args::const_path-returns-clause-reads : goal.const_args::const_path-returns-clause-reads
const_args::const_path-returns-clause-reads t c = λ cond. reads-node cond c.start-node.ensures.opens (reads-call cond (c.expr_path.ensures.gives cond)) c.complete.ensures.closes

pub const_args::expr_path-path_with_args-requires : goal.const_args::expr_path-path_with_args-requires
const_args::expr_path-path_with_args-requires t c = (omega arith, ((λ d. saw-after c.at_path.ensures.peeks.same (saw-so (c.at_path.ensures.sees d) c.if-at_path.true)), omega (arith, c.at_path.ensures.some c.if-at_path.true, c.at_path.ensures.peeks.left)))

pub const_args::expr_path-returns-then-at_path-clause-gives : goal.const_args::expr_path-returns-then-at_path-clause-gives
const_args::expr_path-returns-then-at_path-clause-gives t c = λ cond. gives-look c.at_path.ensures.peeks.same (c.path_with_args.ensures.gives cond)

pub const_args::expr_path-missing_expr_path-requires : goal.const_args::expr_path-missing_expr_path-requires
const_args::expr_path-missing_expr_path-requires t c = record { none = λ d. saw-after c.at_path.ensures.peeks.same (saw-so (c.at_path.ensures.sees d) c.if-at_path.false) }

pub const_args::expr_path-returns-clause-gives : goal.const_args::expr_path-returns-clause-gives
const_args::expr_path-returns-clause-gives t c = λ cond. gives-look c.at_path.ensures.peeks.same (c.missing_expr_path.ensures.gives cond)

-- Expressions without an operator, arm by arm.
use Rattle.std.proofs.Common.{true, refl, subst, arith, ap, sym, ◌∙◌}
use Rattle.parser_input.specs.Kinds as kinds
use Rattle.rust_grammar.specs.Rule.{Look, When, Kind}
use Rattle.rust_grammar.specs.Rule as rules
use Rattle.rust_grammar.specs.Expressions.{expressions, closure_param, new_atom_begins}
use Rattle.rust_grammar.specs.Items.{items}
use Rattle.rust_grammar.specs.Meaning.{begins_below, look_of}
use Rattle.rust_grammar.specs.Notation.{any_of, is_longer, no_longer, longest, one_of, row, next, wide}
use Rattle.rust_grammar.specs.Paths.{paths}
use Rattle.rust_grammar.specs.Patterns.{patterns}
use Rattle.rust_grammar.specs.Rule.{begins, in_mode, from_start, is_silent, passes, shift, there_at}
use Rattle.rust_grammar.specs.Statements.{statements}
use Rattle.rust_grammar.specs.Types.{types}
use Rattle.rust_grammar.specs.Whole.{rule, whole}
use Rattle.grammar_reader.specs.declared.grammar.paths.Mode.TheVariants as modes
use Rattle.grammar_reader.proofs.PathArgs.{any-mode, paths-begin, reads-flat}
use Rattle.grammar_reader.proofs.Seeing.{saw-mode, saw-without}
use Rattle.rust_productions.specs.Reads.{Saw, looks}
use Rattle.rust_productions.specs.declared.condition.Condition.TheVariants.{On, Off}
use Rattle.rust_productions.proofs.ByHand.{after-look, does-nothing, does-then, reads-call, reads-else, reads-mode, reads-node, reads-nothing, reads-or, reads-then, reads-wrap}
use Rattle.rust_productions.proofs.Choices.{reads-here, gives-from_start, from_start-after}
use Rattle.rust_productions.proofs.Facts.{begun, nothing, saw-so, ◌and◌}
use Rattle.rust_productions.proofs.Looking.{saw-arm, saw-not}
use Rattle.rust_productions.proofs.Seen.{begins-else, saw-after, saw-always, saw-before, saw-inside, saw-left, ends-at-end, saw-else, saw-told, saw-off, saw-on}
use Rattle.rust_productions.proofs.Ranges.{begins-call}
use Rattle.rust_productions.specs.Looks.{tokens}
use Rattle.rust_grammar.specs.Words.{'#'}
use Rattle.rust_grammar.specs.Calls.{Attribute}
use Rattle.rust_productions.proofs.Turns.{first-turn, next-turn}
use Rattle.parser_input.specs.Kind.{raw_of}
use Rattle.grammar_reader.proofs.Arms.{reads-let}
use Rattle.grammar_reader.proofs.grammar.+grammar.Goals as goal

pub expressions::atom::inside-paren_expr-requires : goal.expressions::atom::inside-paren_expr-requires
expressions::atom::inside-paren_expr-requires t c = (omega arith, (omega arith, c.current.ensures.peeks.same.innermost _ c.requires.innermost))

pub expressions::atom::inside-returns-in-L_PAREN-clause-reads : goal.expressions::atom::inside-returns-in-L_PAREN-clause-reads
unfolding look_of begins_below whole rule items statements expressions patterns types paths there_at shift passes is_silent begins in_mode from_start row one_of any_of no_longer longest is_longer
expressions::atom::inside-returns-in-L_PAREN-clause-reads t c = reads-here (saw-arm c.in-L_PAREN.is (c.current.ensures.sees c.args.condition) and nothing) (after-look _ c.current.ensures.peeks.same (c.paren_expr.ensures.reads c.args.condition))

pub expressions::atom::inside-returns-in-L_BRACK-clause-reads : goal.expressions::atom::inside-returns-in-L_BRACK-clause-reads
unfolding look_of begins_below whole rule items statements expressions patterns types paths there_at shift passes is_silent begins in_mode from_start row one_of any_of no_longer longest is_longer
expressions::atom::inside-returns-in-L_BRACK-clause-reads t c = reads-here (saw-arm c.in-L_BRACK.is (c.current.ensures.sees c.args.condition) and nothing) (after-look _ c.current.ensures.peeks.same (c.array_expr.ensures.reads c.args.condition))

pub expressions::atom::inside-returns-in-L_BRACK-clause-takes : goal.expressions::atom::inside-returns-in-L_BRACK-clause-takes
expressions::atom::inside-returns-in-L_BRACK-clause-takes t c = record {
  left = omega arith;
  looks = omega arith;
  marker = (c.array_expr.ensures.reads On).does.innermost _ (c.current.ensures.peeks.same.innermost _ c.requires.innermost);
}

pub expressions::atom::inside-returns-in-RETURN_KW-clause-takes : goal.expressions::atom::inside-returns-in-RETURN_KW-clause-takes
expressions::atom::inside-returns-in-RETURN_KW-clause-takes t c = record {
  left = omega arith;
  looks = omega arith;
  marker = c.return_expr.ensures.reads.does.innermost _ (c.current.ensures.peeks.same.innermost _ c.requires.innermost);
}

pub expressions::atom::inside-returns-in-BREAK_KW-clause-takes : goal.expressions::atom::inside-returns-in-BREAK_KW-clause-takes
expressions::atom::inside-returns-in-BREAK_KW-clause-takes t c = record {
  left = omega arith;
  looks = omega arith;
  marker = c.break_expr.ensures.reads.does.innermost _ (c.current.ensures.peeks.same.innermost _ c.requires.innermost);
}

pub expressions::atom::inside-returns-in-CONTINUE_KW-clause-takes : goal.expressions::atom::inside-returns-in-CONTINUE_KW-clause-takes
expressions::atom::inside-returns-in-CONTINUE_KW-clause-takes t c = record {
  left = omega arith;
  looks = omega arith;
  marker = (c.continue_expr.ensures.reads On).does.innermost _ (c.current.ensures.peeks.same.innermost _ c.requires.innermost);
}

pub expressions::atom::inside-returns-in-PIPE-clause-reads : goal.expressions::atom::inside-returns-in-PIPE-clause-reads
unfolding look_of begins_below whole rule items statements expressions patterns types paths there_at shift passes is_silent begins in_mode from_start row one_of any_of no_longer longest is_longer
expressions::atom::inside-returns-in-PIPE-clause-reads t c = reads-here (saw-arm c.in-PIPE.is (c.current.ensures.sees c.args.condition) and nothing) (after-look _ c.current.ensures.peeks.same c.closure_expr.ensures.reads)

pub expressions::atom::inside-returns-in-PIPE-clause-takes : goal.expressions::atom::inside-returns-in-PIPE-clause-takes
expressions::atom::inside-returns-in-PIPE-clause-takes t c = record {
  left = omega arith;
  looks = omega arith;
  marker = c.closure_expr.ensures.reads.does.innermost _ (c.current.ensures.peeks.same.innermost _ c.requires.innermost);
}

pub expressions::atom::inside-returns-in-MOVE_KW-clause-reads : goal.expressions::atom::inside-returns-in-MOVE_KW-clause-reads
unfolding look_of begins_below whole rule items statements expressions patterns types paths there_at shift passes is_silent begins in_mode from_start row one_of any_of no_longer longest is_longer
expressions::atom::inside-returns-in-MOVE_KW-clause-reads t c = reads-here (saw-arm c.in-MOVE_KW.is (c.current.ensures.sees c.args.condition) and nothing) (after-look _ c.current.ensures.peeks.same c.move_closure.ensures.reads)

pub expressions::atom::inside-returns-in-MOVE_KW-clause-takes : goal.expressions::atom::inside-returns-in-MOVE_KW-clause-takes
expressions::atom::inside-returns-in-MOVE_KW-clause-takes t c = record {
  left = omega arith;
  looks = omega arith;
  marker = c.move_closure.ensures.reads.does.innermost _ (c.current.ensures.peeks.same.innermost _ c.requires.innermost);
}

pub expressions::atom::inside-returns-in-LET_KW-clause-takes : goal.expressions::atom::inside-returns-in-LET_KW-clause-takes
expressions::atom::inside-returns-in-LET_KW-clause-takes t c = record {
  left = omega arith;
  looks = omega arith;
  marker = (c.let_expr.ensures.reads On).does.innermost _ (c.current.ensures.peeks.same.innermost _ c.requires.innermost);
}

pub expressions::atom::inside-returns-then-at_literal : goal.expressions::atom::inside-returns-then-at_literal
unfolding look_of begins_below whole rule items statements expressions patterns types paths there_at shift passes is_silent begins in_mode from_start row one_of any_of no_longer longest is_longer
expressions::atom::inside-returns-then-at_literal t c = record {
  reads = reads-here (saw-not c.in_default.not-L_PAREN (c.current.ensures.sees c.args.condition) and saw-not c.in_default.not-L_BRACK (c.current.ensures.sees c.args.condition) and saw-not c.in_default.not-RETURN_KW (c.current.ensures.sees c.args.condition) and saw-not c.in_default.not-BREAK_KW (c.current.ensures.sees c.args.condition) and saw-not c.in_default.not-CONTINUE_KW (c.current.ensures.sees c.args.condition) and saw-not c.in_default.not-PIPE (c.current.ensures.sees c.args.condition) and saw-not c.in_default.not-MOVE_KW (c.current.ensures.sees c.args.condition) and saw-not c.in_default.not-LET_KW (c.current.ensures.sees c.args.condition) and begun rules.literal (saw-before c.current.ensures.peeks.same (saw-so (c.at_literal.ensures.sees c.args.condition) c.if-at_literal.true)) nothing) (after-look _ c.current.ensures.peeks.same (after-look _ c.at_literal.ensures.peeks.same (reads-call _ (c.literal.ensures.gives c.args.condition))));
  takes = record {
    left = omega (arith, c.literal.ensures.left, c.at_literal.ensures.peeks.left, c.current.ensures.peeks.left);
    looks = omega (arith, c.literal.ensures.looks, c.at_literal.ensures.peeks.looks, c.current.ensures.peeks.looks);
    marker = (c.literal.ensures.gives On).does.innermost _ (c.at_literal.ensures.peeks.same.innermost _ (c.current.ensures.peeks.same.innermost _ c.requires.innermost));
  };
}

pub expressions::atom::inside-block_like-requires : goal.expressions::atom::inside-block_like-requires
expressions::atom::inside-block_like-requires t c = (omega arith, ((λ d. saw-after c.at_block_like.ensures.peeks.same (saw-so (c.at_block_like.ensures.sees d) c.if-at_block_like.true)), omega (arith, c.at_block_like.ensures.some c.if-at_block_like.true, c.at_block_like.ensures.peeks.left)))

pub expressions::atom::inside-returns-then-at_block_like : goal.expressions::atom::inside-returns-then-at_block_like
unfolding look_of begins_below whole rule items statements expressions patterns types paths there_at shift passes is_silent begins in_mode from_start row one_of any_of no_longer longest is_longer
expressions::atom::inside-returns-then-at_block_like t c = record {
  reads = reads-here (saw-not c.in_default.not-L_PAREN (c.current.ensures.sees c.args.condition) and saw-not c.in_default.not-L_BRACK (c.current.ensures.sees c.args.condition) and saw-not c.in_default.not-RETURN_KW (c.current.ensures.sees c.args.condition) and saw-not c.in_default.not-BREAK_KW (c.current.ensures.sees c.args.condition) and saw-not c.in_default.not-CONTINUE_KW (c.current.ensures.sees c.args.condition) and saw-not c.in_default.not-PIPE (c.current.ensures.sees c.args.condition) and saw-not c.in_default.not-MOVE_KW (c.current.ensures.sees c.args.condition) and saw-not c.in_default.not-LET_KW (c.current.ensures.sees c.args.condition) and begun rules.literal (saw-before c.current.ensures.peeks.same (saw-so (c.at_literal.ensures.sees c.args.condition) c.if-at_literal.false)) (begun rules.block_like (saw-before c.current.ensures.peeks.same (saw-before c.at_literal.ensures.peeks.same (saw-so (c.at_block_like.ensures.sees c.args.condition) c.if-at_block_like.true))) nothing)) (after-look _ c.current.ensures.peeks.same (after-look _ c.at_literal.ensures.peeks.same (after-look _ c.at_block_like.ensures.peeks.same (reads-call _ (c.block_like.ensures.gives c.args.condition)))));
  takes = record {
    left = omega (arith, c.block_like.ensures.takes.left, c.at_block_like.ensures.peeks.left, c.at_literal.ensures.peeks.left, c.current.ensures.peeks.left);
    looks = omega (arith, c.block_like.ensures.takes.looks, c.at_block_like.ensures.peeks.looks, c.at_literal.ensures.peeks.looks, c.current.ensures.peeks.looks);
    marker = (c.block_like.ensures.gives On).does.innermost _ (c.at_block_like.ensures.peeks.same.innermost _ (c.at_literal.ensures.peeks.same.innermost _ (c.current.ensures.peeks.same.innermost _ c.requires.innermost)));
  };
}

pub expressions::atom::path_expr-path_with_args-requires : goal.expressions::atom::path_expr-path_with_args-requires
expressions::atom::path_expr-path_with_args-requires t c = (omega arith, (c.requires.begins.sees, c.requires.begins.some))

pub expressions::atom::path_expr-after_path-requires : goal.expressions::atom::path_expr-after_path-requires
expressions::atom::path_expr-after_path-requires t c = (omega arith, (c.path_with_args.ensures.gives On).does.innermost _ c.requires.innermost)

pub expressions::atom::path_expr-returns-clause-reads : goal.expressions::atom::path_expr-returns-clause-reads
expressions::atom::path_expr-returns-clause-reads t c = (reads-then _ (reads-call _ (c.path_with_args.ensures.gives c.args.condition)) c.after_path.ensures.reads)

pub expressions::atom::after_path-wrap-requires : goal.expressions::atom::after_path-wrap-requires
expressions::atom::after_path-wrap-requires t c = c.at_pair.ensures.peeks.same.innermost _ c.requires.innermost

pub expressions::atom::after_path-wrap-frame-requires : goal.expressions::atom::after_path-wrap-frame-requires
expressions::atom::after_path-wrap-frame-requires t c = (c.macro_call.ensures.reads On).does.innermost _ (c.at.ensures.peeks.same.innermost _ (c.at_pair.ensures.peeks.same.innermost _ c.requires.innermost))

pub expressions::atom::after_path-wrap-requires-in-On : goal.expressions::atom::after_path-wrap-requires-in-On
expressions::atom::after_path-wrap-requires-in-On t c = c.at.ensures.peeks.same.innermost _ (c.at_pair.ensures.peeks.same.innermost _ c.requires.innermost)

pub expressions::atom::after_path-wrap-requires-then-at-2 : goal.expressions::atom::after_path-wrap-requires-then-at-2
expressions::atom::after_path-wrap-requires-then-at-2 t c = (c.list.ensures.reads On).does.innermost _ (c.at-in-Off.ensures.peeks.same.innermost _ (c.at.ensures.peeks.same.innermost _ (c.at_pair.ensures.peeks.same.innermost _ c.requires.innermost)))

pub expressions::atom::after_path-wrap-requires-in-Off : goal.expressions::atom::after_path-wrap-requires-in-Off
expressions::atom::after_path-wrap-requires-in-Off t c = c.at-in-Off.ensures.peeks.same.innermost _ (c.at.ensures.peeks.same.innermost _ (c.at_pair.ensures.peeks.same.innermost _ c.requires.innermost))

pub expressions::atom::after_path-returns-then-at_pair-clause-reads : goal.expressions::atom::after_path-returns-then-at_pair-clause-reads
unfolding look_of begins_below whole rule items statements expressions patterns types paths there_at shift passes is_silent begins in_mode from_start row one_of any_of no_longer longest is_longer
expressions::atom::after_path-returns-then-at_pair-clause-reads t c = reads-here (saw-always (saw-so (c.at_pair.ensures.sees c.args.condition) c.if-at_pair.true) and saw-left (saw-so (c.at_pair.ensures.sees c.args.condition) c.if-at_pair.true) and nothing) (reads-wrap _ (reads-nothing _ c.at_pair.ensures.peeks.same) c.wrap.ensures.wraps)

pub expressions::atom::after_path-returns-then-at-clause-reads : goal.expressions::atom::after_path-returns-then-at-clause-reads
unfolding look_of begins_below whole rule items statements expressions patterns types paths there_at shift passes is_silent begins in_mode from_start row one_of any_of no_longer longest is_longer
expressions::atom::after_path-returns-then-at-clause-reads t c = reads-here (saw-always (saw-so (c.at_pair.ensures.sees c.args.condition) c.if-at_pair.false) and saw-before c.at_pair.ensures.peeks.same (saw-so (c.at.ensures.sees c.args.condition) c.if-at.true) and nothing) (after-look _ c.at_pair.ensures.peeks.same (after-look _ c.at.ensures.peeks.same (reads-then _ (reads-wrap _ (c.macro_call.ensures.reads c.args.condition) c.wrap-frame.ensures.wraps) (reads-wrap _ (reads-nothing _ (does-nothing _)) c.wrap-then-at.ensures.wraps))))

pub expressions::atom::after_path-returns-in-On-clause-reads : goal.expressions::atom::after_path-returns-in-On-clause-reads
unfolding look_of begins_below whole rule items statements expressions patterns types paths there_at shift passes is_silent begins in_mode from_start row one_of any_of no_longer longest is_longer
expressions::atom::after_path-returns-in-On-clause-reads t c = reads-here (saw-always (saw-so (c.at_pair.ensures.sees c.args.condition) c.if-at_pair.false) and saw-before c.at_pair.ensures.peeks.same (saw-so (c.at.ensures.sees c.args.condition) c.if-at.false) and saw-on c.in-On.is and nothing) (reads-wrap _ (reads-nothing _ (does-then c.at_pair.ensures.peeks.same c.at.ensures.peeks.same)) c.wrap-in-On.ensures.wraps)

pub expressions::atom::after_path-returns-then-at-2-clause-reads : goal.expressions::atom::after_path-returns-then-at-2-clause-reads
unfolding look_of begins_below whole rule items statements expressions patterns types paths there_at shift passes is_silent begins in_mode from_start row one_of any_of no_longer longest is_longer
expressions::atom::after_path-returns-then-at-2-clause-reads t c = reads-here (saw-always (saw-so (c.at_pair.ensures.sees c.args.condition) c.if-at_pair.false) and saw-before c.at_pair.ensures.peeks.same (saw-so (c.at.ensures.sees c.args.condition) c.if-at.false) and saw-off c.in-Off.is and saw-before c.at_pair.ensures.peeks.same (saw-before c.at.ensures.peeks.same (saw-so (c.at-in-Off.ensures.sees c.args.condition) c.if-at-2.true)) and nothing) (after-look _ c.at_pair.ensures.peeks.same (after-look _ c.at.ensures.peeks.same (after-look _ c.at-in-Off.ensures.peeks.same (reads-wrap _ (reads-call _ (gives-from_start (from_start-after refl (c.list.ensures.reads c.args.condition)))) c.wrap-then-at-2.ensures.wraps))))

pub expressions::atom::after_path-returns-else-at-2-clause-reads : goal.expressions::atom::after_path-returns-else-at-2-clause-reads
unfolding look_of begins_below whole rule items statements expressions patterns types paths there_at shift passes is_silent begins in_mode from_start row one_of any_of no_longer longest is_longer
expressions::atom::after_path-returns-else-at-2-clause-reads t c = reads-here (saw-always (saw-so (c.at_pair.ensures.sees c.args.condition) c.if-at_pair.false) and saw-before c.at_pair.ensures.peeks.same (saw-so (c.at.ensures.sees c.args.condition) c.if-at.false) and saw-off c.in-Off.is and saw-before c.at_pair.ensures.peeks.same (saw-before c.at.ensures.peeks.same (saw-so (c.at-in-Off.ensures.sees c.args.condition) c.if-at-2.false)) and nothing) (reads-wrap _ (reads-nothing _ (does-then c.at_pair.ensures.peeks.same (does-then c.at.ensures.peeks.same c.at-in-Off.ensures.peeks.same))) c.wrap-in-Off.ensures.wraps)

pub expressions::atom::paren_expr-after_paren-requires : goal.expressions::atom::paren_expr-after_paren-requires
expressions::atom::paren_expr-after_paren-requires t c = (omega arith, (c.take.ensures.reads On).does.innermost _ c.requires.innermost)

pub expressions::atom::paren_expr-returns-clause-reads : goal.expressions::atom::paren_expr-returns-clause-reads
expressions::atom::paren_expr-returns-clause-reads t c = λ cond. (reads-then cond (c.take.ensures.reads cond) (c.after_paren.ensures.reads cond))

pub expressions::atom::after_paren-wrap-requires : goal.expressions::atom::after_paren-wrap-requires
expressions::atom::after_paren-wrap-requires t c = (c.take.ensures.reads On).does.innermost _ (c.at.ensures.peeks.same.innermost _ c.requires.innermost)

pub expressions::atom::after_paren-tuple_tail-requires : goal.expressions::atom::after_paren-tuple_tail-requires
expressions::atom::after_paren-tuple_tail-requires t c = (omega arith, c.expect_expression.ensures.reads.does.innermost _ (c.at.ensures.peeks.same.innermost _ c.requires.innermost))

pub expressions::atom::after_paren-returns-then-at-clause-reads : goal.expressions::atom::after_paren-returns-then-at-clause-reads
unfolding look_of begins_below whole rule items statements expressions patterns types paths there_at shift passes is_silent begins in_mode from_start row one_of any_of no_longer longest is_longer
expressions::atom::after_paren-returns-then-at-clause-reads t c = λ cond. reads-here (saw-so (c.at.ensures.sees cond) c.if-at.true and nothing) (after-look cond c.at.ensures.peeks.same (reads-wrap cond (c.take.ensures.reads cond) c.wrap.ensures.wraps))

pub expressions::atom::after_paren-returns-clause-reads : goal.expressions::atom::after_paren-returns-clause-reads
unfolding look_of begins_below whole rule items statements expressions patterns types paths there_at shift passes is_silent begins in_mode from_start row one_of any_of no_longer longest is_longer
expressions::atom::after_paren-returns-clause-reads t c = λ cond. reads-here (saw-so (c.at.ensures.sees cond) c.if-at.false and nothing) (after-look cond c.at.ensures.peeks.same (reads-then cond (reads-mode cond c.expect_expression.ensures.reads) (c.tuple_tail.ensures.reads cond)))

pub expressions::atom::array_expr-complete-requires : goal.expressions::atom::array_expr-complete-requires
expressions::atom::array_expr-complete-requires t c = (c.array_elements.ensures.reads On).does.innermost _ ((c.take.ensures.reads On).does.innermost _ c.start-node.ensures.marker)

pub expressions::atom::array_expr-returns-clause-reads : goal.expressions::atom::array_expr-returns-clause-reads
expressions::atom::array_expr-returns-clause-reads t c = λ cond. reads-node cond c.start-node.ensures.opens (reads-then cond (c.take.ensures.reads cond) (c.array_elements.ensures.reads cond)) c.complete.ensures.closes

pub expressions::atom::array_elements-expression-requires : goal.expressions::atom::array_elements-expression-requires
expressions::atom::array_elements-expression-requires t c = (omega arith, (saw-after c.at_expression.ensures.peeks.same (saw-so c.at_expression.ensures.sees c.if-at_expression.true), omega (arith, c.at_expression.ensures.some c.if-at_expression.true, c.at_expression.ensures.peeks.left)))

pub expressions::atom::array_elements-returns-then-at_expression-clause-reads : goal.expressions::atom::array_elements-returns-then-at_expression-clause-reads
unfolding look_of begins_below whole rule items statements expressions patterns types paths there_at shift passes is_silent begins in_mode from_start row one_of any_of no_longer longest is_longer
expressions::atom::array_elements-returns-then-at_expression-clause-reads t c = λ cond. reads-or cond (saw-mode (begins-call rules.expression (saw-so c.at_expression.ensures.sees c.if-at_expression.true))) (after-look cond c.at_expression.ensures.peeks.same (reads-then cond (reads-mode cond (reads-call Off c.expression.ensures.gives)) (c.after_element.ensures.reads cond)))

pub expressions::atom::array_elements-returns-clause-reads : goal.expressions::atom::array_elements-returns-clause-reads
unfolding look_of begins_below whole rule items statements expressions patterns types paths there_at shift passes is_silent begins in_mode from_start row one_of any_of no_longer longest is_longer
expressions::atom::array_elements-returns-clause-reads t c = λ cond. reads-else cond (saw-mode (begins-call rules.expression (saw-so c.at_expression.ensures.sees c.if-at_expression.false))) (after-look cond c.at_expression.ensures.peeks.same (c.expect.ensures.reads cond))

pub expressions::atom::after_element-returns-then-at-clause-reads : goal.expressions::atom::after_element-returns-then-at-clause-reads
unfolding look_of begins_below whole rule items statements expressions patterns types paths there_at shift passes is_silent begins in_mode from_start row one_of any_of no_longer longest is_longer
expressions::atom::after_element-returns-then-at-clause-reads t c = λ cond. reads-here (saw-so (c.at.ensures.sees cond) c.if-at.true and nothing) (after-look cond c.at.ensures.peeks.same (reads-then cond (c.take.ensures.reads cond) (reads-then cond (reads-mode cond c.expect_expression.ensures.reads) (c.expect.ensures.reads cond))))

pub expressions::atom::after_element-returns-then-at-2-clause-reads : goal.expressions::atom::after_element-returns-then-at-2-clause-reads
unfolding look_of begins_below whole rule items statements expressions patterns types paths there_at shift passes is_silent begins in_mode from_start row one_of any_of no_longer longest is_longer
expressions::atom::after_element-returns-then-at-2-clause-reads t c = λ cond. reads-here (saw-so (c.at.ensures.sees cond) c.if-at.false and saw-before c.at.ensures.peeks.same (saw-so (c.at-2.ensures.sees cond) c.if-at-2.true) and nothing) (after-look cond c.at.ensures.peeks.same (after-look cond c.at-2.ensures.peeks.same (reads-then cond (c.take-then-at-2.ensures.reads cond) (c.rest_of_list.ensures.reads cond))))

pub expressions::atom::after_element-returns-clause-reads : goal.expressions::atom::after_element-returns-clause-reads
unfolding look_of begins_below whole rule items statements expressions patterns types paths there_at shift passes is_silent begins in_mode from_start row one_of any_of no_longer longest is_longer
expressions::atom::after_element-returns-clause-reads t c = λ cond. reads-here (saw-so (c.at.ensures.sees cond) c.if-at.false and saw-before c.at.ensures.peeks.same (saw-so (c.at-2.ensures.sees cond) c.if-at-2.false) and nothing) (after-look cond c.at.ensures.peeks.same (after-look cond c.at-2.ensures.peeks.same (c.expect-2.ensures.reads cond)))

pub expressions::atom::opt_value-operation-requires : goal.expressions::atom::opt_value-operation-requires
expressions::atom::opt_value-operation-requires t c = (omega arith, (saw-after c.at_operation.ensures.peeks.same (saw-so c.at_operation.ensures.sees c.if-at_operation.true), omega (arith, c.at_operation.ensures.some c.if-at_operation.true, c.at_operation.ensures.peeks.left)))

pub expressions::atom::opt_value-returns-then-at_body-clause-reads : goal.expressions::atom::opt_value-returns-then-at_body-clause-reads
unfolding look_of begins_below whole rule items statements expressions patterns types paths there_at shift passes is_silent begins in_mode from_start row one_of any_of no_longer longest is_longer
expressions::atom::opt_value-returns-then-at_body-clause-reads t c = reads-here (saw-so c.at_body.ensures.sees c.if-at_body.true and nothing) (reads-nothing _ c.at_body.ensures.peeks.same)

pub expressions::atom::opt_value-returns-then-at_operation-clause-reads : goal.expressions::atom::opt_value-returns-then-at_operation-clause-reads
unfolding look_of begins_below whole rule items statements expressions patterns types paths there_at shift passes is_silent begins in_mode from_start row one_of any_of no_longer longest is_longer
expressions::atom::opt_value-returns-then-at_operation-clause-reads t c = reads-here (saw-so c.at_body.ensures.sees c.if-at_body.false and begun rules.operation (saw-before c.at_body.ensures.peeks.same (saw-so c.at_operation.ensures.sees c.if-at_operation.true)) nothing) (after-look _ c.at_body.ensures.peeks.same (after-look _ c.at_operation.ensures.peeks.same (reads-call _ c.operation.ensures.gives)))

pub expressions::atom::opt_value-returns-else-at_operation-clause-reads : goal.expressions::atom::opt_value-returns-else-at_operation-clause-reads
unfolding look_of begins_below whole rule items statements expressions patterns types paths there_at shift passes is_silent begins in_mode from_start row one_of any_of no_longer longest is_longer
expressions::atom::opt_value-returns-else-at_operation-clause-reads t c = reads-here (saw-so c.at_body.ensures.sees c.if-at_body.false and begun rules.operation (saw-before c.at_body.ensures.peeks.same (saw-so c.at_operation.ensures.sees c.if-at_operation.false)) nothing) (reads-nothing _ (does-then c.at_body.ensures.peeks.same c.at_operation.ensures.peeks.same))

pub expressions::closures::closure_expr-complete-requires : goal.expressions::closures::closure_expr-complete-requires
expressions::closures::closure_expr-complete-requires t c = c.closure_body.ensures.reads.does.innermost _ ((c.list.ensures.reads On).does.innermost _ c.start-node.ensures.marker)

pub expressions::closures::closure_expr-returns-clause-reads : goal.expressions::closures::closure_expr-returns-clause-reads
expressions::closures::closure_expr-returns-clause-reads t c = reads-node _ c.start-node.ensures.opens (reads-then _ (c.list.ensures.reads c.args.condition) c.closure_body.ensures.reads) c.complete.ensures.closes

pub expressions::closures::move_closure-complete-requires : goal.expressions::closures::move_closure-complete-requires
expressions::closures::move_closure-complete-requires t c = c.closure_body.ensures.reads.does.innermost _ ((c.expect_part.ensures.reads On).does.innermost _ ((c.take.ensures.reads On).does.innermost _ c.start-node.ensures.marker))

pub expressions::closures::move_closure-returns-clause-reads : goal.expressions::closures::move_closure-returns-clause-reads
expressions::closures::move_closure-returns-clause-reads t c = reads-node _ c.start-node.ensures.opens (reads-then _ (c.take.ensures.reads c.args.condition) (reads-then _ (c.expect_part.ensures.reads c.args.condition) c.closure_body.ensures.reads)) c.complete.ensures.closes

pub expressions::closures::opt_type-returns-then-at-clause-reads : goal.expressions::closures::opt_type-returns-then-at-clause-reads
unfolding look_of begins_below whole rule items statements expressions patterns types paths there_at shift passes is_silent begins in_mode from_start row one_of any_of no_longer longest is_longer
expressions::closures::opt_type-returns-then-at-clause-reads t c = reads-here (saw-so (c.at.ensures.sees c.args.condition) c.if-at.true and nothing) (after-look _ c.at.ensures.peeks.same (reads-then _ (c.take.ensures.reads c.args.condition) (c.expect_part.ensures.reads _)))

pub expressions::closures::opt_type-returns-else-at-clause-reads : goal.expressions::closures::opt_type-returns-else-at-clause-reads
unfolding look_of begins_below whole rule items statements expressions patterns types paths there_at shift passes is_silent begins in_mode from_start row one_of any_of no_longer longest is_longer
expressions::closures::opt_type-returns-else-at-clause-reads t c = reads-here (saw-so (c.at.ensures.sees c.args.condition) c.if-at.false and nothing) (reads-nothing _ c.at.ensures.peeks.same)

pub expressions::closures::closure_body-returns-then-at_pair-clause-reads : goal.expressions::closures::closure_body-returns-then-at_pair-clause-reads
unfolding look_of begins_below whole rule items statements expressions patterns types paths there_at shift passes is_silent begins in_mode from_start row one_of any_of no_longer longest is_longer
expressions::closures::closure_body-returns-then-at_pair-clause-reads t c = reads-here (saw-so (c.at_pair.ensures.sees c.args.condition) c.if-at_pair.true and nothing) (after-look _ c.at_pair.ensures.peeks.same (reads-then _ (reads-call _ (c.ret_type.ensures.gives _)) (c.expect_part.ensures.reads c.args.condition)))

pub expressions::closures::closure_body-returns-clause-reads : goal.expressions::closures::closure_body-returns-clause-reads
unfolding look_of begins_below whole rule items statements expressions patterns types paths there_at shift passes is_silent begins in_mode from_start row one_of any_of no_longer longest is_longer
expressions::closures::closure_body-returns-clause-reads t c = reads-here (saw-so (c.at_pair.ensures.sees c.args.condition) c.if-at_pair.false and nothing) (after-look _ c.at_pair.ensures.peeks.same c.expect_expression.ensures.reads)

pub expressions::atom::return_expr-returns-clause-reads : goal.expressions::atom::return_expr-returns-clause-reads
expressions::atom::return_expr-returns-clause-reads t c = reads-node c.args.condition c.start-node.ensures.opens (reads-then c.args.condition (c.take.ensures.reads c.args.condition) c.opt_value.ensures.reads) c.complete.ensures.closes

pub expressions::atom::return_expr-complete-requires : goal.expressions::atom::return_expr-complete-requires
expressions::atom::return_expr-complete-requires t c = c.opt_value.ensures.reads.does.innermost _ ((c.take.ensures.reads On).does.innermost _ (c.start-node.ensures.marker))

pub expressions::atom::break_expr-returns-clause-reads : goal.expressions::atom::break_expr-returns-clause-reads
expressions::atom::break_expr-returns-clause-reads t c = reads-node c.args.condition c.start-node.ensures.opens (reads-then c.args.condition (c.take.ensures.reads c.args.condition) (reads-then c.args.condition (c.opt_jump_label.ensures.reads c.args.condition) c.opt_value.ensures.reads)) c.complete.ensures.closes

pub expressions::atom::break_expr-complete-requires : goal.expressions::atom::break_expr-complete-requires
expressions::atom::break_expr-complete-requires t c = c.opt_value.ensures.reads.does.innermost _ ((c.opt_jump_label.ensures.reads On).does.innermost _ ((c.take.ensures.reads On).does.innermost _ (c.start-node.ensures.marker)))

pub expressions::atom::let_expr-complete-requires : goal.expressions::atom::let_expr-complete-requires
expressions::atom::let_expr-complete-requires t c = c.expect_expression.ensures.reads.does.innermost _ ((c.expect.ensures.reads On).does.innermost _ ((c.expect_part.ensures.reads On).does.innermost _ ((c.take.ensures.reads On).does.innermost _ (c.start-node.ensures.marker))))

pub expressions::atom::new_atom-returns-in-UNDERSCORE-clause-reads : goal.expressions::atom::new_atom-returns-in-UNDERSCORE-clause-reads
unfolding look_of begins_below whole rule items statements expressions patterns types paths there_at shift passes is_silent begins in_mode from_start row one_of any_of no_longer longest is_longer
expressions::atom::new_atom-returns-in-UNDERSCORE-clause-reads t c = reads-here (saw-arm c.in-UNDERSCORE.is (c.current.ensures.sees c.args.condition) and nothing) (after-look c.args.condition c.current.ensures.peeks.same (c.word_type.ensures.reads c.args.condition))

pub expressions::atom::new_atom-qualified_path-frame-requires : goal.expressions::atom::new_atom-qualified_path-frame-requires
expressions::atom::new_atom-qualified_path-frame-requires t c = (omega arith, (c.current.ensures.peeks.same.innermost _ (c.requires.innermost), omega (arith, c.requires.begins.some, c.current.ensures.some (λ e. absurd (omega (arith, sym (ap raw_of c.in-L_ANGLE.is) ∙ e))), c.current.ensures.peeks.left)))

pub expressions::atom::new_atom-after_path-requires : goal.expressions::atom::new_atom-after_path-requires
expressions::atom::new_atom-after_path-requires t c = (omega arith, c.qualified_path-frame.ensures.takes.marker)

pub expressions::closures::closure_with_words-returns-clause-reads : goal.expressions::closures::closure_with_words-returns-clause-reads
expressions::closures::closure_with_words-returns-clause-reads t c = reads-node c.args.condition c.start-node.ensures.opens (reads-then c.args.condition (c.closure_words.ensures.reads c.args.condition) (reads-then c.args.condition (c.expect_part.ensures.reads c.args.condition) c.closure_body.ensures.reads)) c.complete.ensures.closes

pub expressions::closures::closure_with_words-complete-requires : goal.expressions::closures::closure_with_words-complete-requires
expressions::closures::closure_with_words-complete-requires t c = c.closure_body.ensures.reads.does.innermost _ ((c.expect_part.ensures.reads On).does.innermost _ ((c.closure_words.ensures.reads On).does.innermost _ (c.start-node.ensures.marker)))

pub expressions::closures::closure_words-returns-in-CONST_KW-clause-reads : goal.expressions::closures::closure_words-returns-in-CONST_KW-clause-reads
unfolding look_of begins_below whole rule items statements expressions patterns types paths there_at shift passes is_silent begins in_mode from_start row one_of any_of no_longer longest is_longer
expressions::closures::closure_words-returns-in-CONST_KW-clause-reads t c = λ cond. reads-here (saw-arm c.in-CONST_KW.is (c.current.ensures.sees cond) and nothing) (after-look cond c.current.ensures.peeks.same (c.words_from_const.ensures.reads cond))

pub expressions::closures::closure_words-returns-in-STATIC_KW-clause-reads : goal.expressions::closures::closure_words-returns-in-STATIC_KW-clause-reads
unfolding look_of begins_below whole rule items statements expressions patterns types paths there_at shift passes is_silent begins in_mode from_start row one_of any_of no_longer longest is_longer
expressions::closures::closure_words-returns-in-STATIC_KW-clause-reads t c = λ cond. reads-here (saw-arm c.in-STATIC_KW.is (c.current.ensures.sees cond) and nothing) (after-look cond c.current.ensures.peeks.same (c.words_from_static.ensures.reads cond))

pub expressions::closures::closure_words-returns-in_default-clause-reads : goal.expressions::closures::closure_words-returns-in_default-clause-reads
unfolding look_of begins_below whole rule items statements expressions patterns types paths there_at shift passes is_silent begins in_mode from_start row one_of any_of no_longer longest is_longer
expressions::closures::closure_words-returns-in_default-clause-reads t c = λ cond. reads-here (saw-not c.in_default.not-FOR_KW (c.current.ensures.sees cond) and saw-not c.in_default.not-CONST_KW (c.current.ensures.sees cond) and saw-not c.in_default.not-STATIC_KW (c.current.ensures.sees cond) and nothing) (after-look cond c.current.ensures.peeks.same (c.words_from_async.ensures.reads cond))

pub expressions::closures::closure_param-complete-requires : goal.expressions::closures::closure_param-complete-requires
expressions::closures::closure_param-complete-requires t c = c.opt_type.ensures.reads.does.innermost _ ((c.attributed_single.ensures.reads On).does.innermost _ (c.start-node.ensures.marker))

pub expressions::closures::closure_param-attributed_single-requires : goal.expressions::closures::closure_param-attributed_single-requires
expressions::closures::closure_param-attributed_single-requires t c = (omega arith, record { sees = λ d. saw-inside c.start-node.ensures.opens (c.requires.begins d); some = omega (arith, c.requires.some, c.start-node.ensures.stays.left) })

pub expressions::closures::attributed_single-returns-then-at_new-clause-reads : goal.expressions::closures::attributed_single-returns-then-at_new-clause-reads
unfolding tokens look_of begins_below whole rule items statements expressions patterns types paths there_at shift passes is_silent begins in_mode from_start row one_of any_of no_longer longest is_longer
expressions::closures::attributed_single-returns-then-at_new-clause-reads t c = λ cond.
    let first = next-turn cond (When (wide (next '#')) Attribute) (ends-at-end cond (When (wide (next '#')) Attribute) refl) _ _ _ first-turn (saw-told (saw-so (c.at_new.ensures.sees cond) c.if-at_new.true and nothing) refl) (reads-here (saw-so (c.at_new.ensures.sees cond) c.if-at_new.true and nothing) (after-look cond c.at_new.ensures.peeks.same (reads-call cond (c.attribute.ensures.gives cond)))) (omega (arith, c.attribute.ensures.takes.left, c.at_new.ensures.peeks.left)) in
    reads-then cond (first.rest _ (c.outer_attributes.ensures.reads cond)) (reads-call cond (c.single_or_missing.ensures.gives cond))

pub expressions::closures::attributed_single-returns-clause-reads : goal.expressions::closures::attributed_single-returns-clause-reads
unfolding look_of begins_below whole rule items statements expressions patterns types paths there_at shift passes is_silent begins in_mode from_start row one_of any_of no_longer longest is_longer
expressions::closures::attributed_single-returns-clause-reads t c = λ cond. reads-here (saw-so (c.at_new.ensures.sees cond) c.if-at_new.false and nothing) (after-look cond c.at_new.ensures.peeks.same (reads-call cond (c.single_pattern.ensures.gives cond)))

pub expressions::closures::attributed_single-single_pattern-requires : goal.expressions::closures::attributed_single-single_pattern-requires
unfolding look_of begins_below whole rule items statements expressions patterns types paths there_at shift passes is_silent begins in_mode from_start row one_of any_of no_longer longest is_longer
expressions::closures::attributed_single-single_pattern-requires t c = (omega arith, ((λ d. saw-after c.at_new.ensures.peeks.same (saw-else (looks rules.single_pattern) (begins looks closure_param) (saw-so (c.at_new.ensures.sees d) c.if-at_new.false and nothing) (c.requires.begins.sees d) refl)), omega (arith, c.requires.begins.some, c.at_new.ensures.peeks.left)))

pub expressions::atom::inside-returns-in-RETURN_KW-clause-reads : goal.expressions::atom::inside-returns-in-RETURN_KW-clause-reads
unfolding look_of begins_below whole rule items statements expressions patterns types paths there_at shift passes is_silent begins in_mode from_start row one_of any_of no_longer longest is_longer
expressions::atom::inside-returns-in-RETURN_KW-clause-reads t c = reads-here (saw-arm c.in-RETURN_KW.is (c.current.ensures.sees c.args.condition) and nothing) (after-look c.args.condition c.current.ensures.peeks.same c.return_expr.ensures.reads)

pub expressions::atom::inside-returns-in-BREAK_KW-clause-reads : goal.expressions::atom::inside-returns-in-BREAK_KW-clause-reads
unfolding look_of begins_below whole rule items statements expressions patterns types paths there_at shift passes is_silent begins in_mode from_start row one_of any_of no_longer longest is_longer
expressions::atom::inside-returns-in-BREAK_KW-clause-reads t c = reads-here (saw-arm c.in-BREAK_KW.is (c.current.ensures.sees c.args.condition) and nothing) (after-look c.args.condition c.current.ensures.peeks.same c.break_expr.ensures.reads)

pub expressions::atom::inside-returns-in-CONTINUE_KW-clause-reads : goal.expressions::atom::inside-returns-in-CONTINUE_KW-clause-reads
unfolding look_of begins_below whole rule items statements expressions patterns types paths there_at shift passes is_silent begins in_mode from_start row one_of any_of no_longer longest is_longer
expressions::atom::inside-returns-in-CONTINUE_KW-clause-reads t c = reads-here (saw-arm c.in-CONTINUE_KW.is (c.current.ensures.sees c.args.condition) and nothing) (after-look c.args.condition c.current.ensures.peeks.same (c.continue_expr.ensures.reads c.args.condition))

pub expressions::atom::inside-path_expr-requires : goal.expressions::atom::inside-path_expr-requires
unfolding look_of begins_below whole rule items statements expressions patterns types paths there_at shift passes is_silent begins in_mode from_start row one_of any_of no_longer longest is_longer
expressions::atom::inside-path_expr-requires t c = (omega arith, (record { sees = λ d. saw-after c.at_new_atom.ensures.peeks.same (saw-after c.at_block_like.ensures.peeks.same (saw-after c.at_literal.ensures.peeks.same (saw-after c.current.ensures.peeks.same (any-mode (subst (λ (l : Look). Saw c.args.condition l c.args.p.now true) (paths-begin modes.Expr) (begins-else rules.expr_path rules.atom refl (saw-not c.in_default.not-L_PAREN (c.current.ensures.sees c.args.condition) and saw-not c.in_default.not-L_BRACK (c.current.ensures.sees c.args.condition) and saw-not c.in_default.not-RETURN_KW (c.current.ensures.sees c.args.condition) and saw-not c.in_default.not-BREAK_KW (c.current.ensures.sees c.args.condition) and saw-not c.in_default.not-CONTINUE_KW (c.current.ensures.sees c.args.condition) and saw-not c.in_default.not-PIPE (c.current.ensures.sees c.args.condition) and saw-not c.in_default.not-MOVE_KW (c.current.ensures.sees c.args.condition) and saw-not c.in_default.not-LET_KW (c.current.ensures.sees c.args.condition) and begun rules.literal (saw-before c.current.ensures.peeks.same (saw-so (c.at_literal.ensures.sees c.args.condition) c.if-at_literal.false)) (begun rules.block_like (saw-before c.current.ensures.peeks.same (saw-before c.at_literal.ensures.peeks.same (saw-so (c.at_block_like.ensures.sees c.args.condition) c.if-at_block_like.false))) (saw-before c.current.ensures.peeks.same (saw-before c.at_literal.ensures.peeks.same (saw-before c.at_block_like.ensures.peeks.same (saw-so (c.at_new_atom.ensures.sees c.args.condition) c.if-at_new_atom.false))) and nothing))) c.requires.begins.sees refl)))))); some = omega (arith, c.requires.begins.some, c.current.ensures.peeks.left, c.at_literal.ensures.peeks.left, c.at_block_like.ensures.peeks.left, c.at_new_atom.ensures.peeks.left) }, c.at_new_atom.ensures.peeks.same.innermost _ (c.at_block_like.ensures.peeks.same.innermost _ (c.at_literal.ensures.peeks.same.innermost _ (c.current.ensures.peeks.same.innermost _ c.requires.innermost)))))

pub expressions::atom::inside-returns-else-at_new_atom : goal.expressions::atom::inside-returns-else-at_new_atom
unfolding look_of begins_below whole rule items statements expressions patterns types paths there_at shift passes is_silent begins in_mode from_start row one_of any_of no_longer longest is_longer
expressions::atom::inside-returns-else-at_new_atom t c = record {
  reads = reads-here (saw-not c.in_default.not-L_PAREN (c.current.ensures.sees c.args.condition) and saw-not c.in_default.not-L_BRACK (c.current.ensures.sees c.args.condition) and saw-not c.in_default.not-RETURN_KW (c.current.ensures.sees c.args.condition) and saw-not c.in_default.not-BREAK_KW (c.current.ensures.sees c.args.condition) and saw-not c.in_default.not-CONTINUE_KW (c.current.ensures.sees c.args.condition) and saw-not c.in_default.not-PIPE (c.current.ensures.sees c.args.condition) and saw-not c.in_default.not-MOVE_KW (c.current.ensures.sees c.args.condition) and saw-not c.in_default.not-LET_KW (c.current.ensures.sees c.args.condition) and begun rules.literal (saw-before c.current.ensures.peeks.same (saw-so (c.at_literal.ensures.sees c.args.condition) c.if-at_literal.false)) (begun rules.block_like (saw-before c.current.ensures.peeks.same (saw-before c.at_literal.ensures.peeks.same (saw-so (c.at_block_like.ensures.sees c.args.condition) c.if-at_block_like.false))) (begun rules.expr_path (begins-else rules.expr_path rules.atom refl (saw-not c.in_default.not-L_PAREN (c.current.ensures.sees c.args.condition) and saw-not c.in_default.not-L_BRACK (c.current.ensures.sees c.args.condition) and saw-not c.in_default.not-RETURN_KW (c.current.ensures.sees c.args.condition) and saw-not c.in_default.not-BREAK_KW (c.current.ensures.sees c.args.condition) and saw-not c.in_default.not-CONTINUE_KW (c.current.ensures.sees c.args.condition) and saw-not c.in_default.not-PIPE (c.current.ensures.sees c.args.condition) and saw-not c.in_default.not-MOVE_KW (c.current.ensures.sees c.args.condition) and saw-not c.in_default.not-LET_KW (c.current.ensures.sees c.args.condition) and begun rules.literal (saw-before c.current.ensures.peeks.same (saw-so (c.at_literal.ensures.sees c.args.condition) c.if-at_literal.false)) (begun rules.block_like (saw-before c.current.ensures.peeks.same (saw-before c.at_literal.ensures.peeks.same (saw-so (c.at_block_like.ensures.sees c.args.condition) c.if-at_block_like.false))) (saw-before c.current.ensures.peeks.same (saw-before c.at_literal.ensures.peeks.same (saw-before c.at_block_like.ensures.peeks.same (saw-so (c.at_new_atom.ensures.sees c.args.condition) c.if-at_new_atom.false))) and nothing))) c.requires.begins.sees refl) nothing))) (after-look _ c.current.ensures.peeks.same (after-look _ c.at_literal.ensures.peeks.same (after-look _ c.at_block_like.ensures.peeks.same (after-look _ c.at_new_atom.ensures.peeks.same (c.path_expr.ensures.reads)))));
  takes = record {
    left = omega (arith, c.path_expr.ensures.takes.left, c.at_new_atom.ensures.peeks.left, c.at_block_like.ensures.peeks.left, c.at_literal.ensures.peeks.left, c.current.ensures.peeks.left);
    looks = omega (arith, c.path_expr.ensures.takes.looks, c.at_new_atom.ensures.peeks.looks, c.at_block_like.ensures.peeks.looks, c.at_literal.ensures.peeks.looks, c.current.ensures.peeks.looks);
    marker = c.path_expr.ensures.takes.marker;
  };
}

pub expressions::atom::new_atom-returns-in-UNDERSCORE-clause-takes : goal.expressions::atom::new_atom-returns-in-UNDERSCORE-clause-takes
expressions::atom::new_atom-returns-in-UNDERSCORE-clause-takes t c = record {
  left = omega (arith, c.word_type.ensures.left, c.current.ensures.peeks.left);
  looks = omega (arith, c.word_type.ensures.looks, c.current.ensures.peeks.looks);
  marker = (c.word_type.ensures.reads On).does.innermost _ (c.current.ensures.peeks.same.innermost _ c.requires.innermost);
}

pub expressions::atom::new_atom-returns-in_default-clause-takes : goal.expressions::atom::new_atom-returns-in_default-clause-takes
expressions::atom::new_atom-returns-in_default-clause-takes t c = record {
  left = omega (arith, c.closure_with_words.ensures.takes.left, c.current.ensures.peeks.left);
  looks = omega (arith, c.closure_with_words.ensures.takes.looks, c.current.ensures.peeks.looks);
  marker = c.closure_with_words.ensures.reads.does.innermost _ (c.current.ensures.peeks.same.innermost _ c.requires.innermost);
}

pub expressions::atom::let_expr-returns-clause-reads : goal.expressions::atom::let_expr-returns-clause-reads
expressions::atom::let_expr-returns-clause-reads t c = λ cond. reads-node cond c.start-node.ensures.opens (reads-then cond (c.take.ensures.reads cond) (reads-then cond (c.expect_part.ensures.reads cond) (reads-then cond (c.expect.ensures.reads cond) (reads-mode cond c.expect_expression.ensures.reads)))) c.complete.ensures.closes

pub expressions::atom::inside-returns-in-LET_KW-clause-reads : goal.expressions::atom::inside-returns-in-LET_KW-clause-reads
expressions::atom::inside-returns-in-LET_KW-clause-reads t c = after-look _ c.current.ensures.peeks.same (reads-let (saw-after c.current.ensures.peeks.same c.requires.begins.sees) (λ d. saw-after c.current.ensures.peeks.same (saw-arm c.in-LET_KW.is (c.current.ensures.sees d))) c.let_expr.ensures.reads)

pub expressions::closures::closure_param-returns-clause-reads : goal.expressions::closures::closure_param-returns-clause-reads
expressions::closures::closure_param-returns-clause-reads t c = reads-node Off c.start-node.ensures.opens (reads-flat (reads-then Off (c.attributed_single.ensures.reads Off) c.opt_type.ensures.reads)) c.complete.ensures.closes

pub expressions::atom::new_atom-returns-in_default-clause-reads : goal.expressions::atom::new_atom-returns-in_default-clause-reads
unfolding look_of begins_below whole rule items statements expressions patterns types paths there_at shift passes is_silent begins in_mode from_start row one_of any_of no_longer longest is_longer
expressions::atom::new_atom-returns-in_default-clause-reads t c = reads-here (c.requires.other c.args.condition and saw-not c.in_default.not-L_ANGLE (c.current.ensures.sees c.args.condition) and saw-not c.in_default.not-UNDERSCORE (c.current.ensures.sees c.args.condition) and nothing) (after-look c.args.condition c.current.ensures.peeks.same c.closure_with_words.ensures.reads)

pub expressions::atom::inside-new_atom-requires : goal.expressions::atom::inside-new_atom-requires
expressions::atom::inside-new_atom-requires t c = (omega arith, (record { sees = λ d. saw-after c.at_new_atom.ensures.peeks.same (saw-so (c.at_new_atom.ensures.sees d) c.if-at_new_atom.true); some = omega (arith, c.requires.begins.some, c.at_new_atom.ensures.some c.if-at_new_atom.true, c.current.ensures.peeks.left, c.at_literal.ensures.peeks.left, c.at_block_like.ensures.peeks.left, c.at_new_atom.ensures.peeks.left) }, ((λ d. saw-after c.at_new_atom.ensures.peeks.same (saw-after c.at_block_like.ensures.peeks.same (saw-after c.at_literal.ensures.peeks.same (saw-after c.current.ensures.peeks.same (saw-not c.in_default.not-LET_KW (c.current.ensures.sees d)))))), c.at_new_atom.ensures.peeks.same.innermost _ (c.at_block_like.ensures.peeks.same.innermost _ (c.at_literal.ensures.peeks.same.innermost _ (c.current.ensures.peeks.same.innermost _ c.requires.innermost))))))

pub expressions::atom::new_atom-returns-in-L_ANGLE-clause-reads : goal.expressions::atom::new_atom-returns-in-L_ANGLE-clause-reads
unfolding look_of begins_below whole rule items statements expressions patterns types paths there_at shift passes is_silent begins in_mode from_start row one_of any_of no_longer longest is_longer
expressions::atom::new_atom-returns-in-L_ANGLE-clause-reads t c = reads-here (saw-arm c.in-L_ANGLE.is (c.current.ensures.sees c.args.condition) and nothing) (after-look c.args.condition c.current.ensures.peeks.same (reads-flat (reads-then c.args.condition (c.qualified_path-frame.ensures.reads c.args.condition) c.after_path.ensures.reads)))

pub expressions::closures::closure_words-returns-in-FOR_KW-clause-reads : goal.expressions::closures::closure_words-returns-in-FOR_KW-clause-reads
unfolding look_of begins_below whole rule items statements expressions patterns types paths there_at shift passes is_silent begins in_mode from_start row one_of any_of no_longer longest is_longer
expressions::closures::closure_words-returns-in-FOR_KW-clause-reads t c = λ cond. reads-here (saw-arm c.in-FOR_KW.is (c.current.ensures.sees cond) and nothing) (after-look cond c.current.ensures.peeks.same (reads-flat (reads-then cond (c.for_binder.ensures.reads cond) (c.opt_const_to_move.ensures.reads cond))))

pub expressions::atom::inside-returns-then-at_new_atom : goal.expressions::atom::inside-returns-then-at_new_atom
unfolding look_of begins_below whole rule items statements expressions patterns types paths there_at shift passes is_silent begins in_mode from_start row one_of any_of no_longer longest is_longer
expressions::atom::inside-returns-then-at_new_atom t c = record {
  reads = reads-here (saw-not c.in_default.not-L_PAREN (c.current.ensures.sees c.args.condition) and saw-not c.in_default.not-L_BRACK (c.current.ensures.sees c.args.condition) and saw-not c.in_default.not-RETURN_KW (c.current.ensures.sees c.args.condition) and saw-not c.in_default.not-BREAK_KW (c.current.ensures.sees c.args.condition) and saw-not c.in_default.not-CONTINUE_KW (c.current.ensures.sees c.args.condition) and saw-not c.in_default.not-PIPE (c.current.ensures.sees c.args.condition) and saw-not c.in_default.not-MOVE_KW (c.current.ensures.sees c.args.condition) and begun rules.literal (saw-before c.current.ensures.peeks.same (saw-so (c.at_literal.ensures.sees c.args.condition) c.if-at_literal.false)) (begun rules.block_like (saw-before c.current.ensures.peeks.same (saw-before c.at_literal.ensures.peeks.same (saw-so (c.at_block_like.ensures.sees c.args.condition) c.if-at_block_like.false))) (saw-before c.current.ensures.peeks.same (saw-before c.at_literal.ensures.peeks.same (saw-before c.at_block_like.ensures.peeks.same (saw-so (c.at_new_atom.ensures.sees c.args.condition) c.if-at_new_atom.true))) and saw-without (Kind 0 kinds.COLON) (wide new_atom_begins) nothing (saw-before c.current.ensures.peeks.same (saw-before c.at_literal.ensures.peeks.same (saw-before c.at_block_like.ensures.peeks.same (saw-so (c.at_new_atom.ensures.sees c.args.condition) c.if-at_new_atom.true)))) refl and saw-without (Kind 0 kinds.IDENT) (wide new_atom_begins) nothing (saw-before c.current.ensures.peeks.same (saw-before c.at_literal.ensures.peeks.same (saw-before c.at_block_like.ensures.peeks.same (saw-so (c.at_new_atom.ensures.sees c.args.condition) c.if-at_new_atom.true)))) refl and saw-without (Kind 0 kinds.SELF_KW) (wide new_atom_begins) nothing (saw-before c.current.ensures.peeks.same (saw-before c.at_literal.ensures.peeks.same (saw-before c.at_block_like.ensures.peeks.same (saw-so (c.at_new_atom.ensures.sees c.args.condition) c.if-at_new_atom.true)))) refl and saw-without (Kind 0 kinds.SUPER_KW) (wide new_atom_begins) nothing (saw-before c.current.ensures.peeks.same (saw-before c.at_literal.ensures.peeks.same (saw-before c.at_block_like.ensures.peeks.same (saw-so (c.at_new_atom.ensures.sees c.args.condition) c.if-at_new_atom.true)))) refl and saw-without (Kind 0 kinds.CRATE_KW) (wide new_atom_begins) nothing (saw-before c.current.ensures.peeks.same (saw-before c.at_literal.ensures.peeks.same (saw-before c.at_block_like.ensures.peeks.same (saw-so (c.at_new_atom.ensures.sees c.args.condition) c.if-at_new_atom.true)))) refl and saw-without (Kind 0 kinds.SELF_TYPE_KW) (wide new_atom_begins) nothing (saw-before c.current.ensures.peeks.same (saw-before c.at_literal.ensures.peeks.same (saw-before c.at_block_like.ensures.peeks.same (saw-so (c.at_new_atom.ensures.sees c.args.condition) c.if-at_new_atom.true)))) refl and nothing))) (after-look _ c.current.ensures.peeks.same (after-look _ c.at_literal.ensures.peeks.same (after-look _ c.at_block_like.ensures.peeks.same (after-look _ c.at_new_atom.ensures.peeks.same (c.new_atom.ensures.reads)))));
  takes = record {
    left = omega (arith, c.new_atom.ensures.takes.left, c.at_new_atom.ensures.peeks.left, c.at_block_like.ensures.peeks.left, c.at_literal.ensures.peeks.left, c.current.ensures.peeks.left);
    looks = omega (arith, c.new_atom.ensures.takes.looks, c.at_new_atom.ensures.peeks.looks, c.at_block_like.ensures.peeks.looks, c.at_literal.ensures.peeks.looks, c.current.ensures.peeks.looks);
    marker = c.new_atom.ensures.takes.marker;
  };
}

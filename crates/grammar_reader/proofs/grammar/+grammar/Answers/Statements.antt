-- Statements, arm by arm.
use Rattle.std.proofs.Common.{false, refl, arith, true≢false}
use Rattle.rust_grammar.specs.Rule as rules
use Rattle.rust_grammar.specs.Expressions.{expressions}
use Rattle.rust_grammar.specs.Items.{items}
use Rattle.rust_grammar.specs.Laws.{reads}
use Rattle.rust_grammar.specs.Meaning.{begins_below, fresh, look_of, read}
use Rattle.rust_grammar.specs.Notation.{any_of, is_longer, no_longer, longest, one_of, row}
use Rattle.rust_grammar.specs.Paths.{paths}
use Rattle.rust_grammar.specs.Patterns.{patterns}
use Rattle.rust_grammar.specs.Rule.{Call, begins, in_mode, from_start, is_silent, passes, shift, there_at}
use Rattle.rust_grammar.specs.Statements.{statements}
use Rattle.rust_grammar.specs.Types.{types}
use Rattle.rust_grammar.specs.Whole.{rule, whole}
use Rattle.rust_productions.specs.declared.condition.Condition.TheVariants.{On, Off}
use Rattle.grammar_reader.proofs.Ends.{gives-statement}
use Rattle.rust_productions.proofs.ByHand.{after-look, completes-leave, completes-wrap, reads-call, reads-else, reads-node, reads-nothing, reads-or, reads-then, reads-when, reads-wrap, does-nothing}
use Rattle.rust_productions.proofs.Choices.{from_start-after, from_start-completes, from_start-here, from_start-look, reads-here}
use Rattle.rust_productions.proofs.Facts.{begun, nothing, saw-so, ◌and◌}
use Rattle.rust_productions.proofs.Given.{from_start-apart, from_start-given, call-gives, option-keeps, stars-keep, where-any, where-here, where-look, where-more, where-then}
use Rattle.rust_productions.proofs.Leading.{block-rooted, reads-lead}
use Rattle.rust_productions.proofs.Looking.{saw-arm, saw-not}
use Rattle.rust_productions.proofs.Seen.{saw-after, saw-before, saw-inside}
use Rattle.grammar_reader.proofs.Arms.{path-there}
use Rattle.grammar_reader.proofs.grammar.+grammar.Goals as goal

pub statements::statement-returns-in-SEMICOLON-clause-gives : goal.statements::statement-returns-in-SEMICOLON-clause-gives
unfolding look_of begins_below whole rule items statements expressions patterns types paths there_at shift passes is_silent begins in_mode from_start row one_of any_of no_longer longest is_longer
statements::statement-returns-in-SEMICOLON-clause-gives t c = gives-statement c.args.end (from_start-here (saw-arm c.in-SEMICOLON.is (c.current.ensures.sees Off) and nothing) (from_start-look c.current.ensures.peeks.same (from_start-after refl (c.take.ensures.reads Off))))

pub statements::statement-returns-in-DEFER_KW-clause-gives : goal.statements::statement-returns-in-DEFER_KW-clause-gives
unfolding look_of begins_below whole rule items statements expressions patterns types paths there_at shift passes is_silent begins in_mode from_start row one_of any_of no_longer longest is_longer
statements::statement-returns-in-DEFER_KW-clause-gives t c = gives-statement c.args.end (from_start-here (saw-arm c.in-DEFER_KW.is (c.current.ensures.sees Off) and nothing) (from_start-look c.current.ensures.peeks.same (from_start-after refl (c.defer_stmt.ensures.reads Off))))

pub statements::statement-returns-in-LET_KW-clause-gives : goal.statements::statement-returns-in-LET_KW-clause-gives
unfolding look_of begins_below whole rule items statements expressions patterns types paths there_at shift passes is_silent begins in_mode from_start row one_of any_of no_longer longest is_longer
statements::statement-returns-in-LET_KW-clause-gives t c = gives-statement c.args.end (from_start-here (saw-arm c.in-LET_KW.is (c.current.ensures.sees Off) and nothing) (from_start-look c.current.ensures.peeks.same (from_start-after refl c.let_stmt.ensures.reads)))

pub statements::statement-returns-then-at_inner_attribute-clause-gives : goal.statements::statement-returns-then-at_inner_attribute-clause-gives
unfolding look_of begins_below whole rule items statements expressions patterns types paths there_at shift passes is_silent begins in_mode from_start row one_of any_of no_longer longest is_longer
statements::statement-returns-then-at_inner_attribute-clause-gives t c = gives-statement c.args.end (from_start-here (saw-not c.in_default.not-SEMICOLON (c.current.ensures.sees Off) and saw-not c.in_default.not-DEFER_KW (c.current.ensures.sees Off) and saw-not c.in_default.not-LET_KW (c.current.ensures.sees Off) and saw-before c.current.ensures.peeks.same (saw-so (c.at_inner_attribute.ensures.sees Off) c.if-at_inner_attribute.true) and nothing) (from_start-look c.current.ensures.peeks.same (from_start-look c.at_inner_attribute.ensures.peeks.same (from_start-after refl (reads-call Off (c.attribute.ensures.gives Off))))))

pub statements::opt_else-returns-then-at-clause-reads : goal.statements::opt_else-returns-then-at-clause-reads
unfolding look_of begins_below whole rule items statements expressions patterns types paths there_at shift passes is_silent begins in_mode from_start row one_of any_of no_longer longest is_longer
statements::opt_else-returns-then-at-clause-reads t c = λ cond. reads-here (saw-so (c.at.ensures.sees cond) c.if-at.true and nothing) (after-look cond c.at.ensures.peeks.same (c.let_else.ensures.reads cond))

pub statements::opt_else-returns-else-at-clause-reads : goal.statements::opt_else-returns-else-at-clause-reads
unfolding look_of begins_below whole rule items statements expressions patterns types paths there_at shift passes is_silent begins in_mode from_start row one_of any_of no_longer longest is_longer
statements::opt_else-returns-else-at-clause-reads t c = λ cond. reads-here (saw-so (c.at.ensures.sees cond) c.if-at.false and nothing) (reads-nothing cond c.at.ensures.peeks.same)

pub statements::defer_stmt-complete-requires : goal.statements::defer_stmt-complete-requires
statements::defer_stmt-complete-requires t c = (c.expect_part.ensures.reads On).does.innermost _ ((c.take.ensures.reads On).does.innermost _ c.start-node.ensures.marker)

pub statements::defer_stmt-returns-clause-reads : goal.statements::defer_stmt-returns-clause-reads
statements::defer_stmt-returns-clause-reads t c = λ cond. reads-node cond c.start-node.ensures.opens (reads-then cond (c.take.ensures.reads cond) (c.expect_part.ensures.reads cond)) c.complete.ensures.closes

pub statements::let_else-complete-requires : goal.statements::let_else-complete-requires
statements::let_else-complete-requires t c = (c.expect_part.ensures.reads On).does.innermost _ ((c.take.ensures.reads On).does.innermost _ c.start-node.ensures.marker)

pub statements::let_else-returns-clause-reads : goal.statements::let_else-returns-clause-reads
statements::let_else-returns-clause-reads t c = λ cond. reads-node cond c.start-node.ensures.opens (reads-then cond (c.take.ensures.reads cond) (c.expect_part.ensures.reads cond)) c.complete.ensures.closes

pub statements::expression_statement-block_statement-requires : goal.statements::expression_statement-block_statement-requires
statements::expression_statement-block_statement-requires t c = (omega arith, ((λ d. saw-after c.at_block_like.ensures.peeks.same (saw-so (c.at_block_like.ensures.sees d) c.if-at_block_like.true)), omega (arith, c.requires.some, c.at_block_like.ensures.peeks.left)))

pub statements::expression_statement-ended_expression-requires : goal.statements::expression_statement-ended_expression-requires
statements::expression_statement-ended_expression-requires t c = (omega arith, record { sees = saw-after c.at_expression.ensures.peeks.same (saw-so c.at_expression.ensures.sees c.if-at_expression.true); some = omega (arith, c.at_expression.ensures.some c.if-at_expression.true, c.at_expression.ensures.peeks.left) })

pub statements::expression_statement-returns-then-at_expression-clause-from_start : goal.statements::expression_statement-returns-then-at_expression-clause-from_start
unfolding look_of begins_below whole rule items statements expressions patterns types paths there_at shift passes is_silent begins in_mode from_start row one_of any_of no_longer longest is_longer
statements::expression_statement-returns-then-at_expression-clause-from_start t c = from_start-here (begun rules.block_like (saw-so (c.at_block_like.ensures.sees Off) c.if-at_block_like.false) (begun rules.expression (saw-before c.at_block_like.ensures.peeks.same (saw-so c.at_expression.ensures.sees c.if-at_expression.true)) nothing)) (from_start-look c.at_block_like.ensures.peeks.same (from_start-look c.at_expression.ensures.peeks.same c.ended_expression.ensures.from_start))

pub statements::expression_statement-returns-clause-from_start : goal.statements::expression_statement-returns-clause-from_start
unfolding look_of begins_below whole rule items statements expressions patterns types paths there_at shift passes is_silent begins in_mode from_start row one_of any_of no_longer longest is_longer
statements::expression_statement-returns-clause-from_start t c = from_start-here (begun rules.block_like (saw-so (c.at_block_like.ensures.sees Off) c.if-at_block_like.false) (begun rules.expression (saw-before c.at_block_like.ensures.peeks.same (saw-so c.at_expression.ensures.sees c.if-at_expression.false)) nothing)) (from_start-look c.at_block_like.ensures.peeks.same (from_start-look c.at_expression.ensures.peeks.same (from_start-after refl (c.skip.ensures.reads Off))))

pub statements::block_statement-block_like-requires : goal.statements::block_statement-block_like-requires
statements::block_statement-block_like-requires t c = (omega arith, ((λ d. saw-inside c.start-frame.ensures.opens (c.requires.begins d)), omega arith))

pub statements::block_statement-after_block-frame-requires : goal.statements::block_statement-after_block-frame-requires
statements::block_statement-after_block-frame-requires t c = (omega arith, (c.block_like.ensures.gives On).does.innermost _ c.start-frame.ensures.marker)

pub statements::after_block-postfix-frame-requires : goal.statements::after_block-postfix-frame-requires
statements::after_block-postfix-frame-requires t c = (omega arith, (omega (arith, c.at_more.ensures.some c.if-at_more.true, c.at_more.ensures.peeks.left), c.at_more.ensures.peeks.same.innermost _ c.requires.innermost))

pub statements::after_block-postfixes-frame-requires : goal.statements::after_block-postfixes-frame-requires
statements::after_block-postfixes-frame-requires t c = (omega arith, c.postfix-frame.ensures.takes.marker)

pub statements::after_block-wrap-requires : goal.statements::after_block-wrap-requires
statements::after_block-wrap-requires t c = (c.take.ensures.reads On).does.innermost _ (c.at.ensures.peeks.same.innermost _ (c.at_more.ensures.peeks.same.innermost _ c.requires.innermost))

pub statements::after_block-returns-then-at_end_of-clause-asks : goal.statements::after_block-returns-then-at_end_of-clause-asks
statements::after_block-returns-then-at_end_of-clause-asks t c = record {
  left = omega arith;
  looks = omega arith;
  marker = c.at_end_of.ensures.peeks.same.innermost _ (c.at.ensures.peeks.same.innermost _ (c.at_more.ensures.peeks.same.innermost _ c.requires.innermost));
}

pub statements::after_block-wrap-requires-2 : goal.statements::after_block-wrap-requires-2
statements::after_block-wrap-requires-2 t c = c.at_end_of.ensures.peeks.same.innermost _ (c.at.ensures.peeks.same.innermost _ (c.at_more.ensures.peeks.same.innermost _ c.requires.innermost))

pub statements::ended_expression-expression-requires : goal.statements::ended_expression-expression-requires
statements::ended_expression-expression-requires t c = (omega arith, (saw-inside c.start-frame.ensures.opens c.requires.begins.sees, omega arith))

pub statements::ended_expression-statement_end-frame-requires : goal.statements::ended_expression-statement_end-frame-requires
statements::ended_expression-statement_end-frame-requires t c = c.expression.ensures.gives.does.innermost _ c.start-frame.ensures.marker

pub statements::ended_expression-returns-clause-from_start : goal.statements::ended_expression-returns-clause-from_start
statements::ended_expression-returns-clause-from_start t c = from_start-completes c.start-frame.ensures.opens (completes-leave (reads-then Off (reads-call Off c.expression.ensures.gives) (c.statement_end-frame.ensures.reads Off)) c.abandon.ensures.leaves)

pub statements::statement-returns-then-at_new_statement-clause-gives : goal.statements::statement-returns-then-at_new_statement-clause-gives
unfolding look_of begins_below whole rule items statements expressions patterns types paths there_at shift passes is_silent begins in_mode from_start row one_of any_of no_longer longest is_longer
statements::statement-returns-then-at_new_statement-clause-gives t c = gives-statement c.args.end (from_start-here (saw-not c.in_default.not-SEMICOLON (c.current.ensures.sees Off) and saw-not c.in_default.not-DEFER_KW (c.current.ensures.sees Off) and saw-not c.in_default.not-LET_KW (c.current.ensures.sees Off) and saw-before c.current.ensures.peeks.same (saw-so (c.at_inner_attribute.ensures.sees Off) c.if-at_inner_attribute.false) and saw-before c.current.ensures.peeks.same (saw-before c.at_inner_attribute.ensures.peeks.same (saw-so (c.at_new_statement.ensures.sees Off) c.if-at_new_statement.true)) and nothing) (from_start-look c.current.ensures.peeks.same (from_start-look c.at_inner_attribute.ensures.peeks.same (from_start-look c.at_new_statement.ensures.peeks.same (c.new_statement.ensures.from_start)))))

pub statements::statement-new_statement-requires : goal.statements::statement-new_statement-requires
statements::statement-new_statement-requires t c = (omega arith, record { sees = λ d. saw-after c.at_new_statement.ensures.peeks.same (saw-so (c.at_new_statement.ensures.sees d) c.if-at_new_statement.true); some = omega (arith, c.at_new_statement.ensures.some c.if-at_new_statement.true, c.at_new_statement.ensures.peeks.left) })

pub statements::statement-returns-then-at_profile_item-clause-gives : goal.statements::statement-returns-then-at_profile_item-clause-gives
unfolding look_of begins_below whole rule items statements expressions patterns types paths there_at shift passes is_silent begins in_mode from_start row one_of any_of no_longer longest is_longer
statements::statement-returns-then-at_profile_item-clause-gives t c = gives-statement c.args.end (from_start-here (saw-not c.in_default.not-SEMICOLON (c.current.ensures.sees Off) and saw-not c.in_default.not-DEFER_KW (c.current.ensures.sees Off) and saw-not c.in_default.not-LET_KW (c.current.ensures.sees Off) and saw-before c.current.ensures.peeks.same (saw-so (c.at_inner_attribute.ensures.sees Off) c.if-at_inner_attribute.false) and saw-before c.current.ensures.peeks.same (saw-before c.at_inner_attribute.ensures.peeks.same (saw-so (c.at_new_statement.ensures.sees Off) c.if-at_new_statement.false)) and saw-before c.current.ensures.peeks.same (saw-before c.at_inner_attribute.ensures.peeks.same (saw-before c.at_new_statement.ensures.peeks.same (saw-so (c.at_profile_item.ensures.sees Off) c.if-at_profile_item.true))) and nothing) (from_start-look c.current.ensures.peeks.same (from_start-look c.at_inner_attribute.ensures.peeks.same (from_start-look c.at_new_statement.ensures.peeks.same (from_start-look c.at_profile_item.ensures.peeks.same (from_start-after refl (reads-call Off c.item.ensures.gives)))))))

pub statements::statement-item-requires : goal.statements::statement-item-requires
statements::statement-item-requires t c = (omega arith, omega (arith, c.requires.some, c.current.ensures.peeks.left, c.at_inner_attribute.ensures.peeks.left, c.at_new_statement.ensures.peeks.left, c.at_profile_item.ensures.peeks.left))

pub statements::statement-returns-else-at_profile_item-clause-gives : goal.statements::statement-returns-else-at_profile_item-clause-gives
unfolding look_of begins_below whole rule items statements expressions patterns types paths there_at shift passes is_silent begins in_mode from_start row one_of any_of no_longer longest is_longer
statements::statement-returns-else-at_profile_item-clause-gives t c = gives-statement c.args.end (from_start-here (saw-not c.in_default.not-SEMICOLON (c.current.ensures.sees Off) and saw-not c.in_default.not-DEFER_KW (c.current.ensures.sees Off) and saw-not c.in_default.not-LET_KW (c.current.ensures.sees Off) and saw-before c.current.ensures.peeks.same (saw-so (c.at_inner_attribute.ensures.sees Off) c.if-at_inner_attribute.false) and saw-before c.current.ensures.peeks.same (saw-before c.at_inner_attribute.ensures.peeks.same (saw-so (c.at_new_statement.ensures.sees Off) c.if-at_new_statement.false)) and saw-before c.current.ensures.peeks.same (saw-before c.at_inner_attribute.ensures.peeks.same (saw-before c.at_new_statement.ensures.peeks.same (saw-so (c.at_profile_item.ensures.sees Off) c.if-at_profile_item.false))) and nothing) (from_start-look c.current.ensures.peeks.same (from_start-look c.at_inner_attribute.ensures.peeks.same (from_start-look c.at_new_statement.ensures.peeks.same (from_start-look c.at_profile_item.ensures.peeks.same c.expression_statement.ensures.from_start)))))

pub statements::statement-returns-else-at_profile_item-clause-pays : goal.statements::statement-returns-else-at_profile_item-clause-pays
statements::statement-returns-else-at_profile_item-clause-pays t c = λ e. omega (arith, c.current.ensures.peeks.looks, c.at_inner_attribute.ensures.peeks.looks, c.at_new_statement.ensures.peeks.looks, c.at_profile_item.ensures.peeks.looks, c.expression_statement.ensures.pays (omega (arith, e, c.current.ensures.peeks.left, c.at_inner_attribute.ensures.peeks.left, c.at_new_statement.ensures.peeks.left, c.at_profile_item.ensures.peeks.left)))

pub statements::long_path_statement-path_with_args-requires : goal.statements::long_path_statement-path_with_args-requires
statements::long_path_statement-path_with_args-requires t c = (omega arith, ((λ d. saw-inside c.start-frame.ensures.opens (c.requires.begins d)), omega (arith, c.requires.some, c.start-frame.ensures.stays.left)))

pub statements::long_path_statement-path_tail-frame-requires : goal.statements::long_path_statement-path_tail-frame-requires
statements::long_path_statement-path_tail-frame-requires t c = (omega arith, (c.path_with_args.ensures.gives On).does.innermost _ c.start-frame.ensures.marker)

pub statements::long_path_statement-returns-clause-from_start : goal.statements::long_path_statement-returns-clause-from_start
statements::long_path_statement-returns-clause-from_start t c = from_start-completes c.start-frame.ensures.opens (completes-leave (reads-then Off (reads-call Off (c.path_with_args.ensures.gives Off)) c.path_tail-frame.ensures.reads) c.abandon.ensures.leaves)

pub statements::path_tail-returns-then-at_braced_macro-clause-reads : goal.statements::path_tail-returns-then-at_braced_macro-clause-reads
unfolding look_of begins_below whole rule items statements expressions patterns types paths there_at shift passes is_silent begins in_mode from_start row one_of any_of no_longer longest is_longer
statements::path_tail-returns-then-at_braced_macro-clause-reads t c = reads-here (saw-so (c.at_braced_macro.ensures.sees Off) c.if-at_braced_macro.true and nothing) (after-look Off c.at_braced_macro.ensures.peeks.same (reads-then Off (reads-wrap Off (reads-then Off (c.take.ensures.reads Off) (reads-call Off (c.token_tree.ensures.gives Off))) c.wrap-frame.ensures.wraps) (reads-then Off (reads-wrap Off (reads-nothing Off (does-nothing _)) c.wrap-frame-then-at_braced_macro.ensures.wraps) c.after_block.ensures.reads)))

pub statements::path_tail-wrap-frame-requires : goal.statements::path_tail-wrap-frame-requires
statements::path_tail-wrap-frame-requires t c = (c.token_tree.ensures.gives On).does.innermost _ ((c.take.ensures.reads On).does.innermost _ (c.at_braced_macro.ensures.peeks.same.innermost _ c.requires.innermost))

pub statements::path_tail-wrap-frame-requires-then-at_braced_macro : goal.statements::path_tail-wrap-frame-requires-then-at_braced_macro
statements::path_tail-wrap-frame-requires-then-at_braced_macro t c = c.wrap-frame.ensures.marker

pub statements::path_tail-after_block-requires : goal.statements::path_tail-after_block-requires
statements::path_tail-after_block-requires t c = (omega arith, c.wrap-frame-then-at_braced_macro.ensures.marker)

pub statements::path_tail-after_path-frame-requires : goal.statements::path_tail-after_path-frame-requires
statements::path_tail-after_path-frame-requires t c = (omega arith, c.at_braced_macro.ensures.peeks.same.innermost _ c.requires.innermost)

pub statements::path_tail-postfixes-frame-requires : goal.statements::path_tail-postfixes-frame-requires
statements::path_tail-postfixes-frame-requires t c = (omega arith, c.after_path-frame.ensures.asks.marker)

pub statements::super_let-returns-clause-reads : goal.statements::super_let-returns-clause-reads
statements::super_let-returns-clause-reads t c = reads-node Off c.start-node.ensures.opens (reads-then Off (c.take.ensures.reads Off) c.let_rest.ensures.reads) c.complete.ensures.closes

pub statements::super_let-complete-requires : goal.statements::super_let-complete-requires
statements::super_let-complete-requires t c = c.let_rest.ensures.reads.does.innermost _ ((c.take.ensures.reads On).does.innermost _ c.start-node.ensures.marker)

pub statements::let_stmt-complete-requires : goal.statements::let_stmt-complete-requires
statements::let_stmt-complete-requires t c = c.let_rest.ensures.reads.does.innermost _ c.start-node.ensures.marker

pub statements::let_stmt-returns-clause-reads : goal.statements::let_stmt-returns-clause-reads
statements::let_stmt-returns-clause-reads t c = reads-node Off c.start-node.ensures.opens c.let_rest.ensures.reads c.complete.ensures.closes

pub statements::let_rest-returns-clause-reads : goal.statements::let_rest-returns-clause-reads
statements::let_rest-returns-clause-reads t c = reads-then Off (c.take.ensures.reads Off) (reads-then Off (c.expect_part.ensures.reads Off) (reads-then Off c.opt_type.ensures.reads (reads-then Off c.opt_value.ensures.reads (reads-then Off (c.opt_else.ensures.reads Off) (c.expect.ensures.reads Off)))))

pub statements::after_block-returns-then-at_more-clause-reads : goal.statements::after_block-returns-then-at_more-clause-reads
unfolding look_of begins_below whole rule items statements expressions patterns types paths there_at shift passes is_silent begins in_mode from_start row one_of any_of no_longer longest is_longer
statements::after_block-returns-then-at_more-clause-reads t c = reads-here (saw-so (c.at_more.ensures.sees Off) c.if-at_more.true and nothing) (after-look Off c.at_more.ensures.peeks.same (reads-then Off (c.postfix-frame.ensures.reads Off) (reads-then Off (c.postfixes-frame.ensures.reads Off) (reads-then Off c.opt_operators-frame.ensures.reads (c.statement_end.ensures.reads Off)))))

pub statements::after_block-returns-then-at-clause-reads : goal.statements::after_block-returns-then-at-clause-reads
unfolding look_of begins_below whole rule items statements expressions patterns types paths there_at shift passes is_silent begins in_mode from_start row one_of any_of no_longer longest is_longer
statements::after_block-returns-then-at-clause-reads t c = reads-here (saw-so (c.at_more.ensures.sees Off) c.if-at_more.false and saw-before c.at_more.ensures.peeks.same (saw-so (c.at.ensures.sees Off) c.if-at.true) and nothing) (after-look Off c.at_more.ensures.peeks.same (after-look Off c.at.ensures.peeks.same (reads-wrap Off (c.take.ensures.reads Off) c.wrap.ensures.wraps)))

pub statements::after_block-returns-then-at_end_of-clause-reads : goal.statements::after_block-returns-then-at_end_of-clause-reads
unfolding look_of begins_below whole rule items statements expressions patterns types paths there_at shift passes is_silent begins in_mode from_start row one_of any_of no_longer longest is_longer
statements::after_block-returns-then-at_end_of-clause-reads t c = reads-else Off (saw-so (c.at_more.ensures.sees Off) c.if-at_more.false) (after-look Off c.at_more.ensures.peeks.same (reads-else Off (saw-so (c.at.ensures.sees Off) c.if-at.false) (after-look Off c.at.ensures.peeks.same (reads-or Off (saw-so (c.at_end_of.ensures.sees Off) c.if-at_end_of.true) (reads-when Off (reads-nothing Off c.at_end_of.ensures.peeks.same))))))

pub statements::after_block-returns-clause-reads : goal.statements::after_block-returns-clause-reads
unfolding look_of begins_below whole rule items statements expressions patterns types paths there_at shift passes is_silent begins in_mode from_start row one_of any_of no_longer longest is_longer
statements::after_block-returns-clause-reads t c = reads-else Off (saw-so (c.at_more.ensures.sees Off) c.if-at_more.false) (after-look Off c.at_more.ensures.peeks.same (reads-else Off (saw-so (c.at.ensures.sees Off) c.if-at.false) (after-look Off c.at.ensures.peeks.same (reads-else Off (saw-so (c.at_end_of.ensures.sees Off) c.if-at_end_of.false) (reads-wrap Off (reads-nothing Off c.at_end_of.ensures.peeks.same) c.wrap-2.ensures.wraps)))))

pub statements::block_statement-returns-clause-from_start : goal.statements::block_statement-returns-clause-from_start
statements::block_statement-returns-clause-from_start t c = from_start-completes c.start-frame.ensures.opens (completes-leave (reads-then Off (reads-call Off (c.block_like.ensures.gives Off)) c.after_block-frame.ensures.reads) c.abandon.ensures.leaves)

pub statements::after_block-opt_operators-frame-requires : goal.statements::after_block-opt_operators-frame-requires
statements::after_block-opt_operators-frame-requires t c = (omega arith, c.postfixes-frame.ensures.asks.marker)

pub statements::expression_statement-returns-then-at_block_like-clause-from_start : goal.statements::expression_statement-returns-then-at_block_like-clause-from_start
unfolding look_of begins_below whole rule items statements expressions patterns types paths there_at shift passes is_silent begins in_mode from_start row one_of any_of no_longer longest is_longer
statements::expression_statement-returns-then-at_block_like-clause-from_start t c = from_start-here (begun rules.block_like (saw-so (c.at_block_like.ensures.sees Off) c.if-at_block_like.true) nothing) (from_start-look c.at_block_like.ensures.peeks.same c.block_statement.ensures.from_start)

pub statements::opt_operators-after_operand-requires : goal.statements::opt_operators-after_operand-requires
statements::opt_operators-after_operand-requires t c = (omega arith, c.at_whole.ensures.same.innermost _ c.requires.innermost)

pub statements::opt_operators-returns-then-at_whole-clause-reads : goal.statements::opt_operators-returns-then-at_whole-clause-reads
unfolding look_of begins_below whole rule items statements expressions patterns types paths there_at shift passes is_silent begins in_mode from_start row one_of any_of no_longer longest is_longer
statements::opt_operators-returns-then-at_whole-clause-reads t c = reads-here (saw-so (c.at_whole.ensures.sees Off) c.if-at_whole.true and nothing) (after-look Off c.at_whole.ensures.same c.after_operand.ensures.reads)

pub statements::opt_operators-returns-clause-reads : goal.statements::opt_operators-returns-clause-reads
unfolding look_of begins_below whole rule items statements expressions patterns types paths there_at shift passes is_silent begins in_mode from_start row one_of any_of no_longer longest is_longer
statements::opt_operators-returns-clause-reads t c = reads-here (saw-so (c.at_whole.ensures.sees Off) c.if-at_whole.false and nothing) (reads-nothing Off c.at_whole.ensures.same)

pub statements::opt_operators-returns-clause-asks : goal.statements::opt_operators-returns-clause-asks
statements::opt_operators-returns-clause-asks t c = record {
  left = omega (arith, c.at_whole.ensures.stays.left);
  looks = omega (arith, c.at_whole.ensures.stays.looks);
  marker = c.at_whole.ensures.same.innermost _ c.requires.innermost;
}

pub statements::new_statement-attributed_statement-requires : goal.statements::new_statement-attributed_statement-requires
statements::new_statement-attributed_statement-requires t c = (omega arith, omega (arith, c.requires.begins.some, c.at.ensures.peeks.left))

pub statements::new_statement-returns-then-at-clause-from_start : goal.statements::new_statement-returns-then-at-clause-from_start
unfolding look_of begins_below whole rule items statements expressions patterns types paths there_at shift passes is_silent begins in_mode from_start row one_of any_of no_longer longest is_longer
statements::new_statement-returns-then-at-clause-from_start t c = from_start-here (saw-so (c.at.ensures.sees Off) c.if-at.true and nothing) (from_start-look c.at.ensures.peeks.same c.attributed_statement.ensures.from_start)

pub statements::new_statement-returns-then-at_long_path-clause-from_start : goal.statements::new_statement-returns-then-at_long_path-clause-from_start
unfolding look_of begins_below whole rule items statements expressions patterns types paths there_at shift passes is_silent begins in_mode from_start row one_of any_of no_longer longest is_longer
statements::new_statement-returns-then-at_long_path-clause-from_start t c = from_start-here (saw-so (c.at.ensures.sees Off) c.if-at.false and saw-before c.at.ensures.peeks.same (saw-so (c.at_long_path.ensures.sees Off) c.if-at_long_path.true) and nothing) (from_start-look c.at.ensures.peeks.same (from_start-look c.at_long_path.ensures.peeks.same c.long_path_statement.ensures.from_start))

pub statements::new_statement-returns-then-at_super_let-clause-from_start : goal.statements::new_statement-returns-then-at_super_let-clause-from_start
unfolding look_of begins_below whole rule items statements expressions patterns types paths there_at shift passes is_silent begins in_mode from_start row one_of any_of no_longer longest is_longer
statements::new_statement-returns-then-at_super_let-clause-from_start t c = from_start-here (saw-so (c.at.ensures.sees Off) c.if-at.false and saw-before c.at.ensures.peeks.same (saw-so (c.at_long_path.ensures.sees Off) c.if-at_long_path.false) and saw-before c.at.ensures.peeks.same (saw-before c.at_long_path.ensures.peeks.same (saw-so (c.at_super_let.ensures.sees Off) c.if-at_super_let.true)) and nothing) (from_start-look c.at.ensures.peeks.same (from_start-look c.at_long_path.ensures.peeks.same (from_start-look c.at_super_let.ensures.peeks.same (from_start-after refl c.super_let.ensures.reads))))

pub statements::new_statement-returns-clause-from_start : goal.statements::new_statement-returns-clause-from_start
unfolding look_of begins_below whole rule items statements expressions patterns types paths there_at shift passes is_silent begins in_mode from_start row one_of any_of no_longer longest is_longer
statements::new_statement-returns-clause-from_start t c = from_start-here (saw-so (c.at.ensures.sees Off) c.if-at.false and saw-before c.at.ensures.peeks.same (saw-so (c.at_long_path.ensures.sees Off) c.if-at_long_path.false) and saw-before c.at.ensures.peeks.same (saw-before c.at_long_path.ensures.peeks.same (saw-so (c.at_super_let.ensures.sees Off) c.if-at_super_let.false)) and nothing) (from_start-look c.at.ensures.peeks.same (from_start-look c.at_long_path.ensures.peeks.same (from_start-look c.at_super_let.ensures.peeks.same (from_start-after refl (reads-call Off c.item.ensures.gives)))))

pub statements::new_statement-long_path_statement-requires : goal.statements::new_statement-long_path_statement-requires
statements::new_statement-long_path_statement-requires t c = (omega arith, ((λ d. saw-after c.at_long_path.ensures.peeks.same (path-there (saw-so (c.at_long_path.ensures.sees d) c.if-at_long_path.true))), omega (arith, c.at_long_path.ensures.some c.if-at_long_path.true, c.at_long_path.ensures.peeks.left)))

pub statements::new_statement-super_let-requires : goal.statements::new_statement-super_let-requires
statements::new_statement-super_let-requires t c = (omega arith, omega (arith, c.at_super_let.ensures.some c.if-at_super_let.true, c.at_super_let.ensures.peeks.left))

pub statements::new_statement-item-requires : goal.statements::new_statement-item-requires
statements::new_statement-item-requires t c = (omega arith, omega (arith, c.requires.begins.some, c.at.ensures.peeks.left, c.at_long_path.ensures.peeks.left, c.at_super_let.ensures.peeks.left))

pub statements::path_tail-returns-clause-reads : goal.statements::path_tail-returns-clause-reads
unfolding look_of begins_below whole rule items statements expressions patterns types paths there_at shift passes is_silent begins in_mode from_start row one_of any_of no_longer longest is_longer
statements::path_tail-returns-clause-reads t c = reads-here (saw-so (c.at_braced_macro.ensures.sees Off) c.if-at_braced_macro.false and nothing) (after-look Off c.at_braced_macro.ensures.peeks.same (reads-then Off c.after_path-frame.ensures.reads (reads-then Off (c.postfixes-frame.ensures.reads Off) c.operators_and_end.ensures.reads)))

pub statements::path_tail-operators_and_end-requires : goal.statements::path_tail-operators_and_end-requires
statements::path_tail-operators_and_end-requires t c = (omega arith, c.postfixes-frame.ensures.asks.marker)

pub statements::operators_and_end-after_operand-frame-requires : goal.statements::operators_and_end-after_operand-frame-requires
statements::operators_and_end-after_operand-frame-requires t c = (omega arith, c.requires.innermost)

pub statements::operators_and_end-statement_end-requires : goal.statements::operators_and_end-statement_end-requires
statements::operators_and_end-statement_end-requires t c = c.after_operand-frame.ensures.asks.marker

pub statements::operators_and_end-returns-clause-reads : goal.statements::operators_and_end-returns-clause-reads
statements::operators_and_end-returns-clause-reads t c = reads-then Off c.after_operand-frame.ensures.reads (c.statement_end.ensures.reads Off)

pub statements::attributed_statement-after_attributes-requires : goal.statements::attributed_statement-after_attributes-requires
statements::attributed_statement-after_attributes-requires t c = (omega arith, (c.attributes.ensures.reads On).does.innermost _ ((c.attribute.ensures.gives On).does.innermost _ c.start-frame.ensures.marker))

pub statements::attributed_statement-returns-clause-from_start : goal.statements::attributed_statement-returns-clause-from_start
unfolding fresh read rule whole items
statements::attributed_statement-returns-clause-from_start t c =
    from_start-apart (from_start-given c.start-frame.ensures.opens (reads-then Off (reads-call Off (c.attribute.ensures.gives Off)) (c.attributes.ensures.reads Off)) (λ s e. stars-keep rules.attribute Off refl (reads false (Call rules.attribute) (fresh s)) (call-gives rules.attribute Off refl (fresh s))) c.after_attributes.ensures.completes)

pub statements::after_attributes-complete-requires : goal.statements::after_attributes-complete-requires
statements::after_attributes-complete-requires t c = c.let_rest.ensures.reads.does.innermost _ (c.at.ensures.peeks.same.innermost _ (c.requires.innermost))

pub statements::after_attributes-returns-then-at-clause-completes : goal.statements::after_attributes-returns-then-at-clause-completes
unfolding look_of begins_below whole rule items statements expressions patterns types paths there_at shift passes is_silent begins in_mode from_start row one_of any_of no_longer longest is_longer
statements::after_attributes-returns-then-at-clause-completes t c = where-here (saw-so (c.at.ensures.sees Off) c.if-at.true and nothing) (where-look c.at.ensures.peeks.same (where-any (completes-wrap c.let_rest.ensures.reads c.complete.ensures.closes)))

pub statements::after_attributes-body-requires : goal.statements::after_attributes-body-requires
statements::after_attributes-body-requires t c = (omega arith, ((λ e. absurd (true≢false e)), (c.opt_visibility.ensures.reads On).does.innermost _ (c.at_item_after_attributes.ensures.peeks.same.innermost _ (c.at.ensures.peeks.same.innermost _ (c.requires.innermost)))))

pub statements::after_attributes-returns-then-at_item_after_attributes-clause-completes : goal.statements::after_attributes-returns-then-at_item_after_attributes-clause-completes
unfolding look_of begins_below whole rule items statements expressions patterns types paths there_at shift passes is_silent begins in_mode from_start row one_of any_of no_longer longest is_longer
statements::after_attributes-returns-then-at_item_after_attributes-clause-completes t c = where-here (saw-so (c.at.ensures.sees Off) c.if-at.false and saw-before c.at.ensures.peeks.same (saw-so (c.at_item_after_attributes.ensures.sees Off) c.if-at_item_after_attributes.true) and nothing) (where-look c.at.ensures.peeks.same (where-look c.at_item_after_attributes.ensures.peeks.same (where-then (c.opt_visibility.ensures.reads Off) (λ s g. option-keeps rules.visibility Off refl s g) (where-more c.body.ensures.completes))))

pub statements::after_attributes-extended_block-requires : goal.statements::after_attributes-extended_block-requires
statements::after_attributes-extended_block-requires t c = (omega arith, ((λ d. saw-after c.at_block_like.ensures.peeks.same (saw-so (c.at_block_like.ensures.sees d) c.if-at_block_like.true)), omega (arith, c.at_block_like.ensures.some c.if-at_block_like.true, c.at_block_like.ensures.peeks.left)))

pub statements::after_attributes-after_block-rest-requires : goal.statements::after_attributes-after_block-rest-requires
statements::after_attributes-after_block-rest-requires t c = (omega arith, (c.extended_block.ensures.reads On).does.innermost _ (c.at_block_like.ensures.peeks.same.innermost _ (c.at_item_after_attributes.ensures.peeks.same.innermost _ (c.at.ensures.peeks.same.innermost _ (c.requires.innermost)))))

pub statements::after_attributes-abandon-requires : goal.statements::after_attributes-abandon-requires
statements::after_attributes-abandon-requires t c = c.after_block-rest.ensures.asks.marker

pub statements::after_attributes-returns-then-at_block_like-clause-completes : goal.statements::after_attributes-returns-then-at_block_like-clause-completes
unfolding look_of begins_below whole rule items statements expressions patterns types paths there_at shift passes is_silent begins in_mode from_start row one_of any_of no_longer longest is_longer
statements::after_attributes-returns-then-at_block_like-clause-completes t c = where-here (saw-so (c.at.ensures.sees Off) c.if-at.false and saw-before c.at.ensures.peeks.same (saw-so (c.at_item_after_attributes.ensures.sees Off) c.if-at_item_after_attributes.false) and begun rules.block_like (saw-before c.at.ensures.peeks.same (saw-before c.at_item_after_attributes.ensures.peeks.same (saw-so (c.at_block_like.ensures.sees Off) c.if-at_block_like.true))) (nothing)) (where-look c.at.ensures.peeks.same (where-look c.at_item_after_attributes.ensures.peeks.same (where-look c.at_block_like.ensures.peeks.same (where-any (completes-leave (reads-then Off (c.extended_block.ensures.reads Off) c.after_block-rest.ensures.reads) c.abandon.ensures.leaves)))))

pub statements::after_attributes-extended_operand-requires : goal.statements::after_attributes-extended_operand-requires
statements::after_attributes-extended_operand-requires t c = (omega arith, record { sees = saw-after c.at_operand.ensures.peeks.same (saw-so c.at_operand.ensures.sees c.if-at_operand.true); some = omega (arith, c.at_operand.ensures.some c.if-at_operand.true, c.at_operand.ensures.peeks.left) })

pub statements::after_attributes-operators_and_end-frame-requires : goal.statements::after_attributes-operators_and_end-frame-requires
statements::after_attributes-operators_and_end-frame-requires t c = (omega arith, c.extended_operand.ensures.reads.does.innermost _ (c.at_operand.ensures.peeks.same.innermost _ (c.at_block_like.ensures.peeks.same.innermost _ (c.at_item_after_attributes.ensures.peeks.same.innermost _ (c.at.ensures.peeks.same.innermost _ (c.requires.innermost))))))

pub statements::after_attributes-abandon-requires-then-at_operand : goal.statements::after_attributes-abandon-requires-then-at_operand
statements::after_attributes-abandon-requires-then-at_operand t c = c.operators_and_end-frame.ensures.asks.marker

pub statements::after_attributes-returns-then-at_operand-clause-completes : goal.statements::after_attributes-returns-then-at_operand-clause-completes
unfolding look_of begins_below whole rule items statements expressions patterns types paths there_at shift passes is_silent begins in_mode from_start row one_of any_of no_longer longest is_longer
statements::after_attributes-returns-then-at_operand-clause-completes t c = where-here (saw-so (c.at.ensures.sees Off) c.if-at.false and saw-before c.at.ensures.peeks.same (saw-so (c.at_item_after_attributes.ensures.sees Off) c.if-at_item_after_attributes.false) and begun rules.block_like (saw-before c.at.ensures.peeks.same (saw-before c.at_item_after_attributes.ensures.peeks.same (saw-so (c.at_block_like.ensures.sees Off) c.if-at_block_like.false))) (begun rules.prefixed (saw-before c.at.ensures.peeks.same (saw-before c.at_item_after_attributes.ensures.peeks.same (saw-before c.at_block_like.ensures.peeks.same (saw-so c.at_operand.ensures.sees c.if-at_operand.true)))) (nothing))) (where-look c.at.ensures.peeks.same (where-look c.at_item_after_attributes.ensures.peeks.same (where-look c.at_block_like.ensures.peeks.same (where-look c.at_operand.ensures.peeks.same (where-any (completes-leave (reads-then Off c.extended_operand.ensures.reads c.operators_and_end-frame.ensures.reads) c.abandon-then-at_operand.ensures.leaves))))))

pub statements::after_attributes-body-requires-2 : goal.statements::after_attributes-body-requires-2
statements::after_attributes-body-requires-2 t c = (omega arith, ((λ e. absurd (true≢false e)), c.at_operand.ensures.peeks.same.innermost _ (c.at_block_like.ensures.peeks.same.innermost _ (c.at_item_after_attributes.ensures.peeks.same.innermost _ (c.at.ensures.peeks.same.innermost _ (c.requires.innermost))))))

pub statements::after_attributes-returns-clause-completes : goal.statements::after_attributes-returns-clause-completes
unfolding look_of begins_below whole rule items statements expressions patterns types paths there_at shift passes is_silent begins in_mode from_start row one_of any_of no_longer longest is_longer
statements::after_attributes-returns-clause-completes t c = where-here (saw-so (c.at.ensures.sees Off) c.if-at.false and saw-before c.at.ensures.peeks.same (saw-so (c.at_item_after_attributes.ensures.sees Off) c.if-at_item_after_attributes.false) and begun rules.block_like (saw-before c.at.ensures.peeks.same (saw-before c.at_item_after_attributes.ensures.peeks.same (saw-so (c.at_block_like.ensures.sees Off) c.if-at_block_like.false))) (begun rules.prefixed (saw-before c.at.ensures.peeks.same (saw-before c.at_item_after_attributes.ensures.peeks.same (saw-before c.at_block_like.ensures.peeks.same (saw-so c.at_operand.ensures.sees c.if-at_operand.false)))) (nothing))) (where-look c.at.ensures.peeks.same (where-look c.at_item_after_attributes.ensures.peeks.same (where-look c.at_block_like.ensures.peeks.same (where-look c.at_operand.ensures.peeks.same (where-more c.body-2.ensures.completes)))))

pub statements::extended_block-block_like-requires : goal.statements::extended_block-block_like-requires
statements::extended_block-block_like-requires t c = (omega arith, ((λ d. saw-inside c.start-inner.ensures.opens (c.requires.begins d)), omega (arith, c.requires.some, c.start-inner.ensures.stays.left)))

pub statements::extended_block-extend_left-requires : goal.statements::extended_block-extend_left-requires
statements::extended_block-extend_left-requires t c = (c.block_like.ensures.gives On).does.innermost _ c.start-inner.ensures.marker

pub statements::extended_block-returns-clause-reads : goal.statements::extended_block-returns-clause-reads
statements::extended_block-returns-clause-reads t c = λ cond. reads-lead (block-rooted cond) c.start-inner.ensures.opens (reads-call cond (c.block_like.ensures.gives cond)) c.extend_left.ensures.extends

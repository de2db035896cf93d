-- Expressions that end in a block.
use Rattle.std.proofs.Common.{[], ◌∷◌, refl, arith, ◌∙◌}
use Rattle.parser_events.specs.Forest.{ExpectedMatchArm}
use Rattle.rust_grammar.specs.Calls.{MatchArm}
use Rattle.rust_grammar.specs.Notation.{◌or◌, until, wide}
use Rattle.rust_grammar.specs.Rule.{Skip, Unless}
use Rattle.rust_grammar.specs.Words.{'ident', 'l_curly', 'r_curly', '!'}
use Rattle.rust_grammar.specs.Rule as rules
use Rattle.rust_grammar.specs.Expressions.{expressions, arm_turn, macro_block_begins}
use Rattle.rust_grammar.specs.Items.{items}
use Rattle.rust_grammar.specs.Meaning.{begins_below, look_of}
use Rattle.rust_grammar.specs.Notation.{any_of, is_longer, no_longer, longest, one_of, row}
use Rattle.rust_grammar.specs.Paths.{paths}
use Rattle.rust_grammar.specs.Patterns.{patterns}
use Rattle.rust_grammar.specs.Rule.{begins, in_mode, from_start, is_silent, passes, shift, there_at}
use Rattle.rust_grammar.specs.Statements.{statements}
use Rattle.rust_grammar.specs.Types.{types}
use Rattle.rust_grammar.specs.Whole.{rule, whole}
use Rattle.grammar_reader.proofs.Seeing.{arm-there, begun-from_start, left-there, some-left, three-left, saw-without}
use Rattle.rust_productions.specs.Looks.{tokens}
use Rattle.rust_productions.specs.Reads.{looks}
use Rattle.rust_productions.specs.declared.condition.Condition.TheVariants.{On, Off}
use Rattle.rust_productions.proofs.ByHand.{after-look, reads-call, reads-mode, reads-node, reads-nothing, reads-then, completes-look, completes-then, completes-wrap}
use Rattle.rust_productions.proofs.Choices.{from_start-after, gives-from_start, reads-here, from_start-completes, from_start-here, from_start-look, completes-here}
use Rattle.rust_productions.proofs.Facts.{nothing, saw-so, ◌and◌}
use Rattle.rust_productions.proofs.Looking.{saw-arm, saw-not}
use Rattle.rust_productions.proofs.Seen.{ends-at-end, saw-after, saw-before, saw-else, starts-here}
use Rattle.rust_productions.proofs.Turns.{first-turn, last-turn, next-turn}
use Rattle.rust_grammar.specs.Shared.{binder_begins}
use Rattle.grammar_reader.proofs.grammar.+grammar.Goals as goal

pub expressions::control::unsafe_block-complete-requires : goal.expressions::control::unsafe_block-complete-requires
expressions::control::unsafe_block-complete-requires t c = (c.expect_part.ensures.reads On).does.innermost _ ((c.take.ensures.reads On).does.innermost _ c.start-node.ensures.marker)

pub expressions::control::unsafe_block-returns-clause-reads : goal.expressions::control::unsafe_block-returns-clause-reads
expressions::control::unsafe_block-returns-clause-reads t c = λ cond. reads-node cond c.start-node.ensures.opens (reads-then cond (c.take.ensures.reads cond) (c.expect_part.ensures.reads cond)) c.complete.ensures.closes

pub expressions::control::match_expr-complete-requires : goal.expressions::control::match_expr-complete-requires
expressions::control::match_expr-complete-requires t c = (c.expect_part.ensures.reads On).does.innermost _ ((c.expect_condition.ensures.reads On).does.innermost _ ((c.take.ensures.reads On).does.innermost _ c.start-node.ensures.marker))

pub expressions::control::match_expr-returns-clause-reads : goal.expressions::control::match_expr-returns-clause-reads
expressions::control::match_expr-returns-clause-reads t c = λ cond. reads-node cond c.start-node.ensures.opens (reads-then cond (c.take.ensures.reads cond) (reads-then cond (c.expect_condition.ensures.reads cond) (c.expect_part.ensures.reads cond))) c.complete.ensures.closes

pub expressions::control::if_expr-complete-requires : goal.expressions::control::if_expr-complete-requires
expressions::control::if_expr-complete-requires t c = (c.opt_else.ensures.reads On).does.innermost _ ((c.expect_part.ensures.reads On).does.innermost _ ((c.expect_condition.ensures.reads On).does.innermost _ ((c.take.ensures.reads On).does.innermost _ c.start-node.ensures.marker)))

pub expressions::control::if_expr-returns-clause-gives : goal.expressions::control::if_expr-returns-clause-gives
unfolding look_of begins_below whole rule items statements expressions patterns types paths there_at shift passes is_silent begins in_mode from_start row one_of any_of no_longer longest is_longer
expressions::control::if_expr-returns-clause-gives t c = λ cond. gives-from_start (from_start-after refl (reads-node cond c.start-node.ensures.opens (reads-then cond (c.take.ensures.reads cond) (reads-then cond (c.expect_condition.ensures.reads cond) (reads-then cond (c.expect_part.ensures.reads cond) (c.opt_else.ensures.reads cond)))) c.complete.ensures.closes))

pub expressions::control::opt_else-returns-then-at-clause-reads : goal.expressions::control::opt_else-returns-then-at-clause-reads
unfolding look_of begins_below whole rule items statements expressions patterns types paths there_at shift passes is_silent begins in_mode from_start row one_of any_of no_longer longest is_longer
expressions::control::opt_else-returns-then-at-clause-reads t c = λ cond. reads-here (saw-so (c.at.ensures.sees cond) c.if-at.true and nothing) (after-look cond c.at.ensures.peeks.same (reads-then cond (c.take.ensures.reads cond) (c.after_else.ensures.reads cond)))

pub expressions::control::opt_else-returns-else-at-clause-reads : goal.expressions::control::opt_else-returns-else-at-clause-reads
unfolding look_of begins_below whole rule items statements expressions patterns types paths there_at shift passes is_silent begins in_mode from_start row one_of any_of no_longer longest is_longer
expressions::control::opt_else-returns-else-at-clause-reads t c = λ cond. reads-here (saw-so (c.at.ensures.sees cond) c.if-at.false and nothing) (reads-nothing cond c.at.ensures.peeks.same)

pub expressions::control::after_else-returns-then-at-clause-reads : goal.expressions::control::after_else-returns-then-at-clause-reads
unfolding look_of begins_below whole rule items statements expressions patterns types paths there_at shift passes is_silent begins in_mode from_start row one_of any_of no_longer longest is_longer
expressions::control::after_else-returns-then-at-clause-reads t c = λ cond. reads-here (saw-so (c.at.ensures.sees cond) c.if-at.true and nothing) (after-look cond c.at.ensures.peeks.same (reads-call cond (c.if_expr.ensures.gives cond)))

pub expressions::control::after_else-returns-clause-reads : goal.expressions::control::after_else-returns-clause-reads
unfolding look_of begins_below whole rule items statements expressions patterns types paths there_at shift passes is_silent begins in_mode from_start row one_of any_of no_longer longest is_longer
expressions::control::after_else-returns-clause-reads t c = λ cond. reads-here (saw-so (c.at.ensures.sees cond) c.if-at.false and nothing) (after-look cond c.at.ensures.peeks.same (c.expect_part.ensures.reads cond))

pub expressions::control::match_arms-complete-requires : goal.expressions::control::match_arms-complete-requires
expressions::control::match_arms-complete-requires t c = (c.expect.ensures.reads On).does.innermost _ (c.arms.ensures.reads.does.innermost _ ((c.take.ensures.reads On).does.innermost _ c.start-list.ensures.marker))

pub expressions::control::match_arms-returns-clause-gives : goal.expressions::control::match_arms-returns-clause-gives
unfolding look_of begins_below whole rule items statements expressions patterns types paths there_at shift passes is_silent begins in_mode from_start row one_of any_of no_longer longest is_longer
expressions::control::match_arms-returns-clause-gives t c = λ cond. gives-from_start (from_start-after refl (reads-node cond c.start-list.ensures.opens (reads-then cond (c.take.ensures.reads cond) (reads-then cond (reads-mode cond c.arms.ensures.reads) (c.expect.ensures.reads cond))) c.complete.ensures.closes))

pub expressions::control::arms-turns-preserved : goal.expressions::control::arms-turns-preserved
expressions::control::arms-turns-preserved t c = record {
  innermost = λ n i. c.arm_turn.ensures.keeps.innermost n (c.turns.invariant.innermost n i);
  goes = record { rest = λ end p. c.turns.invariant.goes.rest end ((c.arm_turn.ensures.goes c.turns-test.true).turns.rest end p) };
  left = omega (arith, c.turns.invariant.left, c.arm_turn.ensures.asks.left);
  looks = omega (arith, c.turns.invariant.looks, (c.arm_turn.ensures.goes c.turns-test.true).takes.looks);
}

pub expressions::control::arms-returns-clause-reads : goal.expressions::control::arms-returns-clause-reads
expressions::control::arms-returns-clause-reads t c = c.turns.invariant.goes.rest _ (c.arm_turn.ensures.ends c.turns-test.false)

pub expressions::control::while_expr-returns-clause-reads : goal.expressions::control::while_expr-returns-clause-reads
expressions::control::while_expr-returns-clause-reads t c = λ cond. reads-node cond c.start-node.ensures.opens (c.while_rest.ensures.reads cond) c.complete.ensures.closes

pub expressions::control::while_expr-complete-requires : goal.expressions::control::while_expr-complete-requires
expressions::control::while_expr-complete-requires t c = (c.while_rest.ensures.reads On).does.innermost _ (c.start-node.ensures.marker)

pub expressions::control::loop_expr-returns-clause-reads : goal.expressions::control::loop_expr-returns-clause-reads
expressions::control::loop_expr-returns-clause-reads t c = λ cond. reads-node cond c.start-node.ensures.opens (c.loop_rest.ensures.reads cond) c.complete.ensures.closes

pub expressions::control::loop_expr-complete-requires : goal.expressions::control::loop_expr-complete-requires
expressions::control::loop_expr-complete-requires t c = (c.loop_rest.ensures.reads On).does.innermost _ (c.start-node.ensures.marker)

pub expressions::control::for_expr-returns-clause-reads : goal.expressions::control::for_expr-returns-clause-reads
expressions::control::for_expr-returns-clause-reads t c = λ cond. reads-node cond c.start-node.ensures.opens (c.for_rest.ensures.reads cond) c.complete.ensures.closes

pub expressions::control::for_expr-complete-requires : goal.expressions::control::for_expr-complete-requires
expressions::control::for_expr-complete-requires t c = (c.for_rest.ensures.reads On).does.innermost _ (c.start-node.ensures.marker)

pub expressions::control::while_rest-returns-clause-reads : goal.expressions::control::while_rest-returns-clause-reads
expressions::control::while_rest-returns-clause-reads t c = λ cond. reads-then cond (c.take.ensures.reads cond) (reads-then cond (c.expect_condition.ensures.reads cond) (c.expect_part.ensures.reads cond))

pub expressions::control::loop_rest-returns-clause-reads : goal.expressions::control::loop_rest-returns-clause-reads
expressions::control::loop_rest-returns-clause-reads t c = λ cond. reads-then cond (c.take.ensures.reads cond) (c.expect_part.ensures.reads cond)

pub expressions::control::for_rest-returns-clause-reads : goal.expressions::control::for_rest-returns-clause-reads
expressions::control::for_rest-returns-clause-reads t c = λ cond. reads-then cond (c.take.ensures.reads cond) (reads-then cond (c.expect_part.ensures.reads cond) (reads-then cond (c.expect.ensures.reads cond) (reads-then cond (c.expect_condition.ensures.reads cond) (c.expect_part-2.ensures.reads cond))))

pub expressions::control::after_label-returns-in-WHILE_KW-clause-completes : goal.expressions::control::after_label-returns-in-WHILE_KW-clause-completes
unfolding look_of begins_below whole rule items statements expressions patterns types paths there_at shift passes is_silent begins in_mode from_start row one_of any_of no_longer longest is_longer
expressions::control::after_label-returns-in-WHILE_KW-clause-completes t c = λ cond. completes-here (saw-arm c.in-WHILE_KW.is (c.current.ensures.sees cond) and nothing) (completes-look c.current.ensures.peeks.same (completes-wrap (c.while_rest.ensures.reads cond) c.complete.ensures.closes))

pub expressions::control::after_label-returns-in-LOOP_KW-clause-completes : goal.expressions::control::after_label-returns-in-LOOP_KW-clause-completes
unfolding look_of begins_below whole rule items statements expressions patterns types paths there_at shift passes is_silent begins in_mode from_start row one_of any_of no_longer longest is_longer
expressions::control::after_label-returns-in-LOOP_KW-clause-completes t c = λ cond. completes-here (saw-arm c.in-LOOP_KW.is (c.current.ensures.sees cond) and nothing) (completes-look c.current.ensures.peeks.same (completes-wrap (c.loop_rest.ensures.reads cond) c.complete-in-LOOP_KW.ensures.closes))

pub expressions::control::after_label-returns-in-FOR_KW-clause-completes : goal.expressions::control::after_label-returns-in-FOR_KW-clause-completes
unfolding look_of begins_below whole rule items statements expressions patterns types paths there_at shift passes is_silent begins in_mode from_start row one_of any_of no_longer longest is_longer
expressions::control::after_label-returns-in-FOR_KW-clause-completes t c = λ cond. completes-here (saw-arm c.in-FOR_KW.is (c.current.ensures.sees cond) and nothing) (completes-look c.current.ensures.peeks.same (completes-wrap (c.for_rest.ensures.reads cond) c.complete-in-FOR_KW.ensures.closes))

pub expressions::control::after_label-returns-in_default-clause-completes : goal.expressions::control::after_label-returns-in_default-clause-completes
unfolding look_of begins_below whole rule items statements expressions patterns types paths there_at shift passes is_silent begins in_mode from_start row one_of any_of no_longer longest is_longer
expressions::control::after_label-returns-in_default-clause-completes t c = λ cond. completes-here (saw-not c.in_default.not-WHILE_KW (c.current.ensures.sees cond) and saw-not c.in_default.not-LOOP_KW (c.current.ensures.sees cond) and saw-not c.in_default.not-FOR_KW (c.current.ensures.sees cond) and nothing) (completes-look c.current.ensures.peeks.same (completes-wrap (c.expect_part.ensures.reads cond) c.complete-in_default.ensures.closes))

pub expressions::control::after_label-complete-requires : goal.expressions::control::after_label-complete-requires
expressions::control::after_label-complete-requires t c = (c.while_rest.ensures.reads On).does.innermost _ (c.current.ensures.peeks.same.innermost _ (c.requires.innermost))

pub expressions::control::after_label-complete-requires-in-LOOP_KW : goal.expressions::control::after_label-complete-requires-in-LOOP_KW
expressions::control::after_label-complete-requires-in-LOOP_KW t c = (c.loop_rest.ensures.reads On).does.innermost _ (c.current.ensures.peeks.same.innermost _ (c.requires.innermost))

pub expressions::control::after_label-complete-requires-in-FOR_KW : goal.expressions::control::after_label-complete-requires-in-FOR_KW
expressions::control::after_label-complete-requires-in-FOR_KW t c = (c.for_rest.ensures.reads On).does.innermost _ (c.current.ensures.peeks.same.innermost _ (c.requires.innermost))

pub expressions::control::after_label-complete-requires-in_default : goal.expressions::control::after_label-complete-requires-in_default
expressions::control::after_label-complete-requires-in_default t c = (c.expect_part.ensures.reads On).does.innermost _ (c.current.ensures.peeks.same.innermost _ (c.requires.innermost))

pub expressions::control::block_with_words-returns-clause-reads : goal.expressions::control::block_with_words-returns-clause-reads
expressions::control::block_with_words-returns-clause-reads t c = λ cond. reads-node cond c.start-node.ensures.opens (reads-then cond (c.block_words.ensures.reads cond) (c.expect_part.ensures.reads cond)) c.complete.ensures.closes

pub expressions::control::block_with_words-complete-requires : goal.expressions::control::block_with_words-complete-requires
expressions::control::block_with_words-complete-requires t c = (c.expect_part.ensures.reads On).does.innermost _ ((c.block_words.ensures.reads On).does.innermost _ (c.start-node.ensures.marker))

pub expressions::control::new_block-returns-then-at-clause-from_start : goal.expressions::control::new_block-returns-then-at-clause-from_start
unfolding look_of begins_below whole rule items statements expressions patterns types paths there_at shift passes is_silent begins in_mode from_start row one_of any_of no_longer longest is_longer
expressions::control::new_block-returns-then-at-clause-from_start t c = λ cond. from_start-here (saw-so (c.at.ensures.sees cond) c.if-at.true and nothing) (from_start-look c.at.ensures.peeks.same (c.labelled.ensures.from_start cond))

pub expressions::control::new_block-returns-clause-from_start : goal.expressions::control::new_block-returns-clause-from_start
unfolding look_of begins_below whole rule items statements expressions patterns types paths there_at shift passes is_silent begins in_mode from_start row one_of any_of no_longer longest is_longer
expressions::control::new_block-returns-clause-from_start t c = λ cond. from_start-here (saw-so (c.at.ensures.sees cond) c.if-at.false and nothing) (from_start-look c.at.ensures.peeks.same (from_start-after refl (c.block_with_words.ensures.reads cond)))

pub expressions::control::labelled-after_label-requires : goal.expressions::control::labelled-after_label-requires
expressions::control::labelled-after_label-requires t c = (omega arith, (c.label.ensures.reads On).does.innermost _ c.start-node.ensures.marker)

pub expressions::control::labelled-returns-clause-from_start : goal.expressions::control::labelled-returns-clause-from_start
expressions::control::labelled-returns-clause-from_start t c = λ cond. from_start-completes c.start-node.ensures.opens (completes-then (c.label.ensures.reads cond) (c.after_label.ensures.completes cond))

pub expressions::control::block_like-returns-in-L_CURLY-clause-gives : goal.expressions::control::block_like-returns-in-L_CURLY-clause-gives
unfolding look_of begins_below whole rule items statements expressions patterns types paths there_at shift passes is_silent begins in_mode from_start row one_of any_of no_longer longest is_longer
expressions::control::block_like-returns-in-L_CURLY-clause-gives t c = λ cond. gives-from_start (from_start-here (saw-arm c.in-L_CURLY.is (c.current.ensures.sees cond) and nothing) (from_start-look c.current.ensures.peeks.same (from_start-after refl (reads-call cond (c.block.ensures.gives cond)))))

pub expressions::control::block_like-returns-in-UNSAFE_KW-clause-gives : goal.expressions::control::block_like-returns-in-UNSAFE_KW-clause-gives
unfolding look_of begins_below whole rule items statements expressions patterns types paths there_at shift passes is_silent begins in_mode from_start row one_of any_of no_longer longest is_longer
expressions::control::block_like-returns-in-UNSAFE_KW-clause-gives t c = λ cond. gives-from_start (from_start-here (saw-arm c.in-UNSAFE_KW.is (c.current.ensures.sees cond) and nothing) (from_start-look c.current.ensures.peeks.same (from_start-after refl (c.unsafe_block.ensures.reads cond))))

pub expressions::control::block_like-returns-in-IF_KW-clause-gives : goal.expressions::control::block_like-returns-in-IF_KW-clause-gives
unfolding look_of begins_below whole rule items statements expressions patterns types paths there_at shift passes is_silent begins in_mode from_start row one_of any_of no_longer longest is_longer
expressions::control::block_like-returns-in-IF_KW-clause-gives t c = λ cond. gives-from_start (from_start-here (saw-arm c.in-IF_KW.is (c.current.ensures.sees cond) and nothing) (from_start-look c.current.ensures.peeks.same (from_start-after refl (reads-call cond (c.if_expr.ensures.gives cond)))))

pub expressions::control::block_like-returns-in-WHILE_KW-clause-gives : goal.expressions::control::block_like-returns-in-WHILE_KW-clause-gives
unfolding look_of begins_below whole rule items statements expressions patterns types paths there_at shift passes is_silent begins in_mode from_start row one_of any_of no_longer longest is_longer
expressions::control::block_like-returns-in-WHILE_KW-clause-gives t c = λ cond. gives-from_start (from_start-here (saw-arm c.in-WHILE_KW.is (c.current.ensures.sees cond) and nothing) (from_start-look c.current.ensures.peeks.same (from_start-after refl (c.while_expr.ensures.reads cond))))

pub expressions::control::block_like-returns-in-LOOP_KW-clause-gives : goal.expressions::control::block_like-returns-in-LOOP_KW-clause-gives
unfolding look_of begins_below whole rule items statements expressions patterns types paths there_at shift passes is_silent begins in_mode from_start row one_of any_of no_longer longest is_longer
expressions::control::block_like-returns-in-LOOP_KW-clause-gives t c = λ cond. gives-from_start (from_start-here (saw-arm c.in-LOOP_KW.is (c.current.ensures.sees cond) and nothing) (from_start-look c.current.ensures.peeks.same (from_start-after refl (c.loop_expr.ensures.reads cond))))

pub expressions::control::block_like-returns-in-FOR_KW-clause-gives : goal.expressions::control::block_like-returns-in-FOR_KW-clause-gives
unfolding look_of begins_below whole rule items statements expressions patterns types paths there_at shift passes is_silent begins in_mode from_start row one_of any_of no_longer longest is_longer
expressions::control::block_like-returns-in-FOR_KW-clause-gives t c = λ cond. gives-from_start (from_start-here (saw-arm c.in-FOR_KW.is (c.current.ensures.sees cond) and saw-without (wide binder_begins) (looks rules.block_like) (saw-arm c.in-FOR_KW.is (c.current.ensures.sees cond) and nothing) (c.requires.begins cond) refl and nothing) (from_start-look c.current.ensures.peeks.same (from_start-after refl (c.for_expr.ensures.reads cond))))

pub expressions::control::block_like-returns-in-MATCH_KW-clause-gives : goal.expressions::control::block_like-returns-in-MATCH_KW-clause-gives
unfolding look_of begins_below whole rule items statements expressions patterns types paths there_at shift passes is_silent begins in_mode from_start row one_of any_of no_longer longest is_longer
expressions::control::block_like-returns-in-MATCH_KW-clause-gives t c = λ cond. gives-from_start (from_start-here (saw-arm c.in-MATCH_KW.is (c.current.ensures.sees cond) and nothing) (from_start-look c.current.ensures.peeks.same (from_start-after refl (c.match_expr.ensures.reads cond))))

pub expressions::control::block_like-returns-then-at_new_block-clause-gives : goal.expressions::control::block_like-returns-then-at_new_block-clause-gives
unfolding look_of begins_below whole rule items statements expressions patterns types paths there_at shift passes is_silent begins in_mode from_start row one_of any_of no_longer longest is_longer
expressions::control::block_like-returns-then-at_new_block-clause-gives t c = λ cond. gives-from_start (from_start-here (saw-not c.in_default.not-L_CURLY (c.current.ensures.sees cond) and saw-not c.in_default.not-UNSAFE_KW (c.current.ensures.sees cond) and saw-not c.in_default.not-IF_KW (c.current.ensures.sees cond) and saw-not c.in_default.not-WHILE_KW (c.current.ensures.sees cond) and saw-not c.in_default.not-LOOP_KW (c.current.ensures.sees cond) and saw-not c.in_default.not-FOR_KW (c.current.ensures.sees cond) and saw-not c.in_default.not-MATCH_KW (c.current.ensures.sees cond) and saw-before c.current.ensures.peeks.same (saw-so (c.at_new_block.ensures.sees cond) c.if-at_new_block.true) and nothing) (from_start-look c.current.ensures.peeks.same (from_start-look c.at_new_block.ensures.peeks.same (c.new_block.ensures.from_start cond))))

pub expressions::control::block_like-new_block-requires : goal.expressions::control::block_like-new_block-requires
expressions::control::block_like-new_block-requires t c = (omega arith, record { sees = λ d. saw-after c.at_new_block.ensures.peeks.same (saw-so (c.at_new_block.ensures.sees d) c.if-at_new_block.true); some = omega (arith, c.requires.some, c.at_new_block.ensures.some c.if-at_new_block.true, c.current.ensures.peeks.left, c.at_new_block.ensures.peeks.left) })

pub expressions::control::arm_turn-returns-then-at_list_end-clause-ends : goal.expressions::control::arm_turn-returns-then-at_list_end-clause-ends
unfolding look_of begins_below whole rule items statements expressions patterns types paths there_at shift passes is_silent begins in_mode from_start row one_of any_of no_longer longest is_longer
expressions::control::arm_turn-returns-then-at_list_end-clause-ends t c = λ e. last-turn Off arm_turn (ends-at-end Off arm_turn refl) _ _ _ first-turn (starts-here arm_turn (saw-so (c.at_list_end.ensures.sees Off) c.if-at_list_end.true and nothing) refl) c.at_list_end.ensures.peeks.same

pub expressions::control::arm_turn-match_arm-requires : goal.expressions::control::arm_turn-match_arm-requires
unfolding look_of begins_below whole rule items statements expressions patterns types paths there_at shift passes is_silent begins in_mode from_start row one_of any_of no_longer longest is_longer
expressions::control::arm_turn-match_arm-requires t c = (omega arith, ((λ d. saw-after c.at_match_arm.ensures.peeks.same (saw-so (c.at_match_arm.ensures.sees d) c.if-at_match_arm.true)), omega (arith, c.at_match_arm.ensures.some c.if-at_match_arm.true, c.at_match_arm.ensures.peeks.left)))

pub expressions::control::arm_turn-returns-then-at_match_arm-clause-goes : goal.expressions::control::arm_turn-returns-then-at_match_arm-clause-goes
unfolding from_start any_of begins begins_below expressions in_mode is_longer is_silent items longest look_of no_longer one_of passes paths patterns row rule shift statements there_at tokens types whole
expressions::control::arm_turn-returns-then-at_match_arm-clause-goes t c = λ e. record {
  turns = (next-turn Off arm_turn (ends-at-end Off arm_turn refl) _ _ _ first-turn (starts-here arm_turn (saw-so (c.at_list_end.ensures.sees Off) c.if-at_list_end.false and saw-before c.at_list_end.ensures.peeks.same (saw-so (c.at_match_attribute.ensures.sees Off) c.if-at_match_attribute.false) and begun-from_start rules.match_arm (saw-before c.at_list_end.ensures.peeks.same (saw-before c.at_match_attribute.ensures.peeks.same (arm-there (saw-so (c.at_match_arm.ensures.sees Off) c.if-at_match_arm.true)))) nothing) refl) (reads-here (saw-before c.at_list_end.ensures.peeks.same (saw-so (c.at_match_attribute.ensures.sees Off) c.if-at_match_attribute.false) and begun-from_start rules.match_arm (saw-before c.at_list_end.ensures.peeks.same (saw-before c.at_match_attribute.ensures.peeks.same (arm-there (saw-so (c.at_match_arm.ensures.sees Off) c.if-at_match_arm.true)))) nothing) (after-look Off c.at_list_end.ensures.peeks.same (after-look Off c.at_match_attribute.ensures.peeks.same (after-look Off c.at_match_arm.ensures.peeks.same (reads-call Off c.match_arm.ensures.gives))))) (omega (arith, c.match_arm.ensures.takes.left, c.at_match_arm.ensures.peeks.left, c.at_match_attribute.ensures.peeks.left, c.at_list_end.ensures.peeks.left)));
  takes = record {
    left = omega arith;
    looks = omega (arith, c.at_match_arm.ensures.peeks.looks, c.at_match_attribute.ensures.peeks.looks, c.at_list_end.ensures.peeks.looks, c.match_arm.ensures.takes.looks);
  };
}

pub expressions::control::arm_turn-returns-then-at_match_arm-clause-keeps : goal.expressions::control::arm_turn-returns-then-at_match_arm-clause-keeps
expressions::control::arm_turn-returns-then-at_match_arm-clause-keeps t c = record {
  input = c.match_arm.ensures.gives.does.input ∙ c.at_match_arm.ensures.peeks.same.input ∙ c.at_match_attribute.ensures.peeks.same.input ∙ c.at_list_end.ensures.peeks.same.input;
  innermost = λ n i. c.match_arm.ensures.gives.does.innermost n (c.at_match_arm.ensures.peeks.same.innermost n (c.at_match_attribute.ensures.peeks.same.innermost n (c.at_list_end.ensures.peeks.same.innermost n i)));
}

pub expressions::control::arm_turn-returns-then-at_match_arm-clause-asks : goal.expressions::control::arm_turn-returns-then-at_match_arm-clause-asks
expressions::control::arm_turn-returns-then-at_match_arm-clause-asks t c = record {
  left = omega arith;
  looks = omega (arith, c.at_match_arm.ensures.peeks.looks, c.at_match_attribute.ensures.peeks.looks, c.at_list_end.ensures.peeks.looks, c.match_arm.ensures.takes.looks);
}

pub expressions::control::arm_turn-skip-requires : goal.expressions::control::arm_turn-skip-requires
expressions::control::arm_turn-skip-requires t c = omega (arith, some-left 'r_curly' (saw-so (c.at_list_end.ensures.sees Off) c.if-at_list_end.false), c.at_list_end.ensures.peeks.left, c.at_match_arm.ensures.peeks.left)

pub expressions::control::arm_turn-returns-clause-goes : goal.expressions::control::arm_turn-returns-clause-goes
unfolding from_start any_of begins begins_below expressions in_mode is_longer is_silent items longest look_of no_longer one_of passes paths patterns row rule shift statements there_at tokens types whole
expressions::control::arm_turn-returns-clause-goes t c = λ e. record {
  turns = (next-turn Off arm_turn (ends-at-end Off arm_turn refl) _ _ _ first-turn (starts-here arm_turn (saw-so (c.at_list_end.ensures.sees Off) c.if-at_list_end.false and saw-before c.at_list_end.ensures.peeks.same (saw-so (c.at_match_attribute.ensures.sees Off) c.if-at_match_attribute.false) and left-there 'r_curly' (saw-so (c.at_list_end.ensures.sees Off) c.if-at_list_end.false) and begun-from_start rules.match_arm (saw-before c.at_list_end.ensures.peeks.same (saw-before c.at_match_attribute.ensures.peeks.same (arm-there (saw-so (c.at_match_arm.ensures.sees Off) c.if-at_match_arm.false)))) nothing) refl) (reads-here (saw-before c.at_list_end.ensures.peeks.same (saw-so (c.at_match_attribute.ensures.sees Off) c.if-at_match_attribute.false) and begun-from_start rules.match_arm (saw-before c.at_list_end.ensures.peeks.same (saw-before c.at_match_attribute.ensures.peeks.same (arm-there (saw-so (c.at_match_arm.ensures.sees Off) c.if-at_match_arm.false)))) nothing) (after-look Off c.at_list_end.ensures.peeks.same (after-look Off c.at_match_attribute.ensures.peeks.same (after-look Off c.at_match_arm.ensures.peeks.same (c.skip.ensures.reads Off))))) (omega (arith, c.skip.ensures.left, c.at_match_arm.ensures.peeks.left, c.at_match_attribute.ensures.peeks.left, c.at_list_end.ensures.peeks.left)));
  takes = record {
    left = omega arith;
    looks = omega (arith, c.at_match_arm.ensures.peeks.looks, c.at_match_attribute.ensures.peeks.looks, c.at_list_end.ensures.peeks.looks, c.skip.ensures.looks);
  };
}

pub expressions::control::arm_turn-returns-clause-keeps : goal.expressions::control::arm_turn-returns-clause-keeps
expressions::control::arm_turn-returns-clause-keeps t c = record {
  input = (c.skip.ensures.reads Off).does.input ∙ c.at_match_arm.ensures.peeks.same.input ∙ c.at_match_attribute.ensures.peeks.same.input ∙ c.at_list_end.ensures.peeks.same.input;
  innermost = λ n i. (c.skip.ensures.reads Off).does.innermost n (c.at_match_arm.ensures.peeks.same.innermost n (c.at_match_attribute.ensures.peeks.same.innermost n (c.at_list_end.ensures.peeks.same.innermost n i)));
}

pub expressions::control::arm_turn-returns-clause-asks : goal.expressions::control::arm_turn-returns-clause-asks
expressions::control::arm_turn-returns-clause-asks t c = record {
  left = omega arith;
  looks = omega (arith, c.at_match_arm.ensures.peeks.looks, c.at_match_attribute.ensures.peeks.looks, c.at_list_end.ensures.peeks.looks, c.skip.ensures.looks);
}

pub expressions::control::arm_turn-returns-then-at_match_attribute-clause-goes : goal.expressions::control::arm_turn-returns-then-at_match_attribute-clause-goes
unfolding from_start any_of begins begins_below expressions in_mode is_longer is_silent items longest look_of no_longer one_of passes paths patterns row rule shift statements there_at tokens types whole
expressions::control::arm_turn-returns-then-at_match_attribute-clause-goes t c = λ e. record {
  turns = (next-turn Off arm_turn (ends-at-end Off arm_turn refl) _ _ _ first-turn (starts-here arm_turn (saw-so (c.at_list_end.ensures.sees Off) c.if-at_list_end.false and saw-before c.at_list_end.ensures.peeks.same (saw-so (c.at_match_attribute.ensures.sees Off) c.if-at_match_attribute.true) and nothing) refl) (reads-here (saw-before c.at_list_end.ensures.peeks.same (saw-so (c.at_match_attribute.ensures.sees Off) c.if-at_match_attribute.true) and nothing) (after-look Off c.at_list_end.ensures.peeks.same (after-look Off c.at_match_attribute.ensures.peeks.same (reads-call Off (c.attribute.ensures.gives Off))))) (omega (arith, c.attribute.ensures.takes.left, c.at_match_attribute.ensures.peeks.left, c.at_list_end.ensures.peeks.left)));
  takes = record {
    left = omega arith;
    looks = omega (arith, c.at_match_attribute.ensures.peeks.looks, c.at_list_end.ensures.peeks.looks, c.attribute.ensures.takes.looks);
  };
}

pub expressions::control::arm_turn-returns-then-at_match_attribute-clause-keeps : goal.expressions::control::arm_turn-returns-then-at_match_attribute-clause-keeps
expressions::control::arm_turn-returns-then-at_match_attribute-clause-keeps t c = record {
  input = (c.attribute.ensures.gives Off).does.input ∙ c.at_match_attribute.ensures.peeks.same.input ∙ c.at_list_end.ensures.peeks.same.input;
  innermost = λ n i. (c.attribute.ensures.gives Off).does.innermost n (c.at_match_attribute.ensures.peeks.same.innermost n (c.at_list_end.ensures.peeks.same.innermost n i));
}

pub expressions::control::arm_turn-returns-then-at_match_attribute-clause-asks : goal.expressions::control::arm_turn-returns-then-at_match_attribute-clause-asks
expressions::control::arm_turn-returns-then-at_match_attribute-clause-asks t c = record {
  left = omega arith;
  looks = omega (arith, c.at_match_attribute.ensures.peeks.looks, c.at_list_end.ensures.peeks.looks, c.attribute.ensures.takes.looks);
}

pub expressions::control::block_like-macro_block-requires : goal.expressions::control::block_like-macro_block-requires
unfolding look_of begins_below whole rule items statements expressions patterns types paths there_at shift passes is_silent begins in_mode from_start row one_of any_of no_longer longest is_longer
expressions::control::block_like-macro_block-requires t c = record { begins = λ cond. saw-after c.at_new_block.ensures.peeks.same (saw-after c.current.ensures.peeks.same (saw-else macro_block_begins (looks rules.block_like) (saw-not c.in_default.not-L_CURLY (c.current.ensures.sees cond) and saw-not c.in_default.not-UNSAFE_KW (c.current.ensures.sees cond) and saw-not c.in_default.not-IF_KW (c.current.ensures.sees cond) and saw-not c.in_default.not-WHILE_KW (c.current.ensures.sees cond) and saw-not c.in_default.not-LOOP_KW (c.current.ensures.sees cond) and saw-not c.in_default.not-FOR_KW (c.current.ensures.sees cond) and saw-not c.in_default.not-MATCH_KW (c.current.ensures.sees cond) and saw-before c.current.ensures.peeks.same (saw-so (c.at_new_block.ensures.sees cond) c.if-at_new_block.false) and nothing) (c.requires.begins cond) refl)); some = three-left (saw-after c.at_new_block.ensures.peeks.same (saw-after c.current.ensures.peeks.same (saw-else macro_block_begins (looks rules.block_like) (saw-not c.in_default.not-L_CURLY (c.current.ensures.sees On) and saw-not c.in_default.not-UNSAFE_KW (c.current.ensures.sees On) and saw-not c.in_default.not-IF_KW (c.current.ensures.sees On) and saw-not c.in_default.not-WHILE_KW (c.current.ensures.sees On) and saw-not c.in_default.not-LOOP_KW (c.current.ensures.sees On) and saw-not c.in_default.not-FOR_KW (c.current.ensures.sees On) and saw-not c.in_default.not-MATCH_KW (c.current.ensures.sees On) and saw-before c.current.ensures.peeks.same (saw-so (c.at_new_block.ensures.sees On) c.if-at_new_block.false) and nothing) (c.requires.begins On) refl))) }

pub expressions::control::block_like-returns-else-at_new_block : goal.expressions::control::block_like-returns-else-at_new_block
unfolding look_of begins_below whole rule items statements expressions patterns types paths there_at shift passes is_silent begins in_mode from_start row one_of any_of no_longer longest is_longer
expressions::control::block_like-returns-else-at_new_block t c = record {
  gives = λ cond. gives-from_start (from_start-here (saw-not c.in_default.not-L_CURLY (c.current.ensures.sees cond) and saw-not c.in_default.not-UNSAFE_KW (c.current.ensures.sees cond) and saw-not c.in_default.not-IF_KW (c.current.ensures.sees cond) and saw-not c.in_default.not-WHILE_KW (c.current.ensures.sees cond) and saw-not c.in_default.not-LOOP_KW (c.current.ensures.sees cond) and saw-not c.in_default.not-FOR_KW (c.current.ensures.sees cond) and saw-not c.in_default.not-MATCH_KW (c.current.ensures.sees cond) and saw-before c.current.ensures.peeks.same (saw-so (c.at_new_block.ensures.sees cond) c.if-at_new_block.false) and nothing) (from_start-look c.current.ensures.peeks.same (from_start-look c.at_new_block.ensures.peeks.same (from_start-after refl (c.macro_block.ensures.reads cond)))));
  takes = record {
    left = omega (arith, c.macro_block.ensures.takes.left, c.at_new_block.ensures.peeks.left, c.current.ensures.peeks.left);
    looks = omega (arith, c.macro_block.ensures.takes.looks, c.at_new_block.ensures.peeks.looks, c.current.ensures.peeks.looks);
  };
}

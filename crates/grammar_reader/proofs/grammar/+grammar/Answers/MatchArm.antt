-- Arms of a `match`.
use Rattle.std.proofs.Common.{refl, arith}
use Rattle.rust_grammar.specs.Rule as rules
use Rattle.rust_grammar.specs.Expressions.{expressions}
use Rattle.rust_grammar.specs.Items.{items}
use Rattle.rust_grammar.specs.Meaning.{begins_below, look_of}
use Rattle.rust_grammar.specs.Notation.{any_of, is_longer, no_longer, longest, one_of, row, next, wide}
use Rattle.rust_grammar.specs.Paths.{paths}
use Rattle.rust_grammar.specs.Patterns.{patterns}
use Rattle.rust_grammar.specs.Rule.{begins, in_mode, from_start, is_silent, passes, shift, there_at, When}
use Rattle.rust_grammar.specs.Statements.{statements}
use Rattle.rust_grammar.specs.Types.{types}
use Rattle.rust_grammar.specs.Whole.{rule, whole}
use Rattle.rust_productions.proofs.ByHand.{after-look, reads-call, reads-node, reads-nothing, reads-then, completes-leave, reads-mode, reads-wrap, does-nothing}
use Rattle.rust_productions.proofs.Choices.{from_start-after, gives-from_start, reads-here, from_start-completes}
use Rattle.rust_productions.proofs.Facts.{begun, nothing, saw-so, ◌and◌}
use Rattle.rust_productions.proofs.Seen.{saw-after, saw-inside, ends-at-end, saw-before, saw-else, saw-told}
use Rattle.rust_productions.specs.Looks.{tokens}
use Rattle.rust_grammar.specs.Words.{'#'}
use Rattle.rust_grammar.specs.Calls.{Attribute}
use Rattle.rust_productions.proofs.Turns.{first-turn, next-turn}
use Rattle.rust_productions.specs.Reads.{looks}
use Rattle.rust_productions.specs.declared.condition.Condition.TheVariants.{On}
use Rattle.grammar_reader.proofs.Arms.{path-there}
use Rattle.rust_productions.proofs.Layering.{reads-after-operand}
use Rattle.grammar_reader.proofs.PathArgs.{reads-flat}
use Rattle.grammar_reader.proofs.grammar.+grammar.Goals as goal

pub expressions::match_arm::opt_guard-returns-then-at-clause-reads : goal.expressions::match_arm::opt_guard-returns-then-at-clause-reads
unfolding look_of begins_below whole rule items statements expressions patterns types paths there_at shift passes is_silent begins in_mode from_start row one_of any_of no_longer longest is_longer
expressions::match_arm::opt_guard-returns-then-at-clause-reads t c = λ cond. reads-here (saw-so (c.at.ensures.sees cond) c.if-at.true and nothing) (after-look cond c.at.ensures.peeks.same (reads-node cond c.start-guard.ensures.opens (reads-then cond (c.take.ensures.reads cond) (c.guard_value.ensures.reads cond)) c.complete.ensures.closes))

pub expressions::match_arm::opt_guard-returns-else-at-clause-reads : goal.expressions::match_arm::opt_guard-returns-else-at-clause-reads
unfolding look_of begins_below whole rule items statements expressions patterns types paths there_at shift passes is_silent begins in_mode from_start row one_of any_of no_longer longest is_longer
expressions::match_arm::opt_guard-returns-else-at-clause-reads t c = λ cond. reads-here (saw-so (c.at.ensures.sees cond) c.if-at.false and nothing) (reads-nothing cond c.at.ensures.peeks.same)

pub expressions::match_arm::opt_guard-complete-requires : goal.expressions::match_arm::opt_guard-complete-requires
expressions::match_arm::opt_guard-complete-requires t c = (c.guard_value.ensures.reads On).does.innermost _ ((c.take.ensures.reads On).does.innermost _ (c.start-guard.ensures.marker))

pub expressions::match_arm::arm_value-returns-then-at_whole-clause-reads : goal.expressions::match_arm::arm_value-returns-then-at_whole-clause-reads
unfolding look_of begins_below whole rule items statements expressions patterns types paths there_at shift passes is_silent begins in_mode from_start row one_of any_of no_longer longest is_longer
expressions::match_arm::arm_value-returns-then-at_whole-clause-reads t c = reads-here (saw-so (c.at_whole.ensures.sees c.args.condition) c.if-at_whole.true and nothing) (after-look c.args.condition c.at_whole.ensures.same (reads-call c.args.condition c.arm_body.ensures.gives))

pub expressions::match_arm::arm_value-returns-clause-reads : goal.expressions::match_arm::arm_value-returns-clause-reads
unfolding look_of begins_below whole rule items statements expressions patterns types paths there_at shift passes is_silent begins in_mode from_start row one_of any_of no_longer longest is_longer
expressions::match_arm::arm_value-returns-clause-reads t c = reads-here (saw-so (c.at_whole.ensures.sees c.args.condition) c.if-at_whole.false and nothing) (after-look c.args.condition c.at_whole.ensures.same c.profile_value.ensures.reads)

pub expressions::match_arm::profile_value-returns-then-at_block_like-clause-reads : goal.expressions::match_arm::profile_value-returns-then-at_block_like-clause-reads
unfolding look_of begins_below whole rule items statements expressions patterns types paths there_at shift passes is_silent begins in_mode from_start row one_of any_of no_longer longest is_longer
expressions::match_arm::profile_value-returns-then-at_block_like-clause-reads t c = reads-here (begun rules.block_like (saw-so (c.at_block_like.ensures.sees c.args.condition) c.if-at_block_like.true) (nothing)) (after-look c.args.condition c.at_block_like.ensures.peeks.same (reads-then c.args.condition (reads-call c.args.condition (c.block_like.ensures.gives c.args.condition)) (c.eat.ensures.reads c.args.condition)))

pub expressions::match_arm::profile_value-returns-clause-reads : goal.expressions::match_arm::profile_value-returns-clause-reads
unfolding look_of begins_below whole rule items statements expressions patterns types paths there_at shift passes is_silent begins in_mode from_start row one_of any_of no_longer longest is_longer
expressions::match_arm::profile_value-returns-clause-reads t c = reads-here (begun rules.block_like (saw-so (c.at_block_like.ensures.sees c.args.condition) c.if-at_block_like.false) (nothing)) (after-look c.args.condition c.at_block_like.ensures.peeks.same (reads-then c.args.condition c.expect_expression.ensures.reads (c.comma.ensures.reads c.args.condition)))

pub expressions::match_arm::profile_value-block_like-requires : goal.expressions::match_arm::profile_value-block_like-requires
expressions::match_arm::profile_value-block_like-requires t c = (omega arith, ((λ d. saw-after c.at_block_like.ensures.peeks.same (saw-so (c.at_block_like.ensures.sees d) c.if-at_block_like.true)), omega (arith, c.at_block_like.ensures.some c.if-at_block_like.true, c.at_block_like.ensures.peeks.left)))

pub expressions::match_arm::inside_arm-returns-then-at_block_like-clause-reads : goal.expressions::match_arm::inside_arm-returns-then-at_block_like-clause-reads
unfolding look_of begins_below whole rule items statements expressions patterns types paths there_at shift passes is_silent begins in_mode from_start row one_of any_of no_longer longest is_longer
expressions::match_arm::inside_arm-returns-then-at_block_like-clause-reads t c = reads-here (begun rules.block_like (saw-so (c.at_block_like.ensures.sees c.args.condition) c.if-at_block_like.true) (nothing)) (after-look c.args.condition c.at_block_like.ensures.peeks.same (reads-then c.args.condition (reads-call c.args.condition (c.block_like.ensures.gives c.args.condition)) c.arm_tail.ensures.reads))

pub expressions::match_arm::inside_arm-returns-then-at_long_path-clause-reads : goal.expressions::match_arm::inside_arm-returns-then-at_long_path-clause-reads
unfolding look_of begins_below whole rule items statements expressions patterns types paths there_at shift passes is_silent begins in_mode from_start row one_of any_of no_longer longest is_longer
expressions::match_arm::inside_arm-returns-then-at_long_path-clause-reads t c = reads-here (begun rules.block_like (saw-so (c.at_block_like.ensures.sees c.args.condition) c.if-at_block_like.false) (saw-before c.at_block_like.ensures.peeks.same (saw-so (c.at_long_path.ensures.sees c.args.condition) c.if-at_long_path.true) and nothing)) (after-look c.args.condition c.at_block_like.ensures.peeks.same (after-look c.args.condition c.at_long_path.ensures.peeks.same (reads-then c.args.condition (reads-call c.args.condition (c.path_with_args.ensures.gives c.args.condition)) c.after_long_path.ensures.reads)))

pub expressions::match_arm::inside_arm-returns-clause-reads : goal.expressions::match_arm::inside_arm-returns-clause-reads
unfolding look_of begins_below whole rule items statements expressions patterns types paths there_at shift passes is_silent begins in_mode from_start row one_of any_of no_longer longest is_longer
expressions::match_arm::inside_arm-returns-clause-reads t c = reads-here (begun rules.block_like (saw-so (c.at_block_like.ensures.sees c.args.condition) c.if-at_block_like.false) (saw-before c.at_block_like.ensures.peeks.same (saw-so (c.at_long_path.ensures.sees c.args.condition) c.if-at_long_path.false) and nothing)) (after-look c.args.condition c.at_block_like.ensures.peeks.same (after-look c.args.condition c.at_long_path.ensures.peeks.same (reads-then c.args.condition c.expect_expression.ensures.reads (c.comma.ensures.reads c.args.condition))))

pub expressions::match_arm::inside_arm-block_like-requires : goal.expressions::match_arm::inside_arm-block_like-requires
expressions::match_arm::inside_arm-block_like-requires t c = (omega arith, ((λ d. saw-after c.at_block_like.ensures.peeks.same (saw-so (c.at_block_like.ensures.sees d) c.if-at_block_like.true)), omega (arith, c.at_block_like.ensures.some c.if-at_block_like.true, c.at_block_like.ensures.peeks.left)))

pub expressions::match_arm::inside_arm-arm_tail-requires : goal.expressions::match_arm::inside_arm-arm_tail-requires
expressions::match_arm::inside_arm-arm_tail-requires t c = (omega arith, (c.block_like.ensures.gives On).does.innermost _ (c.at_block_like.ensures.peeks.same.innermost _ (c.requires.innermost)))

pub expressions::match_arm::inside_arm-after_long_path-requires : goal.expressions::match_arm::inside_arm-after_long_path-requires
expressions::match_arm::inside_arm-after_long_path-requires t c = (omega arith, (c.path_with_args.ensures.gives On).does.innermost _ (c.at_long_path.ensures.peeks.same.innermost _ (c.at_block_like.ensures.peeks.same.innermost _ (c.requires.innermost))))

pub expressions::match_arm::arm_tail-returns-clause-reads : goal.expressions::match_arm::arm_tail-returns-clause-reads
unfolding look_of begins_below whole rule items statements expressions patterns types paths there_at shift passes is_silent begins in_mode from_start row one_of any_of no_longer longest is_longer
expressions::match_arm::arm_tail-returns-clause-reads t c = reads-here (saw-so (c.at_more.ensures.sees c.args.condition) c.if-at_more.false and nothing) (after-look c.args.condition c.at_more.ensures.peeks.same (c.eat.ensures.reads c.args.condition))

pub expressions::match_arm::further_operators-postfixes-frame-requires : goal.expressions::match_arm::further_operators-postfixes-frame-requires
expressions::match_arm::further_operators-postfixes-frame-requires t c = (omega arith, c.requires.innermost)

pub expressions::match_arm::after_long_path-wrap-frame-requires : goal.expressions::match_arm::after_long_path-wrap-frame-requires
expressions::match_arm::after_long_path-wrap-frame-requires t c = (c.token_tree.ensures.gives On).does.innermost _ ((c.take.ensures.reads On).does.innermost _ (c.at_braced_macro.ensures.peeks.same.innermost _ (c.requires.innermost)))

pub expressions::match_arm::after_long_path-wrap-frame-requires-then-at_braced_macro : goal.expressions::match_arm::after_long_path-wrap-frame-requires-then-at_braced_macro
expressions::match_arm::after_long_path-wrap-frame-requires-then-at_braced_macro t c = c.wrap-frame.ensures.marker

pub expressions::match_arm::after_long_path-arm_tail-requires : goal.expressions::match_arm::after_long_path-arm_tail-requires
expressions::match_arm::after_long_path-arm_tail-requires t c = (omega arith, c.wrap-frame-then-at_braced_macro.ensures.marker)

pub expressions::match_arm::after_long_path-further_operators-requires : goal.expressions::match_arm::after_long_path-further_operators-requires
expressions::match_arm::after_long_path-further_operators-requires t c = (omega arith, c.after_path-frame.ensures.asks.marker)

pub expressions::match_arm::guard_value-returns-then-at_whole-clause-reads : goal.expressions::match_arm::guard_value-returns-then-at_whole-clause-reads
unfolding look_of begins_below whole rule items statements expressions patterns types paths there_at shift passes is_silent begins in_mode from_start row one_of any_of no_longer longest is_longer
expressions::match_arm::guard_value-returns-then-at_whole-clause-reads t c = λ cond. reads-here (saw-so (c.at_whole.ensures.sees cond) c.if-at_whole.true and nothing) (after-look cond c.at_whole.ensures.same (reads-mode cond c.expect_expression.ensures.reads))

pub expressions::match_arm::guard_value-returns-clause-reads : goal.expressions::match_arm::guard_value-returns-clause-reads
unfolding look_of begins_below whole rule items statements expressions patterns types paths there_at shift passes is_silent begins in_mode from_start row one_of any_of no_longer longest is_longer
expressions::match_arm::guard_value-returns-clause-reads t c = λ cond. reads-here (saw-so (c.at_whole.ensures.sees cond) c.if-at_whole.false and nothing) (after-look cond c.at_whole.ensures.same (c.expect_condition.ensures.reads cond))

pub expressions::match_arm::arm_body-inside_arm-frame-requires : goal.expressions::match_arm::arm_body-inside_arm-frame-requires
expressions::match_arm::arm_body-inside_arm-frame-requires t c = (omega arith, c.start-frame.ensures.marker)

pub expressions::match_arm::arm_body-returns-clause-gives : goal.expressions::match_arm::arm_body-returns-clause-gives
expressions::match_arm::arm_body-returns-clause-gives t c = gives-from_start (from_start-completes c.start-frame.ensures.opens (completes-leave c.inside_arm-frame.ensures.reads c.abandon.ensures.leaves))

pub expressions::match_arm::match_arm-complete-requires : goal.expressions::match_arm::match_arm-complete-requires
expressions::match_arm::match_arm-complete-requires t c = c.arm_value.ensures.reads.does.innermost _ ((c.expect_arrow.ensures.reads On).does.innermost _ ((c.opt_guard.ensures.reads On).does.innermost _ ((c.attributed_pattern.ensures.reads On).does.innermost _ (c.start-node.ensures.marker))))

pub expressions::match_arm::match_arm-attributed_pattern-requires : goal.expressions::match_arm::match_arm-attributed_pattern-requires
expressions::match_arm::match_arm-attributed_pattern-requires t c = (omega arith, record { sees = λ d. saw-inside c.start-node.ensures.opens (c.requires.begins d); some = omega (arith, c.requires.some, c.start-node.ensures.stays.left) })

pub expressions::match_arm::attributed_pattern-returns-then-at_new-clause-reads : goal.expressions::match_arm::attributed_pattern-returns-then-at_new-clause-reads
unfolding tokens look_of begins_below whole rule items statements expressions patterns types paths there_at shift passes is_silent begins in_mode from_start row one_of any_of no_longer longest is_longer
expressions::match_arm::attributed_pattern-returns-then-at_new-clause-reads t c = λ cond.
    let first = next-turn cond (When (wide (next '#')) Attribute) (ends-at-end cond (When (wide (next '#')) Attribute) refl) _ _ _ first-turn (saw-told (saw-so (c.at_new.ensures.sees cond) c.if-at_new.true and nothing) refl) (reads-here (saw-so (c.at_new.ensures.sees cond) c.if-at_new.true and nothing) (after-look cond c.at_new.ensures.peeks.same (reads-call cond (c.attribute.ensures.gives cond)))) (omega (arith, c.attribute.ensures.takes.left, c.at_new.ensures.peeks.left)) in
    reads-then cond (first.rest _ (c.outer_attributes.ensures.reads cond)) (reads-call cond (c.pattern_or_missing.ensures.gives cond))

pub expressions::match_arm::attributed_pattern-returns-clause-reads : goal.expressions::match_arm::attributed_pattern-returns-clause-reads
unfolding look_of begins_below whole rule items statements expressions patterns types paths there_at shift passes is_silent begins in_mode from_start row one_of any_of no_longer longest is_longer
expressions::match_arm::attributed_pattern-returns-clause-reads t c = λ cond. reads-here (saw-so (c.at_new.ensures.sees cond) c.if-at_new.false and nothing) (after-look cond c.at_new.ensures.peeks.same (reads-call cond (c.pattern.ensures.gives cond)))

pub expressions::match_arm::attributed_pattern-pattern-requires : goal.expressions::match_arm::attributed_pattern-pattern-requires
unfolding look_of begins_below whole rule items statements expressions patterns types paths there_at shift passes is_silent begins in_mode from_start row one_of any_of no_longer longest is_longer
expressions::match_arm::attributed_pattern-pattern-requires t c = (omega arith, ((λ d. saw-after c.at_new.ensures.peeks.same (saw-else (looks rules.pattern) (looks rules.match_arm) (saw-so (c.at_new.ensures.sees d) c.if-at_new.false and nothing) (c.requires.begins.sees d) refl)), omega (arith, c.requires.begins.some, c.at_new.ensures.peeks.left)))

pub expressions::match_arm::arm_tail-postfix-frame-requires : goal.expressions::match_arm::arm_tail-postfix-frame-requires
expressions::match_arm::arm_tail-postfix-frame-requires t c = (omega arith, (omega (arith, c.at_more.ensures.some c.if-at_more.true, c.at_more.ensures.peeks.left), c.at_more.ensures.peeks.same.innermost _ c.requires.innermost))

pub expressions::match_arm::arm_tail-further_operators-requires : goal.expressions::match_arm::arm_tail-further_operators-requires
expressions::match_arm::arm_tail-further_operators-requires t c = (omega arith, c.postfix-frame.ensures.takes.marker)

pub expressions::match_arm::after_long_path-returns-clause-reads : goal.expressions::match_arm::after_long_path-returns-clause-reads
unfolding look_of begins_below whole rule items statements expressions patterns types paths there_at shift passes is_silent begins in_mode from_start row one_of any_of no_longer longest is_longer
expressions::match_arm::after_long_path-returns-clause-reads t c = reads-here (saw-so (c.at_braced_macro.ensures.sees c.args.condition) c.if-at_braced_macro.false and nothing) (after-look c.args.condition c.at_braced_macro.ensures.peeks.same (reads-then c.args.condition c.after_path-frame.ensures.reads c.further_operators.ensures.reads))

pub expressions::match_arm::after_long_path-after_path-frame-requires : goal.expressions::match_arm::after_long_path-after_path-frame-requires
expressions::match_arm::after_long_path-after_path-frame-requires t c = (omega arith, c.at_braced_macro.ensures.peeks.same.innermost _ c.requires.innermost)

pub expressions::match_arm::arm_tail-returns-clause-asks : goal.expressions::match_arm::arm_tail-returns-clause-asks
expressions::match_arm::arm_tail-returns-clause-asks t c = record {
  left = omega (arith, c.eat.ensures.asks.left, c.at_more.ensures.peeks.left);
  looks = omega (arith, c.eat.ensures.asks.looks, c.at_more.ensures.peeks.looks);
  marker = (c.eat.ensures.reads On).does.innermost _ (c.at_more.ensures.peeks.same.innermost _ c.requires.innermost);
}

pub expressions::match_arm::inside_arm-returns-clause-asks : goal.expressions::match_arm::inside_arm-returns-clause-asks
expressions::match_arm::inside_arm-returns-clause-asks t c = record {
  left = omega (arith, c.comma.ensures.asks.left, c.expect_expression.ensures.asks.left, c.at_long_path.ensures.peeks.left, c.at_block_like.ensures.peeks.left);
  looks = omega (arith, c.comma.ensures.asks.looks, c.expect_expression.ensures.asks.looks, c.at_long_path.ensures.peeks.looks, c.at_block_like.ensures.peeks.looks);
  marker = (c.comma.ensures.reads On).does.innermost _ (c.expect_expression.ensures.reads.does.innermost _ (c.at_long_path.ensures.peeks.same.innermost _ (c.at_block_like.ensures.peeks.same.innermost _ c.requires.innermost)));
}

pub expressions::match_arm::match_arm-returns-clause-gives : goal.expressions::match_arm::match_arm-returns-clause-gives
unfolding look_of begins_below whole rule items statements expressions patterns types paths there_at shift passes is_silent begins in_mode from_start row one_of any_of no_longer longest is_longer
expressions::match_arm::match_arm-returns-clause-gives t c = gives-from_start (from_start-after refl (reads-node c.args.condition c.start-node.ensures.opens (reads-flat (reads-then c.args.condition (c.attributed_pattern.ensures.reads c.args.condition) (reads-then c.args.condition (c.opt_guard.ensures.reads c.args.condition) (reads-then c.args.condition (c.expect_arrow.ensures.reads c.args.condition) c.arm_value.ensures.reads)))) c.complete.ensures.closes))

pub expressions::match_arm::inside_arm-path_with_args-requires : goal.expressions::match_arm::inside_arm-path_with_args-requires
expressions::match_arm::inside_arm-path_with_args-requires t c = (omega arith, ((λ d. saw-after c.at_long_path.ensures.peeks.same (path-there (saw-so (c.at_long_path.ensures.sees d) c.if-at_long_path.true))), omega (arith, c.at_long_path.ensures.some c.if-at_long_path.true, c.at_block_like.ensures.peeks.left, c.at_long_path.ensures.peeks.left)))

pub expressions::match_arm::arm_tail-returns-then-at_more-clause-reads : goal.expressions::match_arm::arm_tail-returns-then-at_more-clause-reads
unfolding look_of begins_below whole rule items statements expressions patterns types paths there_at shift passes is_silent begins in_mode from_start row one_of any_of no_longer longest is_longer
expressions::match_arm::arm_tail-returns-then-at_more-clause-reads t c = reads-here (saw-so (c.at_more.ensures.sees c.args.condition) c.if-at_more.true and nothing) (after-look c.args.condition c.at_more.ensures.peeks.same (reads-then c.args.condition (c.postfix-frame.ensures.reads c.args.condition) c.further_operators.ensures.reads))

pub expressions::match_arm::after_long_path-returns-then-at_braced_macro-clause-reads : goal.expressions::match_arm::after_long_path-returns-then-at_braced_macro-clause-reads
unfolding look_of begins_below whole rule items statements expressions patterns types paths there_at shift passes is_silent begins in_mode from_start row one_of any_of no_longer longest is_longer
expressions::match_arm::after_long_path-returns-then-at_braced_macro-clause-reads t c = reads-here (saw-so (c.at_braced_macro.ensures.sees c.args.condition) c.if-at_braced_macro.true and nothing) (after-look c.args.condition c.at_braced_macro.ensures.peeks.same (reads-then c.args.condition (reads-wrap c.args.condition (reads-then c.args.condition (c.take.ensures.reads c.args.condition) (reads-call c.args.condition (c.token_tree.ensures.gives c.args.condition))) c.wrap-frame.ensures.wraps) (reads-then c.args.condition (reads-wrap c.args.condition (reads-nothing c.args.condition (does-nothing _)) c.wrap-frame-then-at_braced_macro.ensures.wraps) c.arm_tail.ensures.reads)))

pub expressions::match_arm::further_operators-after_operand-frame-requires : goal.expressions::match_arm::further_operators-after_operand-frame-requires
expressions::match_arm::further_operators-after_operand-frame-requires t c = (omega arith, c.postfixes-frame.ensures.asks.marker)

pub expressions::match_arm::further_operators-returns-clause-reads : goal.expressions::match_arm::further_operators-returns-clause-reads
expressions::match_arm::further_operators-returns-clause-reads t c = reads-then c.args.condition (c.postfixes-frame.ensures.reads c.args.condition) (reads-then c.args.condition c.after_operand-frame.ensures.reads (c.comma.ensures.reads c.args.condition))

pub expressions::match_arm::further_operators-returns-clause-asks : goal.expressions::match_arm::further_operators-returns-clause-asks
expressions::match_arm::further_operators-returns-clause-asks t c = record {
  left = omega (arith, c.comma.ensures.asks.left, c.after_operand-frame.ensures.asks.left, c.postfixes-frame.ensures.asks.left);
  looks = omega (arith, c.comma.ensures.asks.looks, c.after_operand-frame.ensures.asks.looks, c.postfixes-frame.ensures.asks.looks);
  marker = (c.comma.ensures.reads On).does.innermost _ c.after_operand-frame.ensures.asks.marker;
}

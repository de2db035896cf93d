-- Operands, arm by arm.
use Rattle.std.proofs.Common.{refl, sym, ap, ◌∙◌, arith}
use Rattle.parser_input.specs.Kind.{raw_of}
use Rattle.parser_input.specs.declared.syntax_kind.SyntaxKind.{SyntaxKind}
use Rattle.rust_grammar.specs.Notation.{more, wide}
use Rattle.rust_grammar.specs.Rule as rules
use Rattle.rust_grammar.specs.Expressions.{expressions, mark_begins, new_operand_begins}
use Rattle.rust_grammar.specs.Items.{items}
use Rattle.rust_grammar.specs.Meaning.{begins_below, look_of}
use Rattle.rust_grammar.specs.Notation.{any_of, is_longer, no_longer, longest, one_of, row}
use Rattle.rust_grammar.specs.Paths.{paths}
use Rattle.rust_grammar.specs.Patterns.{patterns}
use Rattle.rust_grammar.specs.Rule.{begins, in_mode, from_start, is_silent, passes, shift, there_at}
use Rattle.rust_grammar.specs.Statements.{statements}
use Rattle.rust_grammar.specs.Types.{types}
use Rattle.rust_grammar.specs.Whole.{rule, whole}
use Rattle.grammar_reader.proofs.Operands.{from_start-first}
use Rattle.rust_productions.specs.Looks.{tokens}
use Rattle.rust_productions.proofs.ByHand.{after-look, completes-leave, completes-look, completes-then, completes-wrap, goes, reads-call, reads-mode, reads-more, reads-node, reads-then, reads-wrap}
use Rattle.rust_productions.proofs.Choices.{from_start-after, from_start-completes, from_start-here, from_start-look, completes-here, gives-from_start, reads-here}
use Rattle.rust_productions.proofs.Facts.{begun, nothing, saw-so, ◌and◌}
use Rattle.rust_productions.proofs.Leading.{operand-rooted, reads-lead}
use Rattle.rust_productions.proofs.Looking.{saw-arm, saw-not}
use Rattle.rust_productions.proofs.Seen.{begins-else, ends-at-end, saw-after, saw-before, saw-inside, saw-else}
use Rattle.rust_productions.proofs.Turns.{last-turn, next-turn}
use Rattle.rust_productions.specs.Reads.{looks}
use Rattle.rust_productions.specs.declared.condition.Condition.TheVariants.{On}
use Rattle.grammar_reader.proofs.grammar.+grammar.Goals as goal

pub expressions::operand::prefix_expr-complete-requires : goal.expressions::operand::prefix_expr-complete-requires
expressions::operand::prefix_expr-complete-requires t c = c.expect_expression.ensures.reads.does.innermost _ ((c.take.ensures.reads On).does.innermost _ c.start-node.ensures.marker)

pub expressions::operand::prefix_expr-returns-clause-reads : goal.expressions::operand::prefix_expr-returns-clause-reads
expressions::operand::prefix_expr-returns-clause-reads t c = reads-node _ c.start-node.ensures.opens (reads-then _ (c.take.ensures.reads c.args.condition) c.expect_expression.ensures.reads) c.complete.ensures.closes

pub expressions::operand::ref_expr-complete-requires : goal.expressions::operand::ref_expr-complete-requires
expressions::operand::ref_expr-complete-requires t c = c.expect_expression.ensures.reads.does.innermost _ ((c.eat.ensures.reads On).does.innermost _ ((c.take.ensures.reads On).does.innermost _ c.start-node.ensures.marker))

pub expressions::operand::ref_expr-returns-clause-reads : goal.expressions::operand::ref_expr-returns-clause-reads
expressions::operand::ref_expr-returns-clause-reads t c = reads-node _ c.start-node.ensures.opens (reads-then _ (c.take.ensures.reads c.args.condition) (reads-then _ (c.eat.ensures.reads c.args.condition) c.expect_expression.ensures.reads)) c.complete.ensures.closes

pub expressions::operand::operand-framed_operand-requires : goal.expressions::operand::operand-framed_operand-requires
expressions::operand::operand-framed_operand-requires t c = (omega arith, (record { sees = saw-inside c.start-frame.ensures.opens c.requires.begins; some = omega arith }, c.start-frame.ensures.marker))

pub expressions::operand::operand-returns-clause-from_start : goal.expressions::operand::operand-returns-clause-from_start
expressions::operand::operand-returns-clause-from_start t c = from_start-first c.start-frame.ensures.opens c.framed_operand.ensures.completes

pub expressions::operand::framed_operand-inside-frame-requires : goal.expressions::operand::framed_operand-inside-frame-requires
expressions::operand::framed_operand-inside-frame-requires t c = (omega arith, (c.requires.begins, c.requires.innermost))

pub expressions::operand::framed_operand-postfixes-frame-requires : goal.expressions::operand::framed_operand-postfixes-frame-requires
expressions::operand::framed_operand-postfixes-frame-requires t c = (omega arith, c.inside-frame.ensures.takes.marker)

pub expressions::operand::framed_operand-returns-clause-completes : goal.expressions::operand::framed_operand-returns-clause-completes
expressions::operand::framed_operand-returns-clause-completes t c = completes-leave (reads-then _ c.inside-frame.ensures.reads (c.postfixes-frame.ensures.reads c.args.condition)) c.abandon.ensures.leaves

pub expressions::operand::postfixes-turns-preserved : goal.expressions::operand::postfixes-turns-preserved
unfolding tokens look_of begins_below whole rule items statements expressions patterns types paths there_at shift passes is_silent begins in_mode from_start row one_of any_of no_longer longest is_longer
expressions::operand::postfixes-turns-preserved t c = record {
  marker = c.postfix-frame.ensures.takes.marker;
  goes = λ cond.
      next-turn cond (more rules.postfix) (ends-at-end cond (more rules.postfix) refl) _ _ _ (c.turns.invariant.goes cond) (saw-so (c.at_postfix.ensures.sees cond) c.turns-test.true)
      (after-look cond c.at_postfix.ensures.peeks.same (c.postfix-frame.ensures.reads cond)) (omega (arith, c.postfix-frame.ensures.takes.left, c.at_postfix.ensures.peeks.left));
  left = omega (arith, c.turns.invariant.left, c.postfix-frame.ensures.takes.left, c.at_postfix.ensures.peeks.left);
  looks = omega (arith, c.turns.invariant.looks, c.postfix-frame.ensures.takes.looks, c.at_postfix.ensures.peeks.looks);
}

pub expressions::operand::postfixes-returns-clause-reads : goal.expressions::operand::postfixes-returns-clause-reads
unfolding look_of begins_below whole rule items statements expressions patterns types paths there_at shift passes is_silent begins in_mode from_start row one_of any_of no_longer longest is_longer
expressions::operand::postfixes-returns-clause-reads t c = λ cond. last-turn cond (more rules.postfix) (ends-at-end cond (more rules.postfix) refl) _ _ _ (c.turns.invariant.goes cond) (saw-so (c.at_postfix.ensures.sees cond) c.turns-test.false) c.at_postfix.ensures.peeks.same

pub expressions::operand::postfix-wrap-requires : goal.expressions::operand::postfix-wrap-requires
expressions::operand::postfix-wrap-requires t c = (c.list.ensures.reads On).does.innermost _ (c.current.ensures.peeks.same.innermost _ c.requires.innermost)

pub expressions::operand::postfix-returns-in-L_PAREN-clause-reads : goal.expressions::operand::postfix-returns-in-L_PAREN-clause-reads
unfolding look_of begins_below whole rule items statements expressions patterns types paths there_at shift passes is_silent begins in_mode from_start row one_of any_of no_longer longest is_longer
expressions::operand::postfix-returns-in-L_PAREN-clause-reads t c = λ cond. reads-more cond (goes rules.postfix cond (reads-here (saw-arm c.in-L_PAREN.is (c.current.ensures.sees cond) and nothing) (after-look cond c.current.ensures.peeks.same (reads-wrap cond (reads-call cond (gives-from_start (from_start-after refl (c.list.ensures.reads cond)))) c.wrap.ensures.wraps))))

pub expressions::operand::postfix-wrap-requires-in-L_BRACK : goal.expressions::operand::postfix-wrap-requires-in-L_BRACK
expressions::operand::postfix-wrap-requires-in-L_BRACK t c = (c.index.ensures.reads On).does.innermost _ (c.current.ensures.peeks.same.innermost _ c.requires.innermost)

pub expressions::operand::postfix-returns-in-L_BRACK-clause-reads : goal.expressions::operand::postfix-returns-in-L_BRACK-clause-reads
unfolding look_of begins_below whole rule items statements expressions patterns types paths there_at shift passes is_silent begins in_mode from_start row one_of any_of no_longer longest is_longer
expressions::operand::postfix-returns-in-L_BRACK-clause-reads t c = λ cond. reads-more cond (goes rules.postfix cond (reads-here (saw-arm c.in-L_BRACK.is (c.current.ensures.sees cond) and nothing) (after-look cond c.current.ensures.peeks.same (reads-wrap cond (c.index.ensures.reads cond) c.wrap-in-L_BRACK.ensures.wraps))))

pub expressions::operand::postfix-wrap-requires-in-QUESTION : goal.expressions::operand::postfix-wrap-requires-in-QUESTION
expressions::operand::postfix-wrap-requires-in-QUESTION t c = (c.take.ensures.reads On).does.innermost _ (c.current.ensures.peeks.same.innermost _ c.requires.innermost)

pub expressions::operand::postfix-returns-in-QUESTION-clause-reads : goal.expressions::operand::postfix-returns-in-QUESTION-clause-reads
unfolding look_of begins_below whole rule items statements expressions patterns types paths there_at shift passes is_silent begins in_mode from_start row one_of any_of no_longer longest is_longer
expressions::operand::postfix-returns-in-QUESTION-clause-reads t c = λ cond. reads-more cond (goes rules.postfix cond (reads-here (saw-arm c.in-QUESTION.is (c.current.ensures.sees cond) and nothing) (after-look cond c.current.ensures.peeks.same (reads-wrap cond (c.take.ensures.reads cond) c.wrap-in-QUESTION.ensures.wraps))))

pub expressions::operand::postfix-after_dot-requires : goal.expressions::operand::postfix-after_dot-requires
expressions::operand::postfix-after_dot-requires t c = (omega arith, (c.take-in_default.ensures.reads On).does.innermost _ (c.current.ensures.peeks.same.innermost _ c.requires.innermost))

pub expressions::operand::postfix-returns-in_default-clause-reads : goal.expressions::operand::postfix-returns-in_default-clause-reads
unfolding look_of begins_below whole rule items statements expressions patterns types paths there_at shift passes is_silent begins in_mode from_start row one_of any_of no_longer longest is_longer
expressions::operand::postfix-returns-in_default-clause-reads t c = λ cond. reads-more cond (goes rules.postfix cond (reads-here (saw-not c.in_default.not-L_PAREN (c.current.ensures.sees cond) and saw-not c.in_default.not-L_BRACK (c.current.ensures.sees cond) and saw-not c.in_default.not-QUESTION (c.current.ensures.sees cond) and nothing) (after-look cond c.current.ensures.peeks.same (reads-then cond (c.take-in_default.ensures.reads cond) (c.after_dot.ensures.reads cond)))))

pub expressions::operand::index-returns-clause-reads : goal.expressions::operand::index-returns-clause-reads
expressions::operand::index-returns-clause-reads t c = λ cond. (reads-then cond (c.take.ensures.reads cond) (reads-then cond (reads-mode cond c.expect_expression.ensures.reads) (c.expect.ensures.reads cond)))

pub expressions::operand::method_call-returns-clause-reads : goal.expressions::operand::method_call-returns-clause-reads
expressions::operand::method_call-returns-clause-reads t c = λ cond. (reads-then cond (c.word_type.ensures.reads cond) (reads-then cond (c.opt_part.ensures.reads cond) (c.expect_part.ensures.reads cond)))

pub expressions::operand::float-split-frame-requires : goal.expressions::operand::float-split-frame-requires
expressions::operand::float-split-frame-requires t c = record { float = record { float = λ d. saw-after c.at_joint-joint.ensures.same (c.requires.begins.sees d); joint = λ d. saw-after c.at_joint-joint.ensures.same (c.at_joint-joint.ensures.sees d); some = omega (arith, c.requires.begins.some, c.at_joint-joint.ensures.stays.left) }; innermost = c.at_joint-joint.ensures.same.innermost _ c.requires.innermost }

pub expressions::operand::float-after_dot-requires : goal.expressions::operand::float-after_dot-requires
expressions::operand::float-after_dot-requires t c = (omega arith, c.split-frame.ensures.takes.marker)

pub expressions::operand::float-returns-then-joint-clause-reads : goal.expressions::operand::float-returns-then-joint-clause-reads
unfolding look_of begins_below whole rule items statements expressions patterns types paths there_at shift passes is_silent begins in_mode from_start row one_of any_of no_longer longest is_longer
expressions::operand::float-returns-then-joint-clause-reads t c = λ cond. reads-here (c.requires.begins.sees cond and saw-so (c.at_joint-joint.ensures.sees cond) c.if-joint.true and nothing) (after-look cond c.at_joint-joint.ensures.same (c.split-frame.ensures.reads cond))

pub expressions::operand::float-returns-clause-reads : goal.expressions::operand::float-returns-clause-reads
unfolding look_of begins_below whole rule items statements expressions patterns types paths there_at shift passes is_silent begins in_mode from_start row one_of any_of no_longer longest is_longer
expressions::operand::float-returns-clause-reads t c = λ cond. reads-here (c.requires.begins.sees cond and saw-so (c.at_joint-joint.ensures.sees cond) c.if-joint.false and nothing) (after-look cond c.at_joint-joint.ensures.same (reads-then cond (c.split-frame.ensures.reads cond) (c.after_dot.ensures.reads cond)))

pub expressions::operand::raw_ref_expr-returns-clause-reads : goal.expressions::operand::raw_ref_expr-returns-clause-reads
expressions::operand::raw_ref_expr-returns-clause-reads t c = reads-node c.args.condition c.start-node.ensures.opens (reads-then c.args.condition (c.take.ensures.reads c.args.condition) (reads-then c.args.condition (c.take_contextual.ensures.reads c.args.condition) (reads-then c.args.condition (c.opt_mut_or_const.ensures.reads c.args.condition) c.expect_expression.ensures.reads))) c.complete.ensures.closes

pub expressions::operand::raw_ref_expr-complete-requires : goal.expressions::operand::raw_ref_expr-complete-requires
expressions::operand::raw_ref_expr-complete-requires t c = c.expect_expression.ensures.reads.does.innermost _ ((c.opt_mut_or_const.ensures.reads On).does.innermost _ ((c.take_contextual.ensures.reads On).does.innermost _ ((c.take.ensures.reads On).does.innermost _ (c.start-node.ensures.marker))))

pub expressions::operand::after_dot-returns-then-at_method-clause-reads : goal.expressions::operand::after_dot-returns-then-at_method-clause-reads
unfolding look_of begins_below whole rule items statements expressions patterns types paths there_at shift passes is_silent begins in_mode from_start row one_of any_of no_longer longest is_longer
expressions::operand::after_dot-returns-then-at_method-clause-reads t c = λ cond. reads-more cond (goes rules.after_dot cond (reads-here (saw-so (c.at_method.ensures.sees cond) c.if-at_method.true and nothing) (after-look cond c.at_method.ensures.peeks.same (reads-wrap cond (c.method_call.ensures.reads cond) c.wrap.ensures.wraps))))

pub expressions::operand::after_dot-returns-then-at_new-clause-reads : goal.expressions::operand::after_dot-returns-then-at_new-clause-reads
unfolding look_of begins_below whole rule items statements expressions patterns types paths there_at shift passes is_silent begins in_mode from_start row one_of any_of no_longer longest is_longer
expressions::operand::after_dot-returns-then-at_new-clause-reads t c = λ cond. reads-more cond (goes rules.after_dot cond (reads-here (saw-so (c.at_method.ensures.sees cond) c.if-at_method.false and saw-before c.at_method.ensures.peeks.same (saw-so (c.at_new.ensures.sees cond) c.if-at_new.true) and nothing) (after-look cond c.at_method.ensures.peeks.same (after-look cond c.at_new.ensures.peeks.same (reads-wrap cond (c.take.ensures.reads cond) c.wrap-then-at_new.ensures.wraps)))))

pub expressions::operand::after_dot-returns-in-IDENT-clause-reads : goal.expressions::operand::after_dot-returns-in-IDENT-clause-reads
unfolding look_of begins_below whole rule items statements expressions patterns types paths there_at shift passes is_silent begins in_mode from_start row one_of any_of no_longer longest is_longer
expressions::operand::after_dot-returns-in-IDENT-clause-reads t c = λ cond. reads-more cond (goes rules.after_dot cond (reads-here (saw-so (c.at_method.ensures.sees cond) c.if-at_method.false and saw-before c.at_method.ensures.peeks.same (saw-so (c.at_new.ensures.sees cond) c.if-at_new.false) and saw-before c.at_method.ensures.peeks.same (saw-before c.at_new.ensures.peeks.same (saw-arm c.in-IDENT.is (c.current.ensures.sees cond))) and nothing) (after-look cond c.at_method.ensures.peeks.same (after-look cond c.at_new.ensures.peeks.same (after-look cond c.current.ensures.peeks.same (reads-wrap cond (c.word_type.ensures.reads cond) c.wrap-in-IDENT.ensures.wraps))))))

pub expressions::operand::after_dot-returns-in-INT_NUMBER-clause-reads : goal.expressions::operand::after_dot-returns-in-INT_NUMBER-clause-reads
unfolding look_of begins_below whole rule items statements expressions patterns types paths there_at shift passes is_silent begins in_mode from_start row one_of any_of no_longer longest is_longer
expressions::operand::after_dot-returns-in-INT_NUMBER-clause-reads t c = λ cond. reads-more cond (goes rules.after_dot cond (reads-here (saw-so (c.at_method.ensures.sees cond) c.if-at_method.false and saw-before c.at_method.ensures.peeks.same (saw-so (c.at_new.ensures.sees cond) c.if-at_new.false) and saw-before c.at_method.ensures.peeks.same (saw-before c.at_new.ensures.peeks.same (saw-arm c.in-INT_NUMBER.is (c.current.ensures.sees cond))) and nothing) (after-look cond c.at_method.ensures.peeks.same (after-look cond c.at_new.ensures.peeks.same (after-look cond c.current.ensures.peeks.same (reads-wrap cond (c.word_type-in-INT_NUMBER.ensures.reads cond) c.wrap-in-INT_NUMBER.ensures.wraps))))))

pub expressions::operand::after_dot-returns-in-FLOAT_NUMBER-clause-reads : goal.expressions::operand::after_dot-returns-in-FLOAT_NUMBER-clause-reads
unfolding look_of begins_below whole rule items statements expressions patterns types paths there_at shift passes is_silent begins in_mode from_start row one_of any_of no_longer longest is_longer
expressions::operand::after_dot-returns-in-FLOAT_NUMBER-clause-reads t c = λ cond. reads-more cond (goes rules.after_dot cond (reads-here (saw-so (c.at_method.ensures.sees cond) c.if-at_method.false and saw-before c.at_method.ensures.peeks.same (saw-so (c.at_new.ensures.sees cond) c.if-at_new.false) and saw-before c.at_method.ensures.peeks.same (saw-before c.at_new.ensures.peeks.same (saw-arm c.in-FLOAT_NUMBER.is (c.current.ensures.sees cond))) and nothing) (after-look cond c.at_method.ensures.peeks.same (after-look cond c.at_new.ensures.peeks.same (after-look cond c.current.ensures.peeks.same (c.float.ensures.reads cond))))))

pub expressions::operand::after_dot-returns-in_default-clause-reads : goal.expressions::operand::after_dot-returns-in_default-clause-reads
unfolding look_of begins_below whole rule items statements expressions patterns types paths there_at shift passes is_silent begins in_mode from_start row one_of any_of no_longer longest is_longer
expressions::operand::after_dot-returns-in_default-clause-reads t c = λ cond. reads-more cond (goes rules.after_dot cond (reads-here (saw-so (c.at_method.ensures.sees cond) c.if-at_method.false and saw-before c.at_method.ensures.peeks.same (saw-so (c.at_new.ensures.sees cond) c.if-at_new.false) and saw-before c.at_method.ensures.peeks.same (saw-before c.at_new.ensures.peeks.same (saw-not c.in_default.not-IDENT (c.current.ensures.sees cond))) and saw-before c.at_method.ensures.peeks.same (saw-before c.at_new.ensures.peeks.same (saw-not c.in_default.not-INT_NUMBER (c.current.ensures.sees cond))) and saw-before c.at_method.ensures.peeks.same (saw-before c.at_new.ensures.peeks.same (saw-not c.in_default.not-FLOAT_NUMBER (c.current.ensures.sees cond))) and nothing) (after-look cond c.at_method.ensures.peeks.same (after-look cond c.at_new.ensures.peeks.same (after-look cond c.current.ensures.peeks.same (reads-wrap cond (c.error.ensures.reads cond) c.wrap-in_default.ensures.wraps))))))

pub expressions::operand::after_dot-wrap-requires : goal.expressions::operand::after_dot-wrap-requires
expressions::operand::after_dot-wrap-requires t c = (c.method_call.ensures.reads On).does.innermost _ (c.at_method.ensures.peeks.same.innermost _ (c.requires.innermost))

pub expressions::operand::after_dot-wrap-requires-then-at_new : goal.expressions::operand::after_dot-wrap-requires-then-at_new
expressions::operand::after_dot-wrap-requires-then-at_new t c = (c.take.ensures.reads On).does.innermost _ (c.at_new.ensures.peeks.same.innermost _ (c.at_method.ensures.peeks.same.innermost _ (c.requires.innermost)))

pub expressions::operand::after_dot-wrap-requires-in-IDENT : goal.expressions::operand::after_dot-wrap-requires-in-IDENT
expressions::operand::after_dot-wrap-requires-in-IDENT t c = (c.word_type.ensures.reads On).does.innermost _ (c.current.ensures.peeks.same.innermost _ (c.at_new.ensures.peeks.same.innermost _ (c.at_method.ensures.peeks.same.innermost _ (c.requires.innermost))))

pub expressions::operand::after_dot-wrap-requires-in-INT_NUMBER : goal.expressions::operand::after_dot-wrap-requires-in-INT_NUMBER
expressions::operand::after_dot-wrap-requires-in-INT_NUMBER t c = (c.word_type-in-INT_NUMBER.ensures.reads On).does.innermost _ (c.current.ensures.peeks.same.innermost _ (c.at_new.ensures.peeks.same.innermost _ (c.at_method.ensures.peeks.same.innermost _ (c.requires.innermost))))

pub expressions::operand::after_dot-wrap-requires-in_default : goal.expressions::operand::after_dot-wrap-requires-in_default
expressions::operand::after_dot-wrap-requires-in_default t c = (c.error.ensures.reads On).does.innermost _ (c.current.ensures.peeks.same.innermost _ (c.at_new.ensures.peeks.same.innermost _ (c.at_method.ensures.peeks.same.innermost _ (c.requires.innermost))))

pub expressions::operand::prefixed-new_operand-requires : goal.expressions::operand::prefixed-new_operand-requires
expressions::operand::prefixed-new_operand-requires t c = (omega arith, record { sees = λ d. saw-after c.at_new_operand.ensures.peeks.same (saw-so (c.at_new_operand.ensures.sees d) c.if-at_new_operand.true); some = omega (arith, c.requires.some, c.at_new_operand.ensures.some c.if-at_new_operand.true, c.current.ensures.peeks.left, c.at_new_operand.ensures.peeks.left) })

pub expressions::operand::prefixed-returns-in-MINUS-clause-gives : goal.expressions::operand::prefixed-returns-in-MINUS-clause-gives
unfolding look_of begins_below whole rule items statements expressions patterns types paths there_at shift passes is_silent begins in_mode from_start row one_of any_of no_longer longest is_longer
expressions::operand::prefixed-returns-in-MINUS-clause-gives t c = gives-from_start (from_start-here (saw-arm c.in-MINUS.is (c.current.ensures.sees c.args.condition) and nothing) (from_start-look c.current.ensures.peeks.same (from_start-after refl c.prefix_expr.ensures.reads)))

pub expressions::operand::prefixed-returns-in-BANG-clause-gives : goal.expressions::operand::prefixed-returns-in-BANG-clause-gives
unfolding look_of begins_below whole rule items statements expressions patterns types paths there_at shift passes is_silent begins in_mode from_start row one_of any_of no_longer longest is_longer
expressions::operand::prefixed-returns-in-BANG-clause-gives t c = gives-from_start (from_start-here (saw-arm c.in-BANG.is (c.current.ensures.sees c.args.condition) and nothing) (from_start-look c.current.ensures.peeks.same (from_start-after refl c.prefix_expr-in-BANG.ensures.reads)))

pub expressions::operand::prefixed-returns-in-STAR-clause-gives : goal.expressions::operand::prefixed-returns-in-STAR-clause-gives
unfolding look_of begins_below whole rule items statements expressions patterns types paths there_at shift passes is_silent begins in_mode from_start row one_of any_of no_longer longest is_longer
expressions::operand::prefixed-returns-in-STAR-clause-gives t c = gives-from_start (from_start-here (saw-arm c.in-STAR.is (c.current.ensures.sees c.args.condition) and nothing) (from_start-look c.current.ensures.peeks.same (from_start-after refl c.prefix_expr-in-STAR.ensures.reads)))

pub expressions::operand::prefixed-returns-then-at_new_operand-clause-gives : goal.expressions::operand::prefixed-returns-then-at_new_operand-clause-gives
unfolding look_of begins_below whole rule items statements expressions patterns types paths there_at shift passes is_silent begins in_mode from_start row one_of any_of no_longer longest is_longer
expressions::operand::prefixed-returns-then-at_new_operand-clause-gives t c = gives-from_start (from_start-here (saw-not c.in_default.not-MINUS (c.current.ensures.sees c.args.condition) and saw-not c.in_default.not-BANG (c.current.ensures.sees c.args.condition) and saw-not c.in_default.not-STAR (c.current.ensures.sees c.args.condition) and saw-before c.current.ensures.peeks.same (saw-so (c.at_new_operand.ensures.sees c.args.condition) c.if-at_new_operand.true) and nothing) (from_start-look c.current.ensures.peeks.same (from_start-look c.at_new_operand.ensures.peeks.same c.new_operand.ensures.from_start)))

pub expressions::operand::prefixed-returns-then-at-clause-gives : goal.expressions::operand::prefixed-returns-then-at-clause-gives
unfolding look_of begins_below whole rule items statements expressions patterns types paths there_at shift passes is_silent begins in_mode from_start row one_of any_of no_longer longest is_longer
expressions::operand::prefixed-returns-then-at-clause-gives t c = gives-from_start (from_start-here (saw-not c.in_default.not-MINUS (c.current.ensures.sees c.args.condition) and saw-not c.in_default.not-BANG (c.current.ensures.sees c.args.condition) and saw-not c.in_default.not-STAR (c.current.ensures.sees c.args.condition) and saw-before c.current.ensures.peeks.same (saw-so (c.at_new_operand.ensures.sees c.args.condition) c.if-at_new_operand.false) and saw-before c.current.ensures.peeks.same (saw-before c.at_new_operand.ensures.peeks.same (saw-so (c.at.ensures.sees c.args.condition) c.if-at.true)) and nothing) (from_start-look c.current.ensures.peeks.same (from_start-look c.at_new_operand.ensures.peeks.same (from_start-look c.at.ensures.peeks.same (from_start-after refl c.ref_expr.ensures.reads)))))

pub expressions::operand::prefixed-operand-requires : goal.expressions::operand::prefixed-operand-requires
unfolding look_of begins_below whole rule items statements expressions patterns types paths there_at shift passes is_silent begins in_mode from_start row one_of any_of no_longer longest is_longer
expressions::operand::prefixed-operand-requires t c = (omega arith, (saw-after c.at.ensures.peeks.same (saw-after c.at_new_operand.ensures.peeks.same (saw-after c.current.ensures.peeks.same (begins-else rules.atom rules.prefixed refl (saw-not c.in_default.not-MINUS (c.current.ensures.sees c.args.condition) and saw-not c.in_default.not-BANG (c.current.ensures.sees c.args.condition) and saw-not c.in_default.not-STAR (c.current.ensures.sees c.args.condition) and saw-before c.current.ensures.peeks.same (saw-so (c.at_new_operand.ensures.sees c.args.condition) c.if-at_new_operand.false) and saw-before c.current.ensures.peeks.same (saw-before c.at_new_operand.ensures.peeks.same (saw-so (c.at.ensures.sees c.args.condition) c.if-at.false)) and nothing) c.requires.begins refl))), omega arith))

pub expressions::operand::after_dot-float-requires : goal.expressions::operand::after_dot-float-requires
expressions::operand::after_dot-float-requires t c = (omega arith, (record { sees = λ d. saw-after c.current.ensures.peeks.same (saw-arm c.in-FLOAT_NUMBER.is (c.current.ensures.sees d)); some = omega (arith, c.current.ensures.some (λ e. absurd (omega (arith, sym (ap (λ (k : SyntaxKind). raw_of k) c.in-FLOAT_NUMBER.is) ∙ e))), c.current.ensures.peeks.left) }, c.current.ensures.peeks.same.innermost _ (c.at_new.ensures.peeks.same.innermost _ (c.at_method.ensures.peeks.same.innermost _ c.requires.innermost))))

pub expressions::operand::prefixed-returns-else-at : goal.expressions::operand::prefixed-returns-else-at
unfolding look_of begins_below whole rule items statements expressions patterns types paths there_at shift passes is_silent begins in_mode from_start row one_of any_of no_longer longest is_longer
expressions::operand::prefixed-returns-else-at t c = record {
  gives = gives-from_start (from_start-here (saw-not c.in_default.not-MINUS (c.current.ensures.sees c.args.condition) and saw-not c.in_default.not-BANG (c.current.ensures.sees c.args.condition) and saw-not c.in_default.not-STAR (c.current.ensures.sees c.args.condition) and saw-before c.current.ensures.peeks.same (saw-so (c.at_new_operand.ensures.sees c.args.condition) c.if-at_new_operand.false) and saw-before c.current.ensures.peeks.same (saw-before c.at_new_operand.ensures.peeks.same (saw-so (c.at.ensures.sees c.args.condition) c.if-at.false)) and nothing) (from_start-look c.current.ensures.peeks.same (from_start-look c.at_new_operand.ensures.peeks.same (from_start-look c.at.ensures.peeks.same c.operand.ensures.from_start))));
  takes = record {
    left = omega (arith, c.operand.ensures.takes.left, c.at.ensures.peeks.left, c.at_new_operand.ensures.peeks.left, c.current.ensures.peeks.left);
    looks = omega (arith, c.operand.ensures.takes.looks, c.at.ensures.peeks.looks, c.at_new_operand.ensures.peeks.looks, c.current.ensures.peeks.looks);
  };
}

pub expressions::operand::new_operand-returns-then-at_raw-clause-from_start : goal.expressions::operand::new_operand-returns-then-at_raw-clause-from_start
unfolding look_of begins_below whole rule items statements expressions patterns types paths there_at shift passes is_silent begins in_mode from_start row one_of any_of no_longer longest is_longer
expressions::operand::new_operand-returns-then-at_raw-clause-from_start t c = from_start-here (saw-so (c.at_raw.ensures.sees c.args.condition) c.if-at_raw.true and nothing) (from_start-look c.at_raw.ensures.peeks.same (from_start-after refl c.raw_ref_expr.ensures.reads))

pub expressions::operand::new_operand-attributed_operand-requires : goal.expressions::operand::new_operand-attributed_operand-requires
expressions::operand::new_operand-attributed_operand-requires t c = (omega arith, omega (arith, c.requires.begins.some, c.at_raw.ensures.peeks.left, c.at.ensures.peeks.left))

pub expressions::operand::new_operand-returns-then-at-clause-from_start : goal.expressions::operand::new_operand-returns-then-at-clause-from_start
unfolding look_of begins_below whole rule items statements expressions patterns types paths there_at shift passes is_silent begins in_mode from_start row one_of any_of no_longer longest is_longer
expressions::operand::new_operand-returns-then-at-clause-from_start t c = from_start-here (saw-so (c.at_raw.ensures.sees c.args.condition) c.if-at_raw.false and saw-before c.at_raw.ensures.peeks.same (saw-so (c.at.ensures.sees c.args.condition) c.if-at.true) and nothing) (from_start-look c.at_raw.ensures.peeks.same (from_start-look c.at.ensures.peeks.same c.attributed_operand.ensures.from_start))

pub expressions::operand::new_operand-open_range-requires : goal.expressions::operand::new_operand-open_range-requires
unfolding look_of begins_below whole rule items statements expressions patterns types paths there_at shift passes is_silent begins in_mode from_start row one_of any_of no_longer longest is_longer
expressions::operand::new_operand-open_range-requires t c = (omega arith, record { sees = λ d. saw-after c.at.ensures.peeks.same (saw-after c.at_raw.ensures.peeks.same (saw-else mark_begins (wide new_operand_begins) (saw-so (c.at_raw.ensures.sees d) c.if-at_raw.false and saw-before c.at_raw.ensures.peeks.same (saw-so (c.at.ensures.sees d) c.if-at.false) and nothing) (c.requires.begins.sees d) refl)); some = omega (arith, c.requires.begins.some, c.at_raw.ensures.peeks.left, c.at.ensures.peeks.left) })

pub expressions::operand::new_operand-returns-clause-from_start : goal.expressions::operand::new_operand-returns-clause-from_start
unfolding look_of begins_below whole rule items statements expressions patterns types paths there_at shift passes is_silent begins in_mode from_start row one_of any_of no_longer longest is_longer
expressions::operand::new_operand-returns-clause-from_start t c = from_start-here (saw-so (c.at_raw.ensures.sees c.args.condition) c.if-at_raw.false and saw-before c.at_raw.ensures.peeks.same (saw-so (c.at.ensures.sees c.args.condition) c.if-at.false) and nothing) (from_start-look c.at_raw.ensures.peeks.same (from_start-look c.at.ensures.peeks.same (from_start-after refl c.open_range.ensures.reads)))

pub expressions::operand::attributed_operand-operand_after_attributes-requires : goal.expressions::operand::attributed_operand-operand_after_attributes-requires
expressions::operand::attributed_operand-operand_after_attributes-requires t c = (omega arith, (c.attributes.ensures.reads On).does.innermost _ ((c.attribute.ensures.gives On).does.innermost _ c.start-frame.ensures.marker))

pub expressions::operand::attributed_operand-returns-clause-from_start : goal.expressions::operand::attributed_operand-returns-clause-from_start
expressions::operand::attributed_operand-returns-clause-from_start t c = from_start-completes c.start-frame.ensures.opens (completes-then (reads-call c.args.condition (c.attribute.ensures.gives c.args.condition)) (completes-then (c.attributes.ensures.reads c.args.condition) c.operand_after_attributes.ensures.completes))

pub expressions::operand::operand_after_attributes-extended_operand-requires : goal.expressions::operand::operand_after_attributes-extended_operand-requires
expressions::operand::operand_after_attributes-extended_operand-requires t c = (omega arith, record { sees = saw-after c.at_operand.ensures.peeks.same (saw-so c.at_operand.ensures.sees c.if-at_operand.true); some = omega (arith, c.at_operand.ensures.some c.if-at_operand.true, c.at_operand.ensures.peeks.left) })

pub expressions::operand::operand_after_attributes-abandon-requires : goal.expressions::operand::operand_after_attributes-abandon-requires
expressions::operand::operand_after_attributes-abandon-requires t c = c.extended_operand.ensures.reads.does.innermost _ (c.at_operand.ensures.peeks.same.innermost _ c.requires.innermost)

pub expressions::operand::operand_after_attributes-complete-requires : goal.expressions::operand::operand_after_attributes-complete-requires
expressions::operand::operand_after_attributes-complete-requires t c = (c.error.ensures.reads On).does.innermost _ (c.at_operand.ensures.peeks.same.innermost _ c.requires.innermost)

pub expressions::operand::operand_after_attributes-returns-then-at_operand-clause-completes : goal.expressions::operand::operand_after_attributes-returns-then-at_operand-clause-completes
unfolding look_of begins_below whole rule items statements expressions patterns types paths there_at shift passes is_silent begins in_mode from_start row one_of any_of no_longer longest is_longer
expressions::operand::operand_after_attributes-returns-then-at_operand-clause-completes t c = completes-here (begun rules.prefixed (saw-so c.at_operand.ensures.sees c.if-at_operand.true) nothing) (completes-look c.at_operand.ensures.peeks.same (completes-leave c.extended_operand.ensures.reads c.abandon.ensures.leaves))

pub expressions::operand::operand_after_attributes-returns-clause-completes : goal.expressions::operand::operand_after_attributes-returns-clause-completes
unfolding look_of begins_below whole rule items statements expressions patterns types paths there_at shift passes is_silent begins in_mode from_start row one_of any_of no_longer longest is_longer
expressions::operand::operand_after_attributes-returns-clause-completes t c = completes-here (begun rules.prefixed (saw-so c.at_operand.ensures.sees c.if-at_operand.false) nothing) (completes-look c.at_operand.ensures.peeks.same (completes-wrap (c.error.ensures.reads c.args.condition) c.complete.ensures.closes))

pub expressions::operand::extended_operand-prefixed-requires : goal.expressions::operand::extended_operand-prefixed-requires
expressions::operand::extended_operand-prefixed-requires t c = (omega arith, (saw-inside c.start-inner.ensures.opens c.requires.begins.sees, omega (arith, c.requires.begins.some, c.start-inner.ensures.stays.left)))

pub expressions::operand::extended_operand-extend_left-requires : goal.expressions::operand::extended_operand-extend_left-requires
expressions::operand::extended_operand-extend_left-requires t c = c.prefixed.ensures.gives.does.innermost _ c.start-inner.ensures.marker

pub expressions::operand::extended_operand-returns-clause-reads : goal.expressions::operand::extended_operand-returns-clause-reads
expressions::operand::extended_operand-returns-clause-reads t c = reads-lead (operand-rooted c.args.condition) c.start-inner.ensures.opens (reads-call c.args.condition c.prefixed.ensures.gives) c.extend_left.ensures.extends

-- Expressions, path by path.
use Rattle.std.proofs.Common.{◌≡◌, ℕ, Bool, true, false, nat_eq, Option, refl, sym, subst, arith, rules, ◌∙◌, true≢false}
use Rattle.std.proofs.lemmas.Bool.{eq-eqb, eqb-true}
use Rattle.parser_events.specs.Forest.{ExpectedExpression}
use Rattle.rust_grammar.specs.Meaning.{read}
use Rattle.rust_grammar.specs.Rule as rules
use Rattle.rust_grammar.specs.Rule.{Call, Want, begins}
use Rattle.grammar_reader.specs.Told.{level_of}
use Rattle.grammar_reader.specs.declared.grammar.expressions.Level.{Level}
use Rattle.grammar_reader.proofs.Seeing.{reads-expected, reads-open-end}
use Rattle.rust_productions.specs.Layers.{layer_at, layers, operators_at}
use Rattle.rust_productions.specs.Operators.{IsMark}
use Rattle.rust_productions.specs.Reads.{Reads}
use Rattle.rust_productions.specs.declared.condition.Condition.TheVariants.{On}
use Rattle.rust_productions.specs.declared.grammar.operators.RangeMark.{RangeMark}
use Rattle.rust_productions.proofs.ByHand.{after-look, does-nothing, goes, reads-call, reads-missing, reads-more, reads-node, reads-then, reads-unless, reads-want, reads-wrap}
use Rattle.rust_productions.proofs.Choices.{from_start-inside, gives-from_start, from_start-after}
use Rattle.rust_productions.proofs.Facts.{saw-so}
use Rattle.rust_productions.proofs.Operators.{next-after}
use Rattle.rust_productions.proofs.Ranges.{begins-call, gives-expression, gives-look, gives-operands, mark-after, mark-inside, operand-begun, range-near, reads-assignment, reads-no-assignment, reads-no-pipe, reads-pipe, reads-range, reads-range-alone, reads-range-end, reads-range-on, reads-before-look, saw-operation, saw-outside, unranged}
use Rattle.rust_productions.proofs.Seen.{saw-after, saw-inside}
use Rattle.rust_productions.proofs.Layering.{reads-after-operand}
use Rattle.grammar_reader.proofs.grammar.+grammar.Goals as goal

pub expressions::expect_expression-returns-in-Comparison-clause-reads : goal.expressions::expect_expression-returns-in-Comparison-clause-reads
unfolding layer_at layers
expressions::expect_expression-returns-in-Comparison-clause-reads t c = subst (λ (l : Level). Reads c.args.condition (Want (Call (level_of l)) ExpectedExpression) c.args.p.now c.expect_layer.new.p) (sym c.in-Comparison.is) c.expect_layer.ensures.reads

pub expressions::expect_expression-returns-in-Disjunction-clause-reads : goal.expressions::expect_expression-returns-in-Disjunction-clause-reads
unfolding layer_at layers
expressions::expect_expression-returns-in-Disjunction-clause-reads t c = subst (λ (l : Level). Reads c.args.condition (Want (Call (level_of l)) ExpectedExpression) c.args.p.now c.expect_layer-in-Disjunction.new.p) (sym c.in-Disjunction.is) c.expect_layer-in-Disjunction.ensures.reads

pub expressions::expect_expression-returns-in-Expression-clause-reads : goal.expressions::expect_expression-returns-in-Expression-clause-reads
expressions::expect_expression-returns-in-Expression-clause-reads t c = subst (λ (l : Level). Reads c.args.condition (Want (Call (level_of l)) ExpectedExpression) c.args.p.now c.expect_any.new.p) (sym c.in-Expression.is) c.expect_any.ensures.reads

pub expressions::expect_expression-returns-in-Operation-clause-reads : goal.expressions::expect_expression-returns-in-Operation-clause-reads
expressions::expect_expression-returns-in-Operation-clause-reads t c = subst (λ (l : Level). Reads c.args.condition (Want (Call (level_of l)) ExpectedExpression) c.args.p.now c.expect_operation.new.p) (sym c.in-Operation.is) c.expect_operation.ensures.reads

pub expressions::expect_expression-returns-in-Prefixed-clause-reads : goal.expressions::expect_expression-returns-in-Prefixed-clause-reads
unfolding layer_at layers
expressions::expect_expression-returns-in-Prefixed-clause-reads t c = subst (λ (l : Level). Reads c.args.condition (Want (Call (level_of l)) ExpectedExpression) c.args.p.now c.expect_layer-in-Prefixed.new.p) (sym c.in-Prefixed.is) c.expect_layer-in-Prefixed.ensures.reads

pub expressions::expect_any-expression-requires : goal.expressions::expect_any-expression-requires
expressions::expect_any-expression-requires t c = (omega arith, (saw-after c.at_expression.ensures.peeks.same (saw-so c.at_expression.ensures.sees c.if-at_expression.true), omega (arith, c.at_expression.ensures.some c.if-at_expression.true, c.at_expression.ensures.peeks.left)))

pub expressions::expect_any-returns-then-at_expression-clause-reads : goal.expressions::expect_any-returns-then-at_expression-clause-reads
expressions::expect_any-returns-then-at_expression-clause-reads t c = reads-want _ (begins-call rules.expression (saw-so c.at_expression.ensures.sees c.if-at_expression.true)) (after-look _ c.at_expression.ensures.peeks.same (reads-call _ c.expression.ensures.gives))

pub expressions::expect_any-returns-clause-reads : goal.expressions::expect_any-returns-clause-reads
expressions::expect_any-returns-clause-reads t c = reads-missing _ (begins-call rules.expression (saw-so c.at_expression.ensures.sees c.if-at_expression.false)) (after-look _ c.at_expression.ensures.peeks.same (c.error.ensures.reads _))

pub expressions::expect_operation-operation-requires : goal.expressions::expect_operation-operation-requires
expressions::expect_operation-operation-requires t c = (omega arith, (saw-after c.at_operation.ensures.peeks.same (saw-so c.at_operation.ensures.sees c.if-at_operation.true), omega (arith, c.at_operation.ensures.some c.if-at_operation.true, c.at_operation.ensures.peeks.left)))

pub expressions::expect_operation-returns-then-at_operation-clause-reads : goal.expressions::expect_operation-returns-then-at_operation-clause-reads
expressions::expect_operation-returns-then-at_operation-clause-reads t c = reads-want _ (begins-call rules.operation (saw-so c.at_operation.ensures.sees c.if-at_operation.true)) (after-look _ c.at_operation.ensures.peeks.same (reads-call _ c.operation.ensures.gives))

pub expressions::expect_operation-returns-clause-reads : goal.expressions::expect_operation-returns-clause-reads
expressions::expect_operation-returns-clause-reads t c = reads-missing _ (begins-call rules.operation (saw-so c.at_operation.ensures.sees c.if-at_operation.false)) (after-look _ c.at_operation.ensures.peeks.same (c.error.ensures.reads _))

pub expressions::expect_condition-returns-clause-reads : goal.expressions::expect_condition-returns-clause-reads
expressions::expect_condition-returns-clause-reads t c = λ cond. reads-expected cond c.expect_expression.ensures.reads

pub expressions::expression-operation-requires : goal.expressions::expression-operation-requires
expressions::expression-operation-requires t c = (omega arith, (saw-operation c.requires.begins, omega arith))

pub expressions::expression-returns-clause-gives : goal.expressions::expression-returns-clause-gives
expressions::expression-returns-clause-gives t c = gives-expression c.operation.ensures.gives

pub expressions::operation-range-requires : goal.expressions::operation-range-requires
expressions::operation-range-requires t c = (omega arith, mark-after c.range_mark.ensures.peeks.same (subst (λ (m : Option RangeMark). IsMark m c.args.p.now) c.in-Some.is c.range_mark.ensures.mark))

pub expressions::operation-returns-in-Some-clause-gives : goal.expressions::operation-returns-in-Some-clause-gives
expressions::operation-returns-in-Some-clause-gives t c = gives-look c.range_mark.ensures.peeks.same c.range.ensures.gives

pub expressions::operation-operands-requires : goal.expressions::operation-operands-requires
expressions::operation-operands-requires t c =
    let unmarked = subst (λ (m : Option RangeMark). IsMark m c.args.p.now) c.in-None.is c.range_mark.ensures.mark in
    (omega arith, (mark-after c.range_mark.ensures.peeks.same unmarked, record { sees = saw-after c.range_mark.ensures.peeks.same (operand-begun unmarked c.requires.begins); some = omega (arith, c.requires.some, c.range_mark.ensures.peeks.left) }))

pub expressions::operation-returns-in-None-clause-gives : goal.expressions::operation-returns-in-None-clause-gives
expressions::operation-returns-in-None-clause-gives t c = gives-look c.range_mark.ensures.peeks.same c.operands.ensures.gives

pub expressions::operands-prefixed-requires : goal.expressions::operands-prefixed-requires
expressions::operands-prefixed-requires t c = (omega arith, (saw-inside c.start-frame.ensures.opens c.requires.begins.sees, omega arith))

pub expressions::operands-climb-frame-requires : goal.expressions::operands-climb-frame-requires
expressions::operands-climb-frame-requires t c = (omega arith, (omega arith, c.prefixed.ensures.gives.does.innermost _ c.start-frame.ensures.marker))

pub expressions::operands-operation_tail-frame-requires : goal.expressions::operands-operation_tail-frame-requires
expressions::operands-operation_tail-frame-requires t c = (omega arith, c.climb-frame.ensures.asks.marker)

pub expressions::operands-returns-clause-gives : goal.expressions::operands-returns-clause-gives
expressions::operands-returns-clause-gives t c = gives-operands c.requires.unmarked c.requires.begins.sees c.start-frame.ensures.opens (reads-call _ c.prefixed.ensures.gives) c.climb-frame.ensures.reads c.operation_tail-frame.ensures.reads c.abandon.ensures.leaves

pub expressions::range-range_end-more-requires : goal.expressions::range-range_end-more-requires
expressions::range-range_end-more-requires t c = (omega arith, mark-inside c.start-range.ensures.opens (mark-inside c.start-frame.ensures.opens c.requires.marked))

pub expressions::range-complete-requires : goal.expressions::range-complete-requires
expressions::range-complete-requires t c = c.range_end-more.ensures.keeps.innermost _ c.start-range.ensures.marker

pub expressions::range-abandon-requires : goal.expressions::range-abandon-requires
expressions::range-abandon-requires t c = c.complete.ensures.closes.innermost _ (c.range_end-more.ensures.keeps.innermost _ (c.start-range.ensures.opens.innermost _ c.start-frame.ensures.marker))

pub expressions::range-operation_tail-frame-requires : goal.expressions::range-operation_tail-frame-requires
expressions::range-operation_tail-frame-requires t c = (omega arith, c.complete.ensures.closes.innermost _ (c.range_end-more.ensures.keeps.innermost _ (c.start-range.ensures.opens.innermost _ c.start-frame.ensures.marker)))

pub expressions::range-returns-then-not-more-clause-gives : goal.expressions::range-returns-then-not-more-clause-gives
expressions::range-returns-then-not-more-clause-gives t c = gives-from_start (from_start-inside c.start-frame.ensures.opens (reads-range-alone c.args.mark (mark-inside c.start-frame.ensures.opens c.requires.marked) (saw-outside c.start-range.ensures.opens (saw-so c.range_end-more.ensures.ends.near c.if-not-more.true)) (reads-node _ c.start-range.ensures.opens (c.range_end-more.ensures.ends.alone c.if-not-more.true) c.complete.ensures.closes)) c.abandon.ensures.leaves)

pub expressions::range-returns-clause-gives : goal.expressions::range-returns-clause-gives
expressions::range-returns-clause-gives t c = gives-from_start (from_start-inside c.start-frame.ensures.opens (reads-range c.args.mark (mark-inside c.start-frame.ensures.opens c.requires.marked) (saw-outside c.start-range.ensures.opens (saw-so c.range_end-more.ensures.ends.near c.if-not-more.false)) (reads-then _ (reads-node _ c.start-range.ensures.opens (c.range_end-more.ensures.ends.to c.if-not-more.false) c.complete.ensures.closes) c.operation_tail-frame.ensures.reads)) c.abandon-2.ensures.leaves)

pub expressions::range_end-layers-requires : goal.expressions::range_end-layers-requires
expressions::range_end-layers-requires t c = (omega arith, (record { sees = saw-after c.at_range_operand.ensures.peeks.same (c.at_range_operand.ensures.operand c.if-at_range_operand.true); some = omega (arith, c.at_range_operand.ensures.some c.if-at_range_operand.true, c.at_range_operand.ensures.peeks.left) }, omega arith))

pub expressions::range_end-returns-then-at_range_operand-clause-ends : goal.expressions::range_end-returns-then-at_range_operand-clause-ends
unfolding layer_at layers
expressions::range_end-returns-then-at_range_operand-clause-ends t c = record {
  near = range-near c.args.mark c.requires.marked (c.take_mark.ensures.reads On) (saw-so c.at_range_operand.ensures.sees c.if-at_range_operand.true);
  to = λ is. reads-then _ (c.take_mark.ensures.reads _) (after-look _ c.at_range_operand.ensures.peeks.same (reads-unless _ (reads-call _ c.layers.ensures.gives)));
  alone = λ e. absurd (true≢false e);
}

pub expressions::range_end-returns-clause-ends : goal.expressions::range_end-returns-clause-ends
expressions::range_end-returns-clause-ends t c = record {
  near = range-near c.args.mark c.requires.marked (c.take_mark.ensures.reads On) (saw-so c.at_range_operand.ensures.sees c.if-at_range_operand.false);
  to = λ e. absurd (true≢false (sym e));
  alone = λ is. reads-before-look (c.take_mark.ensures.reads _) c.at_range_operand.ensures.peeks.same;
}

pub expressions::range_end-returns-then-at_range_operand-clause-keeps : goal.expressions::range_end-returns-then-at_range_operand-clause-keeps
expressions::range_end-returns-then-at_range_operand-clause-keeps t c = record {
  input = c.layers.ensures.gives.does.input ∙ c.at_range_operand.ensures.peeks.same.input ∙ (c.take_mark.ensures.reads On).does.input;
  innermost = λ n i. c.layers.ensures.gives.does.innermost n (c.at_range_operand.ensures.peeks.same.innermost n ((c.take_mark.ensures.reads On).does.innermost n i));
}

pub expressions::range_end-returns-clause-keeps : goal.expressions::range_end-returns-clause-keeps
expressions::range_end-returns-clause-keeps t c = record {
  input = c.at_range_operand.ensures.peeks.same.input ∙ (c.take_mark.ensures.reads On).does.input;
  innermost = λ n i. c.at_range_operand.ensures.peeks.same.innermost n ((c.take_mark.ensures.reads On).does.innermost n i);
}

pub expressions::opt_assignment-wrap-requires : goal.expressions::opt_assignment-wrap-requires
expressions::opt_assignment-wrap-requires t c = c.expect_operation.ensures.reads.does.innermost _ ((c.take_operator.ensures.reads On).does.innermost _ c.requires.innermost)

is-other : (n h : ℕ) → (h ≡ n → ⊥) → nat_eq h n ≡ false
is-other n h differs = which (nat_eq h n) refl
  where
    which : (b : Bool) → nat_eq h n ≡ b → nat_eq h n ≡ false
    which true e = absurd (differs (eqb-true h n e))
    which false e = e

pub expressions::opt_assignment-returns-then-operator-ne12-clause-reads : goal.expressions::opt_assignment-returns-then-operator-ne12-clause-reads
expressions::opt_assignment-returns-then-operator-ne12-clause-reads t c =
    reads-no-assignment (saw-so (c.requires.next.sees _ 12 (omega arith) (omega arith)) (is-other 12 c.args.operator.height (λ e. omega (arith, e)))) (does-nothing _)

pub expressions::opt_assignment-returns-clause-reads : goal.expressions::opt_assignment-returns-clause-reads
expressions::opt_assignment-returns-clause-reads t c =
    let is : c.args.operator.height ≡ 12 = omega arith in
    reads-assignment (saw-so (c.requires.next.sees _ 12 (omega arith) (omega arith)) (eq-eqb c.args.operator.height 12 is))
    (reads-wrap _ (reads-then _ (subst (λ (h : ℕ). Reads c.args.condition (operators_at h) c.args.p.now c.take_operator.new.p) is (c.take_operator.ensures.reads _)) c.expect_operation.ensures.reads) c.wrap.ensures.wraps)

pub expressions::pipe_tail-expect_expression-requires : goal.expressions::pipe_tail-expect_expression-requires
expressions::pipe_tail-expect_expression-requires t c = omega (arith, c.pipes.invariant.left, c.take_operator.ensures.takes.left, c.current_op-operator.ensures.peeks.left)

pub expressions::pipe_tail-wrap-frame-requires : goal.expressions::pipe_tail-wrap-frame-requires
expressions::pipe_tail-wrap-frame-requires t c = c.expect_expression.ensures.reads.does.innermost _ ((c.take_operator.ensures.reads On).does.innermost _ c.pipes.invariant.marker)

pub expressions::pipe_tail-opt_assignment-requires : goal.expressions::pipe_tail-opt_assignment-requires
expressions::pipe_tail-opt_assignment-requires t c = (omega (arith, c.pipes.invariant.left, c.current_op-operator.ensures.peeks.left), (c.pipes.invariant.next, c.pipes.invariant.marker))

pub expressions::pipe_tail-pipes-init : goal.expressions::pipe_tail-pipes-init
expressions::pipe_tail-pipes-init t c = record {
  marker = c.current_op-operator.ensures.peeks.same.innermost _ c.requires.innermost;
  next = next-after c.current_op-operator.ensures.peeks.same c.current_op-operator.ensures.next;
  goes = record { rest = λ end p. p };
  left = omega arith;
  looks = omega arith;
}

pub expressions::pipe_tail-pipes-preserved : goal.expressions::pipe_tail-pipes-preserved
expressions::pipe_tail-pipes-preserved t c =
    let is : c.pipes.operator.height ≡ 11 = omega arith in
    record {
      marker = c.current_op-operator-in-pipes.ensures.peeks.same.innermost _ c.wrap-frame.ensures.marker;
      next = next-after c.current_op-operator-in-pipes.ensures.peeks.same c.current_op-operator-in-pipes.ensures.next;
      goes = record {
        rest = λ end p.
            c.pipes.invariant.goes.rest end (goes _ _ (reads-pipe (saw-so (c.pipes.invariant.next.sees _ 11 (omega arith) (omega arith)) (eq-eqb c.pipes.operator.height 11 is))
            (reads-then _ (reads-wrap _ (reads-then _ (subst (λ (h : ℕ). Reads c.args.condition (operators_at h) c.pipes.p c.take_operator.new.p) is (c.take_operator.ensures.reads _)) c.expect_expression.ensures.reads) c.wrap-frame.ensures.wraps) (after-look _ c.current_op-operator-in-pipes.ensures.peeks.same (reads-more _ p)))));
      };
      left = omega (arith, c.pipes.invariant.left, c.take_operator.ensures.takes.left, c.expect_expression.ensures.asks.left, c.wrap-frame.ensures.stays.left, c.current_op-operator-in-pipes.ensures.peeks.left);
      looks = omega (arith, c.pipes.invariant.looks, c.take_operator.ensures.takes.looks, c.expect_expression.ensures.asks.looks, c.wrap-frame.ensures.stays.looks, c.current_op-operator-in-pipes.ensures.peeks.looks);
    }

pub expressions::pipe_tail-returns-clause-reads : goal.expressions::pipe_tail-returns-clause-reads
expressions::pipe_tail-returns-clause-reads t c =
    after-look _ c.current_op-operator.ensures.peeks.same (reads-more _ (c.pipes.invariant.goes.rest _ (goes _ _ (reads-no-pipe
    (saw-so (c.pipes.invariant.next.sees _ 11 (omega arith) (omega arith)) (is-other 11 c.pipes.operator.height (λ e. omega (arith, e)))) c.opt_assignment.ensures.reads))))

pub expressions::pipe_tail-returns-clause-asks : goal.expressions::pipe_tail-returns-clause-asks
expressions::pipe_tail-returns-clause-asks t c = record {
  left = omega arith;
  looks = omega (arith, c.pipes.invariant.looks, c.opt_assignment.ensures.asks.looks, c.current_op-operator.ensures.peeks.looks);
  marker = search rules;
}

pub expressions::operation_tail-ranges-2-init : goal.expressions::operation_tail-ranges-2-init
expressions::operation_tail-ranges-2-init t c = record {
  marker = c.range_mark-mark.ensures.peeks.same.innermost _ c.requires.innermost;
  mark = mark-after c.range_mark-mark.ensures.peeks.same c.range_mark-mark.ensures.mark;
  goes = record { rest = λ end p. p };
  left = omega arith;
  looks = omega arith;
}

pub expressions::operation_tail-ranges-2-preserved : goal.expressions::operation_tail-ranges-2-preserved
expressions::operation_tail-ranges-2-preserved t c =
    let marked = subst (λ (m : Option RangeMark). IsMark m c.ranges-2.p) c.in-Some.is c.ranges-2.invariant.mark in
    record {
      marker = c.range_mark-mark-in-Some.ensures.peeks.same.innermost _ c.wrap-frame.ensures.marker;
      mark = mark-after c.range_mark-mark-in-Some.ensures.peeks.same c.range_mark-mark-in-Some.ensures.mark;
      goes = record {
        rest = λ end p.
            c.ranges-2.invariant.goes.rest end (goes _ _ (reads-range-on c.in-Some.found marked (saw-so c.range_end-more.ensures.ends.near c.if-not-more.false)
            (reads-then _ (reads-wrap _ (c.range_end-more.ensures.ends.to c.if-not-more.false) c.wrap-frame.ensures.wraps) (after-look _ c.range_mark-mark-in-Some.ensures.peeks.same (reads-more _ p)))));
      };
      left = omega (arith, c.ranges-2.invariant.left, c.range_end-more.ensures.takes.left, c.wrap-frame.ensures.stays.left, c.range_mark-mark-in-Some.ensures.peeks.left);
      looks = omega (arith, c.ranges-2.invariant.looks, c.range_end-more.ensures.takes.looks, c.wrap-frame.ensures.stays.looks, c.range_mark-mark-in-Some.ensures.peeks.looks);
    }

pub expressions::operation_tail-returns-then-not-more-clause-reads : goal.expressions::operation_tail-returns-then-not-more-clause-reads
expressions::operation_tail-returns-then-not-more-clause-reads t c =
    let marked = subst (λ (m : Option RangeMark). IsMark m c.ranges-2.p) c.in-Some.is c.ranges-2.invariant.mark in
    after-look _ c.range_mark-mark.ensures.peeks.same (reads-more _ (c.ranges-2.invariant.goes.rest _ (goes _ _ (reads-range-end c.in-Some.found marked (saw-so c.range_end-more.ensures.ends.near c.if-not-more.true) (reads-wrap _ (c.range_end-more.ensures.ends.alone c.if-not-more.true) c.wrap-frame.ensures.wraps)))))

pub expressions::operation_tail-returns-clause-reads : goal.expressions::operation_tail-returns-clause-reads
unfolding read
expressions::operation_tail-returns-clause-reads t c = after-look _ c.range_mark-mark.ensures.peeks.same (reads-more _ (c.ranges-2.invariant.goes.rest _ (goes _ _ (unranged (subst (λ (m : Option RangeMark). IsMark m c.ranges-2.p) c.in_default.is c.ranges-2.invariant.mark) c.pipe_tail.ensures.reads))))

pub expressions::operation_tail-returns-clause-asks : goal.expressions::operation_tail-returns-clause-asks
expressions::operation_tail-returns-clause-asks t c = record {
  left = omega arith;
  looks = omega (arith, c.ranges-2.invariant.looks, c.pipe_tail.ensures.asks.looks, c.range_mark-mark.ensures.peeks.looks);
  marker = search rules;
}

pub expressions::open_range-present_mark-mark-requires : goal.expressions::open_range-present_mark-mark-requires
expressions::open_range-present_mark-mark-requires t c = record { sees = λ d. saw-inside c.start-range.ensures.opens (c.requires.begins.sees d); some = omega (arith, c.requires.begins.some, c.start-range.ensures.stays.left) }

pub expressions::open_range-range_end-requires : goal.expressions::open_range-range_end-requires
expressions::open_range-range_end-requires t c = (omega arith, mark-after c.present_mark-mark.ensures.peeks.same c.present_mark-mark.ensures.mark)

pub expressions::open_range-complete-requires : goal.expressions::open_range-complete-requires
expressions::open_range-complete-requires t c = c.range_end.ensures.keeps.innermost _ (c.present_mark-mark.ensures.peeks.same.innermost _ c.start-range.ensures.marker)

pub expressions::open_range-returns-clause-reads : goal.expressions::open_range-returns-clause-reads
expressions::open_range-returns-clause-reads t c = reads-node _ c.start-range.ensures.opens (after-look _ c.present_mark-mark.ensures.peeks.same (reads-open-end c.present_mark-mark.result (mark-after c.present_mark-mark.ensures.peeks.same c.present_mark-mark.ensures.mark) c.range_end.ensures.ends)) c.complete.ensures.closes

pub expressions::after_operand-climb-frame-requires : goal.expressions::after_operand-climb-frame-requires
expressions::after_operand-climb-frame-requires t c = (omega arith, (omega arith, c.requires.innermost))

pub expressions::after_operand-operation_tail-requires : goal.expressions::after_operand-operation_tail-requires
expressions::after_operand-operation_tail-requires t c = (omega arith, c.climb-frame.ensures.asks.marker)

pub expressions::after_operand-returns-clause-reads : goal.expressions::after_operand-returns-clause-reads
expressions::after_operand-returns-clause-reads t c = reads-after-operand c.climb-frame.ensures.reads c.operation_tail.ensures.reads

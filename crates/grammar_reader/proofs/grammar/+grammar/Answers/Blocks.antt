-- Blocks, statement by statement.
use Rattle.std.proofs.Common.{refl, arith}
use Rattle.std.proofs.lemmas.Bool.{ltb-true, ltb-false}
use Rattle.rust_grammar.specs.Expressions.{expressions}
use Rattle.rust_grammar.specs.Items.{items}
use Rattle.rust_grammar.specs.Meaning.{begins_below, look_of}
use Rattle.rust_grammar.specs.Notation.{any_of, is_longer, no_longer, longest, one_of, row}
use Rattle.rust_grammar.specs.Paths.{paths}
use Rattle.rust_grammar.specs.Patterns.{patterns}
use Rattle.rust_grammar.specs.Rule.{begins, in_mode, from_start, is_silent, passes, shift, there_at}
use Rattle.rust_grammar.specs.Statements.{statements}
use Rattle.rust_grammar.specs.Types.{types}
use Rattle.rust_grammar.specs.Rule.{Call}
use Rattle.rust_grammar.specs.Whole.{rule, whole}
use Rattle.rust_productions.specs.declared.condition.Condition.TheVariants.{On, Off}
use Rattle.grammar_reader.specs.Told.{listing_of}
use Rattle.grammar_reader.proofs.Ends.{left-within, over, over-at-end, some-within, statement-begins, within}
use Rattle.rust_productions.specs.Looks.{tokens}
use Rattle.rust_productions.proofs.ByHand.{after-look, reads-call, reads-mode, reads-node, reads-then, reads-unless}
use Rattle.rust_productions.proofs.Choices.{from_start-after, gives-from_start}
use Rattle.rust_productions.proofs.Facts.{saw-so}
use Rattle.rust_productions.proofs.Turns.{first-turn, idle-turn, last-turn, next-turn}
use Rattle.grammar_reader.proofs.grammar.+grammar.Goals as goal

pub expressions::blocks::statement_turn-returns-then-at_end_of-clause-ends : goal.expressions::blocks::statement_turn-returns-then-at_end_of-clause-ends
expressions::blocks::statement_turn-returns-then-at_end_of-clause-ends t c = λ e. last-turn Off _ (over-at-end c.args.end _) _ _ _ first-turn (over (Call (listing_of c.args.end).one) (saw-so (c.at_end_of.ensures.sees Off) c.if-at_end_of.true)) c.at_end_of.ensures.peeks.same

pub expressions::blocks::statement_turn-statement-requires : goal.expressions::blocks::statement_turn-statement-requires
expressions::blocks::statement_turn-statement-requires t c = (omega arith, omega (arith, some-within c.args.end (saw-so (c.at_end_of.ensures.sees Off) c.if-at_end_of.false), c.at_end_of.ensures.peeks.left))

pub expressions::blocks::statement_turn-returns-clause-goes : goal.expressions::blocks::statement_turn-returns-clause-goes
unfolding tokens
expressions::blocks::statement_turn-returns-clause-goes t c = λ e. record {
  turns = (let more = saw-so (c.at_end_of.ensures.sees Off) c.if-at_end_of.false in
      next-turn Off _ (over-at-end c.args.end _) _ _ _ first-turn (within (Call (listing_of c.args.end).one) more (statement-begins c.args.end (left-within c.args.end more)))
      (after-look Off c.at_end_of.ensures.peeks.same (reads-unless Off (reads-call Off c.statement.ensures.gives)))
      (omega (arith, (ltb-true c.tokens_left.result c.tokens_left-before.result e), c.tokens_left.ensures, c.tokens_left-before.ensures, c.at_end_of.ensures.peeks.left)));
  takes = record {
    left = omega (arith, (ltb-true c.tokens_left.result c.tokens_left-before.result e), c.tokens_left.ensures, c.tokens_left-before.ensures, c.at_end_of.ensures.peeks.left);
    looks = omega (arith, c.at_end_of.ensures.peeks.looks, c.statement.ensures.pays (omega (arith, (ltb-true c.tokens_left.result c.tokens_left-before.result e), c.tokens_left.ensures, c.tokens_left-before.ensures, c.at_end_of.ensures.peeks.left)));
  };
}

pub expressions::blocks::statement_turn-returns-clause-ends : goal.expressions::blocks::statement_turn-returns-clause-ends
unfolding tokens
expressions::blocks::statement_turn-returns-clause-ends t c = λ e.
    let more = saw-so (c.at_end_of.ensures.sees Off) c.if-at_end_of.false in
    idle-turn Off _ (over-at-end c.args.end _) _ _ _ first-turn (within (Call (listing_of c.args.end).one) more (statement-begins c.args.end (left-within c.args.end more)))
    (after-look Off c.at_end_of.ensures.peeks.same (reads-unless Off (reads-call Off c.statement.ensures.gives)))
    (omega (arith, (ltb-false c.tokens_left.result c.tokens_left-before.result e), c.tokens_left.ensures, c.tokens_left-before.ensures, c.at_end_of.ensures.peeks.left, c.statement.ensures.asks.left))

pub expressions::blocks::statements-turns-preserved : goal.expressions::blocks::statements-turns-preserved
expressions::blocks::statements-turns-preserved t c = record {
  innermost = λ n i. c.statement_turn.ensures.keeps.innermost n (c.turns.invariant.innermost n i);
  goes = record { rest = λ end p. c.turns.invariant.goes.rest end ((c.statement_turn.ensures.goes c.turns-test.true).turns.rest end p) };
  left = omega (arith, c.turns.invariant.left, c.statement_turn.ensures.asks.left);
  looks = omega (arith, c.turns.invariant.looks, (c.statement_turn.ensures.goes c.turns-test.true).takes.looks);
}

pub expressions::blocks::statements-returns-clause-reads : goal.expressions::blocks::statements-returns-clause-reads
expressions::blocks::statements-returns-clause-reads t c = c.turns.invariant.goes.rest _ (c.statement_turn.ensures.ends c.turns-test.false)

pub expressions::blocks::statement_list-complete-requires : goal.expressions::blocks::statement_list-complete-requires
expressions::blocks::statement_list-complete-requires t c = (c.expect.ensures.reads On).does.innermost _ (c.statements.ensures.reads.does.innermost _ ((c.take.ensures.reads On).does.innermost _ c.start-list.ensures.marker))

pub expressions::blocks::statement_list-returns-clause-gives : goal.expressions::blocks::statement_list-returns-clause-gives
unfolding look_of begins_below whole rule items statements expressions patterns types paths there_at shift passes is_silent begins in_mode from_start row one_of any_of no_longer longest is_longer
expressions::blocks::statement_list-returns-clause-gives t c = λ cond. gives-from_start (from_start-after refl (reads-node cond c.start-list.ensures.opens (reads-then cond (c.take.ensures.reads cond) (reads-then cond (reads-mode cond c.statements.ensures.reads) (c.expect.ensures.reads cond))) c.complete.ensures.closes))

pub expressions::blocks::block-complete-requires : goal.expressions::blocks::block-complete-requires
expressions::blocks::block-complete-requires t c = (c.statement_list.ensures.gives On).does.innermost _ c.start-block.ensures.marker

pub expressions::blocks::block-returns-clause-gives : goal.expressions::blocks::block-returns-clause-gives
unfolding look_of begins_below whole rule items statements expressions patterns types paths there_at shift passes is_silent begins in_mode from_start row one_of any_of no_longer longest is_longer
expressions::blocks::block-returns-clause-gives t c = λ cond. gives-from_start (from_start-after refl (reads-node cond c.start-block.ensures.opens (reads-call cond (c.statement_list.ensures.gives cond)) c.complete.ensures.closes))

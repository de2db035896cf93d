-- The end of an expression statement, path by path.
use Rattle.std.proofs.Common.{arith}
use Rattle.rust_grammar.specs.Expressions.{expressions}
use Rattle.rust_grammar.specs.Items.{items}
use Rattle.rust_grammar.specs.Meaning.{begins_below, look_of}
use Rattle.rust_grammar.specs.Notation.{any_of, is_longer, no_longer, longest, one_of, row}
use Rattle.rust_grammar.specs.Paths.{paths}
use Rattle.rust_grammar.specs.Patterns.{patterns}
use Rattle.rust_grammar.specs.Rule.{begins, in_mode, from_start, is_silent, passes, shift, there_at}
use Rattle.rust_grammar.specs.Statements.{statements}
use Rattle.rust_grammar.specs.Types.{types}
use Rattle.rust_grammar.specs.Whole.{rule, whole}
use Rattle.rust_productions.specs.declared.condition.Condition.TheVariants.{On}
use Rattle.rust_productions.proofs.ByHand.{after-look, reads-else, reads-nothing, reads-or, reads-when, reads-wrap}
use Rattle.rust_productions.proofs.Choices.{reads-here}
use Rattle.rust_productions.proofs.Facts.{nothing, saw-so, ◌and◌}
use Rattle.rust_productions.proofs.Seen.{saw-before}
use Rattle.grammar_reader.proofs.Ends.{reads-end}
use Rattle.grammar_reader.proofs.grammar.statements.statement_end.Goals as goal

pub wrap-requires : goal.wrap-requires
wrap-requires c = (c.take.ensures.reads On).does.innermost _ (c.at.ensures.peeks.same.innermost _ c.requires)

pub returns-then-at-clause-reads : goal.returns-then-at-clause-reads
unfolding look_of begins_below whole rule items statements expressions patterns types paths there_at shift passes is_silent begins in_mode from_start row one_of any_of no_longer longest is_longer
returns-then-at-clause-reads c = λ cond. reads-end c.args.end (reads-here (saw-so (c.at.ensures.sees cond) c.if-at.true and nothing) (after-look cond c.at.ensures.peeks.same (reads-wrap cond (c.take.ensures.reads cond) c.wrap.ensures.wraps)))

pub returns-then-at_end_of-clause-reads : goal.returns-then-at_end_of-clause-reads
unfolding look_of begins_below whole rule items statements expressions patterns types paths there_at shift passes is_silent begins in_mode from_start row one_of any_of no_longer longest is_longer
returns-then-at_end_of-clause-reads c = λ cond. reads-end c.args.end (reads-else cond (saw-so (c.at.ensures.sees cond) c.if-at.false) (after-look cond c.at.ensures.peeks.same (reads-or cond (saw-so (c.at_end_of.ensures.sees cond) c.if-at_end_of.true) (reads-when cond (reads-nothing cond c.at_end_of.ensures.peeks.same)))))

pub returns-then-at_end_of-clause-asks : goal.returns-then-at_end_of-clause-asks
returns-then-at_end_of-clause-asks c = record {
  left = omega arith;
  looks = omega arith;
  marker = c.at_end_of.ensures.peeks.same.innermost _ (c.at.ensures.peeks.same.innermost _ c.requires);
}

pub wrap-requires-2 : goal.wrap-requires-2
wrap-requires-2 c = (c.error.ensures.reads On).does.innermost _ (c.at_end_of.ensures.peeks.same.innermost _ (c.at.ensures.peeks.same.innermost _ c.requires))

pub returns-clause-reads : goal.returns-clause-reads
unfolding look_of begins_below whole rule items statements expressions patterns types paths there_at shift passes is_silent begins in_mode from_start row one_of any_of no_longer longest is_longer
returns-clause-reads c = λ cond. let none = saw-so (c.at.ensures.sees cond) c.if-at.false in reads-end c.args.end (reads-else cond none (reads-else cond (saw-before c.at.ensures.peeks.same (saw-so (c.at_end_of.ensures.sees cond) c.if-at_end_of.false)) (reads-here (none and nothing) (after-look cond c.at.ensures.peeks.same (after-look cond c.at_end_of.ensures.peeks.same (reads-wrap cond (c.error.ensures.reads cond) c.wrap-2.ensures.wraps))))))

-- Range patterns.
use Rattle.rust_grammar.specs.Expressions.{expressions}
use Rattle.rust_grammar.specs.Items.{items}
use Rattle.rust_grammar.specs.Meaning.{begins_below, look_of}
use Rattle.rust_grammar.specs.Notation.{any_of, is_longer, no_longer, longest, one_of, row}
use Rattle.rust_grammar.specs.Paths.{paths}
use Rattle.rust_grammar.specs.Patterns.{patterns}
use Rattle.rust_grammar.specs.Rule.{begins, in_mode, from_start, is_silent, passes, shift, there_at}
use Rattle.rust_grammar.specs.Statements.{statements}
use Rattle.rust_grammar.specs.Types.{types}
use Rattle.rust_grammar.specs.Whole.{rule, whole}
use Rattle.rust_productions.proofs.ByHand.{after-look, completes-leave, goes, reads-call, reads-more, reads-node, reads-nothing, reads-then, reads-wrap}
use Rattle.rust_productions.proofs.Choices.{from_start-completes, gives-from_start, reads-here, from_start-after}
use Rattle.std.proofs.Common.{arith, refl}
use Rattle.rust_productions.specs.Reads.{looks}
use Rattle.rust_productions.specs.declared.condition.Condition.TheVariants.{On}
use Rattle.rust_productions.proofs.Facts.{nothing, saw-so, ◌and◌}
use Rattle.rust_productions.proofs.Seen.{saw-after, saw-else, saw-inside, saw-right}
use Rattle.rust_grammar.specs.Rule as rules
use Rattle.grammar_reader.proofs.grammar.+grammar.Goals as goal

pub pattern_ranges::range_or_atom-returns-then-at_open_range-clause-reads : goal.pattern_ranges::range_or_atom-returns-then-at_open_range-clause-reads
unfolding look_of begins_below whole rule items statements expressions patterns types paths there_at shift passes is_silent begins in_mode from_start row one_of any_of no_longer longest is_longer
pattern_ranges::range_or_atom-returns-then-at_open_range-clause-reads t c = λ cond. reads-here (saw-so (c.at_open_range.ensures.sees cond) c.if-at_open_range.true and nothing) (after-look cond c.at_open_range.ensures.peeks.same (c.open_range.ensures.reads cond))

pub pattern_ranges::range_or_atom-returns-clause-reads : goal.pattern_ranges::range_or_atom-returns-clause-reads
unfolding look_of begins_below whole rule items statements expressions patterns types paths there_at shift passes is_silent begins in_mode from_start row one_of any_of no_longer longest is_longer
pattern_ranges::range_or_atom-returns-clause-reads t c = λ cond. reads-here (saw-so (c.at_open_range.ensures.sees cond) c.if-at_open_range.false and nothing) (after-look cond c.at_open_range.ensures.peeks.same (reads-then cond (reads-more cond (goes rules.pattern_atom cond (c.inside-frame.ensures.reads cond))) (c.opt_range.ensures.reads cond)))

pub pattern_ranges::range_or_atom-open_range-requires : goal.pattern_ranges::range_or_atom-open_range-requires
pattern_ranges::range_or_atom-open_range-requires t c = (omega arith, ((λ d. saw-after c.at_open_range.ensures.peeks.same (c.at_open_range.ensures.op c.if-at_open_range.true d)), omega (arith, c.at_open_range.ensures.some c.if-at_open_range.true, c.at_open_range.ensures.peeks.left)))

pub pattern_ranges::range_or_atom-inside-frame-requires : goal.pattern_ranges::range_or_atom-inside-frame-requires
unfolding look_of begins_below whole rule items statements expressions patterns types paths there_at shift passes is_silent begins in_mode from_start row one_of any_of no_longer longest is_longer
pattern_ranges::range_or_atom-inside-frame-requires t c = (omega arith, (record { sees = λ d. saw-after c.at_open_range.ensures.peeks.same (saw-else (looks rules.pattern_atom) (looks rules.single_pattern) (saw-so (c.at_open_range.ensures.sees d) c.if-at_open_range.false and nothing) (c.requires.begins.sees d) refl); some = omega (arith, c.requires.begins.some, c.at_open_range.ensures.peeks.left) }, c.at_open_range.ensures.peeks.same.innermost _ c.requires.innermost))

pub pattern_ranges::range_or_atom-opt_range-requires : goal.pattern_ranges::range_or_atom-opt_range-requires
pattern_ranges::range_or_atom-opt_range-requires t c = (omega arith, c.inside-frame.ensures.takes.marker)

pub pattern_ranges::range_or_atom-returns-then-at_open_range-clause-takes : goal.pattern_ranges::range_or_atom-returns-then-at_open_range-clause-takes
pattern_ranges::range_or_atom-returns-then-at_open_range-clause-takes t c = record {
  left = omega (arith, c.open_range.ensures.takes.left, c.at_open_range.ensures.peeks.left);
  looks = omega (arith, c.open_range.ensures.takes.looks, c.at_open_range.ensures.peeks.looks);
  marker = (c.open_range.ensures.reads On).does.innermost _ (c.at_open_range.ensures.peeks.same.innermost _ c.requires.innermost);
}

pub pattern_ranges::open_range-returns-clause-reads : goal.pattern_ranges::open_range-returns-clause-reads
pattern_ranges::open_range-returns-clause-reads t c = λ cond. reads-node cond c.start-node.ensures.opens (reads-then cond (c.take_two_dots.ensures.reads cond) (c.opt_range_end.ensures.reads cond)) c.complete.ensures.closes

pub pattern_ranges::open_range-complete-requires : goal.pattern_ranges::open_range-complete-requires
pattern_ranges::open_range-complete-requires t c = (c.opt_range_end.ensures.reads On).does.innermost _ ((c.take_two_dots.ensures.reads On).does.innermost _ (c.start-node.ensures.marker))

pub pattern_ranges::open_range-take_two_dots-requires : goal.pattern_ranges::open_range-take_two_dots-requires
pattern_ranges::open_range-take_two_dots-requires t c = record { begins = λ d. saw-inside c.start-node.ensures.opens (c.requires.begins d); some = omega (arith, c.requires.some, c.start-node.ensures.stays.left) }

pub pattern_ranges::opt_range_end-returns-then-at_range_end-clause-reads : goal.pattern_ranges::opt_range_end-returns-then-at_range_end-clause-reads
unfolding look_of begins_below whole rule items statements expressions patterns types paths there_at shift passes is_silent begins in_mode from_start row one_of any_of no_longer longest is_longer
pattern_ranges::opt_range_end-returns-then-at_range_end-clause-reads t c = λ cond. reads-here (saw-so (c.at_range_end.ensures.sees cond) c.if-at_range_end.true and nothing) (after-look cond c.at_range_end.ensures.peeks.same (reads-call cond (c.pattern_atom.ensures.gives cond)))

pub pattern_ranges::opt_range_end-returns-else-at_range_end-clause-reads : goal.pattern_ranges::opt_range_end-returns-else-at_range_end-clause-reads
unfolding look_of begins_below whole rule items statements expressions patterns types paths there_at shift passes is_silent begins in_mode from_start row one_of any_of no_longer longest is_longer
pattern_ranges::opt_range_end-returns-else-at_range_end-clause-reads t c = λ cond. reads-here (saw-so (c.at_range_end.ensures.sees cond) c.if-at_range_end.false and nothing) (reads-nothing cond c.at_range_end.ensures.peeks.same)

pub pattern_ranges::opt_range_end-pattern_atom-requires : goal.pattern_ranges::opt_range_end-pattern_atom-requires
pattern_ranges::opt_range_end-pattern_atom-requires t c = (omega arith, record { sees = λ d. saw-after c.at_range_end.ensures.peeks.same (c.at_range_end.ensures.atom c.if-at_range_end.true d); some = omega (arith, c.at_range_end.ensures.some c.if-at_range_end.true, c.at_range_end.ensures.peeks.left) })

pub pattern_ranges::pattern_atom-inside-frame-requires : goal.pattern_ranges::pattern_atom-inside-frame-requires
pattern_ranges::pattern_atom-inside-frame-requires t c = (omega arith, (record { sees = λ d. saw-inside c.start-frame.ensures.opens (c.requires.begins.sees d); some = omega (arith, c.requires.begins.some, c.start-frame.ensures.stays.left) }, c.start-frame.ensures.marker))

pub pattern_ranges::pattern_atom-returns-clause-gives : goal.pattern_ranges::pattern_atom-returns-clause-gives
pattern_ranges::pattern_atom-returns-clause-gives t c = λ cond. gives-from_start (from_start-completes c.start-frame.ensures.opens (completes-leave (c.inside-frame.ensures.reads cond) c.abandon.ensures.leaves))

pub pattern_ranges::opt_range-returns-then-at_range_op-clause-reads : goal.pattern_ranges::opt_range-returns-then-at_range_op-clause-reads
unfolding look_of begins_below whole rule items statements expressions patterns types paths there_at shift passes is_silent begins in_mode from_start row one_of any_of no_longer longest is_longer
pattern_ranges::opt_range-returns-then-at_range_op-clause-reads t c = λ cond. reads-here (saw-so (c.at_range_op.ensures.sees cond) c.if-at_range_op.true and nothing) (after-look cond c.at_range_op.ensures.peeks.same (reads-wrap cond (reads-then cond (c.take_range_op.ensures.reads cond) (c.opt_range_end.ensures.reads cond)) c.wrap.ensures.wraps))

pub pattern_ranges::opt_range-returns-clause-reads : goal.pattern_ranges::opt_range-returns-clause-reads
unfolding look_of begins_below whole rule items statements expressions patterns types paths there_at shift passes is_silent begins in_mode from_start row one_of any_of no_longer longest is_longer
pattern_ranges::opt_range-returns-clause-reads t c = λ cond. reads-here (saw-so (c.at_range_op.ensures.sees cond) c.if-at_range_op.false and nothing) (reads-nothing cond c.at_range_op.ensures.peeks.same)

pub pattern_ranges::opt_range-take_range_op-requires : goal.pattern_ranges::opt_range-take_range_op-requires
pattern_ranges::opt_range-take_range_op-requires t c = record { begins = λ d. saw-after c.at_range_op.ensures.peeks.same (saw-right (saw-so (c.at_range_op.ensures.sees d) c.if-at_range_op.true)); some = omega (arith, c.at_range_op.ensures.some c.if-at_range_op.true, c.at_range_op.ensures.peeks.left) }

pub pattern_ranges::opt_range-wrap-requires : goal.pattern_ranges::opt_range-wrap-requires
pattern_ranges::opt_range-wrap-requires t c = (c.opt_range_end.ensures.reads On).does.innermost _ ((c.take_range_op.ensures.reads On).does.innermost _ (c.at_range_op.ensures.peeks.same.innermost _ (c.requires.innermost)))

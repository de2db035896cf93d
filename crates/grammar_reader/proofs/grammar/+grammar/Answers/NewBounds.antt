-- Bounds that only the whole language has.
use Rattle.rust_grammar.specs.Expressions.{expressions}
use Rattle.rust_grammar.specs.Items.{items}
use Rattle.rust_grammar.specs.Meaning.{begins_below, look_of}
use Rattle.rust_grammar.specs.Notation.{any_of, is_longer, no_longer, longest, one_of, row}
use Rattle.rust_grammar.specs.Paths.{paths}
use Rattle.rust_grammar.specs.Patterns.{patterns}
use Rattle.rust_grammar.specs.Rule.{begins, in_mode, from_start, is_silent, passes, shift, there_at}
use Rattle.rust_grammar.specs.Statements.{statements}
use Rattle.rust_grammar.specs.Types.{types}
use Rattle.rust_grammar.specs.Whole.{rule, whole}
use Rattle.rust_productions.specs.declared.condition.Condition.TheVariants.{On}
use Rattle.rust_productions.proofs.ByHand.{after-look, reads-call, reads-else, reads-node, reads-nothing, reads-then}
use Rattle.rust_productions.proofs.Choices.{reads-here}
use Rattle.rust_productions.proofs.Facts.{nothing, saw-so, ◌and◌}
use Rattle.rust_productions.proofs.Seen.{saw-before}
use Rattle.grammar_reader.proofs.grammar.+grammar.Goals as goal

pub new_bounds::new_bound-complete-requires : goal.new_bounds::new_bound-complete-requires
new_bounds::new_bound-complete-requires t c = (c.maybe_in_parens.ensures.reads On).does.innermost _ (c.start-node.ensures.marker)

pub new_bounds::new_bound-returns-clause-reads : goal.new_bounds::new_bound-returns-clause-reads
new_bounds::new_bound-returns-clause-reads t c = λ cond. reads-node cond c.start-node.ensures.opens (c.maybe_in_parens.ensures.reads cond) c.complete.ensures.closes

pub new_bounds::maybe_in_parens-returns-then-at-clause-reads : goal.new_bounds::maybe_in_parens-returns-then-at-clause-reads
unfolding look_of begins_below whole rule items statements expressions patterns types paths there_at shift passes is_silent begins in_mode from_start row one_of any_of no_longer longest is_longer
new_bounds::maybe_in_parens-returns-then-at-clause-reads t c = λ cond. reads-here (saw-so (c.at.ensures.sees cond) c.if-at.true and nothing) (after-look cond c.at.ensures.peeks.same (c.in_parens.ensures.reads cond))

pub new_bounds::maybe_in_parens-returns-clause-reads : goal.new_bounds::maybe_in_parens-returns-clause-reads
unfolding look_of begins_below whole rule items statements expressions patterns types paths there_at shift passes is_silent begins in_mode from_start row one_of any_of no_longer longest is_longer
new_bounds::maybe_in_parens-returns-clause-reads t c = λ cond. reads-else cond (saw-so (c.at.ensures.sees cond) c.if-at.false) (after-look cond c.at.ensures.peeks.same (c.bound_inside.ensures.reads cond))

pub new_bounds::in_parens-returns-clause-reads : goal.new_bounds::in_parens-returns-clause-reads
new_bounds::in_parens-returns-clause-reads t c = λ cond. reads-then cond (c.take.ensures.reads cond) (reads-then cond (c.bound_inside.ensures.reads cond) (c.expect.ensures.reads cond))

pub new_bounds::bound_inside-returns-then-at-clause-reads : goal.new_bounds::bound_inside-returns-then-at-clause-reads
unfolding look_of begins_below whole rule items statements expressions patterns types paths there_at shift passes is_silent begins in_mode from_start row one_of any_of no_longer longest is_longer
new_bounds::bound_inside-returns-then-at-clause-reads t c = λ cond. reads-here (saw-so (c.at.ensures.sees cond) c.if-at.true and nothing) (after-look cond c.at.ensures.peeks.same (reads-call cond (c.lifetime.ensures.gives cond)))

pub new_bounds::bound_inside-returns-then-at_captures-clause-reads : goal.new_bounds::bound_inside-returns-then-at_captures-clause-reads
unfolding look_of begins_below whole rule items statements expressions patterns types paths there_at shift passes is_silent begins in_mode from_start row one_of any_of no_longer longest is_longer
new_bounds::bound_inside-returns-then-at_captures-clause-reads t c = λ cond. reads-here (saw-so (c.at.ensures.sees cond) c.if-at.false and saw-before c.at.ensures.peeks.same (saw-so (c.at_captures.ensures.sees cond) c.if-at_captures.true) and nothing) (after-look cond c.at.ensures.peeks.same (after-look cond c.at_captures.ensures.peeks.same (c.use_captures.ensures.reads cond)))

pub new_bounds::bound_inside-returns-clause-reads : goal.new_bounds::bound_inside-returns-clause-reads
unfolding look_of begins_below whole rule items statements expressions patterns types paths there_at shift passes is_silent begins in_mode from_start row one_of any_of no_longer longest is_longer
new_bounds::bound_inside-returns-clause-reads t c = λ cond. reads-here (saw-so (c.at.ensures.sees cond) c.if-at.false and saw-before c.at.ensures.peeks.same (saw-so (c.at_captures.ensures.sees cond) c.if-at_captures.false) and nothing) (after-look cond c.at.ensures.peeks.same (after-look cond c.at_captures.ensures.peeks.same (c.words_and_path.ensures.reads cond)))

pub new_bounds::use_captures-returns-clause-reads : goal.new_bounds::use_captures-returns-clause-reads
new_bounds::use_captures-returns-clause-reads t c = λ cond. reads-then cond (c.take.ensures.reads cond) (c.list.ensures.reads cond)

pub new_bounds::words_and_path-returns-clause-reads : goal.new_bounds::words_and_path-returns-clause-reads
new_bounds::words_and_path-returns-clause-reads t c = λ cond. reads-then cond (c.opt_binder.ensures.reads cond) (reads-then cond (c.opt_const_words.ensures.reads cond) (reads-then cond (c.eat.ensures.reads cond) (reads-then cond (c.eat-2.ensures.reads cond) (c.expect_part.ensures.reads cond))))

pub new_bounds::opt_binder-returns-then-at_binder-clause-reads : goal.new_bounds::opt_binder-returns-then-at_binder-clause-reads
unfolding look_of begins_below whole rule items statements expressions patterns types paths there_at shift passes is_silent begins in_mode from_start row one_of any_of no_longer longest is_longer
new_bounds::opt_binder-returns-then-at_binder-clause-reads t c = λ cond. reads-here (saw-so (c.at_binder.ensures.sees cond) c.if-at_binder.true and nothing) (after-look cond c.at_binder.ensures.peeks.same (c.for_binder.ensures.reads cond))

pub new_bounds::opt_binder-returns-else-at_binder-clause-reads : goal.new_bounds::opt_binder-returns-else-at_binder-clause-reads
unfolding look_of begins_below whole rule items statements expressions patterns types paths there_at shift passes is_silent begins in_mode from_start row one_of any_of no_longer longest is_longer
new_bounds::opt_binder-returns-else-at_binder-clause-reads t c = λ cond. reads-here (saw-so (c.at_binder.ensures.sees cond) c.if-at_binder.false and nothing) (reads-nothing cond c.at_binder.ensures.peeks.same)

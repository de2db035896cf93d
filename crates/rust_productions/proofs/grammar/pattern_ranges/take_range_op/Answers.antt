-- Each path reads what the rule comes to there.
use Rattle.std.proofs.Common.{true, arith}
-- Each path reads what the rule comes to there.
use Rattle.rust_grammar.specs.Expressions.{expressions}
use Rattle.rust_grammar.specs.Items.{items}
use Rattle.rust_grammar.specs.Meaning.{begins_below, look_of}
use Rattle.rust_grammar.specs.Notation.{any_of, is_longer, no_longer, longest, one_of, row}
use Rattle.rust_grammar.specs.Paths.{paths}
use Rattle.rust_grammar.specs.Patterns.{patterns}
use Rattle.rust_grammar.specs.Rule.{begins, in_mode, from_start, is_silent, passes, shift, there_at}
use Rattle.rust_grammar.specs.Statements.{statements}
use Rattle.rust_grammar.specs.Types.{types}
use Rattle.rust_grammar.specs.Whole.{rule, whole}
use Rattle.rust_grammar.specs.Rule as rules
use Rattle.rust_productions.proofs.ByHand.{after-look}
use Rattle.rust_productions.proofs.Choices.{reads-here}
use Rattle.rust_productions.proofs.Facts.{nothing, saw-so, ◌and◌}
use Rattle.rust_productions.proofs.Seen.{saw-after}
use Rattle.rust_productions.proofs.grammar.pattern_ranges.take_range_op.Goals as goal

pub returns-then-at_dots_dot-clause-reads : goal.returns-then-at_dots_dot-clause-reads
unfolding look_of begins_below whole rule items statements expressions patterns types paths there_at shift passes is_silent begins in_mode from_start row one_of any_of no_longer longest is_longer
returns-then-at_dots_dot-clause-reads c = λ cond. reads-here (saw-so (c.at_dots_dot.ensures.sees cond) c.if-at_dots_dot.true and nothing) (after-look cond c.at_dots_dot.ensures.peeks.same (c.take_three_dots.ensures.reads cond))

pub returns-clause-reads : goal.returns-clause-reads
unfolding look_of begins_below whole rule items statements expressions patterns types paths there_at shift passes is_silent begins in_mode from_start row one_of any_of no_longer longest is_longer
returns-clause-reads c = λ cond. reads-here (saw-so (c.at_dots_dot.ensures.sees cond) c.if-at_dots_dot.false and nothing) (after-look cond c.at_dots_dot.ensures.peeks.same (c.take_two_dots.ensures.reads cond))

pub take_two_dots-requires : goal.take_two_dots-requires
take_two_dots-requires c = record { begins = λ d. saw-after c.at_dots_dot.ensures.peeks.same (c.requires.begins d); some = omega (arith, c.requires.some, c.at_dots_dot.ensures.peeks.left) }

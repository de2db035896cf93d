-- Each path reads what the rule comes to there.
use Rattle.rust_grammar.specs.Expressions.{expressions}
use Rattle.rust_grammar.specs.Items.{items}
use Rattle.rust_grammar.specs.Meaning.{begins_below, look_of}
use Rattle.rust_grammar.specs.Notation.{any_of, is_longer, no_longer, longest, one_of, row}
use Rattle.rust_grammar.specs.Paths.{paths}
use Rattle.rust_grammar.specs.Patterns.{patterns}
use Rattle.rust_grammar.specs.Rule.{begins, in_mode, from_start, is_silent, passes, shift, there_at}
use Rattle.rust_grammar.specs.Statements.{statements}
use Rattle.rust_grammar.specs.Types.{types}
use Rattle.rust_grammar.specs.Whole.{rule, whole}
use Rattle.rust_productions.proofs.ByHand.{after-look}
use Rattle.rust_productions.proofs.Choices.{reads-here}
use Rattle.rust_productions.proofs.Facts.{nothing, saw-so, ◌and◌}
use Rattle.rust_productions.proofs.grammar.match_arms.expect_arrow.Goals as goal

pub returns-then-at_pair-clause-reads : goal.returns-then-at_pair-clause-reads
unfolding look_of begins_below whole rule items statements expressions patterns types paths there_at shift passes is_silent begins in_mode from_start row one_of any_of no_longer longest is_longer
returns-then-at_pair-clause-reads c cond = reads-here (saw-so (c.at_pair.ensures.sees cond) c.if-at_pair.true and nothing) (after-look cond c.at_pair.ensures.peeks.same (c.take_pair.ensures.reads cond _ _))

pub returns-clause-reads : goal.returns-clause-reads
unfolding look_of begins_below whole rule items statements expressions patterns types paths there_at shift passes is_silent begins in_mode from_start row one_of any_of no_longer longest is_longer
returns-clause-reads c cond = reads-here (saw-so (c.at_pair.ensures.sees cond) c.if-at_pair.false and nothing) (after-look cond c.at_pair.ensures.peeks.same (c.error.ensures.reads cond))

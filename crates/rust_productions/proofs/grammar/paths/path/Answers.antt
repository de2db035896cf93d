-- Each path reads what the rule comes to there.
use Rattle.rust_grammar.specs.Expressions.{expressions}
use Rattle.rust_grammar.specs.Items.{items}
use Rattle.rust_grammar.specs.Meaning.{begins_below, look_of}
use Rattle.rust_grammar.specs.Notation.{any_of, is_longer, no_longer, longest, one_of, row}
use Rattle.rust_grammar.specs.Paths.{paths}
use Rattle.rust_grammar.specs.Patterns.{patterns}
use Rattle.rust_grammar.specs.Rule.{begins, in_mode, from_start, is_silent, passes, shift, there_at}
use Rattle.rust_grammar.specs.Statements.{statements}
use Rattle.rust_grammar.specs.Types.{types}
use Rattle.rust_grammar.specs.Whole.{rule, whole}
use Rattle.rust_productions.specs.Reads.{On}
use Rattle.rust_productions.proofs.ByHand.{completes-leave, completes-then}
use Rattle.rust_productions.proofs.Choices.{from_start-completes, gives-from_start}
use Rattle.rust_productions.proofs.Seen.{saw-inside, saw-left-out}
use Rattle.rust_productions.proofs.grammar.paths.path.Goals as goal

pub first_segment-requires-clause-begins : goal.first_segment-requires-clause-begins
first_segment-requires-clause-begins c cond = saw-inside c.start-frame.ensures.opens (c.requires.begins.sees cond)

pub next_segments-frame-requires : goal.next_segments-frame-requires
next_segments-frame-requires c = (c.first_segment.ensures.reads On).does.innermost _ (c.start-frame.ensures.marker)

pub abandon-requires : goal.abandon-requires
abandon-requires c = c.next_segments-frame.ensures.asks.marker

pub returns-clause-gives : goal.returns-clause-gives
unfolding look_of begins_below whole rule items statements expressions patterns types paths there_at shift passes is_silent begins in_mode from_start row one_of any_of no_longer longest is_longer
returns-clause-gives c cond = gives-from_start (from_start-completes c.start-frame.ensures.opens (completes-then ((c.first_segment.ensures.reads cond)) (completes-leave ((c.next_segments-frame.ensures.reads cond)) c.abandon.ensures.leaves)))

pub returns-clause-ends : goal.returns-clause-ends
unfolding look_of begins_below whole rule items statements expressions patterns types paths there_at shift passes is_silent begins in_mode from_start row one_of any_of no_longer longest is_longer
returns-clause-ends c cond = saw-left-out c.abandon.ensures.leaves (c.next_segments-frame.ensures.ends cond)

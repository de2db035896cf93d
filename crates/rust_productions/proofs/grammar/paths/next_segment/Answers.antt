-- Each path reads what the rule comes to there.
use Rattle.rust_grammar.specs.Expressions.{expressions}
use Rattle.rust_grammar.specs.Items.{items}
use Rattle.rust_grammar.specs.Meaning.{begins_below, look_of}
use Rattle.rust_grammar.specs.Notation.{any_of, is_longer, no_longer, longest, one_of, row}
use Rattle.rust_grammar.specs.Paths.{paths}
use Rattle.rust_grammar.specs.Patterns.{patterns}
use Rattle.rust_grammar.specs.Rule.{begins, in_mode, from_start, is_silent, passes, shift, there_at}
use Rattle.rust_grammar.specs.Statements.{statements}
use Rattle.rust_grammar.specs.Types.{types}
use Rattle.rust_grammar.specs.Whole.{rule, whole}
use Rattle.rust_productions.specs.Reads.{On}
use Rattle.rust_productions.proofs.ByHand.{reads-then, reads-wrap}
use Rattle.rust_productions.proofs.grammar.paths.next_segment.Goals as goal

pub wrap-requires : goal.wrap-requires
wrap-requires c = (c.expect_segment.ensures.reads On).does.innermost _ ((c.take_pair.ensures.reads On 0 0).does.innermost _ (c.requires.innermost))

pub returns-clause-reads : goal.returns-clause-reads
unfolding look_of begins_below whole rule items statements expressions patterns types paths there_at shift passes is_silent begins in_mode from_start row one_of any_of no_longer longest is_longer
returns-clause-reads c cond = reads-wrap cond (reads-then cond ((c.take_pair.ensures.reads cond _ _)) ((c.expect_segment.ensures.reads cond))) c.wrap.ensures.wraps

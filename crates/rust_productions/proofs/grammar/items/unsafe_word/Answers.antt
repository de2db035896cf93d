-- Each path reads what the rule comes to there.
use Rattle.std.proofs.Common.{arith}
use Rattle.rust_grammar.specs.Expressions.{expressions}
use Rattle.rust_grammar.specs.Items.{items}
use Rattle.rust_grammar.specs.Meaning.{begins_below, look_of}
use Rattle.rust_grammar.specs.Notation.{any_of, is_longer, no_longer, longest, one_of, row}
use Rattle.rust_grammar.specs.Paths.{paths}
use Rattle.rust_grammar.specs.Patterns.{patterns}
use Rattle.rust_grammar.specs.Rule.{begins, in_mode, from_start, is_silent, passes, shift, there_at}
use Rattle.rust_grammar.specs.Statements.{statements}
use Rattle.rust_grammar.specs.Types.{types}
use Rattle.rust_grammar.specs.Whole.{rule, whole}
use Rattle.rust_productions.specs.Reads.{On}
use Rattle.rust_productions.proofs.ByHand.{after-look, reads-then}
use Rattle.rust_productions.proofs.Facts.{saw-so}
use Rattle.rust_productions.proofs.ByHand.{reads-none, reads-opt}
use Rattle.rust_productions.proofs.Words.{saw-first, saw-other, saw-second, two-left}
use Rattle.rust_productions.proofs.grammar.items.unsafe_word.Goals as goal

pub returns-then-at-clause-reads : goal.returns-then-at-clause-reads
unfolding look_of begins_below whole rule items statements expressions patterns types paths there_at shift passes is_silent begins in_mode from_start row one_of any_of no_longer longest is_longer
returns-then-at-clause-reads c cond = reads-then cond (reads-none cond (saw-other c.requires.word.other (saw-so (c.at.ensures.sees cond) c.if-at.true)) c.at.ensures.peeks.same) (c.take.ensures.reads cond)

pub take-requires-3 : goal.take-requires-3
unfolding look_of begins_below whole rule items statements expressions patterns types paths there_at shift passes is_silent begins in_mode from_start row one_of any_of no_longer longest is_longer
take-requires-3 c = let word = saw-second (saw-so (c.at.ensures.sees On) c.if-at.false) (c.requires.begins.sees On) in omega (arith, c.at.ensures.peeks.left, c.take-2.ensures.left, two-left c.requires.word.inside word)

pub returns-clause-reads : goal.returns-clause-reads
unfolding look_of begins_below whole rule items statements expressions patterns types paths there_at shift passes is_silent begins in_mode from_start row one_of any_of no_longer longest is_longer
returns-clause-reads c cond = reads-then cond (reads-opt cond (saw-first (saw-so (c.at.ensures.sees cond) c.if-at.false) (c.requires.begins.sees cond)) (after-look cond c.at.ensures.peeks.same (c.take-2.ensures.reads cond))) (c.take-3.ensures.reads cond)

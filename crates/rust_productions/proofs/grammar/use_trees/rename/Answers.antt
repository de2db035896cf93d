-- Each path reads what the rule comes to there.
use Rattle.rust_grammar.specs.Expressions.{expressions}
use Rattle.rust_grammar.specs.Items.{items}
use Rattle.rust_grammar.specs.Meaning.{begins_below, look_of}
use Rattle.rust_grammar.specs.Notation.{any_of, is_longer, no_longer, longest, one_of, row}
use Rattle.rust_grammar.specs.Paths.{paths}
use Rattle.rust_grammar.specs.Patterns.{patterns}
use Rattle.rust_grammar.specs.Rule.{begins, in_mode, from_start, is_silent, passes, shift, there_at}
use Rattle.rust_grammar.specs.Statements.{statements}
use Rattle.rust_grammar.specs.Types.{types}
use Rattle.rust_grammar.specs.Whole.{rule, whole}
use Rattle.rust_productions.specs.Reads.{On}
use Rattle.rust_productions.proofs.ByHand.{reads-node, reads-then}
use Rattle.rust_productions.proofs.grammar.use_trees.rename.Goals as goal

pub complete-requires : goal.complete-requires
complete-requires c = (c.underscore_or_name.ensures.reads On).does.innermost _ ((c.take.ensures.reads On).does.innermost _ (c.start-rename.ensures.marker))

pub returns-clause-reads : goal.returns-clause-reads
unfolding look_of begins_below whole rule items statements expressions patterns types paths there_at shift passes is_silent begins in_mode from_start row one_of any_of no_longer longest is_longer
returns-clause-reads c cond = reads-node cond c.start-rename.ensures.opens (reads-then cond ((c.take.ensures.reads cond)) ((c.underscore_or_name.ensures.reads cond))) c.complete.ensures.closes

-- Each path reads what the rule comes to there.
use Rattle.rust_grammar.specs.Expressions.{expressions}
use Rattle.rust_grammar.specs.Items.{items}
use Rattle.rust_grammar.specs.Meaning.{begins_below, look_of}
use Rattle.rust_grammar.specs.Notation.{any_of, is_longer, no_longer, longest, one_of, row}
use Rattle.rust_grammar.specs.Paths.{paths}
use Rattle.rust_grammar.specs.Patterns.{patterns}
use Rattle.rust_grammar.specs.Rule.{begins, in_mode, from_start, is_silent, passes, shift, there_at}
use Rattle.rust_grammar.specs.Statements.{statements}
use Rattle.rust_grammar.specs.Types.{types}
use Rattle.rust_grammar.specs.Whole.{rule, whole}
use Rattle.rust_grammar.specs.Rule as rules
use Rattle.rust_productions.specs.Reads.{On}
use Rattle.rust_productions.proofs.ByHand.{after-look, does-nothing, reads-call, reads-node, reads-nothing, reads-then}
use Rattle.rust_productions.proofs.Choices.{reads-here}
use Rattle.rust_productions.proofs.Facts.{begun, nothing, saw-so}
use Rattle.rust_productions.proofs.grammar.paths.expect_segment.Goals as goal

pub complete-requires : goal.complete-requires
complete-requires c = (c.name_ref.ensures.gives On).does.innermost _ (c.start-segment.ensures.marker)

pub returns-then-at_name_ref-clause-reads : goal.returns-then-at_name_ref-clause-reads
unfolding look_of begins_below whole rule items statements expressions patterns types paths there_at shift passes is_silent begins in_mode from_start row one_of any_of no_longer longest is_longer
returns-then-at_name_ref-clause-reads c cond = reads-here (begun rules.name_ref (saw-so (c.at_name_ref.ensures.sees cond) c.if-at_name_ref.true) (nothing)) (after-look cond c.at_name_ref.ensures.peeks.same (reads-node cond c.start-segment.ensures.opens (reads-then cond (reads-call cond (c.name_ref.ensures.gives cond)) (reads-nothing cond (does-nothing _))) c.complete.ensures.closes))

pub returns-clause-reads : goal.returns-clause-reads
unfolding look_of begins_below whole rule items statements expressions patterns types paths there_at shift passes is_silent begins in_mode from_start row one_of any_of no_longer longest is_longer
returns-clause-reads c cond = reads-here (begun rules.name_ref (saw-so (c.at_name_ref.ensures.sees cond) c.if-at_name_ref.false) (nothing)) (after-look cond c.at_name_ref.ensures.peeks.same ((c.error.ensures.reads cond)))

-- Each path reads what the rule comes to there.
use Rattle.rust_grammar.specs.Expressions.{expressions}
use Rattle.rust_grammar.specs.Items.{items}
use Rattle.rust_grammar.specs.Meaning.{begins_below, look_of}
use Rattle.rust_grammar.specs.Notation.{any_of, is_longer, no_longer, longest, one_of, row}
use Rattle.rust_grammar.specs.Paths.{paths}
use Rattle.rust_grammar.specs.Patterns.{patterns}
use Rattle.rust_grammar.specs.Rule.{begins, in_mode, from_start, is_silent, passes, shift, there_at}
use Rattle.rust_grammar.specs.Statements.{statements}
use Rattle.rust_grammar.specs.Types.{types}
use Rattle.rust_grammar.specs.Whole.{rule, whole}
use Rattle.rust_grammar.specs.Rule as rules
use Rattle.rust_productions.specs.Reads.{On}
use Rattle.rust_productions.proofs.ByHand.{does-nothing, reads-node, reads-nothing, reads-then}
use Rattle.rust_productions.proofs.Choices.{reads-here}
use Rattle.rust_productions.proofs.Facts.{begun, nothing, ◌and◌}
use Rattle.rust_productions.proofs.NoPath.{no-colons, no-ref, saw-said, saw-shut}
use Rattle.rust_productions.proofs.Seen.{saw-inside}
use Rattle.rust_productions.proofs.grammar.const_args.missing_segment.Goals as goal

pub complete-requires : goal.complete-requires
complete-requires c = (c.error.ensures.reads On).does.innermost _ c.start-segment.ensures.marker

pub complete-requires-2 : goal.complete-requires-2
complete-requires-2 c = c.complete.ensures.closes.innermost _ ((c.error.ensures.reads On).does.innermost _ (c.start-segment.ensures.opens.innermost _ c.start-path.ensures.marker))

pub returns-clause-reads : goal.returns-clause-reads
unfolding look_of begins_below whole rule items statements expressions patterns types paths there_at shift passes is_silent begins in_mode from_start row one_of any_of no_longer longest is_longer
returns-clause-reads c cond = reads-node cond c.start-path.ensures.opens (reads-node cond c.start-segment.ensures.opens (reads-here (saw-inside c.start-segment.ensures.opens (saw-inside c.start-path.ensures.opens (no-colons (c.requires.none cond))) and begun rules.name_ref (saw-inside c.start-segment.ensures.opens (saw-inside c.start-path.ensures.opens (no-ref (c.requires.none cond)))) nothing) (reads-then cond (c.error.ensures.reads cond) (reads-here (saw-said (c.error.ensures.reads cond) (saw-inside c.start-segment.ensures.opens (saw-inside c.start-path.ensures.opens (no-colons (c.requires.none cond)))) and nothing) (reads-nothing cond (does-nothing _))))) c.complete.ensures.closes) c.complete-2.ensures.closes

pub returns-clause-ends : goal.returns-clause-ends
returns-clause-ends c cond = saw-shut c.complete-2.ensures.closes (saw-shut c.complete.ensures.closes (saw-said (c.error.ensures.reads cond) (saw-inside c.start-segment.ensures.opens (saw-inside c.start-path.ensures.opens (c.requires.none cond)))))

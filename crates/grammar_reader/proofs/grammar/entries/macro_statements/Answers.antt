-- The node holds what the row says.
use Rattle.std.proofs.Common.{refl}
use Rattle.rust_grammar.specs.Items.{items}
use Rattle.rust_grammar.specs.Statements.{statements}
use Rattle.rust_grammar.specs.Whole.{rule, whole}
use Rattle.rust_productions.specs.declared.condition.Condition.TheVariants.{Off}
use Rattle.rust_productions.proofs.ByHand.{reads-node}
use Rattle.rust_productions.proofs.Choices.{from_start-after, gives-from_start}
use Rattle.grammar_reader.proofs.grammar.entries.macro_statements.Goals as goal

pub complete-requires : goal.complete-requires
complete-requires c = c.statements.ensures.reads.does.innermost _ c.start-list.ensures.marker

pub returns-clause-gives : goal.returns-clause-gives
unfolding whole rule items statements
returns-clause-gives c = gives-from_start (from_start-after refl (reads-node Off c.start-list.ensures.opens c.statements.ensures.reads c.complete.ensures.closes))

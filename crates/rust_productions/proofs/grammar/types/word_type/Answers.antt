-- A token in a node.
use Rattle.rust_productions.specs.declared.condition.Condition.TheVariants.{On}
use Rattle.rust_productions.proofs.ByHand.{reads-node}
use Rattle.rust_productions.proofs.grammar.types.word_type.Goals as goal

pub complete-requires : goal.complete-requires
complete-requires c = (c.take.ensures.reads On).does.innermost _ c.start-node.ensures.marker

pub returns-clause-reads : goal.returns-clause-reads
returns-clause-reads c cond = reads-node cond c.start-node.ensures.opens (c.take.ensures.reads cond) c.complete.ensures.closes

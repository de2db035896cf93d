-- What is read in a node.
use Rattle.rust_productions.specs.declared.condition.Condition.TheVariants.{On}
use Rattle.rust_productions.proofs.ByHand.{reads-call, reads-node}
use Rattle.rust_productions.proofs.grammar.patterns.literal_pat.Goals as goal

pub complete-requires : goal.complete-requires
complete-requires c = ((c.literal.ensures.gives On).does.innermost _ c.start-node.ensures.marker)

pub returns-clause-reads : goal.returns-clause-reads
returns-clause-reads c cond = reads-node cond c.start-node.ensures.opens (reads-call cond (c.literal.ensures.gives cond)) c.complete.ensures.closes

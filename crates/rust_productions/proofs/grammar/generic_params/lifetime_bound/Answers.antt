-- What is read in a node.
use Rattle.rust_productions.specs.declared.condition.Condition.TheVariants.{On}
use Rattle.rust_productions.proofs.ByHand.{reads-call, reads-node}
use Rattle.rust_productions.proofs.grammar.generic_params.lifetime_bound.Goals as goal

pub complete-requires : goal.complete-requires
complete-requires c = (c.lifetime.ensures.gives On).does.innermost _ c.start-bound.ensures.marker

pub returns-clause-reads : goal.returns-clause-reads
returns-clause-reads c cond = reads-node cond c.start-bound.ensures.opens (reads-call cond (c.lifetime.ensures.gives cond)) c.complete.ensures.closes

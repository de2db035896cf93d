-- What is read in a node.
use Rattle.rust_productions.specs.declared.condition.Condition.TheVariants.{On}
use Rattle.rust_productions.proofs.ByHand.{reads-node}
use Rattle.rust_productions.proofs.grammar.patterns.rest_pat.Goals as goal

pub complete-requires : goal.complete-requires
complete-requires c = ((c.take_pair.ensures.reads On 0 0).does.innermost _ c.start-node.ensures.marker)

pub returns-clause-reads : goal.returns-clause-reads
returns-clause-reads c cond = reads-node cond c.start-node.ensures.opens (c.take_pair.ensures.reads cond _ _) c.complete.ensures.closes

-- What is read in a node.
use Rattle.rust_productions.specs.declared.condition.Condition.TheVariants.{On}
use Rattle.rust_productions.proofs.ByHand.{reads-node}
use Rattle.rust_productions.proofs.grammar.params.expect_self.Goals as goal

pub complete-requires : goal.complete-requires
complete-requires c = (c.expect.ensures.reads On).does.innermost _ c.start-name.ensures.marker

pub returns-clause-reads : goal.returns-clause-reads
returns-clause-reads c cond = reads-node cond c.start-name.ensures.opens (c.expect.ensures.reads cond) c.complete.ensures.closes

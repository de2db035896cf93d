-- A message and a leaf in an error are an error leaf.
use Rattle.rust_productions.specs.Reads.{On}
use Rattle.rust_productions.proofs.ByHand.{reads-error, reads-then}
use Rattle.rust_productions.proofs.parser.Parser.skip.Goals as goal

pub complete-requires : goal.complete-requires
complete-requires c = (c.take_any.ensures.reads On).does.innermost _ ((c.error.ensures.reads On).does.innermost _ c.start-node.ensures.marker)

pub returns-clause-reads : goal.returns-clause-reads
returns-clause-reads c cond = reads-error cond c.start-node.ensures.opens (reads-then cond (c.error.ensures.reads cond) (c.take_any.ensures.reads cond)) c.complete.ensures.closes

-- Each path reads what the rule comes to there.
use Rattle.rust_productions.specs.Reads.{On}
use Rattle.rust_productions.proofs.ByHand.{reads-call, reads-node, reads-then}
use Rattle.rust_productions.proofs.grammar.const_args.negated_literal.Goals as goal

pub complete-requires : goal.complete-requires
complete-requires c = (c.literal.ensures.gives On).does.innermost _ ((c.take.ensures.reads On).does.innermost _ c.start-node.ensures.marker)

pub returns-clause-reads : goal.returns-clause-reads
returns-clause-reads c cond = reads-node cond c.start-node.ensures.opens (reads-then cond (c.take.ensures.reads cond) (reads-call cond (c.literal.ensures.gives cond))) c.complete.ensures.closes

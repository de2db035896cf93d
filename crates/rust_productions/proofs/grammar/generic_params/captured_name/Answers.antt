-- Each path reads what the rule comes to there.
use Rattle.rust_productions.specs.Reads.{On}
use Rattle.rust_productions.proofs.ByHand.{reads-node}
use Rattle.rust_productions.proofs.grammar.generic_params.captured_name.Goals as goal

pub complete-requires : goal.complete-requires
complete-requires c = (c.captured_word.ensures.reads On).does.innermost _ (c.start-name.ensures.marker)

pub returns-clause-reads : goal.returns-clause-reads
returns-clause-reads c cond = reads-node cond c.start-name.ensures.opens (c.captured_word.ensures.reads cond) c.complete.ensures.closes

-- Each path reads what the rule comes to there.
use Rattle.rust_grammar.specs.Whole.{rule}
use Rattle.rust_productions.specs.Reads.{On}
use Rattle.rust_productions.proofs.ByHand.{reads-call, reads-node, reads-then}
use Rattle.rust_productions.proofs.grammar.expression_words.label.Goals as goal

pub returns-clause-reads : goal.returns-clause-reads
returns-clause-reads c = λ cond. reads-node cond c.start-label.ensures.opens (reads-then cond (reads-call cond (c.lifetime.ensures.gives cond)) (c.expect.ensures.reads cond)) c.complete.ensures.closes

pub complete-requires : goal.complete-requires
complete-requires c = (c.expect.ensures.reads On).does.innermost _ ((c.lifetime.ensures.gives On).does.innermost _ (c.start-label.ensures.marker))

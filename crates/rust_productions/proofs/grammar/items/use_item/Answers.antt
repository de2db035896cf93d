-- Each path reads what the rule comes to there.
use Rattle.rust_productions.specs.Reads.{On}
use Rattle.rust_productions.proofs.ByHand.{completes-wrap, reads-then}
use Rattle.rust_productions.proofs.grammar.items.use_item.Goals as goal

pub complete-requires : goal.complete-requires
complete-requires c = (c.expect.ensures.reads On).does.innermost _ ((c.expect_use_tree.ensures.reads On).does.innermost _ ((c.take.ensures.reads On).does.innermost _ c.requires.innermost))

pub returns-clause-completes : goal.returns-clause-completes
returns-clause-completes c = λ cond. completes-wrap (reads-then cond (c.take.ensures.reads cond) (reads-then cond (c.expect_use_tree.ensures.reads cond) (c.expect.ensures.reads cond))) c.complete.ensures.closes

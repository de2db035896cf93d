-- What is read in turn.
use Rattle.rust_productions.proofs.ByHand.{reads-then}
use Rattle.rust_productions.proofs.grammar.expression_words.macro_call.Goals as goal

pub returns-clause-reads : goal.returns-clause-reads
returns-clause-reads c = λ cond. reads-then cond (c.take.ensures.reads cond) (c.expect_token_tree.ensures.reads cond)

-- Each path reads what the rule comes to there.
use Rattle.rust_grammar.specs.Whole.{rule}
use Rattle.rust_productions.proofs.ByHand.{reads-then}
use Rattle.rust_productions.proofs.grammar.expression_words.words_from_gen.Goals as goal

pub returns-clause-reads : goal.returns-clause-reads
returns-clause-reads c = λ cond. reads-then cond (c.take.ensures.reads cond) (c.eat.ensures.reads cond)

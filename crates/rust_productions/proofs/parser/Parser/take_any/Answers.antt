-- The leaf is of the next token's kind.
use Rattle.rust_productions.proofs.ByHand.{reads-any}
use Rattle.rust_productions.proofs.Looking.{kind-of-next}
use Rattle.rust_productions.proofs.parser.Parser.take_any.Goals as goal

pub returns-clause-reads : goal.returns-clause-reads
returns-clause-reads c cond = reads-any cond (kind-of-next c.current-kind.result c.current-kind.ensures.sees) c.current-kind.ensures.peeks.same (c.take.ensures.reads cond)

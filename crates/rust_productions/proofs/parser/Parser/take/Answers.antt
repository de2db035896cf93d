-- A leaf over the next token.
use Rattle.std.proofs.Common.{arith}
use Rattle.rust_productions.proofs.ByHand.{reads-leaf}
use Rattle.rust_productions.proofs.Looking.{enough-left, fewer-tokens, paid-looks}
use Rattle.rust_productions.proofs.Moves.{does-token}
use Rattle.rust_productions.proofs.parser.Parser.take.Goals as goal

pub token-requires-clause-left : goal.token-requires-clause-left
token-requires-clause-left c = enough-left 1 c.args.self.now c.requires (omega arith)

pub returns-clause-reads : goal.returns-clause-reads
returns-clause-reads c cond = reads-leaf cond (does-token _ 1 _ _ c.token.ensures.nodes c.token.ensures.same)

pub returns-clause-left : goal.returns-clause-left
returns-clause-left c = fewer-tokens 1 _ _ c.token.ensures.same c.requires

pub returns-clause-looks : goal.returns-clause-looks
returns-clause-looks c = paid-looks 1 _ _ c.token.ensures.same c.requires

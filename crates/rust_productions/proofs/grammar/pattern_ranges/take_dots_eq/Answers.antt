-- A leaf over the next three tokens.
use Rattle.std.proofs.Common.{arith}
use Rattle.rust_productions.proofs.ByHand.{reads-leaf}
use Rattle.rust_productions.proofs.Looking.{enough-left, fewer-tokens, paid-looks}
use Rattle.rust_productions.proofs.Moves.{does-token}
use Rattle.rust_productions.proofs.grammar.pattern_ranges.take_dots_eq.Goals as goal

pub token-requires-clause-left : goal.token-requires-clause-left
token-requires-clause-left c = enough-left 3 c.args.p.now c.requires (omega arith)

pub returns-clause-reads : goal.returns-clause-reads
returns-clause-reads c cond = reads-leaf cond (does-token _ 3 _ _ c.token.ensures.nodes c.token.ensures.same)

pub returns-clause-takes : goal.returns-clause-takes
returns-clause-takes c = record {
  left = omega (arith, fewer-tokens 3 _ _ c.token.ensures.same c.requires);
  looks = omega (arith, paid-looks 3 _ _ c.token.ensures.same c.requires);
}

-- A leaf over the next tokens.
use Rattle.std.proofs.Common.{sym, arith}
use Rattle.rust_productions.proofs.ByHand.{does-as}
use Rattle.rust_productions.proofs.Looking.{enough-left, fewer-tokens, paid-looks}
use Rattle.rust_productions.proofs.Moves.{does-token}
use Rattle.rust_productions.proofs.grammar.operators.take_operator.Goals as goal

pub token-requires-clause-left : goal.token-requires-clause-left
token-requires-clause-left c = enough-left c.args.operator.width c.args.p.now (c.requires.next.some c.requires.is).1 (c.requires.next.some c.requires.is).0

pub returns-clause-reads : goal.returns-clause-reads
returns-clause-reads c = λ d. record { does = does-as (λ s e. sym (c.requires.next.reads d s c.requires.is e)) (does-token _ c.args.operator.width _ _ c.token.ensures.nodes c.token.ensures.same) }

pub returns-clause-takes : goal.returns-clause-takes
returns-clause-takes c = record {
  left = omega (arith, (c.requires.next.some c.requires.is).0, fewer-tokens c.args.operator.width _ _ c.token.ensures.same (c.requires.next.some c.requires.is).1);
  looks = omega (arith, (c.requires.next.some c.requires.is).0, paid-looks c.args.operator.width _ _ c.token.ensures.same (c.requires.next.some c.requires.is).1);
}

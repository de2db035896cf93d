-- A leaf over the next tokens.
use Rattle.std.proofs.Common.{◌≤◌, sym, subst, arith}
use Rattle.rust_grammar.specs.Rule.{One}
use Rattle.rust_productions.specs.Operators.{spelling_of}
use Rattle.rust_productions.specs.Looks.{tokens}
use Rattle.rust_productions.specs.Reads.{Reads}
use Rattle.rust_productions.proofs.ByHand.{reads-leaf}
use Rattle.rust_productions.proofs.Looking.{enough-left, fewer-tokens, paid-looks}
use Rattle.rust_productions.proofs.Moves.{does-token}
use Rattle.std.proofs.Common.{length}
use Rattle.rust_productions.specs.declared.grammar.operators.RangeMark.{RangeMark}
use Rattle.rust_productions.proofs.grammar.operators.take_mark.Goals as goal

pub token-requires-clause-left : goal.token-requires-clause-left
token-requires-clause-left c = enough-left 2 c.args.p.now (subst (λ (m : RangeMark). length (spelling_of m).parts ≤ tokens c.args.p.now) c.in-Exclusive.is c.requires.some) (omega arith)

pub returns-in-Exclusive-clause-reads : goal.returns-in-Exclusive-clause-reads
returns-in-Exclusive-clause-reads c = λ d. subst (λ (m : RangeMark). Reads d (One (spelling_of m)) c.args.p.now c.token.new.self) (sym c.in-Exclusive.is) (reads-leaf d (does-token _ 2 _ _ c.token.ensures.nodes c.token.ensures.same))

pub returns-in-Exclusive-clause-takes : goal.returns-in-Exclusive-clause-takes
returns-in-Exclusive-clause-takes c = record {
  left = omega (arith, fewer-tokens 2 _ _ c.token.ensures.same (subst (λ (m : RangeMark). length (spelling_of m).parts ≤ tokens c.args.p.now) c.in-Exclusive.is c.requires.some));
  looks = omega (arith, paid-looks 2 _ _ c.token.ensures.same (subst (λ (m : RangeMark). length (spelling_of m).parts ≤ tokens c.args.p.now) c.in-Exclusive.is c.requires.some));
}

pub token-requires-in-Inclusive-clause-left : goal.token-requires-in-Inclusive-clause-left
token-requires-in-Inclusive-clause-left c = enough-left 3 c.args.p.now (subst (λ (m : RangeMark). length (spelling_of m).parts ≤ tokens c.args.p.now) c.in-Inclusive.is c.requires.some) (omega arith)

pub returns-in-Inclusive-clause-reads : goal.returns-in-Inclusive-clause-reads
returns-in-Inclusive-clause-reads c = λ d. subst (λ (m : RangeMark). Reads d (One (spelling_of m)) c.args.p.now c.token-in-Inclusive.new.self) (sym c.in-Inclusive.is) (reads-leaf d (does-token _ 3 _ _ c.token-in-Inclusive.ensures.nodes c.token-in-Inclusive.ensures.same))

pub returns-in-Inclusive-clause-takes : goal.returns-in-Inclusive-clause-takes
returns-in-Inclusive-clause-takes c = record {
  left = omega (arith, fewer-tokens 3 _ _ c.token-in-Inclusive.ensures.same (subst (λ (m : RangeMark). length (spelling_of m).parts ≤ tokens c.args.p.now) c.in-Inclusive.is c.requires.some));
  looks = omega (arith, paid-looks 3 _ _ c.token-in-Inclusive.ensures.same (subst (λ (m : RangeMark). length (spelling_of m).parts ≤ tokens c.args.p.now) c.in-Inclusive.is c.requires.some));
}

-- The look is at the tokens left.
use Rattle.std.proofs.Common.{ℕ, nat_eq, ap}
use Rattle.rust_productions.proofs.Looking.{saw-next, saw-some, left-next, same-tokens, one-look}
use Rattle.rust_productions.proofs.Moves.{does-look}
use Rattle.rust_productions.proofs.parser.Parser.current.Goals as goal

pub returns-clause-sees : goal.returns-clause-sees
returns-clause-sees c cond kind = saw-next cond 0 c.args.self.now _ _ (ap (λ (n : ℕ). nat_eq n kind) c.kind_at.ensures.kind)

pub returns-clause-end : goal.returns-clause-end
returns-clause-end c cond = saw-some cond c.args.self.now c.kind_at.result c.kind_at.ensures.kind c.kind_at.ensures.token

pub returns-clause-some : goal.returns-clause-some
returns-clause-some c some = left-next c.args.self.now _ c.kind_at.ensures.kind some

pub returns-clause-peeks : goal.returns-clause-peeks
returns-clause-peeks c = record {
  same = does-look _ _ _ c.kind_at.ensures.same;
  left = same-tokens _ _ _ c.kind_at.ensures.same;
  looks = one-look _ _ c.kind_at.ensures.same;
}

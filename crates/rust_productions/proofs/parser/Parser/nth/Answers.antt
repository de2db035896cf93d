-- The look is at the tokens left.
use Rattle.std.proofs.Common.{ℕ, nat_eq, ap}
use Rattle.rust_productions.proofs.Looking.{saw-next, same-tokens, one-look}
use Rattle.rust_productions.proofs.Moves.{does-look}
use Rattle.rust_productions.proofs.parser.Parser.nth.Goals as goal

pub returns-clause-sees : goal.returns-clause-sees
returns-clause-sees c cond kind = saw-next cond _ c.args.self.now _ _ (ap (λ (n : ℕ). nat_eq n kind) c.kind_at.ensures.kind)

pub returns-clause-peeks : goal.returns-clause-peeks
returns-clause-peeks c = record {
  same = does-look _ _ _ c.kind_at.ensures.same;
  left = same-tokens _ _ _ c.kind_at.ensures.same;
  looks = one-look _ _ c.kind_at.ensures.same;
}

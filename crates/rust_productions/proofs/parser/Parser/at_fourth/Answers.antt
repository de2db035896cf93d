-- The look is at the tokens left.
use Rattle.std.proofs.Common.{◌∙◌}
use Rattle.rust_productions.proofs.Looking.{saw-kind, same-tokens, one-look}
use Rattle.rust_productions.proofs.Moves.{does-look}
use Rattle.rust_productions.proofs.parser.Parser.at_fourth.Goals as goal

pub returns-clause-sees : goal.returns-clause-sees
returns-clause-sees c cond = saw-kind cond 3 c.args.self.now _ _ _ (c.to_raw.ensures.number ∙ c.kind_at.ensures.kind) c.to_raw-2.ensures.number

pub returns-clause-peeks : goal.returns-clause-peeks
returns-clause-peeks c = record {
  same = does-look _ _ _ c.kind_at.ensures.same;
  left = same-tokens _ _ _ c.kind_at.ensures.same;
  looks = one-look _ _ c.kind_at.ensures.same;
}

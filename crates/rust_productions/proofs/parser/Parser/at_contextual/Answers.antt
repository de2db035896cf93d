-- The look is at the tokens left.
use Rattle.std.proofs.Common.{◌∙◌}
use Rattle.rust_productions.proofs.ByHand.{does-nothing}
use Rattle.rust_productions.proofs.Looking.{saw-contextual, some-contextual}
use Rattle.rust_productions.proofs.parser.Parser.at_contextual.Goals as goal

pub returns-clause-sees : goal.returns-clause-sees
returns-clause-sees c cond = saw-contextual cond 0 c.args.self.now _ _ _ (c.to_raw.ensures.number ∙ c.contextual_at.ensures) c.to_raw-2.ensures.number

pub returns-clause-some : goal.returns-clause-some
returns-clause-some c is some = some-contextual 0 c.args.self.now _ _ _ (c.to_raw.ensures.number ∙ c.contextual_at.ensures) is c.to_raw-2.ensures.number some

pub returns-clause-same : goal.returns-clause-same
returns-clause-same c = does-nothing _

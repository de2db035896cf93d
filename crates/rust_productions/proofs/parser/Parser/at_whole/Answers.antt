-- The look is at the tokens left.
use Rattle.rust_productions.proofs.ByHand.{does-nothing}
use Rattle.rust_productions.proofs.Looking.{saw-whole, some-whole}
use Rattle.rust_productions.proofs.parser.Parser.at_whole.Goals as goal

pub returns-clause-sees : goal.returns-clause-sees
returns-clause-sees c cond = saw-whole cond 0 c.args.self.now _ c.whole_at.ensures

pub returns-clause-some : goal.returns-clause-some
returns-clause-some c is = some-whole c.args.self.now _ c.whole_at.ensures is

pub returns-clause-same : goal.returns-clause-same
returns-clause-same c = does-nothing _

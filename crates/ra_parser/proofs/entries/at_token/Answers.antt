use Rattle.rust_productions.proofs.Looking.{left-arm, left-not}
use Rattle.ra_parser.proofs.entries.at_token.Goals as goal

pub returns-in-EOF-clause-sees : goal.returns-in-EOF-clause-sees
returns-in-EOF-clause-sees c cond = left-arm c.in-EOF.is (c.current.ensures.end cond)

pub returns-in_default-clause-sees : goal.returns-in_default-clause-sees
returns-in_default-clause-sees c cond = left-not c.in_default.not-EOF (c.current.ensures.end cond)

-- What is not left was taken.
use Rattle.std.proofs.Common.{ap, arith}
use Rattle.parser_events.specs.View.{View}
use Rattle.parser_events.proofs.parser.Parser.position.Goals as goal

pub returns : goal.returns
returns c = omega (arith, ap (λ (v : View). v.position) c.self.view_is, c.len.ensures)

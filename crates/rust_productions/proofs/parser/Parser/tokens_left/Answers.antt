-- What was taken is not left.
use Rattle.std.proofs.Common.{arith}
use Rattle.std.proofs.lemmas.List.{length-drop}
use Rattle.rust_productions.specs.Looks.{tokens}
use Rattle.rust_productions.proofs.parser.Parser.tokens_left.Goals as goal

pub returns : goal.returns
unfolding tokens
returns c = rw (← c.self.view_is) (omega (arith, c.tokens_left.ensures, length-drop c.self.inside.events.position c.self.inside.events.input))

use Rattle.std.proofs.Common.{ap}
use Rattle.parser_input.specs.Stored.{Whole}
use Rattle.parser_input.proofs.lexed_str.LexedStr.as_str.Goals as goal

pub returns : goal.returns
returns c = ap (λ (w : Whole). w.text) c.self.view_is

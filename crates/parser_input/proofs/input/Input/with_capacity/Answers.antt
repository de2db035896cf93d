use Rattle.std.proofs.Common.{List, ap, map}
use Rattle.parser_input.specs.Packed.{seen}
use Rattle.parser_input.specs.declared.input.InputToken.{InputToken}
use Rattle.parser_input.proofs.input.Input.with_capacity.Goals as goal

pub returns : goal.returns
returns c = ap (λ (l : List InputToken). map seen l) c.in_ok-tokens.ensures.items

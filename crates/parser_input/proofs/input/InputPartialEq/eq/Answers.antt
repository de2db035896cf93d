-- Stored tokens are compared as the tokens that they stand for.
use Rattle.std.proofs.Common.{◌∙◌, List, map, ap}
use Rattle.parser_input.specs.Equal.{same_input, same_seen}
use Rattle.parser_input.specs.Input.{Token}
use Rattle.parser_input.specs.Packed.{seen}
use Rattle.parser_input.specs.declared.input.InputToken.{InputToken}
use Rattle.parser_input.proofs.InputReads.{same-as-seen}
use Rattle.parser_input.proofs.input.InputPartialEq.eq.Goals as goal
use lib.Pointwise.{pointwise}

pub returns : goal.returns
returns c =
    c.eq.ensures
    ∙ ap (λ (l : List InputToken). pointwise same_seen l c.as_slice-2.result.now) c.as_slice.ensures.value
    ∙ ap (λ (l : List InputToken). pointwise same_seen c.self.inside.tokens.items l) c.as_slice-2.ensures.value
    ∙ same-as-seen c.self.inside.tokens.items c.other.inside.tokens.items
    ∙ ap (λ (l : List Token). same_input l (map seen c.other.inside.tokens.items)) c.self.view_is
    ∙ ap (λ (l : List Token). same_input c.args.self.now l) c.other.view_is

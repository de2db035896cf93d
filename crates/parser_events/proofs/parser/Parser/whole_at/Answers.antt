-- The token so far after the position.
use Rattle.std.proofs.Common.{◌∙◌, ◌+◌, ap}
use Rattle.parser_input.specs.Recorded.{token_at}
use Rattle.parser_events.specs.View.{View}
use Rattle.parser_events.proofs.Rest.{rest-token}
use Rattle.parser_events.proofs.parser.Parser.whole_at.Goals as goal

pub returns : goal.returns
returns c =
    c.is_whole.ensures
    ∙ ap (λ t. t.whole) (rest-token c.self.inside.rest c.self.inside.input.now c.args.n c.self.invariant.0)
    ∙ ap (λ (v : View). (token_at v.input (v.position + c.args.n)).whole) c.self.view_is

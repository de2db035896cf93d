-- A token that is there is the stored one; past the end it is that of the end.
use Rattle.std.proofs.Common.{◌≤◌, ◌<◌, ap, arith, length}
use Rattle.parser_input.specs.Input.{Token}
use Rattle.parser_input.proofs.InputReads.{token-there, token-past}
use Rattle.parser_input.proofs.input.InputTokens.is_joint.Goals as goal

pub returns-in-Some : goal.returns-in-Some
returns-in-Some c =
    let items = c.self.inside.tokens.now in
    let token = c.in-Some.token.now in
    let long : c.args.n < length items = omega (arith, c.in-Some.ensures.lookup.3.0) in
    let found = c.in-Some.ensures.lookup.1 in
    ap (λ (t : Token). t.joint) (token-there items c.args.self.now c.args.n token c.self.view_is long found)

pub returns-in-None : goal.returns-in-None
returns-in-None c =
    let items = c.self.inside.tokens.now in
    let past : length items ≤ c.args.n = omega (arith, c.in-None.ensures.lookup.3) in
    ap (λ (t : Token). t.joint) (token-past items c.args.self.now c.args.n c.self.view_is past)

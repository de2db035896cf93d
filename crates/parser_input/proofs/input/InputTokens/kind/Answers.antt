-- A token that is there is the stored one, and none of the end; past the end it is that of the end.
use Rattle.std.proofs.Common.{◌≤◌, ◌<◌, List, sym, ◌∙◌, ap, arith, length}
use Rattle.std.proofs.lemmas.List.{length-map}
use Rattle.parser_input.specs.Input.{Token}
use Rattle.parser_input.specs.Kind.{raw_of}
use Rattle.parser_input.specs.Packed.{seen}
use Rattle.parser_input.specs.declared.input.InputToken.{InputToken}
use Rattle.parser_input.proofs.InputReads.{token-there, token-past}
use Rattle.parser_input.proofs.input.InputTokens.kind.Goals as goal

pub returns-in-Some-clause-kind : goal.returns-in-Some-clause-kind
returns-in-Some-clause-kind c =
    let items = c.self.inside.tokens.now in
    let token = c.in-Some.token.now in
    let long : c.args.n < length items = omega (arith, c.in-Some.ensures.lookup.3.0) in
    let found = c.in-Some.ensures.lookup.1 in
    ap (λ (t : Token). t.kind) (token-there items c.args.self.now c.args.n token c.self.view_is long found)

pub returns-in-None-clause-kind : goal.returns-in-None-clause-kind
returns-in-None-clause-kind c =
    let items = c.self.inside.tokens.now in
    let past : length items ≤ c.args.n = omega (arith, c.in-None.ensures.lookup.3) in
    ap (λ (t : Token). t.kind) (token-past items c.args.self.now c.args.n c.self.view_is past)

pub returns-in-Some-clause-token : goal.returns-in-Some-clause-token
returns-in-Some-clause-token c n e =
    let items = c.self.inside.tokens.now in
    let token = c.in-Some.token.now in
    let long : c.args.n < length items = omega (arith, ap (λ (l : List Token). length l) c.self.view_is, length-map items seen) in
    let found = c.in-Some.ensures.lookup.1 in
    c.self.invariant c.args.n token long (sym (ap (λ (t : InputToken). raw_of t.kind) found) ∙ e)

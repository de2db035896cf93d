use Rattle.std.proofs.Common.{◌≡◌, sym, ◌∙◌, arith}
use Rattle.message_ends.proofs.Tokens.{none-left}
use Rattle.message_ends.proofs.ends.TokensLeft.end_of_token.Goals as goal

pub returns-then-place-start-clause-end : goal.returns-then-place-start-clause-end
returns-then-place-start-clause-end c =
    let start : c.from-start.result ≡ c.in-Some.token.range.start.0 = cc in
    let none = none-left c.skip.self.first c.skip.self.after c.in-Some.token c.args.place c.in-Some.is (omega (arith, start, c.if-place-start.true)) c.skip.invariant.1 in
    sym none ∙ c.skip.invariant.0.ends c.args.place (omega arith)

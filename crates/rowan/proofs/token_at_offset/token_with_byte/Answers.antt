use Rattle.std.proofs.Common.{◌≡◌, ◌∙◌, ◌+◌, sym, ap, arith, subst}
use Rattle.rowan_green.specs.Either.{token_part}
use Rattle.rowan.specs.Around.{first}
use Rattle.rowan.specs.Leaves.{tokens_in}
use Rattle.rowan.specs.Ranges.{LeadsTo}
use Rattle.rowan.proofs.Touching.{led, none_before, tokens_chain}
use Rattle.rowan.proofs.token_at_offset.token_with_byte.Goals as goal

pub returns-in_default : goal.returns-in_default
returns-in_default c =
    sym (ap first (none_before c.args.byte _ _ (tokens_in c.args.node.now) (tokens_chain c.args.node.now _ c.green.ensures) (omega (arith, c.start.ensures.fits, c.in_default.ensures))))

pub returns-in-Token : goal.returns-in-Token
returns-in-Token c =
    let e : c.in-Some.end ≡ c.args.byte + 1 = omega (arith, c.in-Some.ensures) in
    sym (led c.args.byte c.args.node.now c.in_ok-token.field-0 (subst (λ n. LeadsTo c.args.byte n c.args.node.now c.in_ok-token.field-0) e c.in_ok-token.ensures) ∙ ap token_part c.in-Token.is)

pub returns : goal.returns
returns c =
    let e : c.in-Some.end ≡ c.args.byte + 1 = omega (arith, c.in-Some.ensures) in
    sym (led c.args.byte c.args.node.now c.in_ok-token.field-0 (subst (λ n. LeadsTo c.args.byte n c.args.node.now c.in_ok-token.field-0) e c.in_ok-token.ensures) ∙ ap token_part c.in-Node.is)

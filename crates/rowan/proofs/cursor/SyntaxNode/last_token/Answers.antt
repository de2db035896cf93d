use Rattle.std.proofs.Common.{◌≡◌, ◌∙◌, length, ap}
use Rattle.rowan_green.specs.Term.{children_of}
use Rattle.rowan.proofs.Steps.{start_last, count_is}
use Rattle.rowan.proofs.Leaves.{back_all}
use Rattle.rowan.proofs.cursor.SyntaxNode.last_token.Goals as goal

pub token_before-requires-clause-at_end : goal.token_before-requires-clause-at_end
token_before-requires-clause-at_end c =
    let n : c.len.result ≡ length (children_of c.green.result.now) = c.len.ensures.value ∙ ap length c.children.ensures.children in
    start_last c.args.self.now _ _ _ c.green.ensures n c.end.ensures.end

pub returns : goal.returns
returns c =
    let n : c.len.result ≡ length (children_of c.green.result.now) = c.len.ensures.value ∙ ap length c.children.ensures.children in
    rw (← back_all c.args.self.now c.len.result (count_is c.args.self.now _ _ c.green.ensures n)) c.token_before.ensures

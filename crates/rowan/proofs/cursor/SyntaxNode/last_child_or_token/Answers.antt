use Rattle.std.proofs.Common.{◌≡◌, ◌∙◌, length, ap}
use Rattle.rowan_green.specs.Term.{children_of}
use Rattle.rowan.proofs.Steps.{start_last}
use Rattle.rowan.proofs.cursor.SyntaxNode.last_child_or_token.Goals as goal

pub child_before-requires-clause-at_end : goal.child_before-requires-clause-at_end
child_before-requires-clause-at_end c =
    let n : c.len.result ≡ length (children_of c.green.result.now) = c.len.ensures.value ∙ ap length c.children.ensures.children in
    start_last c.args.self.now _ _ _ c.green.ensures n c.end.ensures.end

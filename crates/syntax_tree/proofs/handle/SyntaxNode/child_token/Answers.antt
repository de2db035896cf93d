-- The search begins with all children.
use Rattle.std.proofs.Common.{◌∙◌, ap, sym}
use Rattle.std.specs.List.{filter, filter_map}
use Rattle.rowan.specs.Around.{children, first}
use Rattle.syntax_tree.specs.Handle.{token_of}
use Rattle.syntax_tree.specs.Nodes.{is_of_kind}
use Rattle.syntax_tree.proofs.ChildTokens.{tokens-numbered}
use Rattle.syntax_tree.proofs.handle.SyntaxNode.child_token.Goals as goal

pub loop-element-init : goal.loop-element-init
loop-element-init c =
    let e = c.args.self.now in
    let all = c.into_iter-element-iterator.ensures.into_iter_gives ∙ c.in_ok-element-items.ensures in
    ap (λ es. first (filter (is_of_kind c.to_raw-kind.result) es)) (tokens-numbered e.number (children e.place) ∙ ap (filter_map token_of) (sym all))

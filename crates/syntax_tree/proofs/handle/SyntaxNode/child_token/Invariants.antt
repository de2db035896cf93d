-- The children before the current one are not tokens of the kind.
use Rattle.std.proofs.Common.{◌≡◌}
use Rattle.std.specs.List.{filter, filter_map}
use Rattle.rowan.specs.Around.{first}
use Rattle.syntax_tree.specs.Handle.{token_of}
use Rattle.syntax_tree.specs.Nodes.{child_tokens, is_of_kind}
use Rattle.syntax_tree.proofs.handle.SyntaxNode.child_token.Given as goal

abbrev pub invariant-loop-element : goal.invariant-loop-element
invariant-loop-element l =
    first (filter (is_of_kind l.kind) (child_tokens l.fn.self)) ≡ first (filter (is_of_kind l.kind) (filter_map token_of l.element-iterator))

-- The tokens among the leaves so far.
use Rattle.std.proofs.Common.{◌≡◌, not}
use Rattle.std.specs.List.{filter}
use Rattle.tree_patterns.specs.Bones.{is_trivia}
use Rattle.tree_search.proofs.tokens.tokens_below.Given as goal

abbrev pub invariant-loop-leaf : goal.invariant-loop-leaf
invariant-loop-leaf l = l.tokens.items ≡ filter (λ x. not (is_trivia x.kind)) l.yielded

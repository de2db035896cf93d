use Rattle.std.proofs.Common.{◌≡◌, length, []}
use Rattle.std.specs.List.{All}
use Rattle.tree_rewrite.proofs.lists.empty_lists.Given as goal

abbrev pub invariant-loop : goal.invariant-loop
invariant-loop l = All (λ v. v.items ≡ []) l.lists.items × (length l.lists.items ≡ l.counter)

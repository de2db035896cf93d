use Rattle.std.proofs.Common.{◌≡◌, drop}
use Rattle.std.specs.List.{list_all}
use Rattle.tree_rewrite.specs.Orders.{may_follow}
use Rattle.tree_rewrite.proofs.job.all_follow.Given as goal

abbrev pub invariant-loop-b : goal.invariant-loop-b
invariant-loop-b l = list_all (λ b. may_follow l.jobs l.a b) l.others ≡ list_all (λ b. may_follow l.jobs l.a b) (drop l.b-index l.others)

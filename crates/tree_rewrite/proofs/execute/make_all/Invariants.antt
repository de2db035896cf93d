use Rattle.std.proofs.Common.{◌≡◌, List, [], drop}
use Rattle.tree_rewrite.specs.Rewrite.{Job}
use Rattle.tree_rewrite.specs.Orders.{picked}
use Rattle.tree_rewrite.specs.Fill.{HavePut}
use Rattle.tree_rewrite.specs.Listed.{IsListed}
use Rattle.tree_rewrite.proofs.execute.make_all.Given as goal

abbrev pub invariant-loop-number : goal.invariant-loop-number
invariant-loop-number l = IsListed l.jobs l.made.items l.listed
    × ((js : List Job) × HavePut l.jobs l.made.items js × (picked l.jobs (drop l.number-index l.order) js ≡ picked l.jobs l.order []))

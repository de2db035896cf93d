use Rattle.std.proofs.Common.{List, take}
use Rattle.tree_rewrite.specs.Rewrite.{Job}
use Rattle.tree_rewrite.specs.Recorded.{target_of}
use Rattle.tree_rewrite.specs.Fill.{HavePut}
use Rattle.tree_rewrite.specs.Below.{OnSheet}
use Rattle.tree_rewrite.proofs.lists.on_sheet.Given as goal

abbrev pub invariant-loop-number : goal.invariant-loop-number
invariant-loop-number l = (js : List Job) → HavePut l.overlay.jobs.now (take l.number l.overlay.made.now) js → OnSheet l.overlay.jobs.now l.overlay.made.now l.numbers.items (target_of l.overlay.target) js

use Rattle.std.proofs.Common.{refl, ap}
use Rattle.tree_rewrite.proofs.changed.Tracker.enter.Goals as goal

pub returns-clause-around : goal.returns-clause-around
returns-clause-around c = (
  record { is_node = c.args.is_node; start = c.args.self.now.offset; told = c.args.self.now.told; before = c.replace-before.result },
  c.in_ok-push.ensures.items,
  (refl, refl, refl, ap (λ v. v.items) c.replace-before.ensures.value),
)

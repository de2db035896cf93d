use Rattle.std.proofs.Common.{refl, ap}
use Rattle.tree_rewrite.proofs.green.begin.Goals as goal

pub returns-clause-around : goal.returns-clause-around
returns-clause-around c = (record { kind = c.args.kind; before = c.replace-before.result }, c.in_ok-push.ensures.items, refl, ap (λ v. v.items) c.replace-before.ensures.value)

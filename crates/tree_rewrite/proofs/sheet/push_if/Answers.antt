use Rattle.std.proofs.Common.{sym, ap, cond}
use Rattle.tree_rewrite.specs.Marked.{nothing}
use Rattle.tree_rewrite.proofs.SheetLemmas.{adds-same, adds-nothing}
use Rattle.tree_rewrite.proofs.sheet.push_if.Goals as goal

pub returns-in_ok-push_put : goal.returns-in_ok-push_put
returns-in_ok-push_put c = λ js g h.
    adds-same _ _ g.1 (cond c.args.is_there g.1 nothing) (sym (ap (λ b. cond b g.1 nothing) c.if-is_there.true)) (c.in_ok-push_put.ensures js g h)

pub returns-else-is_there : goal.returns-else-is_there
returns-else-is_there c = λ js g h. adds-same _ _ nothing (cond c.args.is_there g.1 nothing) (sym (ap (λ b. cond b g.1 nothing) c.if-is_there.false)) (adds-nothing _)

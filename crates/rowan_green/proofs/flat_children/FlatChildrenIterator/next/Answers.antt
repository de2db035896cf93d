use Rattle.std.proofs.Common.{sym, ap, length, arith, ◌∙◌}
use Rattle.rowan_green.specs.Arena.{terms_at, items_in}
use Rattle.rowan_green.proofs.FlatRefLemmas.{between_first}
use Rattle.rowan_green.proofs.flat_children.FlatChildrenIterator.next.Goals as goal

pub returns-clause-steps : goal.returns-clause-steps
returns-clause-steps c =
    let e = between_first (terms_at (items_in c.self.inside.arena.now.value)) c.self.inside.start c.self.inside.end _ c.if-self.false c.element_at-first.ensures in
    sym c.self.view_is ∙ e

pub returns-clause-goes : goal.returns-clause-goes
returns-clause-goes c =
    let e = between_first (terms_at (items_in c.self.inside.arena.now.value)) c.self.inside.start c.self.inside.end _ c.if-self.false c.element_at-first.ensures in
    let n = ap length (sym c.self.view_is ∙ e) in
    record { on = λ h. (tt, tt, omega (arith, n)); keeps = tt; rests = λ h. tt }

use Rattle.std.proofs.Common.{sym, ◌∷◌, [], ap, length, arith, ◌∙◌, length-append, drop, take, ◌-◌}
use Rattle.rowan_green.specs.Arena.{terms_at, items_in}
use Rattle.rowan_green.proofs.FlatRefLemmas.{between_last}
use Rattle.rowan_green.proofs.flat_children.FlatChildrenDoubleEndedIterator.next_back.Goals as goal

pub returns-clause-steps : goal.returns-clause-steps
returns-clause-steps c =
    let e = between_last (terms_at (items_in c.self.inside.arena.now.value)) c.self.inside.start c.self.inside.end _ c.if-self.false c.element_at.ensures in
    sym c.self.view_is ∙ e

pub returns-clause-goes : goal.returns-clause-goes
returns-clause-goes c =
    let ts = terms_at (items_in c.self.inside.arena.now.value) in
    let e = between_last ts c.self.inside.start c.self.inside.end _ c.if-self.false c.element_at.ensures in
    let n = ap length (sym c.self.view_is ∙ e) in
    let m = length-append (drop c.self.inside.start (take (c.self.inside.end - 1) ts)) (c.element_at.result ∷ []) in
    record { on = λ h. (tt, tt, omega (arith, n, m)); keeps = tt; rests = λ h. tt }

use Rattle.std.proofs.Common.{◌≡◌, ◌+◌, sym, ◌∙◌, ap, arith}
use Rattle.tree_rewrite.specs.Orders.{is_order}
use Rattle.tree_rewrite.specs.Plan.{deepest, deepest_first}
use Rattle.tree_rewrite.proofs.DepthLemmas.{deepest_is_order}
use Rattle.tree_rewrite.proofs.plan.Plan.order.Goals as goal

pub returns : goal.returns
returns c =
    let js = c.self.inside.jobs.items in
    let os = c.in_ok-order.order.items in
    let is : os ≡ deepest_first (deepest js + 1) js = c.in_ok-order.ensures ∙ ap (λ l. deepest_first (deepest l + 1) l) c.deref.ensures.value in
    ap (λ p. is_order p.jobs os) (sym c.self.view_is) ∙ ap (is_order js) is ∙ deepest_is_order js (deepest js + 1) c.self.invariant.0 (omega arith)

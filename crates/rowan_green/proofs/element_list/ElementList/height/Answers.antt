use Rattle.std.proofs.Common.{◌≡◌, ℕ, ◌≤◌, length, arith, ap, sym, subst, ◌∙◌}
use Rattle.rowan_green.specs.Balanced.{fewest}
use Rattle.rowan_green.proofs.Summing.{at_fork}
use Rattle.rowan_green.proofs.RunLemmas.{at_list_run, height_few}
use Rattle.rowan_green.proofs.element_list.ElementList.height.Goals as goal

pub returns-in-Fork-clause-low : goal.returns-in-Fork-clause-low
returns-in-Fork-clause-low c =
    let f = at_fork c.self.view_is c.self.invariant c.in-Fork.is in
    omega (arith, f.low)

pub returns-in-Run-clause-many : goal.returns-in-Run-clause-many
returns-in-Run-clause-many c =
    let r = at_list_run c.self.view_is c.self.invariant c.in-Run.is in
    let e : c.height.result ≡ c.args.self.now.1 = c.height.ensures.height ∙ sym r.height in
    λ _. subst (λ (k : ℕ). fewest k ≤ length c.args.self.now.0) (sym e) r.many

pub returns-in-Run-clause-few : goal.returns-in-Run-clause-few
returns-in-Run-clause-few c =
    let r = at_list_run c.self.view_is c.self.invariant c.in-Run.is in
    λ h. c.height.ensures.height ∙ height_few _ _ r.fits (omega (arith, h, ap length r.terms))

use Rattle.std.proofs.Common.{◌≡◌, ◌+◌, ◌-◌, ◌/◌, ◌≤◌, rules, arith, sym, subst}
use Rattle.rowan_green.specs.declared.arena.Arena.{Arena}
use Rattle.rowan_green.specs.Run.{IsRun}
use Rattle.rowan_green.proofs.RunLemmas.{at_run, run_front, run_back, height_front, height_back, halves_of}
use Rattle.rowan_green.proofs.run.Run.halves.Goals as goal

pub invariant_of-front : goal.invariant_of-front
invariant_of-front c =
    let r = c.self.inside in
    let z = at_run r.arena.value r.first r.count r.height _ c.self.view_is c.self.invariant.0 c.self.invariant.1 in
    let h : 1 ≤ r.height = omega (arith, z.height, c.requires) in
    let e : c.in_ok-clone.field-0.value ≡ r.arena.value = search rules in (
      subst (λ (a : Arena). IsRun a r.first (r.count / 2)) (sym e) (run_front r.arena.value r.first r.count (r.count / 2) c.self.invariant.0 (omega arith)),
      height_front r.count r.height c.self.invariant.1 h,
    )

pub invariant_of-back : goal.invariant_of-back
invariant_of-back c =
    let r = c.self.inside in
    let z = at_run r.arena.value r.first r.count r.height _ c.self.view_is c.self.invariant.0 c.self.invariant.1 in
    let h : 1 ≤ r.height = omega (arith, z.height, c.requires) in
    let e : c.in_ok-clone-2.field-0.value ≡ r.arena.value = search rules in (
      subst (λ (a : Arena). IsRun a (r.first + r.count / 2) (r.count - r.count / 2)) (sym e) (run_back r.arena.value r.first r.count (r.count / 2) c.self.invariant.0 (omega arith)),
      height_back r.count r.height c.self.invariant.1 h,
    )

pub returns : goal.returns
returns c =
    let r = c.self.inside in
    let z = at_run r.arena.value r.first r.count r.height _ c.self.view_is c.self.invariant.0 c.self.invariant.1 in
    let h : 1 ≤ r.height = omega (arith, z.height, c.requires) in
    let e : c.in_ok-clone.field-0.value ≡ r.arena.value = search rules in
    let f : c.in_ok-clone-2.field-0.value ≡ r.arena.value = search rules in
    halves_of r.arena.value c.in_ok-clone.field-0.value c.in_ok-clone-2.field-0.value r.first r.count r.height _ c.self.view_is e f c.self.invariant.0 c.self.invariant.1 h

use Rattle.std.proofs.Common.{ℕ, ◌<◌, List, arith, ap, get_or, ◌∙◌}
use Rattle.rowan_green.specs.Term.{Term}
use Rattle.rowan_green.proofs.RunLemmas.{at_run, run_at}
use Rattle.rowan_green.proofs.run.Run.at.Goals as goal

pub returns : goal.returns
returns c =
    let r = c.self.inside in
    let z = at_run r.arena.value r.first r.count r.height _ c.self.view_is c.self.invariant.0 c.self.invariant.1 in
    let h : c.args.index < r.count = omega (arith, z.count, c.requires) in
    run_at r.arena.value r.first r.count c.args.index _ h c.element_at.ensures
    ∙ ap (λ (d : List Term × ℕ). get_or d.0 c.args.index c.element_at.result) c.self.view_is

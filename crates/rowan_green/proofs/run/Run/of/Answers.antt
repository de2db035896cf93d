use Rattle.std.proofs.Common.{ℕ, sym, subst}
use Rattle.rowan_green.specs.Run.{HasHeight}
use Rattle.rowan_green.proofs.RunLemmas.{run_length}
use Rattle.rowan_green.proofs.run.Run.of.Goals as goal

pub returns-clause-height : goal.returns-clause-height
returns-clause-height c =
    subst (λ (k : ℕ). HasHeight k c.height_for.result) (sym (run_length c.args.arena.value c.args.first c.args.count c.requires.run))
    (record { many = c.height_for.ensures.many; few = c.height_for.ensures.few })

-- Place by place.
use Rattle.std.proofs.Common.{arith}
use Rattle.match_rows.proofs.Members.{runs_end}
use Rattle.match_rows.proofs.objects.members.Goals as goal

pub returns-then-at-bindings : goal.returns-then-at-bindings
returns-then-at-bindings c = runs_end _ _ c.places.at c.args.places.now c.args.bindings.now (omega arith) c.places.invariant

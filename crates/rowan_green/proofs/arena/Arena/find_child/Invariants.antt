use Rattle.std.proofs.Common.{◌-◌}
use Rattle.rowan_green.specs.Arena.{items_over}
use Rattle.rowan_green.proofs.ArenaSearch.{Halving}
use Rattle.rowan_green.proofs.arena.Arena.find_child.Given as goal

abbrev pub invariant-halve : goal.invariant-halve
invariant-halve l = Halving (items_over l.self l.children) l.start l.target l.low l.low_start l.high l.looks

abbrev pub decreases-halve : goal.decreases-halve
decreases-halve l = l.high - l.low

use Rattle.rowan.specs.Place.{term_at}
use Rattle.rowan.specs.Around.{Cursor}
use Rattle.rowan.specs.Ranges.{LeadsTo}
use Rattle.rowan.proofs.Leaves.{count_in}
use Rattle.rowan.proofs.cursor.SyntaxNode.covering_element.Given as goal

abbrev pub invariant-loop-node : goal.invariant-loop-node
invariant-loop-node l = (c : Cursor) → LeadsTo l.start l.end l.node c → LeadsTo l.start l.end l.self c

abbrev pub decreases-loop-node : goal.decreases-loop-node
decreases-loop-node l = count_in (term_at l.node)

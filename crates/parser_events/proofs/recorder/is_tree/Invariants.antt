use Rattle.std.proofs.Common.{◌≡◌, ◌≤◌, List, ◌∷◌, length, map}
use Rattle.parser_events.specs.Marked.{Marked}
use Rattle.parser_events.specs.Nodes.{all_entries}
use Rattle.parser_events.specs.Seen.{event_of}
use Rattle.parser_events.specs.Stack.{total_size}
use Rattle.parser_events.proofs.Children.{Walked}
use Rattle.parser_events.proofs.recorder.is_tree.Given as goal

abbrev pub invariant-trees : goal.invariant-trees
invariant-trees l =
    (l.end ≤ length l.events)
    × ((f : Marked) (below : List Marked) → map event_of l.events ≡ all_entries (f ∷ below) → l.floor ≡ total_size below → Walked f below l.first l.end)

abbrev pub decreases-trees : goal.decreases-trees
decreases-trees l = l.end

use Rattle.std.proofs.Common.{◌≡◌}
use Rattle.parser_events.specs.Stack.{IsInnermost}
use Rattle.reading_speed.proofs.events.parse.Given as goal

-- the root is open, and no other node
abbrev pub invariant-items : goal.invariant-items
invariant-items l = (l.parser.input ≡ l.input) × IsInnermost l.root l.parser.nodes × IsInnermost 0 l.parser.nodes

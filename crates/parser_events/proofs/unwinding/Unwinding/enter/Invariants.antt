use Rattle.std.proofs.Common.{◌≡◌, length}
use Rattle.parser_events.specs.Seen.{state_of}
use Rattle.parser_events.specs.Unwinding.{begun}
use Rattle.parser_events.proofs.unwinding.Unwinding.enter.Given as goal

abbrev pub invariant-begun : goal.invariant-begun
invariant-begun l = begun l.index (state_of l.self).pending (state_of l.self).laid ≡ begun l.index (state_of l.initial.self).pending (state_of l.initial.self).laid

abbrev pub decreases-begun : goal.decreases-begun
decreases-begun l = length l.self.pending.items

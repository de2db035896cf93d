use Rattle.std.proofs.Common.{◌≡◌, take, map}
use Rattle.serde_json.specs.View.{view}
use Rattle.document_requests.specs.Answered.{ends_of}
use Rattle.document_requests.specs.Reply.{range_data}
use Rattle.document_requests.proofs.print.range_values.Given as goal

-- the values are those of the ranges so far
abbrev pub invariant-loop-range : goal.invariant-loop-range
invariant-loop-range l = map view l.values.items ≡ map range_data (map ends_of (take l.range-index l.ranges))

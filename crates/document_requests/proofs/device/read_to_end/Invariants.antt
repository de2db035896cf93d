use Rattle.std.specs.Prelude.{◌≡◌, ◌+◌}
use Rattle.std.specs.Io.KnownBytes.{Consumes}
use Rattle.document_requests.specs.Watched.{device_of, calls_of, counted}
use Rattle.document_requests.specs.Device.{NoneFailed, MeetsNoEnd}
use Rattle.document_requests.proofs.device.read_to_end.Given as goal

-- The bytes so far are those that the reader gave. Each turn was a read, none failed, and none met the end.
abbrev pub invariant-loop-turn : goal.invariant-loop-turn
invariant-loop-turn g l =
    record {
      read : Consumes (g.R.Read.remaining (device_of l.fn.reader)) (g.R.Read.remaining (device_of l.reader)) l.bytes.items;
      none_failed : NoneFailed l.fn.reader l.reader;
      calls : calls_of l.reader ≡ counted (calls_of l.fn.reader + l._turn);
      meets_no_end : MeetsNoEnd l.fn.reader l.reader;
    }

use Rattle.std.specs.Prelude.{◌≡◌, ℕ, List, ◌++◌, length}
use Rattle.std.specs.Io.KnownBytes.{Appends}
use Rattle.document_requests.specs.Watched.{device_of}
use Rattle.document_requests.specs.Device.{NoneFailed}
use Rattle.document_requests.proofs.device.write_all.Given as goal

-- What is written and what is left are the bytes.
abbrev pub invariant-loop-rest : goal.invariant-loop-rest
invariant-loop-rest g l =
    record {
      written : (front : List ℕ) × (l.bytes ≡ front ++ l.rest) × Appends (g.W.Write.contents (device_of l.fn.writer)) (g.W.Write.contents (device_of l.writer)) front;
      none_failed : NoneFailed l.fn.writer l.writer;
    }

abbrev pub decreases-loop-rest : goal.decreases-loop-rest
decreases-loop-rest g l = length l.rest

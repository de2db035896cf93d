use Rattle.std.specs.Prelude.{length}
use Rattle.line_reader.specs.Clients.{NoneFailed, SameReading}
use Rattle.line_reader.proofs.ServeLemmas.{Left}
use Rattle.line_reader.proofs.serve.write_all.Given as goal

-- What is written and what is left are the bytes.
abbrev pub invariant-loop-rest : goal.invariant-loop-rest
invariant-loop-rest g l =
    record {
      written : Left (g.C.Client.seen l.fn.client) (g.C.Client.seen l.client) l.bytes l.rest;
      none_failed : NoneFailed (g.C.Client.seen l.fn.client) (g.C.Client.seen l.client);
      reading : SameReading (g.C.Client.seen l.fn.client) (g.C.Client.seen l.client);
    }

abbrev pub decreases-loop-rest : goal.decreases-loop-rest
decreases-loop-rest g l = length l.rest

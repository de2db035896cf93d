use Rattle.std.specs.Prelude.{ℕ, List, ◌++◌, length}
use Rattle.line_reader.specs.Clients.{NoneFailed, SameReading}
use Rattle.line_reader.specs.Lines.{IsPlain}
use Rattle.line_reader.specs.Parts.{IsFront}
use Rattle.line_reader.proofs.ServeLemmas.{Chunk}
use Rattle.line_reader.proofs.serve.answer_chunk.Given as goal

abbrev pub invariant-loop-rest : goal.invariant-loop-rest
invariant-loop-rest g l =
    record {
      chunk : (begun : List ℕ) → IsPlain begun → IsFront g.C.Client.MAX_LINE begun l.fn.line.bytes.items l.fn.line.is_long
          → Chunk g.C.Client.answer_to g.C.Client.MAX_LINE (g.C.Client.seen l.fn.client) (g.C.Client.seen l.client) (begun ++ l.chunk) l.rest l.line.bytes.items l.line.is_long;
      none_failed : NoneFailed (g.C.Client.seen l.fn.client) (g.C.Client.seen l.client);
      reading : SameReading (g.C.Client.seen l.fn.client) (g.C.Client.seen l.client);
    }

abbrev pub decreases-loop-rest : goal.decreases-loop-rest
decreases-loop-rest g l = length l.rest

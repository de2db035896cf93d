use Rattle.line_reader.proofs.ServeLemmas.{IsServing}
use Rattle.line_reader.proofs.serve.serve_lines.Given as goal

abbrev pub invariant-loop-turn : goal.invariant-loop-turn
invariant-loop-turn g l = IsServing g.C.Client.answer_to g.C.Client.MAX_LINE (g.C.Client.seen l.fn.client) (g.C.Client.seen l.client) l.line.bytes.items l.line.is_long l._turn

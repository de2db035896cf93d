use Rattle.language_session.specs.Sessions.{session_of}
use Rattle.session_server.proofs.Serving.{IsServing}
use Rattle.session_server.proofs.server.serve.Given as goal

-- what was read is answered, but for the buffer
abbrev pub invariant-loop-turn : goal.invariant-loop-turn
invariant-loop-turn g l =
    IsServing (g.L.Language.messages l.language) (g.R.Read.remaining l.fn.reader) (g.R.Read.remaining l.reader) (g.W.Write.contents l.fn.writer)
    (g.W.Write.contents l.writer) l.buffer.items (session_of l.session)

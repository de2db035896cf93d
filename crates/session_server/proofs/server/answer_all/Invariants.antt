use Rattle.std.specs.Prelude.{◌≤◌, ◌-◌, drop, length}
use Rattle.language_session.specs.Sessions.{session_of}
use Rattle.session_server.specs.Turns.{AreAnswered}
use Rattle.session_server.proofs.server.answer_all.Given as goal

-- the messages so far are answered
abbrev pub invariant-loop-at : goal.invariant-loop-at
invariant-loop-at g l =
    record {
      within : l.at ≤ length l.bytes;
      answered : AreAnswered (g.L.Language.messages l.language) (session_of l.fn.session) l.bytes (drop l.at l.bytes) (session_of l.session) l.told.items;
    }

abbrev pub decreases-loop-at : goal.decreases-loop-at
decreases-loop-at g l = length l.bytes - l.at

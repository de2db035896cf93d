use Rattle.std.proofs.Common.{map, take}
use Rattle.document_requests.specs.Answered.{reply as answered}
use Rattle.document_requests.specs.Applied.{session, Runs}
use Rattle.document_requests.specs.Asked.{command as command_in}
use Rattle.document_requests.proofs.apply.apply.Given as goal

-- the commands so far were run
abbrev pub invariant-loop-command : goal.invariant-loop-command
invariant-loop-command l =
    Runs (take l.command-index (map command_in l.commands)) (session l.fn.document l.fn.ids) (map answered l.fn.replies.items) (map answered l.replies.items) (session l.document l.ids)

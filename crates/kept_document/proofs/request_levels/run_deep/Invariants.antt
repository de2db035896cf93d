use Rattle.std.proofs.Common.{◌≡◌, drop, map}
use Rattle.document_requests.specs.Applied.{session}
use Rattle.document_requests.specs.Asked.{command as command_in}
use Rattle.kept_document.specs.DeepRequests.{runs_deep}
use Rattle.kept_document.proofs.request_levels.run_deep.Given as goal

-- the commands that are left come to what all come to
abbrev pub invariant-loop-command : goal.invariant-loop-command
invariant-loop-command l =
    runs_deep (map command_in (drop l.command-index l.commands)) (session l.kept.document l.kept.ids)
    ≡ runs_deep (map command_in l.commands) (session l.fn.kept.document l.fn.kept.ids)

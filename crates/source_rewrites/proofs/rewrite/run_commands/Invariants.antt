use Rattle.std.proofs.Common.{◌≡◌, drop, map}
use Rattle.document_requests.specs.Applied.{session}
use Rattle.document_requests.specs.Asked.{command as command_in}
use Rattle.source_rewrites.specs.Rewriting.{rewriting}
use Rattle.source_rewrites.proofs.rewrite.run_commands.Given as goal

-- What is left of the commands makes of the document what all make of the first one.
abbrev pub invariant-loop-index : goal.invariant-loop-index
invariant-loop-index l =
    rewriting l.rule l.index (map command_in (drop l.index l.commands)) (session l.document l.ids)
    ≡ rewriting l.rule 0 (map command_in l.commands) (session l.fn.document l.fn.ids)

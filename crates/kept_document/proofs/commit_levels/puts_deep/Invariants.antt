use Rattle.std.proofs.Common.{◌≡◌, drop, map}
use Rattle.document_requests.specs.Asked.{change as change_in}
use Rattle.kept_document.specs.Depth.{puts_deep}
use Rattle.kept_document.proofs.commit_levels.puts_deep.Given as goal

-- none of the changes so far puts such a text
abbrev pub invariant-loop-change : goal.invariant-loop-change
invariant-loop-change l = puts_deep l.edition (map change_in (drop l.change-index l.changes)) ≡ puts_deep l.edition (map change_in l.changes)

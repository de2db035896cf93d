use Rattle.std.proofs.Common.{◌≡◌, drop, map}
use Rattle.document_requests.specs.Asked.{change as change_in}
use Rattle.document_requests.specs.Session.{prepared}
use Rattle.kept_document.proofs.rehearsal.record_all.Given as goal

-- all changes come to what those that are left come to
abbrev pub invariant-loop-change : goal.invariant-loop-change
invariant-loop-change l =
    prepared (map change_in l.changes) l.document l.fn.editor l.fn.ids ≡ prepared (map change_in (drop l.change-index l.changes)) l.document l.editor l.ids

use Rattle.std.proofs.Common.{map}
use Rattle.document_requests.specs.Asked.{change as change_in}
use Rattle.document_requests.proofs.Fronts.{of_refusal}
use Rattle.document_requests.proofs.Numbers.{reasons-all, reasons-none, reasons-ready}
use Rattle.document_requests.proofs.reason.first_difference.Goals as goal

pub returns-in_err-editor-clause-numbers : goal.returns-in_err-editor-clause-numbers
returns-in_err-editor-clause-numbers c = of_refusal _ _ (reasons-none (map change_in c.args.changes.now) c.args.document.now c.args.ids.now)

pub returns-in-Ok-clause-numbers : goal.returns-in-Ok-clause-numbers
returns-in-Ok-clause-numbers c =
    let cs = map change_in c.args.changes.now in
    let d = c.args.document.now in
    let next = c.args.ids.now in
    of_refusal _ _
    (reasons-all cs d next c.prepare_all.new.ids
    (reasons-ready cs d c.in_ok-editor.editor c.prepare_all.new.editor next c.prepare_all.new.ids c.in_ok-editor.ensures c.in-Ok.ensures.done))

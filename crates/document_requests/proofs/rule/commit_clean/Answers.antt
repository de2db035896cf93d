use Rattle.std.proofs.Common.{arith, map}
use Rattle.document_requests.specs.Applied.{TakesSome, session}
use Rattle.document_requests.specs.Asked.{change as change_in}
use Rattle.document_requests.specs.Rules.{clean_committed}
use Rattle.document_requests.proofs.Fronts.{of_refusal}
use Rattle.document_requests.proofs.Numbers.{clean-committed-counts, clean-ready-counts}
use Rattle.document_requests.proofs.rule.commit_clean.Goals as goal

pub returns-in_err-editor-clause-numbers : goal.returns-in_err-editor-clause-numbers
returns-in_err-editor-clause-numbers c =
    let s = session c.args.document.now c.args.ids.now in
    let all = (clean_committed (map change_in c.args.changes.now) s).after.next in
    let none : TakesSome c.args.ids.now c.args.ids.now all = (omega arith, clean-committed-counts (map change_in c.args.changes.now) s) in
    of_refusal _ _ none

pub returns-in_err-committed-clause-numbers : goal.returns-in_err-committed-clause-numbers
returns-in_err-committed-clause-numbers c =
    let s = session c.args.document.now c.args.ids.now in
    let cs = map change_in c.args.changes.now in
    let took = clean-ready-counts cs s c.in_ok-editor.editor c.prepare_all.new.editor c.prepare_all.new.ids c.in_ok-editor.ensures c.in_ok-prepare_all.ensures.done in
    let kept = c.in_err-committed.ensures.kept.1 in
    let least = took.0 in
    let most = took.1 in
    let some : TakesSome c.args.ids.now c.commit_without_messages.new.ids (clean_committed cs s).after.next = (omega (arith, least, kept), omega (arith, most, kept)) in
    of_refusal _ _ some

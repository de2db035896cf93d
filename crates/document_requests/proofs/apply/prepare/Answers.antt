use Rattle.std.proofs.Common.{rules, arith, ◌≡◌, ◌∙◌, ap}
use Rattle.syntax_tree.specs.Handle.{element_of}
use Rattle.document_requests.specs.Applied.{TakesSome}
use Rattle.document_requests.specs.Asked.{change as change_in}
use Rattle.document_requests.specs.Session.{number_after_preparing, number_after_taking, prepared_by, put_taken, taken}
use Rattle.document_requests.proofs.Fronts.{of_refusal}
use Rattle.document_requests.proofs.Numbers.{preparing-counts, taken-number}
use Rattle.document_requests.proofs.apply.prepare.Goals as goal

pub returns-in_err-old-in-Put-clause-numbers : goal.returns-in_err-old-in-Put-clause-numbers
returns-in_err-old-in-Put-clause-numbers c =
    let all = number_after_preparing (prepared_by (change_in c.args.change) c.args.document.now c.args.editor.now c.args.ids.now) in
    let none : TakesSome c.args.ids.now c.args.ids.now all = (omega arith, preparing-counts (change_in c.args.change) c.args.document.now c.args.editor.now c.args.ids.now) in
    of_refusal _ _ none

pub returns-in_err-new-in-Put-clause-numbers : goal.returns-in_err-new-in-Put-clause-numbers
returns-in_err-new-in-Put-clause-numbers c =
    let text = taken c.in-Put.entry c.args.document.now c.in-Put.text.now c.args.ids.now in
    let is : prepared_by (change_in c.args.change) c.args.document.now c.args.editor.now c.args.ids.now ≡ put_taken c.in-Put.op (element_of c.in-Some.old) c.args.editor.now text = search rules in
    let same = ap number_after_preparing is ∙ taken-number c.in-Put.op (element_of c.in-Some.old) c.args.editor.now text in
    let took = c.in_err-new-in-Put.ensures.numbers in
    let most = took.1 in
    let some : TakesSome c.args.ids.now c.taken.new.ids (number_after_preparing (prepared_by (change_in c.args.change) c.args.document.now c.args.editor.now c.args.ids.now)) = (took.0, omega (arith, most, same)) in
    of_refusal _ _ some

pub returns-in_ok-new-in-Put-clause-numbers : goal.returns-in_ok-new-in-Put-clause-numbers
returns-in_ok-new-in-Put-clause-numbers c =
    let text = taken c.in-Put.entry c.args.document.now c.in-Put.text.now c.args.ids.now in
    let is : prepared_by (change_in c.args.change) c.args.document.now c.args.editor.now c.args.ids.now ≡ put_taken c.in-Put.op (element_of c.in-Some.old) c.args.editor.now text = search rules in
    let same = ap number_after_preparing is ∙ taken-number c.in-Put.op (element_of c.in-Some.old) c.args.editor.now text ∙ ap number_after_taking c.in_ok-new-in-Put.ensures.given in
    let counts = preparing-counts (change_in c.args.change) c.args.document.now c.args.editor.now c.args.ids.now in
    let some : TakesSome c.args.ids.now c.taken.new.ids (number_after_preparing (prepared_by (change_in c.args.change) c.args.document.now c.args.editor.now c.args.ids.now)) = (omega (arith, counts, same), omega (arith, same)) in
    of_refusal _ _ some

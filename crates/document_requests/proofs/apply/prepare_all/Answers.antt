use Rattle.std.proofs.Common.{arith, ap, map}
use Rattle.std.proofs.lemmas.Grind.{common_steps}
use Rattle.document_requests.specs.Applied.{TakesSome}
use Rattle.document_requests.specs.Asked.{change as change_in}
use Rattle.document_requests.specs.Session.{number_after_preparing, prepared}
use Rattle.document_requests.proofs.Fronts.{of_refusal}
use Rattle.document_requests.proofs.Numbers.{ready-after, rest-count}
use Rattle.document_requests.proofs.apply.prepare_all.Goals as goal

pub loop-change-preserved : goal.loop-change-preserved
loop-change-preserved c =
    let l = c.loop-change in
    let more = ready-after c.args.changes.now l.change-index _ c.args.document.now l.editor c.prepare.new.editor l.ids c.prepare.new.ids c.in_ok-prepare.ensures.done in
    record {
      rest = grind (arith, common_steps);
      counts = omega (arith, more, l.invariant.counts);
    }

pub returns-in_err-prepare-clause-numbers : goal.returns-in_err-prepare-clause-numbers
returns-in_err-prepare-clause-numbers c =
    let l = c.loop-change in
    let took = c.in_err-prepare.ensures.numbers in
    let least = took.0 in
    let most = rest-count c.args.changes.now l.change-index _ c.args.document.now l.editor l.ids c.prepare.new.ids (omega arith) took in
    let same = ap number_after_preparing l.invariant.rest in
    let all = number_after_preparing (prepared (map change_in c.args.changes.now) c.args.document.now c.args.editor.now c.args.ids.now) in
    let some : TakesSome c.args.ids.now c.prepare.new.ids all = (omega (arith, least, l.invariant.counts), omega (arith, most, same)) in
    of_refusal _ _ some

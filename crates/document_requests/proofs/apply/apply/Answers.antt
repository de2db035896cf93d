use Rattle.std.proofs.Common.{arith, refl, ap, map, ◌∙◌}
use Rattle.document_requests.specs.Answered.{reply as answered}
use Rattle.document_requests.specs.Applied.{TakesSome, session}
use Rattle.document_requests.specs.Asked.{command as command_in}
use Rattle.document_requests.specs.Session.{answer}
use Rattle.document_requests.proofs.Fronts.{of_refusal}
use Rattle.document_requests.proofs.Numbers.{answer-counts}
use Rattle.document_requests.proofs.Runs.{run_next, run_none, pushed, stopped}
use Rattle.document_requests.proofs.apply.apply.Goals as goal

pub loop-command-init : goal.loop-command-init
loop-command-init c = run_none c.args.commands.now _ _

pub loop-command-preserved : goal.loop-command-preserved
loop-command-preserved c =
    let longer = pushed c.loop-command.replies.items c.reserve.new.self.items c.push.new.self.items c.in_ok-reply.reply c.in_ok-reserve.ensures.items c.in_ok-push.ensures.items in
    run_next c.args.commands.now c.loop-command.command-index c.command-item.result _ _ _ _ _ _ _ (omega arith) c.command-item.is c.loop-command.invariant c.in_ok-reply.ensures.done longer

pub returns-in_err-reserve-clause-stopped : goal.returns-in_err-reserve-clause-stopped
returns-in_err-reserve-clause-stopped c =
    let l = c.loop-command in
    let now = session l.document l.ids in
    let counts = answer-counts (command_in c.command-item.result) now in
    let took : TakesSome l.ids l.ids (answer (command_in c.command-item.result) now).after.next = (omega arith, counts) in
    let told = ap (map answered) c.in_err-reserve.ensures.items ∙ l.invariant.0 in
    of_refusal _ _ (stopped c.args.commands.now l.command-index c.command-item.result _ _ _ now now (omega arith) c.command-item.is (told, l.invariant.1) refl took)

pub returns-in_err-reply-clause-stopped : goal.returns-in_err-reply-clause-stopped
returns-in_err-reply-clause-stopped c =
    let l = c.loop-command in
    let now = session l.document l.ids in
    let after = session c.answer.new.document c.answer.new.ids in
    let told = ap (map answered) c.in_ok-reserve.ensures.items ∙ l.invariant.0 in
    of_refusal _ _ (stopped c.args.commands.now l.command-index c.command-item.result _ _ _ now after (omega arith) c.command-item.is (told, l.invariant.1) c.in_err-reply.ensures.kept c.in_err-reply.ensures.numbers)

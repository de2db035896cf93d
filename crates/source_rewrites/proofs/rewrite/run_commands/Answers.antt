use Rattle.std.proofs.Common.{ap, map, sym, ◌∙◌}
use Rattle.std.specs.Prelude.{option_map}
use Rattle.rust_document.specs.Difference.{told_of}
use Rattle.line_index.specs.Columns.{line_col}
use Rattle.line_index.specs.declared.encoding.Encoding.TheVariants.{Utf32}
use Rattle.document_requests.specs.Answered.{reply as answered}
use Rattle.document_requests.specs.Applied.{session}
use Rattle.document_requests.specs.Asked.{command as command_in}
use Rattle.source_rewrites.specs.Rewriting.{rewriting}
use Rattle.source_rewrites.proofs.CommandLemmas.{commands-done, commands-on, commands-stop}
use Rattle.source_rewrites.proofs.rewrite.run_commands.Goals as goal

pub loop-index-preserved : goal.loop-index-preserved
loop-index-preserved c =
    let l = c.loop-index in
    let all = rewriting c.args.rule 0 (map command_in c.args.commands.now) (session c.args.document.now c.args.ids.now) in
    commands-on c.args.rule c.args.commands.now l.index c.index-commands-index.result (session l.document l.ids) (session c.answer_by.new.document c.answer_by.new.ids)
    (answered c.in_ok-reply.reply) all c.loop-index-test.true c.index-commands-index.is c.in_ok-reply.ensures.done l.invariant (sym c.refusal_of.ensures ∙ c.in_default.is)

pub returns-in-Some-clause-stopped : goal.returns-in-Some-clause-stopped
returns-in-Some-clause-stopped c =
    let l = c.loop-index in
    let all = rewriting c.args.rule 0 (map command_in c.args.commands.now) (session c.args.document.now c.args.ids.now) in
    let text = c.in_ok-lines.ensures ∙ c.text.ensures.text in
    let at =
    c.line_col-place.ensures ∙ ap (λ bytes. line_col Utf32 bytes c.command_start.result) text
    ∙ ap (λ start. line_col Utf32 c.answer_by.new.document.text start) c.command_start.ensures in
    commands-stop c.args.rule c.args.commands.now l.index c.index-commands-index.result (session l.document l.ids) (session c.answer_by.new.document c.answer_by.new.ids)
    (answered c.in_ok-reply.reply) all c.loop-index-test.true c.index-commands-index.is c.in_ok-reply.ensures.done l.invariant c.in-Some.refusal c.line_col-place.result
    (option_map told_of c.in_ok-difference.difference) (sym c.refusal_of.ensures ∙ c.in-Some.is) at c.in_ok-difference.ensures

pub returns-clause-done : goal.returns-clause-done
returns-clause-done c = commands-done c.args.rule c.args.commands.now c.loop-index.index _ _ c.loop-index-test.false c.loop-index.invariant

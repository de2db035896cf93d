use Rattle.std.proofs.Common.{Some, ap, map, string_bytes, sym, ◌∙◌}
use Rattle.std.specs.Prelude.{option_map}
use Rattle.serde_json.specs.View.{members_view, view}
use Rattle.document_requests.specs.Asked.{command}
use Rattle.source_rewrites.specs.CommandFile.{asked_of}
use Rattle.source_rewrites.proofs.MemberLemmas.{file_all, file_asked, file_first, file_next, file_none}
use Rattle.source_rewrites.proofs.command_file.commands_of_files.Goals as goal

pub loop-path-init : goal.loop-path-init
loop-path-init c =
    let all = c.in-Some.ensures in
    let left = ap members_view (c.into_iter-path-iterator.ensures.into_iter_gives ∙ c.iter-path-items.ensures.rest) in
    file_first c.args.grammar _ (view c.args.value.now) c.new-files.result.items (ap Some left ∙ all) c.new-files.ensures.items

pub loop-path-preserved : goal.loop-path-preserved
loop-path-preserved c =
    let path = string_bytes c.in-Some-2.path.now in
    let d = view c.in-Some-2.list.now in
    let cs = map command c.in-Some-3.commands.items in
    let cut = ap members_view c.in-Some-2.ensures.steps in
    let found = sym c.in_ok-commands.ensures ∙ ap (option_map (λ commands. map command commands.items)) c.in-Some-3.is in
    file_next c.args.grammar _ path d (members_view c.next.new.self) cs c.loop-path.files.items c.push.new.self.items _ (asked_of c.args.grammar (view c.args.value.now)) cut found c.in_ok-push.ensures.items
    (ap (λ p. file_asked p cs) c.as_str.ensures.value) c.loop-path.invariant

pub returns-in_default-2 : goal.returns-in_default-2
returns-in_default-2 c =
    let path = string_bytes c.in-Some-2.path.now in
    let d = view c.in-Some-2.list.now in
    let cut = ap members_view c.in-Some-2.ensures.steps in
    let none = sym c.in_ok-commands.ensures ∙ ap (option_map (λ commands. map command commands.items)) c.in_default-2.is in
    file_none c.args.grammar _ path d (members_view c.next.new.self) _ (asked_of c.args.grammar (view c.args.value.now)) cut none c.loop-path.invariant

pub returns : goal.returns
returns c = file_all c.args.grammar _ _ (asked_of c.args.grammar (view c.args.value.now)) (ap members_view c.in-None.ensures.steps.0) c.loop-path.invariant

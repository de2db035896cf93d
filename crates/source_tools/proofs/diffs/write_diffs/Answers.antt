use Rattle.std.proofs.Common.{◌≡◌, ◌∙◌, ◌+◌, ◌++◌, ◌∷◌, [], List, map, take, ap, sym, subst}
use Rattle.std.proofs.lemmas.List.{take_more}
use Rattle.source_tools.specs.declared.writes.FileChange.{FileChange}
use Rattle.source_tools.specs.Writes.{Change, change_in}
use Rattle.source_tools.specs.Diffs.{AreDiffs}
use Rattle.source_tools.proofs.ListLemmas.{map-more}
use Rattle.source_tools.proofs.KnownLemmas.{appends-more}
use Rattle.source_tools.proofs.DiffLemmas.{diffs-more}
use Rattle.source_tools.proofs.diffs.write_diffs.Goals as goal

pub loop-change-preserved : goal.loop-change-preserved
loop-change-preserved g c =
    let done = take c.loop-change.change-index c.args.changes.now in
    let change : FileChange = c.change-item.result in
    let more : take (c.loop-change.change-index + 1) c.args.changes.now ≡ done ++ change ∷ [] =
    take_more c.args.changes.now c.loop-change.change-index change c.loop-change-test.true ∙ ap (λ (x : FileChange). done ++ x ∷ []) (sym c.change-item.is) in
    let text = c.loop-change.invariant.0 in
    let diff = c.in_ok-diff.diff.items in
    let is = rw (c.as_str.ensures.value, c.as_slice.ensures.value, c.as_slice-in-loop-change.ensures.value) at c.in_ok-diff.ensures.patches in
    let script = rw (c.as_str.ensures.value, c.as_slice.ensures.value, c.as_slice-in-loop-change.ensures.value) at c.in_ok-diff.ensures.hunks in
    let wrote = rw c.as_slice-in-loop-change-2.ensures.value at c.in_ok-write_all.ensures.bytes in
    let before = g.W.Write.contents c.args.writer.now in
    let after = g.W.Write.contents c.write_all.new.self in
    let are : AreDiffs (map change_in (take (c.loop-change.change-index + 1) c.args.changes.now)) (text ++ diff) =
    subst (λ (cs : List Change). AreDiffs cs (text ++ diff)) (sym (ap (λ (cs : List FileChange). map change_in cs) more ∙ map-more change_in done change))
    (diffs-more (map change_in done) (change_in change) text diff c.loop-change.invariant.1 (is, script)) in
    (text ++ diff, are, appends-more before (g.W.Write.contents c.loop-change.writer) after text diff c.loop-change.invariant.2 wrote)

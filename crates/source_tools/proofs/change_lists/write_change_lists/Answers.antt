use Rattle.std.proofs.Common.{◌≡◌, ◌∙◌, ◌+◌, ◌++◌, ◌∷◌, [], List, map, take, ap, sym, subst}
use Rattle.std.proofs.lemmas.List.{take_more}
use Rattle.source_tools.specs.declared.writes.FileChange.{FileChange}
use Rattle.source_tools.specs.Writes.{Change, change_in}
use Rattle.source_tools.specs.ChangeLists.{AreChangeLists}
use Rattle.source_tools.proofs.ListLemmas.{map-more}
use Rattle.source_tools.proofs.KnownLemmas.{appends-more}
use Rattle.source_tools.proofs.ChangeListLemmas.{lists-more}
use Rattle.source_tools.proofs.change_lists.write_change_lists.Goals as goal

pub loop-change-preserved : goal.loop-change-preserved
loop-change-preserved g c =
    let done = take c.loop-change.change-index c.args.changes.now in
    let change : FileChange = c.change-item.result in
    let more : take (c.loop-change.change-index + 1) c.args.changes.now ≡ done ++ change ∷ [] =
    take_more c.args.changes.now c.loop-change.change-index change c.loop-change-test.true ∙ ap (λ (x : FileChange). done ++ x ∷ []) (sym c.change-item.is) in
    let text = c.loop-change.invariant.0 in
    let list = c.in_ok-list.list.items in
    let wrote = rw c.as_slice.ensures.value at c.in_ok-write_all.ensures.bytes in
    let before = g.W.Write.contents c.args.writer.now in
    let after = g.W.Write.contents c.write_all.new.self in
    let are : AreChangeLists (map change_in (take (c.loop-change.change-index + 1) c.args.changes.now)) (text ++ list) =
    subst (λ (cs : List Change). AreChangeLists cs (text ++ list)) (sym (ap (λ (cs : List FileChange). map change_in cs) more ∙ map-more change_in done change))
    (lists-more (map change_in done) (change_in change) text list c.loop-change.invariant.1 c.in_ok-list.ensures) in
    (text ++ list, are, appends-more before (g.W.Write.contents c.loop-change.writer) after text list c.loop-change.invariant.2 wrote)

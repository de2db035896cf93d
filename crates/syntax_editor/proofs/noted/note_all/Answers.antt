use Rattle.std.proofs.Common.{◌≡◌, ◌<◌, length, take, ap, sym, ◌∙◌, map, get_or, arith}
use Rattle.std.proofs.lemmas.List.{length-map, get_or-map}
use Rattle.tree_rewrite.specs.Recorded.{recorded}
use Rattle.syntax_editor.proofs.NotedLemmas.{noted-next}
use Rattle.syntax_editor.proofs.noted.note_all.Goals as goal

pub loop-noted-preserved : goal.loop-noted-preserved
loop-noted-preserved c =
    let xs = c.args.changes.now in
    let n = c.loop-noted.noted in
    let x = c.index-changes-noted.result in
    let within : n < length (map recorded xs) = omega (arith, length-map xs recorded) in
    let is : recorded x ≡ get_or (map recorded xs) n (recorded x) = ap recorded c.index-changes-noted.is ∙ sym (get_or-map recorded xs n x (recorded x) c.loop-noted-test.true) in
    noted-next c.loop-noted.singles c.note.new.singles n (map recorded xs) (recorded x) within is (c.in_ok-note.ensures.ok (take n (map recorded xs))) c.loop-noted.invariant

use Rattle.std.proofs.Common.{◌∙◌, arith}
use Rattle.std.proofs.lemmas.List.{drop_more, drop_all}
use Rattle.text_diff.proofs.TextLemmas.{group-step, rows-text-nil}
use Rattle.text_diff.proofs.rows.push_group.Goals as goal

pub loop-change-preserved : goal.loop-change-preserved
loop-change-preserved c =
    let inv = rw (drop_more c.args.changes.now c.loop-change.change-index (record { old_start = 0; old_end = 0; new_start = 0; new_end = 0 }) c.loop-change-test.true) at c.loop-change.invariant in
    let shown = rw c.part.ensures at c.in_ok-push_rows.ensures in
    group-step c.loop-change.text.items c.push_rows.new.text.items c.push_change.new.text.items _ _ _ c.loop-change.at _ _ c.args.to shown c.in_ok-push_change.ensures inv

pub returns : goal.returns
returns c =
    let inv = rw (drop_all c.loop-change.change-index c.args.changes.now (omega arith), rows-text-nil) at c.loop-change.invariant in
    let last = rw c.part-2.ensures at c.in_ok-push_rows-2.ensures in
    last ∙ inv

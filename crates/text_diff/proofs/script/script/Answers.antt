use Rattle.std.proofs.Common.{◌≡◌, ◌+◌, ◌≤◌, ◌<◌, ℕ, List, [], ◌∷◌, map, length, get_or, ap, sym, ◌∙◌, arith}
use Rattle.std.proofs.lemmas.List.{length-map}
use Rattle.text_diff.specs.Lines.{Line}
use Rattle.text_diff.proofs.RunLemmas.{all-one, run-extend, run-push, same-step}
use Rattle.std.proofs.lemmas.Bool.{both_ways}
use Rattle.std.proofs.lemmas.List.Elements.{All-append}
use Rattle.text_diff.specs.Script.{EndDiffers, StartDiffers}
use Rattle.text_diff.proofs.script.script.Goals as goal
use Rattle.text_diff.proofs.script.script.Goals.{then-i-old, else-i-old+then-j-new}

pub loop-i-preserved-then-is_same : goal.loop-i-preserved-then-is_same
loop-i-preserved-then-is_same c =
    let old : List Line = map (λ l. l.now) c.args.old.now in
    let new : List Line = map (λ l. l.now) c.args.new.now in
    let same = c.is_same.ensures.0 c.if-is_same.true in
    let old_len = length-map c.args.old.now (λ l. l.now) in
    let new_len = length-map c.args.new.now (λ l. l.now) in
    let step = same-step old new c.loop-i.i c.loop-i.j (omega (arith, same.0)) (omega (arith, same.1)) same.2 in
    record {
      old_line = omega (arith, same.0);
      new_line = omega (arith, same.1);
      run = run-extend old new 0 0 c.loop-i.changes.items c.loop-i.i c.loop-i.j (c.loop-i.i + 1) (c.loop-i.j + 1) c.loop-i.invariant.run step;
      differ = c.loop-i.invariant.differ;
      ends_differ = c.loop-i.invariant.ends_differ;
      same = λ e. let both = c.loop-i.invariant.same e in (both.0, omega (arith, both.1));
    }

pub loop-i-preserved : goal.loop-i-preserved
loop-i-preserved c =
    let old : List Line = map (λ l. l.now) c.args.old.now in
    let new : List Line = map (λ l. l.now) c.args.new.now in
    let ahead = c.change_end-old_end.ensures.ahead in
    let old_len = length-map c.args.old.now (λ l. l.now) in
    let new_len = length-map c.args.new.now (λ l. l.now) in
    record {
      old_line = ahead.old_end;
      new_line = ahead.new_end;
      run =
          rw c.in_ok-push.ensures.items
          (run-push old new 0 0 c.loop-i.changes.items _ c.loop-i.invariant.run
          (record { old_order = ahead.old_order; new_order = ahead.new_order; old_end = omega (arith, ahead.old_end); new_end = omega (arith, ahead.new_end) }));
      differ =
          rw c.in_ok-push.ensures.items
          (All-append (StartDiffers old new) c.loop-i.changes.items _ c.loop-i.invariant.differ
          (all-one (StartDiffers old new) _
          (λ within_old within_new equal. both_ways c.is_same.result c.if-is_same.false (c.is_same.ensures.1 (omega (arith, old_len, within_old), omega (arith, new_len, within_new), equal)))));
      ends_differ =
          rw c.in_ok-push.ensures.items
          (All-append (EndDiffers old new) c.loop-i.changes.items _ c.loop-i.invariant.ends_differ
          (all-one (EndDiffers old new) _ c.change_end-old_end.ensures.last));
      same = λ e. absurd (both_ways c.is_same.result c.if-is_same.false (c.is_same.ensures.1 (
          let at = c.loop-i.invariant.same e in
          let size : length c.args.old.now ≡ length c.args.new.now = sym old_len ∙ ap length e ∙ new_len in
          let i : c.loop-i.i < length c.args.old.now = elim c.if-i-old.branch [
            | then-i-old w ↦ w.if-i-old.true
            | else-i-old+then-j-new w ↦ omega (arith, at.1, size, w.if-j-new.true)
          ] in
          (i, omega (arith, at.1, size, i), ap (λ v. get_or v c.loop-i.i []) e ∙ ap (λ k. get_or new k []) at.1))));
    }

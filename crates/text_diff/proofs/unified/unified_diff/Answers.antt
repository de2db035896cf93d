use Rattle.std.proofs.Common.{◌≡◌, ◌∙◌, ap, sym, map, length, arith}
use Rattle.text_diff.specs.Lines.{lines}
use Rattle.text_diff.specs.Script.{IsScript}
use Rattle.text_diff.specs.Hunks.{hunks}
use Rattle.text_diff.specs.DiffText.{patched_text}
use Rattle.text_diff.proofs.DiffLemmas.{script-applies}
use Rattle.text_diff.proofs.GroupLemmas.{script-patches}
use Rattle.text_diff.proofs.HunkLemmas.{unified-none}
use Rattle.text_diff.proofs.unified.unified_diff.Goals as goal

pub returns : goal.returns
returns c =
    let old = ap (λ v. map (λ l. l.now) v) c.as_slice.ensures.value ∙ c.in_ok-old.ensures in
    let new = ap (λ v. map (λ l. l.now) v) c.as_slice-2.ensures.value ∙ c.in_ok-new.ensures in
    let run : IsScript (lines c.args.old.now) (lines c.args.new.now) c.in_ok-changes.changes.items = rw (old, new) at c.in_ok-changes.ensures.script in
    let old-again = ap (λ v. map (λ l. l.now) v) c.as_slice-3.ensures.value ∙ c.in_ok-old.ensures in
    let new-again = ap (λ v. map (λ l. l.now) v) c.as_slice-4.ensures.value ∙ c.in_ok-new.ensures in
    let text = rw (old-again, new-again, c.as_slice-5.ensures.value) at c.in_ok-text.ensures in
    let differ = rw (old, new) at c.in_ok-changes.ensures.differ in
    let patches = script-patches (length c.in_ok-changes.changes.items) (lines c.args.old.now) (lines c.args.new.now) 0 0 c.in_ok-changes.changes.items (omega arith) run
    (λ d ds e. omega arith) in
    record {
      hunks = (c.in_ok-changes.changes.items, run, differ, text);
      patches = (hunks (lines c.args.old.now) (lines c.args.new.now) c.in_ok-changes.changes.items, text, patches);
      applies = ap (λ v. patched_text v c.args.old.now) text
          ∙ script-applies c.args.path.now c.args.old.now c.args.new.now c.in_ok-changes.changes.items run (omega arith) (omega arith) patches;
      same = λ e.
          text ∙ unified-none c.args.path.now (lines c.args.old.now) (lines c.args.new.now) c.in_ok-changes.changes.items
          (ap length (c.in_ok-changes.ensures.same (old ∙ ap lines e ∙ sym new)));
    }

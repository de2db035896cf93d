use Rattle.std.proofs.Common.{◌≡◌, ◌≤◌, ◌+◌, ◌-◌, [], map, length}
use Rattle.text_diff.specs.Script.{EndsDiffer, IsRun, StartsDiffer}
use Rattle.text_diff.proofs.script.script.Given as goal

abbrev pub invariant-loop-i : goal.invariant-loop-i
invariant-loop-i l = record {
  old_line : l.i ≤ length l.old;
  new_line : l.j ≤ length l.new;
  run : IsRun (map (λ x. x.now) l.old) (map (λ x. x.now) l.new) 0 0 l.changes.items l.i l.j;
  differ : StartsDiffer (map (λ x. x.now) l.old) (map (λ x. x.now) l.new) l.changes.items;
  ends_differ : EndsDiffer (map (λ x. x.now) l.old) (map (λ x. x.now) l.new) l.changes.items;
  same : map (λ x. x.now) l.old ≡ map (λ x. x.now) l.new → (l.changes.items ≡ []) × (l.i ≡ l.j);
}

abbrev pub decreases-loop-i : goal.decreases-loop-i
decreases-loop-i l = (length l.old - l.i) + (length l.new - l.j)

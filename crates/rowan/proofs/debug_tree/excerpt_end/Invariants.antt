use Rattle.std.proofs.Common.{◌≡◌, ◌+◌, ◌-◌, ◌≤◌, drop, length}
use Rattle.rowan.specs.Debug.{excerpt_end, within_character}
use Rattle.rowan.proofs.debug_tree.excerpt_end.Given as goal

abbrev pub invariant-bytes : goal.invariant-bytes
invariant-bytes l = record {
  from : 21 ≤ l.end;
  within : l.end ≤ length l.text;
  same : l.end + within_character (drop l.end l.text) ≡ excerpt_end l.text;
}

abbrev pub decreases-bytes : goal.decreases-bytes
decreases-bytes l = length l.text - l.end

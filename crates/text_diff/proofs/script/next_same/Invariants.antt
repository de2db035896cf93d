use Rattle.std.proofs.Common.{◌≡◌, ◌<◌, ◌≤◌, ◌+◌, ◌-◌, ℕ, map}
use Rattle.text_diff.specs.Script.{AreApart, IsSamePair}
use Rattle.text_diff.proofs.script.next_same.Given as goal

abbrev pub invariant-loop-distance : goal.invariant-loop-distance
invariant-loop-distance l = AreApart (map (λ x. x.now) l.old) (map (λ x. x.now) l.new) l.i l.j l.distance

abbrev pub invariant-loop-removed : goal.invariant-loop-removed
invariant-loop-removed l =
    (r : ℕ) → r < l.removed → IsSamePair (map (λ x. x.now) l.old) (map (λ x. x.now) l.new) (l.i + r) (l.j + (l.distance - r)) → ⊥

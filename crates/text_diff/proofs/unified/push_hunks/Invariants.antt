use Rattle.std.proofs.Common.{◌≡◌, ◌++◌, ◌≤◌, ◌∷◌, ℕ, List, map, length}
use Rattle.std.specs.List.{flat_map}
use Rattle.text_diff.proofs.HunkLemmas.{Leads}
use Rattle.text_diff.specs.Hunks.{hunks}
use Rattle.text_diff.specs.Unified.{hunk_text}
use Rattle.text_diff.proofs.unified.push_hunks.Given as goal

abbrev pub invariant-loop-rest : goal.invariant-loop-rest
invariant-loop-rest l = record {
  text : l.text.items ++ flat_map hunk_text (hunks (map (λ x. x.now) l.old) (map (λ x. x.now) l.new) l.rest)
      ≡ l.fn.text.items ++ flat_map hunk_text (hunks (map (λ x. x.now) l.old) (map (λ x. x.now) l.new) l.changes);
  run : (i : ℕ) × (j : ℕ) × Leads (map (λ x. x.now) l.old) (map (λ x. x.now) l.new) l.rest i j;
}

abbrev pub decreases-loop-rest : goal.decreases-loop-rest
decreases-loop-rest l = length l.rest

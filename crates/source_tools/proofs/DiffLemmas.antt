-- Lemmas on diffs of changes.
use Rattle.std.proofs.Common.{ℕ, List, [], ◌∷◌, ◌++◌, refl, ap, sym, ◌∙◌, append_assoc, append-nil}
use Rattle.source_tools.specs.Writes.{Change}
use Rattle.source_tools.specs.Diffs.{IsDiff, AreDiffs}

-- one more change
pub diffs-more : (cs : List Change) (c : Change) (text d : List ℕ) → AreDiffs cs text → IsDiff c d → AreDiffs (cs ++ c ∷ []) (text ++ d)
diffs-more [] c text d none is = (d, [], ap (λ (x : List ℕ). x ++ d) none ∙ sym (append-nil d), is, refl)
diffs-more (b ∷ cs) c text d are is =
    (are.0, are.1 ++ d, ap (λ (x : List ℕ). x ++ d) are.2 ∙ append_assoc are.0 are.1 d, are.3, diffs-more cs c are.1 d are.4 is)

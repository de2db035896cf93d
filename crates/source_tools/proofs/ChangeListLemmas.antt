-- Lemmas on changes in JSON.
use Rattle.std.proofs.Common.{ℕ, List, [], ◌∷◌, ◌++◌, refl, ap, sym, ◌∙◌, append_assoc, append-nil}
use Rattle.source_tools.specs.Writes.{Change}
use Rattle.source_tools.specs.ChangeLists.{IsChangeList, AreChangeLists}

-- one more change
pub lists-more : (cs : List Change) (c : Change) (text list : List ℕ) → AreChangeLists cs text → IsChangeList c list → AreChangeLists (cs ++ c ∷ []) (text ++ list)
lists-more [] c text list none is = (list, [], ap (λ (x : List ℕ). x ++ list) none ∙ sym (append-nil list), is, refl)
lists-more (b ∷ cs) c text list are is =
    (are.0, are.1 ++ list, ap (λ (x : List ℕ). x ++ list) are.2 ∙ append_assoc are.0 are.1 list, are.3, lists-more cs c are.1 list are.4 is)

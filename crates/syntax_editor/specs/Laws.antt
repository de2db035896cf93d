-- Laws of what is recorded.
use Rattle.std.specs.Prelude.{◌≡◌, ◌↔◌, ℕ, List, ◌∷◌, ◌++◌, true, false}
use Rattle.tree_rewrite.specs.Change.{Change}
use Rattle.tree_rewrite.specs.Orders.{same_gap_at}
use Rattle.syntax_editor.specs.Calls.{Call, becomes, verdict, after_calls, are_apart}
use Rattle.syntax_editor.specs.Edit.{Edit}
use Rattle.syntax_editor.specs.Editing.{Editing, with_changes, merged}
use Rattle.syntax_editor.specs.Finished.{IsFinished}
use Rattle.syntax_editor.specs.Rewriting.{rewriting, IsPlaceable, RefusesRewriting, RefusesFinish}
use Rattle.syntax_editor.specs.declared.error.RewriteError.{RewriteError}
use Rattle.syntax_editor.specs.declared.error.FinishError.{FinishError}

-- two editors end alike: both are refused, for the same reasons; or both end in the same tree, of which an edit tells the same
pub record EndAlike (e f : Editing) : Type 0 where
  pub refused : (r : RewriteError) → RefusesRewriting e r ↔ RefusesRewriting f r
  pub refused_finish : (number : ℕ) (r : FinishError) → RefusesFinish e number r ↔ RefusesFinish f number r
  pub placeable : IsPlaceable e ↔ IsPlaceable f
  pub same : IsPlaceable e → rewriting e ≡ rewriting f
  pub finished : IsPlaceable e → (number : ℕ) (r : Edit) → IsFinished e number r ↔ IsFinished f number r

-- two neighbouring changes may be recorded in either order, unless both put into one gap
abbrev pub SwapsAgree : Type 0
SwapsAgree = (e : Editing) (before after : List Change) (c d : Change) → same_gap_at c d ≡ false
    → EndAlike (with_changes e (before ++ c ∷ (d ∷ after))) (with_changes e (before ++ d ∷ (c ∷ after)))

-- whether a call is refused, and why, does not depend on what is recorded
abbrev pub VerdictsStay : Type 0
VerdictsStay = (e : Editing) (cs : List Change) (a : Call) → verdict (becomes (with_changes e cs) a) ≡ verdict (becomes e a)

-- editors that end alike, also once another one is merged into both, or both into another one
pub record StayAlike (e f : Editing) : Type 0 where
  pub alone : EndAlike e f
  pub before : (g : Editing) → EndAlike (merged e g) (merged f g)
  pub after : (g : Editing) → EndAlike (merged g e) (merged g f)

-- two calls, one after another, may be made in either order, whatever calls follow, unless both put into one gap or name one element alone
abbrev pub CallsAgree : Type 0
CallsAgree = (e : Editing) (a b : Call) (more : List Call) → are_apart a b ≡ true
    → StayAlike (after_calls e (a ∷ (b ∷ more))) (after_calls e (b ∷ (a ∷ more)))

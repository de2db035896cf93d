-- Recordings of changes that end alike.
use Rattle.std.proofs.Common.{◌≡◌, ℕ, List, Option, Some, None, is_some, Bool, true, false, ◌&&◌, not, refl, ap, sym, ◌∙◌, subst}
use Rattle.std.proofs.lemmas.Bool.{false≢true}
use Rattle.syntax_tree.specs.Element.{Element}
use Rattle.syntax_tree.specs.Mapping.{Mapping}
use Rattle.tree_rewrite.specs.Change.{Change, has_collision}
use Rattle.tree_rewrite.specs.Changed.{changed_at}
use Rattle.tree_rewrite.specs.Fits.{IsNode, new_fits}
use Rattle.tree_rewrite.specs.Laws.{AreAlike}
use Rattle.tree_rewrite.specs.Marked as marks
use Rattle.tree_rewrite.specs.Rewrite.{jobs}
use Rattle.annotated_elements.specs.Annotated.{annotated}
use Rattle.syntax_tree.specs.Element as elements
use Rattle.syntax_editor.specs.Again.{numbered, annotated_at}
use Rattle.syntax_editor.specs.Edit.{Edit}
use Rattle.syntax_editor.specs.Editing.{Editing, with_changes}
use Rattle.syntax_editor.specs.Finished.{IsFinished}
use Rattle.syntax_editor.specs.Laws.{EndAlike}
use Rattle.syntax_editor.specs.Rewriting.{rewriting, RefusesRewriting, RefusesFinish}
use Rattle.syntax_editor.specs.declared.error.RewriteError.{RewriteError}
use Rattle.syntax_editor.specs.declared.error.RewriteError.TheVariants as rewrites
use Rattle.syntax_editor.specs.declared.error.FinishError.{FinishError}
use Rattle.syntax_editor.specs.declared.error.FinishError.TheVariants as finishes
use Rattle.std.specs.Prelude.{map}

alike-back : (top : Element) (cs ds : List Change) (ms : Mapping) → AreAlike top cs ds ms → AreAlike top ds cs ms
alike-back top cs ds ms a = record {
  colliding = sym a.colliding;
  placeable = sym a.placeable;
  same = λ h. sym (a.same (a.placeable ∙ h));
}

-- no place: where nothing collides, that is the only reason
no_place : {A : Type 0} (b : Bool) (o : Option A) → b ≡ false → (not b && is_some o) ≡ false → o ≡ None
no_place true o e h = absurd (false≢true (sym e))
no_place false None e h = refl
no_place false (Some x) e h = absurd (false≢true (sym h))

no_jobs : (top : Element) (cs ds : List Change) (ms : Mapping) → AreAlike top cs ds ms → has_collision ds ≡ false → jobs top cs ms ≡ None → jobs top ds ms ≡ None
no_jobs top cs ds ms a c n =
    no_place (has_collision ds) (jobs top ds ms) c (sym a.placeable ∙ none (has_collision cs) (jobs top cs ms) n)
  where
    none : {A : Type 0} (b : Bool) (o : Option A) → o ≡ None → (not b && is_some o) ≡ false
    none true o e = refl
    none false o e = ap is_some e

refused_on : (e : Editing) (cs ds : List Change) → AreAlike e.top cs ds e.mapping → (r : RewriteError)
    → RefusesRewriting (with_changes e cs) r → RefusesRewriting (with_changes e ds) r
refused_on e cs ds a rewrites.Intersecting h = sym a.colliding ∙ h
refused_on e cs ds a rewrites.MissingMapping h = let apart = sym a.colliding ∙ h.0 in (apart, no_jobs e.top cs ds e.mapping a apart h.1)
refused_on e cs ds a rewrites.TooLong h = (sym a.placeable ∙ h.0, ap new_fits (sym (a.same h.0)) ∙ h.1)
refused_on e cs ds a rewrites.NoMemory h = tt

refused_finish_on : (e : Editing) (cs ds : List Change) → AreAlike e.top cs ds e.mapping → (number : ℕ) (r : FinishError)
    → RefusesFinish (with_changes e cs) number r → RefusesFinish (with_changes e ds) number r
refused_finish_on e cs ds a number finishes.Intersecting h = sym a.colliding ∙ h
refused_finish_on e cs ds a number finishes.MissingMapping h = let apart = sym a.colliding ∙ h.0 in (apart, no_jobs e.top cs ds e.mapping a apart h.1)
refused_finish_on e cs ds a number finishes.TooLong h = (sym a.placeable ∙ h.0, ap new_fits (sym (a.same h.0)) ∙ h.1)
refused_finish_on e cs ds a number finishes.NoTreeNumber h = (sym a.placeable ∙ h.0, ap new_fits (sym (a.same h.0)) ∙ h.1, h.2)
refused_finish_on e cs ds a number finishes.NoMemory h = tt

finished_on : (e : Editing) (cs ds : List Change) → rewriting (with_changes e cs) ≡ rewriting (with_changes e ds) → (number : ℕ) (r : Edit)
    → IsFinished (with_changes e cs) number r → IsFinished (with_changes e ds) number r
finished_on e cs ds s number r h = record {
  tree = h.tree;
  rewritten = subst (λ m. IsNode m h.tree) s h.rewritten;
  old_root = h.old_root;
  new_root = h.new_root;
  changed = h.changed ∙ ap (λ m. changed_at m 0) s;
  origins = h.origins ∙ ap marks.origins s;
  changed_elements = h.changed_elements ∙ ap (λ m. map (elements.element_at number h.tree) (marks.changed m)) s;
  annotated = h.annotated ∙ ap (λ m. map (annotated_at r.new_root) (annotated e.mapping (map numbered e.annotations) m)) s;
}

pub ends_alike : (e : Editing) (cs ds : List Change) → AreAlike e.top cs ds e.mapping → EndAlike (with_changes e cs) (with_changes e ds)
ends_alike e cs ds a =
    let b = alike-back e.top cs ds e.mapping a in
    record {
      refused = λ r. (refused_on e cs ds a r, refused_on e ds cs b r);
      refused_finish = λ n r. (refused_finish_on e cs ds a n r, refused_finish_on e ds cs b n r);
      placeable = (λ h. sym a.placeable ∙ h, λ h. a.placeable ∙ h);
      same = a.same;
      finished = λ h n r. (finished_on e cs ds (a.same h) n r, finished_on e ds cs (sym (a.same h)) n r);
    }

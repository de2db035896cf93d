use Rattle.std.proofs.Common.{List, [], ◌∷◌, ◌++◌, map, sym, ◌∙◌, ap, subst}
use Rattle.std.specs.List.{All}
use Rattle.std.proofs.lemmas.List.{map-append}
use Rattle.std.proofs.lemmas.List.Elements.{All-push}
use Rattle.tree_rewrite.specs.Change.{Change}
use Rattle.tree_rewrite.specs.Held.{FitsRow}
use Rattle.tree_rewrite.specs.Recorded.{recorded}
use Rattle.tree_rewrite.proofs.plan.tree_changes.Goals as goal

pub loop-change-preserved : goal.loop-change-preserved
loop-change-preserved c =
    let made = c.loop-change.made.items in
    let before = c.loop-change.yielded in
    let new = c.in_ok-into_tree_change.field-0 in
    let pushed = c.in_ok-push.ensures.items in
    record {
      same = pushed
          ∙ ap (λ (l : List Change). l ++ new ∷ []) c.loop-change.invariant.same
          ∙ ap (λ (d : Change). map recorded before ++ d ∷ []) c.in_ok-into_tree_change.ensures.same
          ∙ sym (map-append recorded before (c.in-Some.change ∷ []));
      fits = subst (All FitsRow) (sym pushed) (All-push FitsRow made new c.loop-change.invariant.fits c.in_ok-into_tree_change.ensures.fits);
    }

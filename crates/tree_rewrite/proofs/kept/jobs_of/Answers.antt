use Rattle.std.proofs.Common.{◌≡◌, ◌+◌, ◌∷◌, sym, ◌∙◌, ap, drop}
use Rattle.std.proofs.lemmas.List.{drop_more}
use Rattle.rowan.specs.Place.{term_at}
use Rattle.tree_rewrite.specs.Change.{is_dropped}
use Rattle.tree_rewrite.specs.Rewrite.{jobs_from, kept_of}
use Rattle.tree_rewrite.proofs.KeptLemmas.{after_jobs, next_kept, next_dropped, root_green}
use Rattle.tree_rewrite.proofs.kept.jobs_of.Goals as goal
use Rattle.tree_rewrite.proofs.kept.jobs_of.Goals.{then-not-dropped+in_ok-job+in-Some+in_ok-push, else-not-dropped}

pub loop-change-preserved : goal.loop-change-preserved
loop-change-preserved c =
    let top = c.args.root.now in
    let cs = c.args.changes.now in
    let ms = c.args.mapping.now in
    let i = c.loop-change.change-index in
    let d = c.change-item.result in
    let ds = drop (i + 1) cs in
    let old = c.loop-change.jobs.items in
    let here : drop i cs ≡ d ∷ ds = drop_more cs i d c.loop-change-test.true ∙ ap (λ x. x ∷ ds) (sym c.change-item.is) in
    let before = c.loop-change.invariant ∙ ap (λ l. after_jobs old (jobs_from top cs ms (kept_of top.place.root cs l))) here in
    let dropped : c.in_ok-dropped.dropped ≡ is_dropped top.place.root cs d =
    c.in_ok-dropped.ensures ∙ ap (λ g. is_dropped g cs d) (root_green top.place c.green.result.now c.requires.top (ap term_at (sym c.cursor.ensures) ∙ c.green.ensures)) in
    elim c.if-not-dropped.branch [
      | then-not-dropped+in_ok-job+in-Some+in_ok-push w ↦
          before
          ∙ next_kept top cs ms d ds old w.in-Some.job (sym dropped ∙ w.if-not-dropped.true) (sym w.in-Some.is ∙ w.in_ok-job.ensures)
          ∙ ap (λ v. after_jobs v (jobs_from top cs ms (kept_of top.place.root cs ds))) (sym (ap (λ v. v.items) w.jobs-is ∙ w.in_ok-push.ensures.items))
      | else-not-dropped w ↦
          before
          ∙ next_dropped top cs ms d ds old (sym dropped ∙ w.if-not-dropped.false)
          ∙ ap (λ v. after_jobs v (jobs_from top cs ms (kept_of top.place.root cs ds))) (sym (ap (λ v. v.items) w.jobs-is))
    ]

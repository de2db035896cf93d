use Rattle.std.proofs.Common.{◌≡◌, [], ◌∷◌, ◌++◌, Some, None, is_none, sym, ap, ◌∙◌, subst}
use Rattle.std.specs.Option.{option_copied}
use Rattle.tree_rewrite.specs.Marked.{blank, with_put, readings_of}
use Rattle.tree_rewrite.specs.Rewrite.{puts, sheet_of, payload_of}
use Rattle.tree_rewrite.specs.Fill.{HaveGiven}
use Rattle.tree_rewrite.specs.Pieces.{Adds}
use Rattle.tree_rewrite.specs.declared.piece.Piece.TheVariants.{Group}
use Rattle.tree_rewrite.proofs.SheetLemmas.{adds-same}
use Rattle.tree_rewrite.proofs.FillLemmas.{adds-group}
use Rattle.tree_rewrite.proofs.execute.content_of.Goals.{in-None+in_ok-push_wholes-in-None, in-Some+in_ok-numbers-in-Some+in_ok-push_all-in-Some}
use Rattle.tree_rewrite.proofs.execute.content_of.Goals as goal

pub returns : goal.returns
returns c = λ js h.
    let own = c.args.job.now.own in
    let new = payload_of c.args.job.now.change in
    let whole = readings_of (sheet_of (puts js) own) new in
    let began = c.in_ok-push.ensures.items ∙ ap (λ l. l ++ Group c.nesting.result ∷ []) c.new-pieces.ensures.items in
    let content : Adds c.push.new.self.items c.match-own.pieces.items whole =
    elim c.match-own.branch [
      | in-None+in_ok-push_wholes-in-None w ↦
          let none : None ≡ own = ap option_copied (sym w.in-None.is) ∙ c.own.ensures in
          let same = ap (readings_of blank) w.payload.ensures ∙ ap (λ o. readings_of (sheet_of (puts js) o) new) none in
          subst (λ p. Adds c.push.new.self.items p.items whole) (sym w.pieces-is) (adds-same _ _ _ whole same w.in_ok-push_wholes-in-None.ensures)
      | in-Some+in_ok-numbers-in-Some+in_ok-push_all-in-Some w ↦
          let way = w.in-Some.way.now in
          let some : Some way ≡ own = ap option_copied (sym w.in-Some.is) ∙ c.own.ensures in
          let on = w.in_ok-numbers-in-Some.ensures c.args.jobs.now c.args.made.now js c.requires h in
          let given = subst (λ l. HaveGiven c.args.jobs.now c.args.made.now l on.0) (sym w.deref.ensures.value) on.1 in
          let same = (λ j. readings_of (on.2 j) (w.payload-in-Some.ensures j)) ∙ ap (λ o. readings_of (sheet_of (puts js) o) new) some in
          subst (λ p. Adds c.push.new.self.items p.items whole) (sym w.pieces-is) (adds-same _ _ _ whole same (w.in_ok-push_all-in-Some.ensures on.0 given))
    ] in
    adds-same _ _ _ (with_put (is_none c.args.job.now.sheet) whole) (ap (λ b. with_put b whole) (c.nesting.ensures ∙ ap is_none c.target.ensures))
    (adds-group [] _ _ _ c.nesting.result whole began content c.in_ok-push-2.ensures.items)

pub numbers-requires : goal.numbers-requires
numbers-requires c = λ w. let own = c.requires.lists w in (own.0, own.1)

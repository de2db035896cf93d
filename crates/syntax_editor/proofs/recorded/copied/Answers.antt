use Rattle.std.proofs.Common.{◌≡◌, ◌+◌, List, [], ◌∷◌, ◌++◌, map, take, ap, sym, ◌∙◌, subst}
use Rattle.std.specs.List.{All}
use Rattle.std.proofs.lemmas.List.{take_more, map-append}
use Rattle.std.proofs.lemmas.List.Elements.{All-push}
use Rattle.tree_rewrite.specs.Change.{Change}
use Rattle.tree_rewrite.specs.Recorded.{recorded, IsOrdered}
use Rattle.syntax_editor.proofs.recorded.copied.Goals as goal

pub loop-change-preserved : goal.loop-change-preserved
loop-change-preserved c =
    let xs = c.args.changes.now in
    let i = c.loop-change.change-index in
    let before = c.loop-change.copies.items in
    let old = c.change-item.result in
    let new = c.in_ok-copy.field-0 in
    let pushed = c.in_ok-push.ensures.items in
    let split : take (i + 1) xs ≡ take i xs ++ old ∷ [] = take_more xs i old c.loop-change-test.true ∙ ap (λ e. take i xs ++ e ∷ []) (sym c.change-item.is) in
    let ordered : IsOrdered old = rw c.change-item.is (c.requires i old c.loop-change-test.true) in (
      ap (map recorded) pushed
          ∙ map-append recorded before (new ∷ [])
          ∙ ap (λ (l : List Change). l ++ recorded new ∷ []) c.loop-change.invariant.0
          ∙ ap (λ (d : Change). map recorded (take i xs) ++ d ∷ []) c.in_ok-copy.ensures.same
          ∙ sym (map-append recorded (take i xs) (old ∷ []))
          ∙ ap (map recorded) (sym split),
      subst (All IsOrdered) (sym pushed) (All-push IsOrdered before new c.loop-change.invariant.1 (c.in_ok-copy.ensures.ordered ordered)),
    )

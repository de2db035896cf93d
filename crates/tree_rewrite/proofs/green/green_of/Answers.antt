use Rattle.std.proofs.Common.{◌≡◌, ◌+◌, ◌∷◌, drop, reverse, refl, sym, ap, ◌∙◌, subst}
use Rattle.std.proofs.lemmas.List.{drop_more}
use Rattle.std.proofs.lemmas.Result.{err_from_is_err_and}
use Rattle.tree_rewrite.specs.Pieces.{outside, start, after_piece, after}
use Rattle.tree_rewrite.specs.Growing.{IsAround, NewFit, NewFitIn}
use Rattle.tree_rewrite.proofs.GreenLemmas.{new-start, err_more}
use Rattle.tree_rewrite.proofs.green.green_of.Goals as goal

pub loop-piece-init : goal.loop-piece-init
loop-piece-init c =
    (start, record { done = c.new-done.ensures.items; around = subst (λ l. IsAround (reverse l) outside) (sym c.new-around.ensures.items) tt }, (tt, tt), refl)

pub returns-in_err-step-clause-refused : goal.returns-in_err-step-clause-refused
returns-in_err-step-clause-refused c = λ m h.
    let ps = c.args.pieces.now in
    let i = c.loop-piece.piece-index in
    let old = c.loop-piece.invariant in
    let x = c.piece-item.result in
    let here : drop i ps ≡ x ∷ drop (i + 1) ps = drop_more ps i x c.loop-piece-test.true ∙ ap (λ y. y ∷ drop (i + 1) ps) (sym c.piece-item.is) in
    let rest : after (drop (i + 1) ps) (after_piece x old.0) ≡ after ps start = sym (ap (λ l. after l old.0) here) ∙ old.3 in
    let whole : NewFit m → NewFitIn (after (drop (i + 1) ps) (after_piece x old.0)) = λ a. subst NewFitIn (sym (h.says start) ∙ sym rest) (a, tt) in
    let p = err_from_is_err_and c.from_residual.result c.from_residual.ensures.1 in
    err_more c.from_residual.result p.0 c.in_err-step.field-0.0 (NewFitIn (after_piece x old.0)) (NewFit m) p.1 p.2
    (λ a. new-start (drop (i + 1) ps) (after_piece x old.0) (whole a)) (c.in_err-step.ensures.refused old.0 old.1)

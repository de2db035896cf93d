use Rattle.std.proofs.Common.{◌≡◌, Some, slice_get, sym, ap, ◌∙◌, ◌++◌, subst}
use Rattle.std.specs.Option.{option_copied}
use Rattle.tree_rewrite.specs.Fill.{IsGiven}
use Rattle.tree_rewrite.proofs.SheetLemmas.{adds-pieces}
use Rattle.tree_rewrite.proofs.sheet.push_put.Goals as goal

pub returns-in_ok-push_pieces : goal.returns-in_ok-push_pieces
returns-in_ok-push_pieces c = λ js g h.
    let old = c.args.pieces.now.items in
    let put = c.in-Some.put.now in
    let found : slice_get c.args.made.now c.args.number ≡ Some put = sym c.put_at.ensures ∙ ap option_copied c.in-Some.is in
    let more = c.in_ok-push_pieces.ensures ∙ ap (λ l. old ++ l) c.deref.ensures.value in
    adds-pieces old c.push_pieces.new.to.items put.pieces.items g.1 more (subst (λ o. IsGiven js o g) found h).1

pub returns-in_default : goal.returns-in_default
returns-in_default c = λ js g h. absurd (subst (λ o. IsGiven js o g) (sym c.put_at.ensures ∙ ap option_copied c.in_default.is) h)

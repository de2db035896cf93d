use Rattle.std.proofs.Common.{◌≡◌, Some, sym, ap, ◌∙◌, subst, arith}
use Rattle.rowan_green.specs.declared.utility_types.NodeOrToken.TheVariants.{Node}
use Rattle.rowan.specs.Place.{kind_in, kind_at, term_at}
use Rattle.syntax_tree.specs.Element.{term_of}
use Rattle.tree_rewrite.specs.Pieces.{after_piece}
use Rattle.tree_rewrite.specs.Growing.{IsMade, NewFitIn}
use Rattle.tree_rewrite.proofs.GreenLemmas.{made-whole, made-open, fits-whole}
use Rattle.tree_rewrite.proofs.FitLemmas.{own-fits}
use Rattle.tree_rewrite.proofs.green.step.Goals as goal

pub returns-in_ok-push-in-Whole-clause-made : goal.returns-in_ok-push-in-Whole-clause-made
returns-in_ok-push-in-Whole-clause-made c = λ s h.
    let x = c.in-Whole.element in
    subst (λ p. IsMade c.push.new.self.items c.args.around.now.items (after_piece p s)) (sym c.in-Whole.is)
    (made-whole c.args.done.now.items c.push.new.self.items c.args.around.now.items x c.in_ok-green-in-Whole.field-0 s c.in_ok-green-in-Whole.ensures c.in_ok-push-in-Whole.ensures.items h)

pub returns-in_ok-push-in-Whole-clause-fits : goal.returns-in_ok-push-in-Whole-clause-fits
returns-in_ok-push-in-Whole-clause-fits c = λ s h f. subst (λ p. NewFitIn (after_piece p s)) (sym c.in-Whole.is) (fits-whole c.in-Whole.element s f)

pub returns-in_ok-begin-in-Open-clause-made : goal.returns-in_ok-begin-in-Open-clause-made
returns-in_ok-begin-in-Open-clause-made c = λ s h.
    let x = c.in-Open.node in
    let green = c.green-green.result.now in
    let at : term_of x ≡ Some (Node green) = ap term_at (sym c.cursor.ensures) ∙ c.green-green.ensures in
    let own = own-fits x green c.text_len-length.result.0 at c.children-count.ensures.count c.text_len-length.ensures (omega (arith, c.text_len-length.type_inv)) in
    let begun = c.in_ok-begin-in-Open.ensures.around in
    let kind : c.kind.result.0 ≡ kind_at x.place = c.kind.ensures ∙ sym (ap kind_in at) in
    subst (λ p. IsMade c.begin.new.done.items c.begin.new.around.items (after_piece p s)) (sym c.in-Open.is)
    (made-open c.args.done.now.items c.begin.new.done.items c.args.around.now.items c.begin.new.around.items begun.0 c.kind.result x s begun.1 begun.2 kind own begun.3 c.in_ok-begin-in-Open.ensures.done h)

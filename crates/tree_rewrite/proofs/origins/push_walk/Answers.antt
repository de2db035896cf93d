use Rattle.std.proofs.Common.{◌≡◌, ◌++◌, map, Some, sym, ap, ◌∙◌}
use Rattle.std.proofs.lemmas.List.{append-nil}
use Rattle.rowan_green.specs.declared.utility_types.NodeOrToken.TheVariants.{Node}
use Rattle.rowan.specs.Place.{term_at}
use Rattle.syntax_tree.specs.Element.{term_of}
use Rattle.syntax_tree.specs.Handle.{element_of}
use Rattle.tree_rewrite.proofs.CameLemmas.{walked-whole}
use Rattle.tree_rewrite.proofs.origins.push_walk.Goals as goal

pub returns : goal.returns
returns c =
    let x = c.args.node.now in
    let now = map element_of c.loop-element.to.items in
    let term : term_of x ≡ Some (Node c.green-stands.result.now) = ap term_at (sym c.cursor.ensures) ∙ c.green-stands.ensures in
    sym (ap (λ l. now ++ map element_of l) c.in_default.ensures.steps.0 ∙ append-nil now)
    ∙ c.loop-element.invariant
    ∙ ap (λ l. map element_of c.args.to.now.items ++ l) (walked-whole x c.green-stands.result.now term)

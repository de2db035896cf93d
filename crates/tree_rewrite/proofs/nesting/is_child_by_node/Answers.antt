use Rattle.std.proofs.Common.{◌&&◌, sym, ◌∙◌, ap}
use Rattle.rowan.specs.Place.{term_by}
use Rattle.syntax_tree.specs.Element.{is_node}
use Rattle.tree_rewrite.specs.Rewrite.{first_way}
use Rattle.tree_rewrite.proofs.NestingLemmas.{by_node-parts}
use Rattle.tree_rewrite.proofs.nesting.is_child_by_node.Goals as goal

pub returns-then-not-names_node : goal.returns-then-not-names_node
returns-then-not-names_node c = λ t v i up there.
    let d = c.args.change.now in
    sym (by_node-parts t d ∙ ap (λ b. b && is_node (term_by t (first_way d))) (sym c.names_node.ensures ∙ c.if-not-names_node.true))

pub returns : goal.returns
returns c = λ t v i up there.
    let d = c.args.change.now in
    c.begins_with_node.ensures t v i up there
    ∙ sym (by_node-parts t d ∙ ap (λ b. b && is_node (term_by t (first_way d))) (sym c.names_node.ensures ∙ c.if-not-names_node.false))

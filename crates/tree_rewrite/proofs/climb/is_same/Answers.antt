use Rattle.std.proofs.Common.{◌∙◌}
use Rattle.syntax_tree.specs.Element.{element_at, same_element}
use Rattle.tree_rewrite.proofs.climb.is_same.Goals as goal

pub returns : goal.returns
returns c = λ b stands.
    let root = c.args.other.now.place.root in
    c.is_at.ensures b root stands
    ∙ (λ i. same_element b (element_at (c.tree.ensures i) root ((c.deref.ensures.value ∙ c.in_ok-way.ensures) i)))

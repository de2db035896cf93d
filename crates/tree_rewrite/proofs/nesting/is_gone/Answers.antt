use Rattle.std.proofs.Common.{Bool, not, sym, ◌∙◌, ap}
use Rattle.std.specs.Option.{option_copied}
use Rattle.tree_rewrite.specs.Change.{Change, is_node_by_node}
use Rattle.tree_rewrite.proofs.HeldLemmas.{any-held, passes}
use Rattle.tree_rewrite.proofs.nesting.is_gone.Goals as goal

pub returns-in-Some : goal.returns-in-Some
returns-in-Some c =
    let k : Change → Bool = λ r. not (is_node_by_node c.args.root.now r) in
    ap not c.is_node_by_node.ensures
    ∙ sym (any-held c.args.way.now k c.args.changes.now c.requires.apart ∙ ap (passes k) (sym c.change_at.ensures ∙ ap option_copied c.in-Some.is))

pub returns-in-None : goal.returns-in-None
returns-in-None c =
    let k : Change → Bool = λ r. not (is_node_by_node c.args.root.now r) in
    sym (any-held c.args.way.now k c.args.changes.now c.requires.apart ∙ ap (passes k) (sym c.change_at.ensures ∙ ap option_copied c.in-None.is))

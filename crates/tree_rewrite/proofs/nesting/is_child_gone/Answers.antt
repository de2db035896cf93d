use Rattle.std.proofs.Common.{◌≡◌, ◌∷◌, Some, Bool, not, sym, ◌∙◌, ap}
use Rattle.std.specs.Option.{option_copied}
use Rattle.tree_rewrite.specs.Change.{Change, is_node_by_node}
use Rattle.tree_rewrite.specs.Held.{replacing}
use Rattle.tree_rewrite.proofs.HeldLemmas.{any-held, passes, replacing-there}
use Rattle.tree_rewrite.proofs.nesting.is_child_gone.Goals as goal

pub returns-in-Some : goal.returns-in-Some
returns-in-Some c = λ t v i at up.
    let k : Change → Bool = λ r. not (is_node_by_node t r) in
    let cs = c.args.changes.now in
    let w = i ∷ v in
    let found : replacing w cs ≡ Some c.in-Some.change.now = sym (c.change_of.ensures w at) ∙ ap option_copied c.in-Some.is in
    ap not (c.is_child_by_node.ensures t v i up (replacing-there w cs c.in-Some.change.now found)) ∙ sym (any-held w k cs c.requires.apart ∙ ap (passes k) found)

pub returns-in-None : goal.returns-in-None
returns-in-None c = λ t v i at up.
    let k : Change → Bool = λ r. not (is_node_by_node t r) in
    let cs = c.args.changes.now in
    let w = i ∷ v in
    sym (any-held w k cs c.requires.apart ∙ ap (passes k) (sym (c.change_of.ensures w at) ∙ ap option_copied c.in-None.is))

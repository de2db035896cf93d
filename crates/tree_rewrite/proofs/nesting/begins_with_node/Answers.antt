use Rattle.std.proofs.Common.{◌∷◌, length, sym, ◌∙◌, ap}
use Rattle.tree_rewrite.specs.Recorded.{change_of}
use Rattle.tree_rewrite.proofs.NestingLemmas.{first_child, no_row, no_gap}
use Rattle.tree_rewrite.proofs.nesting.begins_with_node.Goals as goal

pub returns-in-Gap : goal.returns-in-Gap
returns-in-Gap c = λ t v i up there.
    let es = c.target.ensures.0 in
    let is = c.target.ensures.1 ∙ ap (λ x. change_of x es) c.in-Gap.is in
    absurd (no_gap (i ∷ v) c.args.change.now c.in-Gap.parent.items c.in-Gap.index es is there)

pub returns-in-None : goal.returns-in-None
returns-in-None c = λ t v i up there.
    let es = c.target.ensures.0 in
    let f = c.in-Slots.first.items in
    let is = c.target.ensures.1 ∙ ap (λ x. change_of x es) c.in-Slots.is in
    absurd (no_row i v c.args.change.now f c.in-Slots.more es c.in-Slots.single is (ap length (sym c.deref.ensures.value) ∙ c.in-None.ensures.cases) there)

pub returns-in-Some : goal.returns-in-Some
returns-in-Some c = λ t v i up there.
    let es = c.target.ensures.0 in
    let f = c.in-Slots.first.items in
    let is = c.target.ensures.1 ∙ ap (λ x. change_of x es) c.in-Slots.is in
    let at = sym c.deref.ensures.value ∙ c.in-Some.ensures.cases.0 in
    c.is_some.ensures
    ∙ first_child t v i c.args.change.now f c.in-Slots.more es c.in-Slots.single c.in-Some.index.now c.in-Some.field-0-1.now c.args.parent.now c.child_node.result
    is at there up c.child_node.ensures

use Rattle.std.proofs.Common.{◌≡◌, ◌&&◌, ◌||◌, Bool, true, false, not, length, sym, ◌∙◌, ap}
use Rattle.std.specs.List.{list_any}
use Rattle.std.proofs.lemmas.Bool.{or_left}
use Rattle.std.proofs.lemmas.Result.{IfOk-weaker}
use Rattle.tree_rewrite.specs.Change.{Change, insert, replace, is_node_by_node}
use Rattle.tree_rewrite.specs.Held.{leads_through, splits}
use Rattle.tree_rewrite.specs.Recorded.{change_of}
use Rattle.tree_rewrite.proofs.HeldLemmas.{dropped-gap, dropped-row, dropped-root}
use Rattle.tree_rewrite.proofs.nesting.is_dropped.Goals as goal

pub returns-then-is_lost : goal.returns-then-is_lost
returns-then-is_lost c =
    let k : Change → Bool = λ r. not (is_node_by_node c.args.root.now r) in
    let cs = c.args.changes.now in
    let es = c.target.ensures.0 in
    let p = c.in-Gap.parent.items in
    let i = c.in-Gap.index in
    let is : c.args.change.now ≡ insert p i es = c.target.ensures.1 ∙ ap (λ t. change_of t es) c.in-Gap.is in
    let lost : list_any (λ r. leads_through p r && k r) cs ≡ true = ap (λ v. list_any (λ r. leads_through v r && k r) cs) (sym c.deref.ensures.value) ∙ sym c.is_lost.ensures ∙ c.if-is_lost.true in
    sym (dropped-gap k cs c.args.change.now p i es is ∙ or_left (list_any (λ r. leads_through p r && k r) cs) (list_any (λ r. splits p i r && k r) cs) lost)

pub returns-else-is_lost : goal.returns-else-is_lost
returns-else-is_lost c =
    let k : Change → Bool = λ r. not (is_node_by_node c.args.root.now r) in
    let cs = c.args.changes.now in
    let es = c.target.ensures.0 in
    let p = c.in-Gap.parent.items in
    let i = c.in-Gap.index in
    let is : c.args.change.now ≡ insert p i es = c.target.ensures.1 ∙ ap (λ t. change_of t es) c.in-Gap.is in
    let lost : list_any (λ r. leads_through p r && k r) cs ≡ false = ap (λ v. list_any (λ r. leads_through v r && k r) cs) (sym c.deref.ensures.value) ∙ sym c.is_lost.ensures ∙ c.if-is_lost.false in
    IfOk-weaker c.is_closed.result _ _
    (λ b h. h
    ∙ ap (λ v. list_any (λ r. splits v i r && k r) cs) c.deref-in-Gap.ensures.value
    ∙ sym (dropped-gap k cs c.args.change.now p i es is ∙ ap (λ x. x || list_any (λ r. splits p i r && k r) cs) lost))
    c.is_closed.ensures

pub returns-in_default : goal.returns-in_default
returns-in_default c =
    let k : Change → Bool = λ r. not (is_node_by_node c.args.root.now r) in
    let es = c.target.ensures.0 in
    let f = c.in-Slots.first.items in
    let is : c.args.change.now ≡ replace f c.in-Slots.more es c.in-Slots.single = c.target.ensures.1 ∙ ap (λ t. change_of t es) c.in-Slots.is in
    sym (dropped-root k c.args.changes.now c.args.change.now f c.in-Slots.more es c.in-Slots.single is (ap length (sym c.deref-in-Slots.ensures.value) ∙ c.in_default.ensures.cases))

pub returns-in-Some : goal.returns-in-Some
returns-in-Some c =
    let k : Change → Bool = λ r. not (is_node_by_node c.args.root.now r) in
    let es = c.target.ensures.0 in
    let f = c.in-Slots.first.items in
    let is : c.args.change.now ≡ replace f c.in-Slots.more es c.in-Slots.single = c.target.ensures.1 ∙ ap (λ t. change_of t es) c.in-Slots.is in
    c.is_lost-lost.ensures ∙ sym (dropped-row k c.args.changes.now c.args.change.now f _ c.in-Some.above.now c.in-Slots.more es c.in-Slots.single is (sym c.deref-in-Slots.ensures.value ∙ c.in-Some.ensures.cases.0))

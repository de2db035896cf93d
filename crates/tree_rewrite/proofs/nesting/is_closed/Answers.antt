use Rattle.std.proofs.Common.{◌≡◌, ◌+◌, ◌-◌, ◌&&◌, ◌++◌, ◌∷◌, Bool, not, sym, ◌∙◌, ap, arith}
use Rattle.std.specs.Option.{option_copied}
use Rattle.tree_rewrite.specs.Change.{Change, is_node_by_node}
use Rattle.tree_rewrite.specs.Held.{replacing, splits}
use Rattle.tree_rewrite.proofs.HeldLemmas.{any-split, none-split, passes}
use Rattle.tree_rewrite.proofs.nesting.is_closed.Goals as goal

pub returns-then-index-eq0 : goal.returns-then-index-eq0
returns-then-index-eq0 c =
    let k : Change → Bool = λ r. not (is_node_by_node c.args.root.now r) in
    sym (none-split c.args.gap.parent.now c.args.gap.index k c.args.changes.now c.if-index-eq0.true)

pub returns-in-Some : goal.returns-in-Some
returns-in-Some c =
    let k : Change → Bool = λ r. not (is_node_by_node c.args.root.now r) in
    let p = c.args.gap.parent.now in
    let i = c.args.gap.index in
    let cs = c.args.changes.now in
    let both : Change → Bool = λ r. splits p i r && k r in
    let before : i ≡ (i - 1) + 1 = omega arith in
    let way : c.deref.result.now ≡ (i - 1) ∷ p = c.deref.ensures.value ∙ c.in_ok-extend_from_slice.ensures.items ∙ ap (λ l. l ++ p) c.in_ok-before.ensures.items in
    c.closes.ensures ∙ sym (any-split p (i - 1) i k cs before c.requires.apart ∙ ap (passes both) (ap (λ v. replacing v cs) (sym way) ∙ sym c.change_at.ensures ∙ ap option_copied c.in-Some.is))

pub returns : goal.returns
returns c =
    let k : Change → Bool = λ r. not (is_node_by_node c.args.root.now r) in
    let p = c.args.gap.parent.now in
    let i = c.args.gap.index in
    let cs = c.args.changes.now in
    let both : Change → Bool = λ r. splits p i r && k r in
    let before : i ≡ (i - 1) + 1 = omega arith in
    let way : c.deref.result.now ≡ (i - 1) ∷ p = c.deref.ensures.value ∙ c.in_ok-extend_from_slice.ensures.items ∙ ap (λ l. l ++ p) c.in_ok-before.ensures.items in
    sym (any-split p (i - 1) i k cs before c.requires.apart ∙ ap (passes both) (ap (λ v. replacing v cs) (sym way) ∙ sym c.change_at.ensures ∙ ap option_copied c.in-None.is))

use Rattle.std.proofs.Common.{◌≡◌, ◌+◌, ◌-◌, true, sym, ◌∙◌, ap, arith, length, slice_get}
use Rattle.rowan_green.specs.Term.{children_of}
use Rattle.tree_rewrite.specs.Moved.{same_kind, same_kinds}
use Rattle.tree_rewrite.proofs.MovedLemmas.{same_kinds-none, same_kinds-next}
use Rattle.tree_rewrite.proofs.moved.same_kinds.Goals as goal

pub loop-index-preserved : goal.loop-index-preserved
loop-index-preserved c =
    let old = children_of c.args.old.now in
    let new = children_of c.args.new.now in
    let i = c.loop-index.index in
    let same : same_kind (slice_get old i) (slice_get new i) ≡ true =
    (λ j. same_kind (sym c.child.ensures j) (sym c.child-in-loop-index.ensures j)) ∙ sym c.same_kind.ensures ∙ c.if-not-same_kind.false in
    let e : c.loop-index.left ≡ c.loop-index.left - 1 + 1 = omega (arith, c.if-left-eq0.false) in
    c.loop-index.invariant ∙ same_kinds-next old new i c.loop-index.left same ∙ ap (same_kinds old new (i + 1)) e

pub returns : goal.returns
returns c =
    let old = children_of c.args.old.now in
    let new = children_of c.args.new.now in
    sym (c.loop-index.invariant ∙ same_kinds-none old new c.loop-index.index c.loop-index.left (omega (arith, c.loop-index-test.false, c.len-count.ensures.value, ap length c.children.ensures.children)))

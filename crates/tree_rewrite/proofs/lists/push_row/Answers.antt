use Rattle.std.proofs.Common.{◌≡◌, suc, ◌+◌, ◌-◌, slice_set, arith, sym, ap, ◌∙◌, ◌++◌, ◌∷◌, []}
use Rattle.tree_rewrite.specs.Below.{with_row, lists_of}
use Rattle.tree_rewrite.proofs.BelowLemmas.{row_more, row_last, row_end}
use Rattle.tree_rewrite.proofs.lists.push_row.Goals as goal

pub returns-then-left-eq0 : goal.returns-then-left-eq0
returns-then-left-eq0 c =
    let a = c.args.number in
    let i = c.loop-index.index in
    let vs = c.loop-index.lists.items in
    let d = c.index_mut.result.now in
    let old = c.in_ok-push.ensures.items ∙ ap (λ v. v.items ++ a ∷ []) c.index_mut.ensures.value in
    let none : c.loop-index.left ≡ 0 = omega (arith, c.if-left-eq0.true) in
    sym (c.loop-index.invariant ∙ ap (λ k. with_row a i k (lists_of vs)) none ∙ row_last a i vs c.push.new.self d (omega (arith, c.loop-index-test.true, c.len.ensures)) old)

pub loop-index-preserved : goal.loop-index-preserved
loop-index-preserved c =
    let a = c.args.number in
    let i = c.loop-index.index in
    let vs = c.loop-index.lists.items in
    let d = c.index_mut.result.now in
    let old = c.in_ok-push.ensures.items ∙ ap (λ v. v.items ++ a ∷ []) c.index_mut.ensures.value in
    let next : suc i ≡ i + 1 = omega arith in
    let more : c.loop-index.left ≡ suc (c.loop-index.left - 1) = omega (arith, c.if-left-eq0.false) in
    c.loop-index.invariant ∙ ap (λ k. with_row a i k (lists_of vs)) more ∙ row_more a i (c.loop-index.left - 1) vs c.push.new.self d (omega (arith, c.loop-index-test.true, c.len.ensures)) old
    ∙ ap (λ k. with_row a k (c.loop-index.left - 1) (lists_of (slice_set vs i c.push.new.self))) next

pub returns : goal.returns
returns c =
    let vs = c.loop-index.lists.items in
    sym (c.loop-index.invariant ∙ row_end c.args.number c.loop-index.index c.loop-index.left vs (omega (arith, c.loop-index-test.false, c.len.ensures)))

use Rattle.std.proofs.Common.{◌+◌, ◌∷◌, drop, ap, sym, ◌∙◌}
use Rattle.std.proofs.lemmas.List.{drop_more}
use Rattle.annotated_elements.proofs.AnnotatedLemmas.{collected-more}
use Rattle.annotated_elements.proofs.annotated.collected.Goals as goal

pub loop-end-preserved : goal.loop-end-preserved
loop-end-preserved g c =
    let all = c.args.ends.now in
    let k = c.loop-end.end-index in
    let x = c.loop-end-item.result in
    let first = drop_more all k x c.loop-end-test.true ∙ ap (λ y. y ∷ drop (k + 1) all) (sym c.loop-end-item.is) in
    collected-more c.args.groups.now x c.in_ok-group.group.now c.push_all.new.to.items c.loop-end.all.items (drop (k + 1) all) (drop k all)
    c.in_ok-push_all.ensures c.in_ok-group.ensures first
    ∙ c.loop-end.invariant

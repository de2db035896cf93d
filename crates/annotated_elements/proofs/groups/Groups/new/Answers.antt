use Rattle.std.proofs.Common.{◌+◌, ◌∷◌, drop, ap, sym, ◌∙◌}
use Rattle.std.proofs.lemmas.List.{drop_more, drop_all}
use Rattle.annotated_elements.specs.Annotated.{elements_of}
use Rattle.annotated_elements.specs.Groups.{is_among}
use Rattle.annotated_elements.proofs.GroupLemmas.{opened-on, true_false}
use Rattle.annotated_elements.proofs.groups.Groups.new.Goals as goal

pub loop-origin-init : goal.loop-origin-init
loop-origin-init g c = λ e among later. absurd (true_false (is_among e (elements_of c.args.origins.now)) among later)

pub loop-origin-preserved : goal.loop-origin-preserved
loop-origin-preserved g c = λ e among later.
    let all = c.args.origins.now in
    let k = c.loop-origin.origin-index in
    let x = c.loop-origin-item.result in
    let first = drop_more all k x c.loop-origin-test.true ∙ ap (λ y. y ∷ drop (k + 1) all) (sym c.loop-origin-item.is) in
    opened-on c.loop-origin.groups c.open.new.self x (drop (k + 1) all) (drop k all) e first
    (c.in_ok-open.ensures.opened e) (c.in_ok-open.ensures.others e) (c.loop-origin.invariant e among) later

pub returns : goal.returns
returns g c = λ e among.
    let all = c.args.origins.now in
    c.loop-origin.invariant e among (ap (λ l. is_among e (elements_of l)) (drop_all c.loop-origin.origin-index all c.loop-origin-test.false))

use Rattle.std.proofs.Common.{List, [], refl, get_or, slice_get, subst, sym, ap, ◌∙◌}
use Rattle.std.proofs.lemmas.List.{drop_more, drop_all}
use Rattle.tree_rewrite.specs.Orders.{with_picked, picked}
use Rattle.tree_rewrite.specs.Fill.{HavePut}
use Rattle.tree_rewrite.specs.Listed.{IsListed}
use Rattle.tree_rewrite.specs.declared.piece.Put.{Put}
use Rattle.tree_rewrite.proofs.execute.make_all.Goals as goal

pub loop-number-init : goal.loop-number-init
loop-number-init c =
    let all = c.args.jobs.now in
    let none = c.new-made.ensures.items in
    let P : List Put → Type 0 = λ ps. IsListed all ps c.new-listed.result in
    let Q : List Put → Type 0 = λ ps. HavePut all ps [] in
    (subst P (sym none) (c.new-listed.ensures all), ([], subst Q (sym none) tt, refl))

pub make-requires : goal.make-requires
make-requires c = c.loop-number.invariant.0

pub loop-number-preserved : goal.loop-number-preserved
loop-number-preserved c =
    let all = c.args.jobs.now in
    let os = c.args.order.now in
    let i = c.loop-number.number-index in
    let old = c.loop-number.invariant.1 in (
      c.in_ok-make.ensures.listed,
      (
        with_picked (slice_get all (get_or os i 0)) old.0,
        c.in_ok-make.ensures.put old.0 old.1,
        sym (ap (λ l. picked all l old.0) (drop_more os i 0 c.loop-number-test.true)) ∙ old.2,
      ),
    )

pub returns : goal.returns
returns c =
    let all = c.args.jobs.now in
    let os = c.args.order.now in
    let old = c.loop-number.invariant.1 in
    subst (λ s. HavePut all c.loop-number.made.items s) (sym (ap (λ l. picked all l old.0) (drop_all c.loop-number.number-index os c.loop-number-test.false)) ∙ old.2) old.1

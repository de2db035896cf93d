use Rattle.std.proofs.Common.{arith, ap, ◌∙◌}
use Rattle.rowan_green.specs.Forest.{forest_count}
use Rattle.rowan_green.specs.Term.{forest_of, forest_of-terms}
use Rattle.trees_speed.proofs.+tokens_below.Goals as goal

pub loop-child-init : goal.loop-child-init
loop-child-init t c =
    let e = ap (λ es. forest_count (forest_of es)) (c.into_iter-child-iterator.ensures.into_iter_gives ∙ c.children-child-items.ensures.children) in
    omega (arith, e, ap forest_count (forest_of-terms c.args.node.now.forest))

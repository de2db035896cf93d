use Rattle.std.proofs.Common.{◌≡◌, ◌-◌, length, arith}
use Rattle.rowan_green.proofs.FlatNodeLemmas.{last_found}
use Rattle.rowan_green.proofs.flat_node.FlatNode.of_last.Goals as goal

pub invariant_of-result : goal.invariant_of-result
invariant_of-result c =
    let h : c.len.result - 1 ≡ length c.shrink.new.arena.value.entries.items - 1 = grind arith in
    let z = last_found c.args.arena.value c.shrink.new.arena.value (c.len.result - 1) c.shrink.ensures.sound c.shrink.ensures.terms c.requires.last h in
    z.node

pub returns : goal.returns
returns c =
    let h : c.len.result - 1 ≡ length c.shrink.new.arena.value.entries.items - 1 = grind arith in
    let z = last_found c.args.arena.value c.shrink.new.arena.value (c.len.result - 1) c.shrink.ensures.sound c.shrink.ensures.terms c.requires.last h in
    z.tree

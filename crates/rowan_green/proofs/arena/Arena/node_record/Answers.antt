use Rattle.std.proofs.Common.{arith}
use Rattle.rowan_green.proofs.ArenaGrowing.{start_le}
use Rattle.rowan_green.proofs.arena.Arena.node_record.Goals as goal

pub overflow_sub-len : goal.overflow_sub-len
overflow_sub-len c =
    let h = start_le c.args.self.now c.args.done.now c.args.first c.start_from-start.result c.requires.growing c.start_from-start.ensures in
    omega (arith, h)

pub returns-clause-end : goal.returns-clause-end
returns-clause-end c =
    let h = start_le c.args.self.now c.args.done.now c.args.first c.start_from-start.result c.requires.growing c.start_from-start.ensures in
    omega (arith, h)

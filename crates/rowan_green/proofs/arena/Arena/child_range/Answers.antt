use Rattle.rowan_green.proofs.ArenaReading.{few_range, many_range}
use Rattle.rowan_green.proofs.arena.Arena.child_range.Goals as goal

pub returns-in-Few : goal.returns-in-Few
returns-in-Few c = few_range c.args.self.now c.args.entry _ _ _ c.requires c.in-Few.is

pub returns-in-Many : goal.returns-in-Many
returns-in-Many c = many_range c.args.self.now c.args.entry _ _ c.index-record.result.now c.requires c.in-Many.is c.index-record.ensures

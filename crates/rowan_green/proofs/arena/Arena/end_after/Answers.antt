use Rattle.std.proofs.Common.{arith}
use Rattle.rowan_green.proofs.arena.Arena.end_after.Goals as goal

pub overflow_cast-result : goal.overflow_cast-result
overflow_cast-result c = omega (arith, c.requires.cut.0, c.requires.growing.sound.text)

pub overflow_add-result : goal.overflow_add-result
overflow_add-result c = omega (arith, c.requires.cut.0, c.requires.growing.sound.text)

use Rattle.std.proofs.Common.{◌≡◌, ◌<◌, length, arith}
use Rattle.rowan_green.proofs.ArenaGrowing.{rest_sound, rest_some}
use Rattle.rowan_green.proofs.arena.Arena.close.Goals as goal

pub has_near_ends-requires-clause-sound : goal.has_near_ends-requires-clause-sound
has_near_ends-requires-clause-sound c =
    rest_sound c.args.self.now c.deref.result.now c.args.done.now.items c.args.first c.requires.growing.sound c.deref.ensures.value

pub has_near_ends-requires-clause-some : goal.has_near_ends-requires-clause-some
has_near_ends-requires-clause-some c =
    let n : c.len.result ≡ length c.args.done.now.items = grind arith in
    let h : c.args.first < length c.args.done.now.items = omega arith in
    rest_some c.deref.result.now c.args.done.now.items c.args.first c.deref.ensures.value h

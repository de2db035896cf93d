use Rattle.rowan_green.specs.declared.arena.Arena.{Arena}
use Rattle.rowan_green.proofs.ArenaGrowing.{same_arena}
use Rattle.rowan_green.proofs.arena.Arena.shrink.Goals as goal

pub returns-clause-sound : goal.returns-clause-sound
returns-clause-sound c =
    let b : Arena = record { text = c.shrink_to_fit.new.self; entries = c.shrink_to_fit-2.new.self; records = c.shrink_to_fit-3.new.self; used = c.args.self.now.used } in
    (same_arena c.args.self.now b c.shrink_to_fit.ensures.bytes c.shrink_to_fit-3.ensures.items c.shrink_to_fit-2.ensures.items c.requires).sound

pub returns-clause-terms : goal.returns-clause-terms
returns-clause-terms c =
    let b : Arena = record { text = c.shrink_to_fit.new.self; entries = c.shrink_to_fit-2.new.self; records = c.shrink_to_fit-3.new.self; used = c.args.self.now.used } in
    (same_arena c.args.self.now b c.shrink_to_fit.ensures.bytes c.shrink_to_fit-3.ensures.items c.shrink_to_fit-2.ensures.items c.requires).terms

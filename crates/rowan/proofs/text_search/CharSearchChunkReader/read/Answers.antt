use Rattle.std.proofs.Common.{refl}
use Rattle.rowan.proofs.Characters.{first_found}
use Rattle.rowan.proofs.text_search.CharSearchChunkReader.read.Goals as goal

pub returns-in-Some : goal.returns-in-Some
returns-in-Some c =
    let f = c.in-Some.ensures.cases in
    (c.in-Some.index, refl, first_found c.args.self.wanted c.args.chunk.now c.in-Some.index f.0 (f.3.0) f.1.0 f.1.1)

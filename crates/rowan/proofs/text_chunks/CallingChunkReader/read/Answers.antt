use Rattle.std.proofs.Common.{refl}
use Rattle.rowan.specs.Pieces.{EachCall, ChunkTakes}
use Rattle.rowan.specs.Reading.{takes_whole, text_ok}
use Rattle.rowan.proofs.text_chunks.CallingChunkReader.read.Goals as goal

pub call_at-requires : goal.call_at-requires
call_at-requires g c =
    takes_whole (EachCall g.F.FnMut) (ChunkTakes g.F.FnMut) c.args.self.call tt c.args.chunk.now c.requires.some c.requires.can

pub returns : goal.returns
returns g c =
    text_ok (EachCall g.F.FnMut) c.args.self.call c.call_at.new.call tt tt c.args.chunk.now c.requires.some (c.call_at.ensures, refl)

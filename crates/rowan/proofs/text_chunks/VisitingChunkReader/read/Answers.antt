use Rattle.std.proofs.lemmas.Result.{err_from_is_err_and}
use Rattle.rowan.specs.Pieces.{VisitCall, ChunkTakes}
use Rattle.rowan.specs.Reading.{takes_whole, text_ok_as, text_err_as}
use Rattle.rowan.proofs.text_chunks.VisitingChunkReader.read.Goals as goal

pub call_at-requires : goal.call_at-requires
call_at-requires g c =
    takes_whole (VisitCall g.F.FnMut) (ChunkTakes g.F.FnMut) c.args.self.call tt c.args.chunk.now c.requires.some c.requires.can

pub returns-in_err-call_at : goal.returns-in_err-call_at
returns-in_err-call_at g c =
    let p = err_from_is_err_and c.from_residual.result c.from_residual.ensures.1 in
    rw (p.1, p.2)
    (c.call_at.new.call, text_err_as (VisitCall g.F.FnMut) c.args.self.call c.call_at.new.call tt c.in_err-call_at.field-0.0 c.call_at.result c.args.chunk.now c.in_err-call_at.was c.requires.some c.call_at.ensures)

pub returns : goal.returns
returns g c =
    text_ok_as (VisitCall g.F.FnMut) c.args.self.call c.call_at.new.call tt tt c.call_at.result c.args.chunk.now c.in_ok-call_at.was c.requires.some c.call_at.ensures

use Rattle.std.proofs.Common.{subst}
use Rattle.std.proofs.lemmas.Result.{err_from_is_err_and}
use Rattle.rowan.specs.Pieces.{FoldCall, FoldTakes}
use Rattle.rowan.specs.Reading.{takes_whole, text_ok, text_err}
use Rattle.rowan.proofs.text_chunks.FoldingChunkReader.read.Goals as goal

pub call_with-requires : goal.call_with-requires
call_with-requires g c =
    takes_whole (FoldCall g.F.FnMut) (FoldTakes g.F.FnMut) c.args.self.call c.args.self.total c.args.chunk.now c.requires.some c.requires.can

pub returns-in_err-total : goal.returns-in_err-total
returns-in_err-total g c =
    let k = subst (λ u. FoldCall g.F.FnMut c.args.self.call c.args.self.total c.args.chunk.now u c.call_with.new.call) c.in_err-total.was c.call_with.ensures in
    let p = err_from_is_err_and c.from_residual.result c.from_residual.ensures.1 in
    rw (p.1, p.2) (c.call_with.new.call, text_err (FoldCall g.F.FnMut) c.args.self.call c.call_with.new.call c.args.self.total c.in_err-total.field-0.0 c.args.chunk.now c.requires.some k)

pub returns : goal.returns
returns g c =
    let k = subst (λ u. FoldCall g.F.FnMut c.args.self.call c.args.self.total c.args.chunk.now u c.call_with.new.call) c.in_ok-total.was c.call_with.ensures in
    text_ok (FoldCall g.F.FnMut) c.args.self.call c.call_with.new.call c.args.self.total c.in_ok-total.total c.args.chunk.now c.requires.some k

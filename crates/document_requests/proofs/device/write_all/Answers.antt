use Rattle.std.proofs.Common.{◌∙◌}
use Rattle.document_requests.proofs.Fronts.{no-failure}
use Rattle.document_requests.proofs.KnownBytes.{written_more}
use Rattle.document_requests.proofs.device.write_all.Goals as goal

pub loop-rest-preserved : goal.loop-rest-preserved
loop-rest-preserved g c =
    let w = c.loop-rest.invariant.written in
    let first = no-failure _ _ _ _ _ c.write.ensures.failure c.in-Ok.is c.if-count-eq0.false in
    record {
      written = written_more _ _ _ _ _ _ _ w.1 w.2 c.in-Ok.ensures.bytes;
      none_failed = (c.in-Ok.ensures.some c.if-count-eq0.false ∙ c.loop-rest.invariant.none_failed.0, first ∙ c.loop-rest.invariant.none_failed.1);
    }

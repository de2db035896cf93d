use Rattle.line_reader.proofs.ServeLemmas.{left-more, same-both, write-kept, write-taken}
use Rattle.line_reader.proofs.serve.write_all.Goals as goal

pub loop-rest-preserved : goal.loop-rest-preserved
loop-rest-preserved g c =
    let before = c.loop-rest.invariant in
    let w = c.write.ensures.bytes in
    record {
      written = left-more _ _ _ _ _ _ before.written (write-taken _ _ _ _ _ w c.in-Ok.is);
      none_failed = write-kept _ _ _ _ _ _ before.none_failed w c.in-Ok.is c.if-count-eq0.false;
      reading = same-both _ _ _ before.reading w.reading;
    }

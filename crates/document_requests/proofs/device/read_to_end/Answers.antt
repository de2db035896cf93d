use Rattle.std.proofs.Common.{arith}
use Rattle.document_requests.proofs.KnownBytes.{all_read}
use Rattle.document_requests.proofs.device.read_to_end.Goals as goal

pub returns-then-count-eq0-clause-read : goal.returns-then-count-eq0-clause-read
returns-then-count-eq0-clause-read g c =
    let at_end = c.in-Ok.ensures.bytes.1 c.if-count-eq0.true (omega arith) in
    all_read _ _ _ _ _ _ c.loop-turn.invariant.read c.in-Ok.ensures.bytes.0 c.if-count-eq0.true at_end

use Rattle.session_server.proofs.Writes.{left-more}
use Rattle.session_server.proofs.write.write_all.Goals as goal

pub loop-rest-preserved : goal.loop-rest-preserved
loop-rest-preserved g c = left-more _ _ _ _ _ _ c.loop-rest.invariant c.in-Ok.ensures.bytes

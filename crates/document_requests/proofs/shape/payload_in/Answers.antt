use Rattle.std.proofs.Common.{arith}
use Rattle.document_requests.proofs.Shapes.{payload_short, payload_long}
use Rattle.document_requests.proofs.shape.payload_in.Goals as goal

pub returns-in_default : goal.returns-in_default
returns-in_default c = grind (arith, payload_short c.args.values.now, payload_long c.args.values.now)

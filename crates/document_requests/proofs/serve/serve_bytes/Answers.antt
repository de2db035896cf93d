use Rattle.document_requests.proofs.Requests.{outputs}
use Rattle.document_requests.proofs.serve.serve_bytes.Goals as goal

pub returns-clause-output : goal.returns-clause-output
returns-clause-output c = outputs c.serve_as.result c.args.bytes.now c.serve_as.ensures.ran

use Rattle.std.proofs.Common.{◌∙◌}
use Rattle.document_requests.proofs.Named.{known-name, unknown-name}
use Rattle.document_requests.proofs.lines.kind_name.Goals as goal

pub returns-in-Some : goal.returns-in-Some
returns-in-Some c = c.name.ensures ∙ known-name c.in-Some.kind _ c.in-Some.ensures.number

pub returns-in-None : goal.returns-in-None
returns-in-None c = unknown-name _ _ c.from_raw.ensures.known c.in-None.is

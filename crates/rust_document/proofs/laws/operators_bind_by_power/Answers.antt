-- The law is a lemma on the definitions; the rows are computed.
use Rattle.rust_document.proofs.Bound.{document-bound, placed-told}
use Rattle.rust_document.proofs.laws.operators_bind_by_power.Goals as goal

pub returns-clause-documents : goal.returns-clause-documents
returns-clause-documents c = document-bound

pub returns-clause-told : goal.returns-clause-told
returns-clause-told c = placed-told

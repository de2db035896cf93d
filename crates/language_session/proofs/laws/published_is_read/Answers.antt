use Rattle.language_session.proofs.Whole.{documents-told, each-told, published-so}
use Rattle.language_session.proofs.laws.published_is_read.Goals as goal

pub returns-clause-documents : goal.returns-clause-documents
returns-clause-documents c = documents-told

pub returns-clause-published : goal.returns-clause-published
returns-clause-published c = published-so

pub returns-clause-each : goal.returns-clause-each
returns-clause-each c = each-told

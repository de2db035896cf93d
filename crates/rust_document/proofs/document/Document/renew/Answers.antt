-- What holds of a document without messages, or of a text of the core language, is a law.
use Rattle.rust_document.proofs.Closed.{document-closed}
use Rattle.rust_document.proofs.Bound.{document-bound}
use Rattle.rust_document.proofs.CoreTexts.{core-read}
use Rattle.rust_document.proofs.document.Document.renew.Goals as goal

pub returns-in-Some-clause-brackets : goal.returns-in-Some-clause-brackets
returns-in-Some-clause-brackets c = document-closed _ _ _

pub returns-in-Some-clause-operators : goal.returns-in-Some-clause-operators
returns-in-Some-clause-operators c = document-bound _ _ _

pub returns-in-Some-clause-core : goal.returns-in-Some-clause-core
returns-in-Some-clause-core c = core-read _ _ _

pub returns-in_default-clause-brackets : goal.returns-in_default-clause-brackets
returns-in_default-clause-brackets c = document-closed _ _ _

pub returns-in_default-clause-operators : goal.returns-in_default-clause-operators
returns-in_default-clause-operators c = document-bound _ _ _

pub returns-in_default-clause-core : goal.returns-in_default-clause-core
returns-in_default-clause-core c = core-read _ _ _

-- What holds of a document without messages, or of a text of the core language, is a law.
use Rattle.rust_document.proofs.Closed.{document-closed}
use Rattle.rust_document.proofs.Bound.{document-bound}
use Rattle.rust_document.proofs.CoreTexts.{core-read}
use Rattle.rust_document.proofs.document.Document.open_by.Goals as goal

pub returns-clause-brackets : goal.returns-clause-brackets
returns-clause-brackets c = document-closed _ _ _

pub returns-clause-operators : goal.returns-clause-operators
returns-clause-operators c = document-bound _ _ _

pub returns-clause-core : goal.returns-clause-core
returns-clause-core c = core-read _ _ _

-- The law is a lemma on the definitions.
use Rattle.rust_document.proofs.PlainRenamings.{plain-renaming}
use Rattle.rust_document.proofs.laws.plain_renamings_are_accepted.Goals as goal

pub returns : goal.returns
returns c = plain-renaming

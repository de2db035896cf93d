-- The law is two lemmas on the table.
use Rattle.rust_grammar.proofs.EntriesFit.{entry-rooted, entry-fits}
use Rattle.rust_grammar.proofs.laws.entries_fit.Goals as goal

pub returns-clause-rooted : goal.returns-clause-rooted
returns-clause-rooted c = entry-rooted

pub returns-clause-fit : goal.returns-clause-fit
returns-clause-fit c = entry-fits

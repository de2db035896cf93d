-- The law is two lemmas on the table.
use Rattle.rust_grammar.proofs.EntriesFit.{productions-take-in-order, entries-take-all-in-order}
use Rattle.rust_grammar.proofs.laws.leaves_are_spelled.Goals as goal

pub returns-clause-productions : goal.returns-clause-productions
returns-clause-productions c = productions-take-in-order

pub returns-clause-entries : goal.returns-clause-entries
returns-clause-entries c = entries-take-all-in-order

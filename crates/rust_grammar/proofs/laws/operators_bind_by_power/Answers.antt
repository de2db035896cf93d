-- The law is two lemmas on the table; the misplaced trees are computed.
use Rattle.rust_grammar.proofs.PowersTable.{productions-bind, entries-bind}
use Rattle.rust_grammar.proofs.Misplaced.{misplaced-told}
use Rattle.rust_grammar.proofs.laws.operators_bind_by_power.Goals as goal

pub returns-clause-productions : goal.returns-clause-productions
returns-clause-productions c = productions-bind

pub returns-clause-entries : goal.returns-clause-entries
returns-clause-entries c = entries-bind

pub returns-clause-misplaced : goal.returns-clause-misplaced
returns-clause-misplaced c = misplaced-told

-- The law is two lemmas on the table, and two on looks.
use Rattle.rust_grammar.proofs.PartsOfWhole.{parts-look-ahead, calls-have-given-nothing, nodes-have-given-nothing, calls-begin-from-start}
use Rattle.rust_grammar.proofs.laws.looks_are_of_their_place.Goals as goal

pub returns-clause-ahead : goal.returns-clause-ahead
returns-clause-ahead c = parts-look-ahead

pub returns-clause-called : goal.returns-clause-called
returns-clause-called c = calls-have-given-nothing

pub returns-clause-nodes : goal.returns-clause-nodes
returns-clause-nodes c = nodes-have-given-nothing

pub returns-clause-from_start : goal.returns-clause-from_start
returns-clause-from_start c = calls-begin-from-start

-- The law is two lemmas on the table.
use Rattle.rust_grammar.proofs.OnlyWhole.{one-beginning, one-reading}
use Rattle.rust_grammar.proofs.laws.whole_productions_have_one_meaning.Goals as goal

pub returns-clause-begin : goal.returns-clause-begin
returns-clause-begin c = one-beginning

pub returns-clause-read : goal.returns-clause-read
returns-clause-read c = one-reading

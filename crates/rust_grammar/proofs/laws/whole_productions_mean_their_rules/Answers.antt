-- The law is three lemmas on the table.
use Rattle.rust_grammar.proofs.WholeTable.{whole-means, all_have_rules, whole-begins}
use Rattle.rust_grammar.proofs.laws.whole_productions_mean_their_rules.Goals as goal

pub returns-clause-means : goal.returns-clause-means
returns-clause-means c = whole-means

pub returns-clause-begin : goal.returns-clause-begin
returns-clause-begin c = whole-begins

pub returns-clause-all : goal.returns-clause-all
returns-clause-all c = all_have_rules

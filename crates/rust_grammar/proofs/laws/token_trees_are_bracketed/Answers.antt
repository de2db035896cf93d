-- The law is a lemma on the table.
use Rattle.rust_grammar.proofs.TokenTreesTable.{token-trees-bracketed}
use Rattle.rust_grammar.proofs.laws.token_trees_are_bracketed.Goals as goal

pub returns : goal.returns
returns c = token-trees-bracketed

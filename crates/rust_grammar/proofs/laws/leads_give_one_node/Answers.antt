-- The law is a lemma on the table.
use Rattle.rust_grammar.proofs.Leading.{leads-give-one-node}
use Rattle.rust_grammar.proofs.laws.leads_give_one_node.Goals as goal

pub returns : goal.returns
returns c = leads-give-one-node

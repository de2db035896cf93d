use Rattle.std.proofs.Common.{◌∙◌}
use Rattle.tree_rewrite.proofs.way_trie.WayTrie.put_free.Goals as goal

pub put_node-requires-clause-node : goal.put_node-requires-clause-node
put_node-requires-clause-node c = (c.args.way.now, c.in_ok-node.ensures.here)

pub returns-clause-put : goal.returns-clause-put
returns-clause-put c = c.put_node.ensures.put c.args.way.now c.args.self.now c.in_ok-node.ensures

pub returns-clause-kept : goal.returns-clause-kept
returns-clause-kept c = λ h w. c.put_node.ensures.kept h w ∙ c.in_ok-node.ensures.numbers w

use Rattle.std.proofs.Common.{◌∷◌, ◌∙◌}
use Rattle.tree_rewrite.proofs.way_trie.WayTrie.put_child.Goals as goal

pub put_node-requires-clause-sound : goal.put_node-requires-clause-sound
put_node-requires-clause-sound c = (c.in_ok-node.ensures c.requires.parent.0 c.requires.parent.1).sound

pub put_node-requires-clause-node : goal.put_node-requires-clause-node
put_node-requires-clause-node c = (c.args.index ∷ c.requires.parent.0, (c.in_ok-node.ensures c.requires.parent.0 c.requires.parent.1).here)

pub returns-clause-put : goal.returns-clause-put
returns-clause-put c = λ u at. c.put_node.ensures.put (c.args.index ∷ u) c.args.self.now (c.in_ok-node.ensures u at)

pub returns-clause-nodes : goal.returns-clause-nodes
returns-clause-nodes c = λ w k h. c.put_node.ensures.nodes w ∙ (c.in_ok-node.ensures c.requires.parent.0 c.requires.parent.1).nodes w k h

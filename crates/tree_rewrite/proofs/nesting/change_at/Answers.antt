use Rattle.tree_rewrite.proofs.nesting.change_at.Goals as goal

pub returns : goal.returns
returns c = c.change_of.ensures c.args.way.now c.node_at.ensures

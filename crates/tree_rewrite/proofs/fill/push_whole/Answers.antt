use Rattle.tree_rewrite.proofs.FillLemmas.{adds-whole}
use Rattle.tree_rewrite.proofs.fill.push_whole.Goals as goal

pub returns : goal.returns
returns c = adds-whole c.args.pieces.now.items c.push.new.self.items c.args.element c.in_ok-push.ensures.items

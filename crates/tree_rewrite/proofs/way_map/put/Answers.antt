use Rattle.tree_rewrite.proofs.WayMapLemmas.{number_at-put}
use Rattle.tree_rewrite.proofs.way_map.put.Goals as goal

pub returns-clause-ok : goal.returns-clause-ok
returns-clause-ok c = number_at-put c.args.map.now c.insert.new.self c.args.way c.args.number c.in_ok-insert.ensures.updates

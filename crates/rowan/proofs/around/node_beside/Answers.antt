use Rattle.rowan.proofs.Lefts.{next_nodes, prev_nodes}
use Rattle.rowan.proofs.around.node_beside.Goals as goal

pub returns-in-Next : goal.returns-in-Next
returns-in-Next c = next_nodes c.args.direction c.args.current.now c.next_sibling.result c.in-Next.is c.next_sibling.ensures

pub returns-in-Prev : goal.returns-in-Prev
returns-in-Prev c = prev_nodes c.args.direction c.args.current.now c.prev_sibling.result c.in-Prev.is c.prev_sibling.ensures

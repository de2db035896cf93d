use Rattle.rowan.proofs.Lefts.{next_siblings, prev_siblings}
use Rattle.rowan.proofs.around.beside.Goals as goal

pub returns-in-Next : goal.returns-in-Next
returns-in-Next c = next_siblings c.args.direction c.args.current.now c.next_sibling_of.result c.in-Next.is c.next_sibling_of.ensures

pub returns-in-Prev : goal.returns-in-Prev
returns-in-Prev c = prev_siblings c.args.direction c.args.current.now c.prev_sibling_of.result c.in-Prev.is c.prev_sibling_of.ensures

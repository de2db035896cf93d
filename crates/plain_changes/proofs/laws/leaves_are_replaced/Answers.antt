use Rattle.plain_changes.proofs.Orders.{leaves-replaced, are-apart}
use Rattle.plain_changes.proofs.laws.leaves_are_replaced.Goals as goal

pub returns-clause-tree : goal.returns-clause-tree
returns-clause-tree c = leaves-replaced

pub returns-clause-apart : goal.returns-clause-apart
returns-clause-apart c = are-apart

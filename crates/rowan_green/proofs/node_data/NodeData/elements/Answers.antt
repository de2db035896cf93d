use Rattle.std.proofs.Common.{refl}
use Rattle.rowan_green.specs.Term.{terms-forest_of}
use Rattle.rowan_green.proofs.node_data.NodeData.elements.Goals as goal

pub returns-clause-children : goal.returns-clause-children
returns-clause-children c = rw (← c.self.view_is, terms-forest_of) refl

pub returns-clause-fits : goal.returns-clause-fits
returns-clause-fits c = rw (← c.self.view_is, terms-forest_of) c.self.invariant.0

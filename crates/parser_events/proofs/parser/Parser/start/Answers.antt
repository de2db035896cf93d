-- One beginning more is kept.
use Rattle.std.proofs.Common.{Option, List, ap, subst}
use Rattle.parser_events.specs.Marked.{Marked}
use Rattle.parser_events.specs.Nodes.{nodes_of}
use Rattle.parser_events.specs.Stack.{Becomes, with_node}
use Rattle.parser_events.specs.View.{View}
use Rattle.parser_events.proofs.Calls.{opens, start-marks}
use Rattle.parser_events.proofs.parser.Parser.start.Goals as goal

pub invariant_of-self : goal.invariant_of-self
invariant_of-self c = (c.self.invariant.0, (opens _ _ c.start.ensures c.self.invariant.1).is_record)

pub returns-clause-nodes : goal.returns-clause-nodes
returns-clause-nodes c =
    subst (λ (old : Option (List Marked)). Becomes with_node old (nodes_of c.start.new.self)) (ap (λ (v : View). v.nodes) c.self.view_is)
    (opens _ _ c.start.ensures c.self.invariant.1).becomes

pub returns-clause-marker : goal.returns-clause-marker
returns-clause-marker c = start-marks _ _ _ c.level-around.ensures c.self.invariant.1 (opens _ _ c.start.ensures c.self.invariant.1).becomes

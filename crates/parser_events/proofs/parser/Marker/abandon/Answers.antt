-- The node's beginning is forgotten.
use Rattle.std.proofs.Common.{Option, List, ap, sym, subst}
use Rattle.parser_events.specs.Marked.{Marked}
use Rattle.parser_events.specs.Nodes.{nodes_of}
use Rattle.parser_events.specs.Stack.{Becomes, left_out, IsInnermost}
use Rattle.parser_events.specs.View.{View}
use Rattle.parser_events.proofs.Calls.{leaves}
use Rattle.parser_events.proofs.parser.Marker.abandon.Goals as goal

pub invariant_of-p : goal.invariant_of-p
invariant_of-p c =
    (c.p.invariant.0, (leaves _ _ _ c.abandon.ensures.left c.p.invariant.1 (subst (IsInnermost c.args.self) (sym (ap (λ (v : View). v.nodes) c.p.view_is)) c.requires)).is_record)

pub returns-clause-nodes : goal.returns-clause-nodes
returns-clause-nodes c =
    subst (λ (old : Option (List Marked)). Becomes left_out old (nodes_of c.abandon.new.self)) (ap (λ (v : View). v.nodes) c.p.view_is)
    (leaves _ _ _ c.abandon.ensures.left c.p.invariant.1 (subst (IsInnermost c.args.self) (sym (ap (λ (v : View). v.nodes) c.p.view_is)) c.requires)).becomes

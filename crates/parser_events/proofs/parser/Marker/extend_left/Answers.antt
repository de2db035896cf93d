-- The trees of the node around go into the one tree of the node.
use Rattle.std.proofs.Common.{Option, List, ap, sym, subst}
use Rattle.parser_events.specs.Marked.{Marked}
use Rattle.parser_events.specs.Nodes.{nodes_of}
use Rattle.parser_events.specs.Stack.{Becomes, extended, IsInnermost}
use Rattle.parser_events.specs.View.{View}
use Rattle.parser_events.proofs.Calls.{extends}
use Rattle.parser_events.proofs.parser.Marker.extend_left.Goals as goal

pub invariant_of-p : goal.invariant_of-p
invariant_of-p c =
    (c.p.invariant.0, (extends _ _ _ c.extend.ensures c.p.invariant.1 (subst (IsInnermost c.args.self) (sym (ap (λ (v : View). v.nodes) c.p.view_is)) c.requires)).is_record)

pub returns-clause-nodes : goal.returns-clause-nodes
returns-clause-nodes c =
    subst (λ (old : Option (List Marked)). Becomes extended old (nodes_of c.extend.new.self)) (ap (λ (v : View). v.nodes) c.p.view_is)
    (extends _ _ _ c.extend.ensures c.p.invariant.1 (subst (IsInnermost c.args.self) (sym (ap (λ (v : View). v.nodes) c.p.view_is)) c.requires)).becomes

-- One entry closes the node.
use Rattle.std.proofs.Common.{Option, List, IfSome, ◌≡◌, ◌-◌, ap, sym, subst}
use Rattle.parser_input.specs.Kind.{raw_of}
use Rattle.parser_events.specs.Marked.{Marked}
use Rattle.parser_events.specs.Nodes.{nodes_of}
use Rattle.parser_events.specs.Stack.{Becomes, closed, place_of, Place, IsInnermost}
use Rattle.parser_events.specs.View.{View}
use Rattle.parser_events.proofs.Calls.{closes, place-is}
use Rattle.parser_events.proofs.parser.Marker.complete.Goals as goal

pub invariant_of-p : goal.invariant_of-p
invariant_of-p c =
    (c.p.invariant.0, (closes _ _ _ _ c.complete-first.ensures.closed c.p.invariant.1 (subst (IsInnermost c.args.self) (sym (ap (λ (v : View). v.nodes) c.p.view_is)) c.requires)).is_record)

pub returns-clause-nodes : goal.returns-clause-nodes
returns-clause-nodes c =
    subst (λ (old : Option (List Marked)). Becomes (closed (raw_of c.args.kind)) old (nodes_of c.complete-first.new.self)) (ap (λ (v : View). v.nodes) c.p.view_is)
    (closes _ _ _ _ c.complete-first.ensures.closed c.p.invariant.1 (subst (IsInnermost c.args.self) (sym (ap (λ (v : View). v.nodes) c.p.view_is)) c.requires)).becomes

pub returns-clause-place : goal.returns-clause-place
returns-clause-place c =
    let nodes = ap (λ (v : View). v.nodes) c.p.view_is in
    subst (λ (old : Option (List Marked)). IfSome old (λ (trees : List Marked). ◌≡◌ {A = Place} (record { before = c.complete-first.result; inside = c.len-last.result - c.complete-first.result }) (place_of trees))) nodes
    (place-is c.args.self _ _ _ c.p.invariant.1 (subst (IsInnermost c.args.self) (sym nodes) c.requires) c.complete-first.ensures.place c.len-last.ensures)

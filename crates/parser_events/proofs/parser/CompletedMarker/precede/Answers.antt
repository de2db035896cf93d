-- The node that is opened begins where the closed one does.
use Rattle.std.proofs.Common.{Option, List, ◌-◌, ap, sym, subst}
use Rattle.parser_events.specs.Marked.{Marked}
use Rattle.parser_events.specs.Nodes.{nodes_of}
use Rattle.parser_events.specs.Stack.{Becomes, wrapped, Place, IsChild}
use Rattle.parser_events.specs.View.{View}
use Rattle.parser_events.proofs.Calls.{Call, wraps, precede-marks}
use Rattle.parser_events.proofs.parser.CompletedMarker.precede.Goals as goal

called : (c : goal.After-start_at) → Call (wrapped c.self.inside.first) c.p.inside.recorder c.start_at.new.self
called c =
    let here : Place = record { before = c.self.inside.first; inside = c.self.inside.last - c.self.inside.first } in
    wraps here _ _ c.start_at.ensures c.p.invariant.1
    (subst (λ (place : Place). IsChild place (nodes_of c.p.inside.recorder)) (sym c.self.view_is) (subst (IsChild c.args.self) (sym (ap (λ (v : View). v.nodes) c.p.view_is)) c.requires))

pub invariant_of-p : goal.invariant_of-p
invariant_of-p c = (c.p.invariant.0, (called c).is_record)

pub returns-clause-nodes : goal.returns-clause-nodes
returns-clause-nodes c =
    subst (λ (old : Option (List Marked)). Becomes (wrapped c.args.self.before) old (nodes_of c.start_at.new.self)) (ap (λ (v : View). v.nodes) c.p.view_is)
    (subst (λ (place : Place). Becomes (wrapped place.before) (nodes_of c.p.inside.recorder) (nodes_of c.start_at.new.self)) c.self.view_is (called c).becomes)

pub returns-clause-marker : goal.returns-clause-marker
returns-clause-marker c = precede-marks _ _ _ _ c.level-around.ensures c.p.invariant.1 (called c).becomes

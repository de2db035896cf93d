-- The record tells.
use Rattle.std.proofs.Common.{◌≡◌, ◌↔◌, ℕ, true, List, Option, ap, subst, ◌∙◌}
use Rattle.parser_events.specs.Marked.{Marked}
use Rattle.parser_events.specs.Nodes.{nodes_of}
use Rattle.parser_events.specs.Stack.{Place, IsChild}
use Rattle.parser_events.specs.View.{View}
use Rattle.parser_events.proofs.Calls.{child-tells}
use Rattle.parser_events.proofs.parser.Parser.can_precede.Goals as goal

pub returns : goal.returns
returns c =
    let first = c.completed.inside.first in
    let here : ◌≡◌ {A = Place} (record { before = first; inside = c.saturating_sub-inside.result }) c.args.completed.now =
    ap (λ (n : ℕ). record { before = first; inside = n }) c.saturating_sub-inside.ensures ∙ c.completed.view_is in
    subst (λ (nodes : Option (List Marked)). (c.is_child.result ≡ true) ↔ IsChild c.args.completed.now nodes) (ap (λ (v : View). v.nodes) c.self.view_is)
    (subst (λ (place : Place). (c.is_child.result ≡ true) ↔ IsChild place (nodes_of c.self.inside.recorder)) here
    (child-tells c.self.inside.recorder first c.saturating_sub-inside.result c.is_child.result c.self.invariant.1 c.is_child.ensures.tells c.is_child.ensures.refused))

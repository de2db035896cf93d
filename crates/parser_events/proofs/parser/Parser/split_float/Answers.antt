-- One entry closes the node, and the node around it begins at the same place.
use Rattle.std.proofs.Common.{◌≡◌, ℕ, ◌+◌, ◌∙◌, Option, List, ap, sym, subst, arith}
use Rattle.parser_input.specs.Input.{Token}
use Rattle.parser_input.specs.Recorded.{token_at}
use Rattle.parser_events.specs.Marked.{Marked}
use Rattle.parser_events.specs.Nodes.{nodes_of}
use Rattle.parser_events.specs.Stack.{Becomes, split, IsInnermost}
use Rattle.parser_events.specs.View.{View}
use Rattle.parser_events.proofs.Rest.{rest-take, rest-token, rest-float}
use Rattle.parser_events.proofs.Calls.{splits}
use Rattle.parser_events.proofs.parser.Parser.split_float.Goals as goal

pub invariant_of-self : goal.invariant_of-self
invariant_of-self c =
    let here = c.args.self.now.position in
    let front : here + 0 ≡ here = omega arith in
    let float =
    ap (λ (t : Token). t.kind) (rest-token c.self.inside.rest c.self.inside.input.now 0 c.self.invariant.0)
    ∙ ap (λ (v : View). (token_at v.input (v.position + 0)).kind) c.self.view_is
    ∙ ap (λ (n : ℕ). (token_at c.args.self.now.input n).kind) front ∙ c.requires.float in
    (rest-take c.self.inside.rest c.take.new.self c.self.inside.input.now 1 c.self.invariant.0 (rest-float c.self.inside.rest float) c.take.ensures, (splits _ _ _ _ c.split.ensures c.self.invariant.1 (subst (IsInnermost c.args.marker) (sym (ap (λ (v : View). v.nodes) c.self.view_is)) c.requires.innermost)).is_record)

pub returns-clause-nodes : goal.returns-clause-nodes
returns-clause-nodes c =
    subst (λ (old : Option (List Marked)). Becomes (split c.args.ends_in_dot) old (nodes_of c.split.new.self)) (ap (λ (v : View). v.nodes) c.self.view_is)
    (splits _ _ _ _ c.split.ensures c.self.invariant.1 (subst (IsInnermost c.args.marker) (sym (ap (λ (v : View). v.nodes) c.self.view_is)) c.requires.innermost)).becomes

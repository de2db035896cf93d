-- One entry is a leaf.
use Rattle.std.proofs.Common.{Option, List, refl, ap, subst, arith, length}
use Rattle.parser_input.specs.Kind.{raw_of}
use Rattle.parser_events.specs.Marked.{Marked, End, Leaf}
use Rattle.parser_events.specs.Nodes.{nodes_of}
use Rattle.parser_events.specs.Stack.{Becomes, with_tree}
use Rattle.parser_events.specs.View.{View}
use Rattle.parser_events.proofs.Rest.{rest-take}
use Rattle.parser_events.proofs.Calls.{adds}
use Rattle.parser_events.proofs.parser.Parser.token.Goals as goal

pub invariant_of-self : goal.invariant_of-self
invariant_of-self c = (rest-take c.self.inside.rest c.take.new.self c.self.inside.input.now c.args.n c.self.invariant.0 (omega (arith, c.self.invariant.0.count, ap (λ (v : View). v.position) c.self.view_is, ap (λ (v : View). length v.input) c.self.view_is)) c.take.ensures, (adds _ (Leaf (raw_of c.args.kind) c.args.n End) _ _ (λ b. refl) c.record.ensures c.self.invariant.1).is_record)

pub returns-clause-nodes : goal.returns-clause-nodes
returns-clause-nodes c =
    let tree = Leaf (raw_of c.args.kind) c.args.n End in
    subst (λ (old : Option (List Marked)). Becomes (with_tree tree) old (nodes_of c.record.new.self)) (ap (λ (v : View). v.nodes) c.self.view_is)
    (adds _ tree _ _ (λ b. refl) c.record.ensures c.self.invariant.1).becomes

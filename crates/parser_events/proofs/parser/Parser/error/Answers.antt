-- One entry is a message.
use Rattle.std.proofs.Common.{Option, List, refl, ap, subst}
use Rattle.parser_events.specs.Marked.{Marked, End, Said}
use Rattle.parser_events.specs.Nodes.{nodes_of}
use Rattle.parser_events.specs.Seen.{message_of}
use Rattle.parser_events.specs.Stack.{Becomes, with_tree}
use Rattle.parser_events.specs.View.{View}
use Rattle.parser_events.proofs.Calls.{adds}
use Rattle.parser_events.proofs.parser.Parser.error.Goals as goal

pub invariant_of-self : goal.invariant_of-self
invariant_of-self c = (c.self.invariant.0, (adds _ (Said (message_of c.args.msg) End) _ _ (λ b. refl) c.record.ensures c.self.invariant.1).is_record)

pub returns-clause-nodes : goal.returns-clause-nodes
returns-clause-nodes c =
    let tree = Said (message_of c.args.msg) End in
    subst (λ (old : Option (List Marked)). Becomes (with_tree tree) old (nodes_of c.record.new.self)) (ap (λ (v : View). v.nodes) c.self.view_is)
    (adds _ tree _ _ (λ b. refl) c.record.ensures c.self.invariant.1).becomes

use Rattle.std.proofs.Common.{arith, sym, ◌∙◌, subst}
use Rattle.std.proofs.lemmas.List.{map-id}
use Rattle.std.proofs.lemmas.Iterator.Consumers.{YieldsList-from_first, YieldsList-end}
use Rattle.rowan_green.specs.Term.{children_of, FitsNode}
use Rattle.rowan_green.proofs.EditLemmas.{node_fits}
use Rattle.rowan_green.proofs.node_edits.list_of_clones.Goals as goal

pub from_vec-requires : goal.from_vec-requires
from_vec-requires c =
    let t = YieldsList-end (YieldsList-from_first (λ x. x) (λ s. s) (children_of c.args.node.now) cc) c.loop-child.yielded _ c.loop-child.yielded_by _ _ c.in-None.is c.next.ensures.steps in
    let f : FitsNode (children_of c.args.node.now) =
    node_fits c.args.node.now c.text_len-text_len.result.0 c.children-children.ensures.count c.text_len-text_len.ensures (omega arith) in
    subst FitsNode (sym (c.loop-child.invariant ∙ sym (map-id c.loop-child.yielded) ∙ t.0)) f

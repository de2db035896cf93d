use Rattle.std.proofs.Common.{arith, sym, subst}
use Rattle.rowan_green.specs.Term.{children_of, FitsNode}
use Rattle.rowan_green.proofs.EditLemmas.{node_fits}
use Rattle.rowan_green.proofs.node_edits.list_of.Goals as goal

pub run-requires-2-clause-fits : goal.run-requires-2-clause-fits
run-requires-2-clause-fits c =
    let f : FitsNode (children_of c.args.node.now) =
    node_fits c.args.node.now c.text_len-text_len.result.0 c.children.ensures.count c.text_len-text_len.ensures (omega arith) in
    subst FitsNode (sym c.in_ok-run.ensures.terms) f

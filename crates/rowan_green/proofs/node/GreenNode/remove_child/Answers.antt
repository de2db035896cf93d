use Rattle.std.proofs.Common.{◌+◌, ◌<◌, ◌^◌, length, arith, ap}
use Rattle.rowan_green.specs.Forest.{Tree}
use Rattle.rowan_green.specs.Term.{children_of, spliced, FitsNode}
use Rattle.rowan_green.proofs.Lengths.{fits_without}
use Rattle.rowan_green.proofs.Refusals.{memory_alone}
use Rattle.rowan_green.proofs.EditLemmas.{node_fits}
use Rattle.rowan_green.proofs.node.GreenNode.remove_child.Goals as goal

pub returns-clause-refused : goal.returns-clause-refused
returns-clause-refused c =
    let t = c.args.self.now in
    let same = ap (λ (u : Tree). length (children_of u)) c.as_ref.ensures in
    let few : length (children_of t) < 2 ^ 32 = omega (arith, same) in
    let all : FitsNode (children_of t) = node_fits t c.text_len-text_len.result.0 few c.text_len-text_len.ensures (omega arith) in
    let fits : FitsNode (spliced (children_of t) c.args.index (c.args.index + 1) c.new.result.items) =
    rw c.new.ensures.items (fits_without _ c.args.index c.requires all) in
    memory_alone c.splice.result _ fits c.splice.ensures.refused

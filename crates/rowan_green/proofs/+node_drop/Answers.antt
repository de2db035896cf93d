use Rattle.std.proofs.Common.{◌≤◌, arith, ap, sym}
use Rattle.rowan_green.specs.Forest.{tree_count, forest_count}
use Rattle.rowan_green.specs.Term.{forest_of, term_count}
use Rattle.rowan_green.proofs.Dropping.{count_popped, bounded}
use Rattle.rowan_green.proofs.+node_drop.Goals as goal
use Rattle.rowan_green.proofs.+node_drop.Goals.{element_search::longest_node-in-Node, element_search::longest_node-in-None, element_search::longest_node-in-Some-longest+then-text_len, element_search::longest_node-in-Some-longest+else-text_len, element_search::longest_node-in_default-element}

pub element_search::longest_node-drop-requires-else-text_len :
    goal.element_search::longest_node-drop-requires-else-text_len
element_search::longest_node-drop-requires-else-text_len t c =
    let k = count_popped _ _ _ c.in-Some.ensures.items in
    (omega (arith, k, ap term_count c.in-Node.is, c.elements.invariant.below), tt)

pub element_search::longest_node-elements-preserved-after-element-2 :
    goal.element_search::longest_node-elements-preserved-after-element-2
element_search::longest_node-elements-preserved-after-element-2 t c =
    let m = forest_count (forest_of c.args.elements.items) in
    let k = count_popped _ _ _ c.in-Some.ensures.items in record {
      below = omega (arith, k, c.elements.invariant.below);
      longest = elim c.match-element.branch [
        | element_search::longest_node-in-Node w ↦
            let n : tree_count w.in-Node.node ≤ m = omega (arith, k, ap term_count w.in-Node.is, c.elements.invariant.below) in
            bounded m _ _ w.longest-is (elim w.match-longest.branch [
              | element_search::longest_node-in-None v ↦ bounded m _ _ v.longest-is n
              | element_search::longest_node-in-Some-longest+then-text_len v ↦ bounded m _ _ v.longest-is n
              | element_search::longest_node-in-Some-longest+else-text_len v ↦ bounded m _ _ v.longest-is (bounded m _ _ (sym v.in-Some-longest.is) c.elements.invariant.longest)
            ])
        | element_search::longest_node-in_default-element w ↦ bounded m _ _ w.longest-is c.elements.invariant.longest
      ];
    }

pub element_search::longest_node-elements-preserved :
    goal.element_search::longest_node-elements-preserved
element_search::longest_node-elements-preserved t c =
    let m = forest_count (forest_of c.args.elements.items) in
    let k = count_popped _ _ _ c.in-Some.ensures.items in record {
      below = omega (arith, k, c.elements.invariant.below);
      longest = elim c.match-element.branch [
        | element_search::longest_node-in-Node w ↦
            let n : tree_count w.in-Node.node ≤ m = omega (arith, k, ap term_count w.in-Node.is, c.elements.invariant.below) in
            bounded m _ _ w.longest-is (elim w.match-longest.branch [
              | element_search::longest_node-in-None v ↦ bounded m _ _ v.longest-is n
              | element_search::longest_node-in-Some-longest+then-text_len v ↦ bounded m _ _ v.longest-is n
              | element_search::longest_node-in-Some-longest+else-text_len v ↦ bounded m _ _ v.longest-is (bounded m _ _ (sym v.in-Some-longest.is) c.elements.invariant.longest)
            ])
        | element_search::longest_node-in_default-element w ↦ bounded m _ _ w.longest-is c.elements.invariant.longest
      ];
    }

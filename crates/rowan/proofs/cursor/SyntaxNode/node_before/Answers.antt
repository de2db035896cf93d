use Rattle.std.proofs.Common.{◌≡◌, ◌+◌, ◌-◌, ◌∙◌, ap, sym, arith, Some}
use Rattle.rowan.specs.Place.{start_of, below}
use Rattle.rowan.specs.Around.{children_before, nodes, first}
use Rattle.rowan.proofs.Steps.{node_siblings_before, token_siblings_before, none_siblings_before, none_start, start_before, number_below}
use Rattle.rowan.proofs.cursor.SyntaxNode.node_before.Goals as goal

pub overflow_sub-end : goal.overflow_sub-end
overflow_sub-end c =
    let n : c.loop-index.index ≡ (c.loop-index.index - 1) + 1 = omega (arith, c.loop-index-test.true) in
    (start_before c.args.self.now _ (c.loop-index.index - 1) c.loop-index.index _ c.loop-index.end _ c.green-green.ensures c.in-Some.ensures c.text_len.ensures n c.loop-index.invariant.at_end).0

pub overflow_cast-index : goal.overflow_cast-index
overflow_cast-index c = let n = number_below c.green-green.result.now _ _ c.in-Some.ensures in omega (arith, n, c.children.ensures.count)

pub child_node-requires-clause-at_offset : goal.child_node-requires-clause-at_offset
child_node-requires-clause-at_offset c =
    let n : c.loop-index.index ≡ (c.loop-index.index - 1) + 1 = omega (arith, c.loop-index-test.true) in
    (start_before c.args.self.now _ (c.loop-index.index - 1) c.loop-index.index _ c.loop-index.end _ c.green-green.ensures c.in-Some.ensures c.text_len.ensures n c.loop-index.invariant.at_end).1

pub returns-in-Node : goal.returns-in-Node
returns-in-Node c =
    let n : c.loop-index.index ≡ (c.loop-index.index - 1) + 1 = omega (arith, c.loop-index-test.true) in
    ap Some c.in_ok-child.ensures
    ∙ sym (c.loop-index.invariant.none_so_far ∙ ap (λ k. first (nodes (children_before c.args.self.now k))) n ∙ node_siblings_before c.args.self.now _ (c.loop-index.index - 1) c.green-green.ensures _ c.in-Node.node c.in-Some.ensures c.in-Node.is)

pub loop-index-preserved : goal.loop-index-preserved
loop-index-preserved c =
    let n : c.loop-index.index ≡ (c.loop-index.index - 1) + 1 = omega (arith, c.loop-index-test.true) in record {
      at_end = (start_before c.args.self.now _ (c.loop-index.index - 1) c.loop-index.index _ c.loop-index.end _ c.green-green.ensures c.in-Some.ensures c.text_len.ensures n c.loop-index.invariant.at_end).1;
      none_so_far = c.loop-index.invariant.none_so_far ∙ ap (λ k. first (nodes (children_before c.args.self.now k))) n ∙ token_siblings_before c.args.self.now _ (c.loop-index.index - 1) c.green-green.ensures _ _ c.in-Some.ensures c.in_default-child.is;
    }

pub loop-index-preserved-in_default : goal.loop-index-preserved-in_default
loop-index-preserved-in_default c =
    let n : c.loop-index.index ≡ (c.loop-index.index - 1) + 1 = omega (arith, c.loop-index-test.true) in
    let k = sym c.in_default.is ∙ c.child.ensures in record {
      at_end = c.loop-index.invariant.at_end ∙ ap (λ m. start_of (below c.args.self.now m)) n ∙ none_start c.args.self.now _ (c.loop-index.index - 1) c.green-green.ensures k;
      none_so_far = c.loop-index.invariant.none_so_far ∙ ap (λ m. first (nodes (children_before c.args.self.now m))) n ∙ ap (λ l. first (nodes l)) (none_siblings_before c.args.self.now _ (c.loop-index.index - 1) c.green-green.ensures k);
    }

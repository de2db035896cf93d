use Rattle.std.proofs.Common.{◌≡◌, ◌∙◌, ap, sym, arith, length, Some}
use Rattle.rowan_green.specs.declared.utility_types.NodeOrToken.TheVariants.{Node}
use Rattle.rowan_green.specs.Term.{children_of}
use Rattle.rowan.specs.Place.{below, start_of, index_of}
use Rattle.rowan.specs.Around.{place_in, children_before, first}
use Rattle.rowan.specs.Leaves.{tokens_back}
use Rattle.rowan.proofs.Steps.{start_last, count_is}
use Rattle.rowan.proofs.Walks.{place_of_child}
use Rattle.rowan.proofs.Leaves.{nearest, back_found, back_empty, child_falls}
use Rattle.rowan.proofs.cursor.SyntaxNode.+token_before.Goals as goal

pub token_before-requires : goal.token_before-requires
token_before-requires t c =
    let h : Some (Node c.in-Node.node) ≡ first (children_before c.args.self.now c.loop-child.count) = ap Some (sym c.in-Node.is) ∙ sym c.in-Some.is ∙ c.in_ok-child.ensures in
    let m = nearest c.args.self.now c.loop-child.count (Node c.in-Node.node) h in
    let n : c.len-children.result ≡ length (children_of c.green.result.now) = c.len-children.ensures.value ∙ ap length c.children.ensures.children in
    let k = count_is c.in-Node.node _ _ c.green.ensures n in (
      omega (arith, child_falls c.args.self.now _ (Node c.in-Node.node) m.stands),
      (start_last c.in-Node.node _ _ _ c.green.ensures n c.end.ensures.end, omega (arith, k)),
    )

pub returns-in-Some-2 : goal.returns-in-Some-2
returns-in-Some-2 t c =
    let h : Some (Node c.in-Node.node) ≡ first (children_before c.args.self.now c.loop-child.count) = ap Some (sym c.in-Node.is) ∙ sym c.in-Some.is ∙ c.in_ok-child.ensures in
    let n : c.len-children.result ≡ length (children_of c.green.result.now) = c.len-children.ensures.value ∙ ap length c.children.ensures.children in
    let k = count_is c.in-Node.node _ _ c.green.ensures n in
    sym (c.loop-child.invariant.none_so_far ∙ back_found c.args.self.now c.in-Node.node c.in-Some-2.token c.loop-child.count c.len-children.result h k (sym c.in-Some-2.is ∙ c.in_ok-token-in-Node.ensures))

pub loop-child-smaller : goal.loop-child-smaller
loop-child-smaller t c =
    let m = nearest c.args.self.now c.loop-child.count c.in-Some.child (sym c.in-Some.is ∙ c.in_ok-child.ensures) in
    omega (arith, m.smaller, c.index_of-count.ensures)

pub loop-child-preserved : goal.loop-child-preserved
loop-child-preserved t c =
    let h : Some (Node c.in-Node.node) ≡ first (children_before c.args.self.now c.loop-child.count) = ap Some (sym c.in-Node.is) ∙ sym c.in-Some.is ∙ c.in_ok-child.ensures in
    let m = nearest c.args.self.now c.loop-child.count c.in-Some.child (sym c.in-Some.is ∙ c.in_ok-child.ensures) in
    let n : c.len-children.result ≡ length (children_of c.green.result.now) = c.len-children.ensures.value ∙ ap length c.children.ensures.children in
    let k = count_is c.in-Node.node _ _ c.green.ensures n in record {
      at_end =
          c.start_of-end.ensures.start ∙ ap start_of (place_of_child c.args.self.now _ c.in-Some.child m.stands)
          ∙ ap (λ i. start_of (below c.args.self.now i)) (sym c.index_of-count.ensures);
      within = omega (arith, m.smaller, c.index_of-count.ensures, c.loop-child.invariant.within);
      none_so_far =
          c.loop-child.invariant.none_so_far
          ∙ back_empty c.args.self.now c.in-Node.node c.loop-child.count c.len-children.result h k (sym c.in_default-2.is ∙ c.in_ok-token-in-Node.ensures)
          ∙ ap (λ i. first (tokens_back c.args.self.now i)) (sym (c.index_of-count.ensures ∙ ap (λ x. index_of (place_in x)) c.in-Node.is));
    }

use Rattle.std.proofs.Common.{◌≡◌, ◌+◌, ◌∙◌, ap, sym, subst, arith, Some, IfSome}
use Rattle.std.specs.List.{filter}
use Rattle.rowan_green.specs.declared.utility_types.NodeOrToken.TheVariants.{Node}
use Rattle.rowan.specs.Place.{below, index_of}
use Rattle.rowan.specs.Around.{cursor_at, first}
use Rattle.rowan.specs.Pointer.{is_at}
use Rattle.rowan.proofs.Lefts.{next_offset}
use Rattle.rowan.proofs.Leaves.{child_falls}
use Rattle.rowan.proofs.Pointers.{nodes_from, has_range, below_node, none_left, found_below, later_on}
use Rattle.rowan.proofs.ptr.+node_at.Goals as goal

pub loop-child-init : goal.loop-child-init
loop-child-init g t c = record {
  at_offset = omega (arith, c.start-offset.ensures.start);
  none_so_far =
      below_node _ _ _ (has_range g.L.Kind.PartialEq.eq g.L.Language.from_raw c.args.kind c.args.range.start.0 c.args.range.end.0) c.args.node.now (sym c.is_at.ensures ∙ c.if-is_at.false);
}

pub node_at-requires : goal.node_at-requires
node_at-requires g t c κs within =
    let h : Some (Node c.in-Some.child) ≡ cursor_at (below c.args.node.now (index_of c.in-Some.child)) = subst (λ o. IfSome o (λ q. Some (Node q) ≡ cursor_at (below c.args.node.now (index_of q)))) c.in-Some.is c.in_ok-child.ensures.child in
    (omega (arith, child_falls c.args.node.now (index_of c.in-Some.child) (Node c.in-Some.child) h), within)

pub returns-in-Some-2 : goal.returns-in-Some-2
returns-in-Some-2 g t c =
    sym (c.loop-child.invariant.none_so_far
    ∙ found_below _ _ _ (has_range g.L.Kind.PartialEq.eq g.L.Language.from_raw c.args.kind c.args.range.start.0 c.args.range.end.0) c.args.node.now c.in-Some.child c.in-Some-2.found c.loop-child.index (sym c.in-Some.is ∙ c.in_ok-child.ensures.ok) (sym c.in-Some-2.is ∙ c.in_ok-found.ensures))

pub loop-child-preserved : goal.loop-child-preserved
loop-child-preserved g t c =
    let h : Some (Node c.in-Some.child) ≡ cursor_at (below c.args.node.now (index_of c.in-Some.child)) = subst (λ o. IfSome o (λ q. Some (Node q) ≡ cursor_at (below c.args.node.now (index_of q)))) c.in-Some.is c.in_ok-child.ensures.child in record {
      at_offset = next_offset c.args.node.now (index_of c.in-Some.child) _ _ (Node c.in-Some.child) h c.index.ensures c.end-offset.ensures.end;
      none_so_far =
          c.loop-child.invariant.none_so_far
          ∙ later_on _ _ _ (has_range g.L.Kind.PartialEq.eq g.L.Language.from_raw c.args.kind c.args.range.start.0 c.args.range.end.0) c.args.node.now c.in-Some.child c.loop-child.index (sym c.in-Some.is ∙ c.in_ok-child.ensures.ok) (sym c.in_default-2.is ∙ c.in_ok-found.ensures)
          ∙ ap (λ n. first (filter (is_at g.L.Kind.PartialEq.eq g.L.Language.from_raw c.args.kind c.args.range.start.0 c.args.range.end.0) (nodes_from c.args.node.now (n + 1)))) (sym c.index.ensures);
    }

pub returns : goal.returns
returns g t c =
    sym (c.loop-child.invariant.none_so_far
    ∙ none_left _ _ _ (has_range g.L.Kind.PartialEq.eq g.L.Language.from_raw c.args.kind c.args.range.start.0 c.args.range.end.0) c.args.node.now c.loop-child.index (sym c.in_default.is ∙ c.in_ok-child.ensures.ok))

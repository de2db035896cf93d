use Rattle.std.proofs.Common.{◌≡◌, ◌<◌, ◌∙◌, ap, sym, arith, Some, None, slice_get}
use Rattle.std.specs.List.{filter}
use Rattle.rowan.specs.Place.{below, start_of, terms_below, children_in}
use Rattle.rowan.specs.Around.{nodes, first}
use Rattle.rowan.specs.Pointer.{spans}
use Rattle.rowan.proofs.Lists.{none_from}
use Rattle.rowan.proofs.Ranges.{nodes_early, no_node_late}
use Rattle.rowan.proofs.Steps.{over_child}
use Rattle.rowan.proofs.Pointers.{spans_here, spans_later}
use Rattle.rowan.proofs.cursor.SyntaxNode.node_spanning.Goals as goal

pub overflow_add-child_end : goal.overflow_add-child_end
overflow_add-child_end c =
    let o = over_child c.args.self.now _ c.loop-index.index c.green-green.ensures _ _ _ c.in-Some.ensures c.text_len.ensures c.loop-index.invariant.at_offset in
    omega (arith, c.start.ensures.fits)

pub loop-index-preserved : goal.loop-index-preserved
loop-index-preserved c =
    let o = over_child c.args.self.now _ c.loop-index.index c.green-green.ensures _ _ _ c.in-Some.ensures c.text_len.ensures c.loop-index.invariant.at_offset in record {
      at_offset = o.0;
      siblings_after = omega (arith, c.loop-index.invariant.siblings_after);
      none_so_far =
          c.loop-index.invariant.none_so_far
          ∙ spans_later c.args.self.now _ c.loop-index.index c.args.range.start.0 c.args.range.end.0 c.loop-index.offset _ _ c.green-green.ensures c.in-Some.ensures c.loop-index.invariant.at_offset o.0 c.in_default-spanning.ensures;
    }

pub returns-in-Some-spanning-clause-ok : goal.returns-in-Some-spanning-clause-ok
returns-in-Some-spanning-clause-ok c =
    let o = over_child c.args.self.now _ c.loop-index.index c.green-green.ensures _ _ _ c.in-Some.ensures c.text_len.ensures c.loop-index.invariant.at_offset in
    ap Some c.in_ok-child.ensures
    ∙ sym (c.loop-index.invariant.none_so_far
    ∙ spans_here c.args.self.now _ c.loop-index.index c.args.range.start.0 c.args.range.end.0 c.loop-index.offset _ _ c.green-green.ensures c.in-Some.ensures c.loop-index.invariant.at_offset o.0 _ c.in-Some-spanning.ensures)

pub loop-index-init : goal.loop-index-init
loop-index-init c = record {
  at_offset = c.reaching-first.ensures.start;
  siblings_after = c.reaching-first.ensures.order;
  none_so_far = nodes_early c.args.self.now c.args.range.start.0 c.args.range.end.0 c.args.from c.reaching-first.result.0 c.reaching-first.ensures.order (λ l. omega (arith, c.reaching-first.ensures.early l));
}

pub returns-then-range-offset-clause-ok : goal.returns-then-range-offset-clause-ok
returns-then-range-offset-clause-ok c =
    let p = c.args.self.now in
    let h : c.args.range.start.0 < start_of (below p c.loop-index.index) = omega (arith, c.if-range-offset.true, c.loop-index.invariant.at_offset) in
    sym (c.loop-index.invariant.none_so_far ∙ no_node_late c.args.self.now c.args.range.start.0 c.args.range.end.0 c.loop-index.index h)

pub returns-in_default-clause-ok : goal.returns-in_default-clause-ok
returns-in_default-clause-ok c =
    let p = c.args.self.now in
    let k : slice_get (terms_below p) c.loop-index.index ≡ None = ap (λ o. slice_get (children_in o) c.loop-index.index) c.green-green.ensures ∙ sym c.in_default.ensures in
    sym (c.loop-index.invariant.none_so_far
    ∙ ap (λ cs. first (filter (spans c.args.range.start.0 c.args.range.end.0) (nodes cs))) (none_from p (terms_below p) c.loop-index.index c.loop-index.index k))

use Rattle.std.proofs.Common.{◌≡◌, ◌-◌, ◌∙◌, ◌&&◌, Some, Bool, not, ap, drop, slice_index, arith, length}
use Rattle.std.specs.List.{list_any}
use Rattle.tree_rewrite.specs.Change.{Change, is_node_by_node}
use Rattle.tree_rewrite.specs.Held.{leads_through}
use Rattle.tree_rewrite.specs.WayTrie.{node_at}
use Rattle.tree_rewrite.proofs.NestingLemmas.{node_step, node_top, lost_more, lost_top}
use Rattle.tree_rewrite.proofs.TrieLemmas.{way_step, way_top}
use Rattle.tree_rewrite.proofs.TrieStepLemmas.{walk_step, walk_top}
use Rattle.tree_rewrite.proofs.nesting.is_lost.Goals as goal

pub loop-depth-init : goal.loop-depth-init
loop-depth-init c =
    let k : Change → Bool = λ r. not (is_node_by_node c.args.root.now r) in
    let w = c.args.way.now in
    let d = length w in
    record {
      within = omega arith;
      at = walk_top c.args.held.now w d (omega arith);
      parent = ap Some c.as_ref.ensures ∙ node_top c.args.root.now w d (omega arith);
      lost = lost_top k c.args.changes.now (drop d w) _ (way_top w d (omega arith)) c.is_gone-lost.ensures;
    }

pub loop-depth-preserved : goal.loop-depth-preserved
loop-depth-preserved c =
    let k : Change → Bool = λ r. not (is_node_by_node c.args.root.now r) in
    let w = c.args.way.now in
    let e = c.loop-depth.depth in
    let inv = c.loop-depth.invariant in
    let at = c.child-node.ensures ∙ walk_step c.args.held.now w (e - 1) e c.loop-depth.node (omega arith) inv.within inv.at in
    record {
      within = omega (arith, inv.within);
      at = at;
      parent = node_step c.args.root.now w (e - 1) e c.loop-depth.parent c.child_node-parent.result (omega arith) inv.within inv.parent c.child_node-parent.ensures;
      lost = lost_more k c.args.changes.now w (e - 1) e c.loop-depth.lost c.is_child_gone-lost.result (omega arith) inv.within inv.lost
          (c.is_child_gone-lost.ensures c.args.root.now (drop e w) (slice_index w (e - 1)) (at ∙ ap (node_at c.args.held.now) (way_step w (e - 1) e (omega arith) inv.within)) inv.parent);
    }

pub returns : goal.returns
returns c =
    let k : Change → Bool = λ r. not (is_node_by_node c.args.root.now r) in
    let at_end : c.loop-depth.depth ≡ 0 = omega arith in
    c.loop-depth.invariant.lost ∙ ap (λ n. list_any (λ r. leads_through (drop n c.args.way.now) r && k r) c.args.changes.now) at_end

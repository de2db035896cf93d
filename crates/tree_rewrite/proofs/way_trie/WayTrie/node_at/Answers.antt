use Rattle.std.proofs.Common.{◌≡◌, ◌-◌, ◌∙◌, ap, drop, arith, length}
use Rattle.tree_rewrite.specs.WayTrie.{node_at}
use Rattle.tree_rewrite.proofs.TrieStepLemmas.{walk_step, walk_top}
use Rattle.tree_rewrite.proofs.way_trie.WayTrie.node_at.Goals as goal

pub loop-depth-init : goal.loop-depth-init
loop-depth-init c = record {
  within = omega arith;
  at = walk_top c.args.self.now c.args.way.now (length c.args.way.now) (omega arith);
}

pub loop-depth-preserved : goal.loop-depth-preserved
loop-depth-preserved c =
    let e = c.loop-depth.depth in
    let inv = c.loop-depth.invariant in
    record {
      within = omega (arith, inv.within);
      at = c.child-node.ensures ∙ walk_step c.args.self.now c.args.way.now (e - 1) e c.loop-depth.node (omega arith) inv.within inv.at;
    }

pub returns : goal.returns
returns c =
    let at_end : c.loop-depth.depth ≡ 0 = omega arith in
    c.loop-depth.invariant.at ∙ ap (λ n. node_at c.args.self.now (drop n c.args.way.now)) at_end

use Rattle.std.proofs.Common.{◌≡◌, ◌-◌, ◌∷◌, sym, subst, drop, slice_index, arith, length}
use Rattle.tree_rewrite.specs.WayTrie.{HasNode}
use Rattle.tree_rewrite.proofs.TrieLemmas.{way_step, way_top}
use Rattle.tree_rewrite.proofs.TrieStepLemmas.{has_root, has_after}
use Rattle.tree_rewrite.proofs.way_trie.WayTrie.enter_way.Goals as goal

pub loop-depth-init : goal.loop-depth-init
loop-depth-init c =
    let w = c.args.way.now in
    record {
      within = omega arith;
      has = has_root c.args.self.now (drop (length c.args.way.now) w) (way_top w (length c.args.way.now) (omega arith)) c.requires.sound;
    }

pub loop-depth-preserved : goal.loop-depth-preserved
loop-depth-preserved c =
    let w = c.args.way.now in
    let e = c.loop-depth.depth in
    let inv = c.loop-depth.invariant in
    let up = drop e w in
    let step = way_step w (e - 1) e (omega arith) inv.within in
    record {
      within = omega (arith, inv.within);
      has = has_after up (slice_index w (e - 1) ∷ up) (drop (e - 1) w) c.loop-depth.node _ c.args.self.now c.loop-depth.self c.enter.new.self (sym step) inv.has (c.in_ok-node.ensures up inv.has.here);
    }

pub returns : goal.returns
returns c =
    let at_end : c.loop-depth.depth ≡ 0 = omega arith in
    subst (λ n. HasNode (drop n c.args.way.now) c.loop-depth.node c.args.self.now c.loop-depth.self) at_end c.loop-depth.invariant.has

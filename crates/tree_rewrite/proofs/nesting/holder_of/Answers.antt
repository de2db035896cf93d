use Rattle.std.proofs.Common.{◌≡◌, ◌-◌, ◌∙◌, Some, None, cond, ap, drop, length, arith}
use Rattle.std.specs.Option.{option_copied}
use Rattle.std.proofs.lemmas.List.{take_rest}
use Rattle.syntax_tree.specs.Element.{Way}
use Rattle.tree_rewrite.specs.Change.{holder_of}
use Rattle.tree_rewrite.proofs.NestingLemmas.{holder_step, holder_top}
use Rattle.tree_rewrite.proofs.TrieLemmas.{way_top}
use Rattle.tree_rewrite.proofs.TrieStepLemmas.{walk_step, walk_top}
use Rattle.tree_rewrite.proofs.nesting.holder_of.Goals as goal

pub loop-depth-init : goal.loop-depth-init
loop-depth-init c =
    let w = c.args.way.now in
    let d = length w in
    let at = walk_top c.args.held.now w d (omega arith) in
    record {
      within = omega arith;
      at = at;
      holder = holder_top c.args.changes.now (drop d w) c.is_replaced.result (option_copied c.nearer-holder.result) (way_top w d (omega arith)) (c.is_replaced.ensures (drop d w) at)
          (c.nearer-holder.ensures ∙ ap (λ (v : Way). cond c.is_replaced.result (Some v) None) (take_rest w d));
    }

pub loop-depth-preserved : goal.loop-depth-preserved
loop-depth-preserved c =
    let w = c.args.way.now in
    let e = c.loop-depth.depth in
    let inv = c.loop-depth.invariant in
    let at = c.child-node.ensures ∙ walk_step c.args.held.now w (e - 1) e c.loop-depth.node (omega arith) inv.within inv.at in
    record {
      within = omega (arith, inv.within);
      at = at;
      holder = holder_step c.args.changes.now w (e - 1) e c.is_replaced-in-loop-depth.result (option_copied c.nearer-holder-in-loop-depth.result) (option_copied c.loop-depth.holder) (omega arith) inv.within
          (c.is_replaced-in-loop-depth.ensures (drop (e - 1) w) at) inv.holder
          (c.nearer-holder-in-loop-depth.ensures ∙ ap (λ (v : Way). cond c.is_replaced-in-loop-depth.result (Some v) (option_copied c.loop-depth.holder)) (take_rest w (e - 1)));
    }

pub returns : goal.returns
returns c =
    let at_end : c.loop-depth.depth ≡ 0 = omega arith in
    c.loop-depth.invariant.holder ∙ ap (λ n. holder_of c.args.changes.now (drop n c.args.way.now)) at_end

use Rattle.std.proofs.Common.{◌≡◌, ◌-◌, ◌∙◌, Some, ap, drop, arith, length}
use Rattle.rowan.specs.Place.{term_by}
use Rattle.tree_rewrite.specs.Walk.{node_in}
use Rattle.tree_rewrite.proofs.NestingLemmas.{node_step, node_top}
use Rattle.tree_rewrite.proofs.nesting.node_by.Goals as goal

pub loop-depth-init : goal.loop-depth-init
loop-depth-init c = record {
  within = omega arith;
  at = ap Some c.as_ref.ensures ∙ node_top c.args.root.now c.args.way.now (length c.args.way.now) (omega arith);
}

pub loop-depth-preserved : goal.loop-depth-preserved
loop-depth-preserved c =
    let e = c.loop-depth.depth in
    let inv = c.loop-depth.invariant in
    record {
      within = omega (arith, inv.within);
      at = node_step c.args.root.now c.args.way.now (e - 1) e c.loop-depth.node c.child_node-node.result (omega arith) inv.within inv.at c.child_node-node.ensures;
    }

pub returns : goal.returns
returns c =
    let at_end : c.loop-depth.depth ≡ 0 = omega arith in
    c.loop-depth.invariant.at ∙ ap (λ n. node_in (term_by c.args.root.now (drop n c.args.way.now))) at_end

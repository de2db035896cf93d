-- One child after the other; no child's node goes.
use Rattle.std.proofs.Common.{◌+◌, ◌∷◌, subst, arith}
use Rattle.syntax_tree.specs.Element.{same_way}
use Rattle.tree_rewrite.specs.Held.{IsPut, IsPutOrTaken}
use Rattle.tree_rewrite.proofs.TrieStepLemmas.{row_more, row_all}
use Rattle.tree_rewrite.proofs.held_ways.put_children.Goals as goal

pub returns-then-step-more-clause-put : goal.returns-then-step-more-clause-put
returns-then-step-more-clause-put c =
    let a = c.args.start in
    let p = c.args.above.now in
    let k = c.loop-step.step in
    let s = c.loop-step.held in
    let r = c.put_child.new.self in
    let inv = c.loop-step.invariant in
    let two : IsPut (same_way ((a + k) ∷ p)) c.args.number s r = subst (IsPutOrTaken (same_way ((a + k) ∷ p)) c.args.number s r) c.if-not-branch.false (c.in_ok-put_child.ensures.put p inv.parent) in
    row_all a k c.args.more p c.args.number c.args.held.now r c.if-step-more.true (row_more a k p c.args.number c.args.held.now s r inv.put two)

pub loop-step-preserved : goal.loop-step-preserved
loop-step-preserved c =
    let a = c.args.start in
    let p = c.args.above.now in
    let k = c.loop-step.step in
    let s = c.loop-step.held in
    let r = c.put_child.new.self in
    let inv = c.loop-step.invariant in
    let two : IsPut (same_way ((a + k) ∷ p)) c.args.number s r = subst (IsPutOrTaken (same_way ((a + k) ∷ p)) c.args.number s r) c.if-not-branch.false (c.in_ok-put_child.ensures.put p inv.parent) in
    record {
      within = omega (arith, inv.within, c.if-step-more.false);
      sound = c.in_ok-put_child.ensures.sound;
      parent = c.in_ok-put_child.ensures.nodes p c.in_ok-parent.parent inv.parent;
      put = row_more a k p c.args.number c.args.held.now s r inv.put two;
    }

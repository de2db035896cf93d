use Rattle.std.proofs.Common.{refl, ◌+◌, ◌<◌, ◌&&◌, length, drop, arith, ap, sym, ◌∙◌}
use Rattle.std.proofs.Math.Bool.{and_assoc}
use Rattle.rowan_green.specs.Comparing.{outcome}
use Rattle.rowan_green.specs.Forest.{same_forest}
use Rattle.rowan_green.specs.Term.{forest_of, same_term, children_of}
use Rattle.rowan_green.proofs.Comparing.{same_forest-drop, children_decide, children_count}
use Rattle.rowan_green.proofs.Counts.{same_forest-lengths, count_is}
use Rattle.rowan_green.proofs.equality.+same.Goals as goal

pub same_children-returns-then-count-child_count-clause-outcome :
    goal.same_children-returns-then-count-child_count-clause-outcome
same_children-returns-then-count-child_count-clause-outcome t c =
    same_forest-lengths _ _ (λ e. c.if-count-child_count.true (c.child_count-count.ensures.count ∙ e ∙ sym c.child_count.ensures.count))

pub same_children-with_pair-comparison-requires : goal.same_children-with_pair-comparison-requires
same_children-with_pair-comparison-requires t c =
    let i : c.loop-i.i < length (children_of c.args.a.now) = omega (arith, c.loop-i-test.true, c.child_count-count.ensures.count) in
    let h = count_is (children_of c.args.a.now) c.loop-i.i c.child_at.result i c.child_at.ensures in
    (omega (arith, h, c.loop-i.invariant.below), tt)

pub same_children-loop-i-preserved : goal.same_children-loop-i-preserved
same_children-loop-i-preserved t c =
    let xs = children_of c.args.a.now in
    let ys = children_of c.args.b.now in
    let i : c.loop-i.i < length xs = omega (arith, c.loop-i-test.true, c.child_count-count.ensures.count) in
    let j : c.loop-i.i < length ys = omega (arith, i, c.if-count-child_count.false, c.child_count-count.ensures.count, c.child_count.ensures.count) in
    let h = count_is xs c.loop-i.i c.child_at.result i c.child_at.ensures in
    let rest = same_forest (forest_of (drop (c.loop-i.i + 1) xs)) (forest_of (drop (c.loop-i.i + 1) ys)) in
    let s = same_forest-drop xs ys c.loop-i.i c.child_at.result c.child_at-in-loop-i.result i j c.child_at.ensures c.child_at-in-loop-i.ensures in
    record {
      answer =
          ap (λ b. b && rest) c.with_pair-comparison.ensures.outcome
          ∙ and_assoc (outcome c.loop-i.comparison) (same_term c.child_at.result c.child_at-in-loop-i.result) rest
          ∙ ap (λ b. outcome c.loop-i.comparison && b) (sym s)
          ∙ c.loop-i.invariant.answer;
      below = omega (arith, h, c.with_pair-comparison.ensures.below, c.loop-i.invariant.below);
    }

pub same_node-same_children-requires : goal.same_node-same_children-requires
same_node-same_children-requires t c =
    let n = children_count c.down.one _ refl in
    (omega (arith, n, c.down.invariant.below), tt)

pub same_node-returns-in-Different : goal.same_node-returns-in-Different
same_node-returns-in-Different t c =
    let k = sym c.kind.ensures ∙ c.if-kind.false ∙ c.kind-in-down.ensures in
    let e = children_decide c.down.one c.down.two _ _ k refl refl in
    c.in-Different.ensures.outcome ∙ sym e ∙ sym c.down.invariant.answer

pub same_node-returns-in-Same : goal.same_node-returns-in-Same
same_node-returns-in-Same t c =
    let k = sym c.kind.ensures ∙ c.if-kind.false ∙ c.kind-in-down.ensures in
    let e = children_decide c.down.one c.down.two _ _ k refl refl in
    c.in-Same.ensures.outcome ∙ sym e ∙ sym c.down.invariant.answer

pub same_node-down-smaller : goal.same_node-down-smaller
same_node-down-smaller t c =
    let n = children_count c.down.one _ refl in
    omega (arith, n, c.in-Pending.ensures.below)

pub same_node-down-preserved : goal.same_node-down-preserved
same_node-down-preserved t c =
    let k = sym c.kind.ensures ∙ c.if-kind.false ∙ c.kind-in-down.ensures in
    let e = children_decide c.down.one c.down.two _ _ k refl refl in
    let n = children_count c.down.one _ refl in
    record {
      answer = c.down.invariant.answer ∙ e ∙ sym c.in-Pending.ensures.outcome;
      below = omega (arith, n, c.in-Pending.ensures.below, c.down.invariant.below);
    }

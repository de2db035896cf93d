-- The last tree that is left is the node, or begins after it.
use Rattle.std.proofs.Common.{arith}
use Rattle.parser_events.proofs.Children.{start-walk, walk-on, found, not-found}
use Rattle.parser_events.proofs.recorder.is_tree.Goals as goal

pub trees-init : goal.trees-init
trees-init c = (omega arith, λ f below same low. start-walk _ f below _ same)

pub trees-preserved : goal.trees-preserved
trees-preserved c = (
  omega (arith, c.start_of-start.ensures.within, c.trees.invariant.0),
  λ f below same low. walk-on c.args.events.now _ f below _ _ c.trees.end _ c.trees.invariant.0 c.trees-test.true c.if-start-first.false c.start_of-start.ensures.start same low (c.trees.invariant.1 f below same low),
)

pub returns-then-start-first : goal.returns-then-start-first
returns-then-start-first c f below same low =
    found c.args.events.now _ f below _ _ _ c.trees.end _ _ c.trees.invariant.0 c.trees-test.true c.if-start-first.true c.start_of-start.ensures.start c.is_node.ensures same low (c.trees.invariant.1 f below same low)

pub returns : goal.returns
returns c f below same low = not-found f below _ _ _ c.trees.end c.trees-test.false low (c.trees.invariant.1 f below same low)

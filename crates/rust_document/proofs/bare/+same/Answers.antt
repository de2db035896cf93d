-- Kinds first, then child by child.
use Rattle.std.proofs.Common.{arith, sym}
use Rattle.rust_document.proofs.Bares.{all-children, no-more}
use Rattle.rust_document.proofs.bare.+same.Goals as goal

pub compared-children-init : goal.compared-children-init
compared-children-init t c = record {
  answer = sym (all-children _ _ _ _ _ _ _ c.kind.ensures c.kind-2.ensures c.if-ne.false c.ne.ensures c.children-left.ensures.children c.children-right.ensures.children);
  below = omega arith;
  within = no-more c.args.a.now _ c.children-left.ensures.children;
}

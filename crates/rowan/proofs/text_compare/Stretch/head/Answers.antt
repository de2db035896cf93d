use Rattle.std.proofs.Common.{refl, sym, arith, drop, ◌+◌}
use Rattle.rowan_green.specs.Term.{children_of}
use Rattle.rowan.proofs.Stretches.{next_terms, passes_more, passes_term}
use Rattle.rowan.proofs.text_compare.Stretch.head.Goals as goal

pub returns-then-self-size-clause-head : goal.returns-then-self-size-clause-head
returns-then-self-size-clause-head c = record {
  after = drop (c.elements.self.index + 1) (children_of c.elements.self.node);
  terms = next_terms (children_of c.elements.self.node) c.elements.self.index c.in_ok-child.child (sym c.in_ok-child.ensures);
  inside = omega (arith, c.text_len-size.ensures);
  some = c.if-self-gt0.true;
}

pub elements-preserved : goal.elements-preserved
elements-preserved c =
    let p = c.elements.invariant.passes in record {
      passes = passes_more 0 0 _ c.elements.self _ p (passes_term c.elements.self _ c.in_ok-child.child p.sound refl refl (omega (arith, c.text_len-size.ensures)) refl (sym c.in_ok-child.ensures));
      count = c.elements.invariant.count;
    }

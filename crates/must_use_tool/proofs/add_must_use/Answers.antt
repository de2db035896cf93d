-- Each place gets its mark.
use Rattle.std.proofs.Common.{ap, arith, rules}
use Rattle.rust_source.specs.Elements.{element_of}
use Rattle.must_use_tool.proofs.Marking.{all_marks, next_mark}
use Rattle.must_use_tool.proofs.add_must_use.Goals as goal

pub loop-place-preserved : goal.loop-place-preserved
loop-place-preserved c = record {
  attribute_is = c.loop-place.invariant.attribute_is;
  only = first_of (search rules, grind arith);
  same = first_of (search rules, grind arith);
  next = first_of (search rules, grind arith);
  own = first_of (search rules, grind arith);
  marks = next_mark element_of c.loop-place.source c.loop-place.editor c.insert_on_line_before.new.editor _ _ _ c.loop-place.place-index
      c.deref-place-items.result.now c.place-item.result (omega arith) c.place-item.is (ap (λ d. d.text) c.loop-place.invariant.same)
      c.loop-place.invariant.next c.loop-place.invariant.marks c.in_ok-insert_on_line_before.ensures.recorded;
}

pub returns-clause-marked : goal.returns-clause-marked
returns-clause-marked c = record {
  attribute = _;
  changes = c.loop-place.editor.changes;
  attribute_is = c.loop-place.invariant.attribute_is;
  marks = all_marks element_of _ _ _ c.loop-place.place-index c.deref-place-items.result.now _ _ (omega arith) (first_of (search rules, grind arith))
      c.loop-place.invariant.marks;
  changed = first_of (search rules, grind arith);
}

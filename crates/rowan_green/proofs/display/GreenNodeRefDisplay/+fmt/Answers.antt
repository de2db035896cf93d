use Rattle.std.proofs.Common.{◌<◌, ◌≤◌, length, arith, rules, ap, sym, ◌∙◌}
use Rattle.std.proofs.Output.{has_written_append, has_written_of_eq}
use Rattle.rowan_green.specs.NodeReader.{tree_read}
use Rattle.rowan_green.specs.Term.{text_of, children_of}
use Rattle.rowan_green.proofs.Counts.{child_falls}
use Rattle.rowan_green.proofs.Lengths.{texts_more, texts_all}
use Rattle.rowan_green.proofs.display.GreenNodeRefDisplay.+fmt.Goals as goal
use Rattle.rowan_green.proofs.display.GreenNodeRefDisplay.+fmt.Goals.{in-Node+in_ok-fmt-in-Node, in-Token+in_ok-fmt-in-Token}

pub fmt-requires : goal.fmt-requires
fmt-requires g t c =
    let i : c.loop-index.index < length c.elements-children.result.now.0 = omega (arith, c.loop-index-test.true, c.len-index-end.ensures.count) in
    let kids = c.elements-children.ensures.children ∙ ap children_of (c.deref.ensures ∙ sym (ap tree_read c.in-Data.is) ∙ c.reader.ensures) in
    let h = child_falls c.args.self.now c.in-Node.node c.elements-children.result.now.0 c.loop-index.index c.at.result kids i c.at.ensures c.in-Node.is in
    λ _ outlives. (omega (arith, h), outlives)

pub loop-index-preserved : goal.loop-index-preserved
loop-index-preserved g t c p =
    let i : c.loop-index.index < length c.elements-children.result.now.0 = omega (arith, c.loop-index-test.true, c.len-index-end.ensures.count) in
    let e = texts_more c.elements-children.result.now.0 c.loop-index.index c.at.result i c.at.ensures in
    has_written_of_eq _ _ _ _ _ (sym e)
    (has_written_append _ _ _ _ _ _ (c.loop-index.invariant p) (elim c.match-at.branch [
      | in-Node+in_ok-fmt-in-Node w ↦ has_written_of_eq _ _ _ _ _ (ap text_of (sym w.in-Node.is)) (search rules)
      | in-Token+in_ok-fmt-in-Token w ↦ has_written_of_eq _ _ _ _ _ (ap text_of (sym w.in-Token.is)) (search rules)
    ]))

pub returns-clause-writes : goal.returns-clause-writes
returns-clause-writes g t c p q =
    let i : length c.elements-children.result.now.0 ≤ c.loop-index.index = omega (arith, c.loop-index-test.false, c.len-index-end.ensures.count) in
    let kids = c.elements-children.ensures.children ∙ ap children_of (c.deref.ensures ∙ sym (ap tree_read c.in-Data.is) ∙ c.reader.ensures) in
    let e = texts_all c.args.self.now c.elements-children.result.now.0 c.loop-index.index kids i in
    has_written_of_eq _ _ _ _ _ e (c.loop-index.invariant p)

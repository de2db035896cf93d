use Rattle.std.proofs.Common.{arith, ◌≡◌, length, take, drop, length-take, length-drop, sym, ◌∙◌, ap, ◌&&◌}
use Rattle.std.proofs.Math.Bool.{and_assoc}
use Rattle.std.specs.Str.{bytes_eq}
use Rattle.rowan_green.specs.Term.{text_of}
use Rattle.rowan.specs.ChildParts.{range_of}
use Rattle.rowan.specs.Matching.{outcome}
use Rattle.rowan.proofs.Bytes.{next_bytes}
use Rattle.rowan.proofs.text_bytes.+has_bytes.Goals as goal

pub children_have-returns-in-Different-clause-outcome :
    goal.children_have-returns-in-Different-clause-outcome
children_have-returns-in-Different-clause-outcome t c =
    let s = c.in-Some-part.ensures.steps in
    let i = c.loop-part.invariant in
    let child = drop c.in-Some-part.part.start (text_of c.in-Some-part.part.child) in
    let here = c.split_at.result.0.now in
    let after = c.split_at.result.1.now in
    let before = outcome c.loop-part.matching in
    let others = bytes_eq (range_of c.next.new.self) after in
    let l : length here ≡ c.in-Some-part.part.len = c.split_at.ensures.front_len in
    let n : length (take c.in-Some-part.part.len child) ≡ length here = omega (arith, s.within, length-take c.in-Some-part.part.len child, length-drop c.in-Some-part.part.start (text_of c.in-Some-part.part.child)) in
    let sp = next_bytes _ _ _ c.loop-part.left.now here after c.in-Some-part.part.len s.bytes n c.split_at.ensures.front c.split_at.ensures.back ∙ ap (λ k. bytes_eq (take k child) here && others) (sym l) in
    ap (λ b. b && others) c.in-Different.ensures.outcome ∙ and_assoc before (bytes_eq (take (length here) child) here) others ∙ ap (λ b. before && b) (sym sp) ∙ i.rest

pub children_have-loop-part-preserved : goal.children_have-loop-part-preserved
children_have-loop-part-preserved t c =
    let s = c.in-Some-part.ensures.steps in
    let i = c.loop-part.invariant in
    let child = drop c.in-Some-part.part.start (text_of c.in-Some-part.part.child) in
    let here = c.split_at.result.0.now in
    let after = c.split_at.result.1.now in
    let before = outcome c.loop-part.matching in
    let others = bytes_eq (range_of c.next.new.self) after in
    let l : length here ≡ c.in-Some-part.part.len = c.split_at.ensures.front_len in
    let n : length (take c.in-Some-part.part.len child) ≡ length here = omega (arith, s.within, length-take c.in-Some-part.part.len child, length-drop c.in-Some-part.part.start (text_of c.in-Some-part.part.child)) in
    let sp = next_bytes _ _ _ c.loop-part.left.now here after c.in-Some-part.part.len s.bytes n c.split_at.ensures.front c.split_at.ensures.back ∙ ap (λ k. bytes_eq (take k child) here && others) (sym l) in
    record {
      pending = omega (arith, s.count, i.below, i.pending, c.with_child-matching.ensures.below);
      below = omega (arith, s.count, i.below);
      len = omega (arith, s.len, i.len, c.split_at.ensures.back_len);
      rest = ap (λ b. b && others) c.with_child-matching.ensures.outcome ∙ and_assoc before (bytes_eq (take (length here) child) here) others ∙ ap (λ b. before && b) (sym sp) ∙ i.rest;
    }

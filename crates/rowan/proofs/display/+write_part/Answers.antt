use Rattle.std.proofs.Common.{rules, arith, ◌≡◌, ◌+◌, ◌-◌, [], ◌++◌, append_assoc, take, drop, sym, ◌∙◌, ap, subst}
use Rattle.std.proofs.Output.{has_written_append, has_written_of_eq}
use Rattle.rowan_green.specs.Term.{text_of}
use Rattle.rowan.specs.ChildParts.{range_of, rest_count, IsRange}
use Rattle.rowan.proofs.display.+write_part.Goals as goal

pub loop-part-init : goal.loop-part-init
loop-part-init g t c =
    let of = c.of-part-items.ensures in
    let e : c.into_iter-part-iterator.result ≡ c.of-part-items.result = c.into_iter-part-iterator.ensures.into_iter_gives in record {
      range = subst (λ r. IsRange r.children r.skip r.len) (sym e) (of.whole c.requires);
      below = omega (arith, of.below, ap rest_count e);
      done = ([], ap range_of e ∙ of.range, search rules);
    }

pub loop-part-preserved-in-Continue-1 : goal.loop-part-preserved-in-Continue-1
loop-part-preserved-in-Continue-1 g t c =
    let s = c.in-Some-part.ensures.steps in
    let i = c.loop-part.invariant in
    let piece = take c.in-Some-part.part.len (drop c.in-Some-part.part.start (text_of c.in-Some-part.part.child)) in
    let e = ap (λ v. take c.in-Some-part.part.len (drop c.in-Some-part.part.start (text_of v))) (sym c.in-Node.is) in record {
      range = s.rest i.range;
      below = omega (arith, s.count, i.below);
      done = (
        i.done.0 ++ piece,
        append_assoc i.done.0 piece (range_of c.next.new.self) ∙ ap (λ v. i.done.0 ++ v) (sym s.bytes) ∙ i.done.1,
        λ p. has_written_append _ _ _ _ _ _ (i.done.2 p) (has_written_of_eq _ _ _ _ _ e (search rules)),
      );
    }

pub loop-part-preserved : goal.loop-part-preserved
loop-part-preserved g t c =
    let s = c.in-Some-part.ensures.steps in
    let i = c.loop-part.invariant in
    let start = c.in-Some-part.part.start in
    let len = c.in-Some-part.part.len in
    let m : start + len - start ≡ len = omega arith in
    let piece = take len (drop start (text_of c.in-Some-part.part.child)) in
    let e = c.range-in-Token.ensures.value ∙ ap (λ n. take n (drop start c.text.result.now)) m ∙ ap (λ v. take len (drop start v)) (c.text.ensures ∙ sym (ap text_of c.in-Token.is)) in record {
      range = s.rest i.range;
      below = omega (arith, s.count, i.below);
      done = (
        i.done.0 ++ piece,
        append_assoc i.done.0 piece (range_of c.next.new.self) ∙ ap (λ v. i.done.0 ++ v) (sym s.bytes) ∙ i.done.1,
        λ p. has_written_append _ _ _ _ _ _ (i.done.2 p) (has_written_of_eq _ _ _ _ _ e (search rules)),
      );
    }

use Rattle.std.proofs.Common.{◌≡◌, ◌<◌, ◌+◌, drop, length, sym, subst, arith}
use Rattle.rowan_green.specs.Term.{text_of, children_of}
use Rattle.rowan.specs.ChildParts.{IsWithin}
use Rattle.rowan.proofs.Parts.{from_child}
use Rattle.rowan.proofs.Passing.{passed-more}
use Rattle.rowan.proofs.child_parts.pass.Goals as goal

pub returns-then-left-size-clause-within : goal.returns-then-left-size-clause-within
returns-then-left-size-clause-within c =
    let s = from_child (children_of c.args.node.now) c.loop-index.index c.in-Some.child c.in-Some.ensures in
    let z : _ ≡ length (text_of c.in-Some.child) = c.text_len-size.ensures in
    let h : c.loop-index.left < length (text_of c.in-Some.child) = omega (arith, z, c.if-left-size.true) in
    subst (λ es. IsWithin es c.loop-index.left) (sym s) h

pub loop-index-preserved : goal.loop-index-preserved
loop-index-preserved c =
    let es = children_of c.args.node.now in
    let s = from_child es c.loop-index.index c.in-Some.child c.in-Some.ensures in
    passed-more (drop c.args.first es) (drop c.loop-index.index es) (drop (c.loop-index.index + 1) es) c.in-Some.child c.args.skip c.loop-index.left c.text_len-size.result.0
    s c.text_len-size.ensures c.if-left-size.false c.loop-index.invariant

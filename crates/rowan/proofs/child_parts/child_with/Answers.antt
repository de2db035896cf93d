use Rattle.std.proofs.Common.{arith}
use Rattle.rowan_green.specs.Term.{children_of}
use Rattle.rowan.proofs.Passing.{passed-to}
use Rattle.rowan.proofs.child_parts.child_with.Goals as goal

pub returns : goal.returns
returns c =
    let f = c.in-Some.ensures.child in
    passed-to (children_of c.args.node.now) c.in-Some.found.index c.args.skip c.in-Some.found.start.0 f.begins (omega (arith, f.from, c.in-Ok.ensures))

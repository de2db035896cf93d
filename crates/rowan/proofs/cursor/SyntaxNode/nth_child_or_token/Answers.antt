use Rattle.std.proofs.Common.{length, take, arith, ap}
use Rattle.rowan_green.specs.Term.{texts_of}
use Rattle.rowan.specs.Place.{children_in}
use Rattle.rowan.proofs.Places.{start_within}
use Rattle.rowan.proofs.cursor.SyntaxNode.nth_child_or_token.Goals as goal

pub overflow_add-start : goal.overflow_add-start
overflow_add-start c =
    let e = ap (λ o. length (texts_of (take c.args.number (children_in o)))) c.green.ensures in
    omega (arith, e, c.in-Some.ensures, start_within c.args.self.now c.args.number, c.start.ensures.fits)

-- Each iteration examines one leaf.
use Rattle.std.proofs.Common.{◌<◌, ◌∙◌, true, false, length, refl, sym, arith}
use Rattle.parser_input.specs.Kind.{raw_of}
use Rattle.parser_events.proofs.Fittings.{unbroken-none, unbroken-end, unbroken-next}
use Rattle.parser_events.proofs.fits.unbroken_end.Goals as goal

pub leaves-init : goal.leaves-init
leaves-init c = (omega (arith, c.requires), omega arith, refl)

pub leaves-preserved : goal.leaves-preserved
leaves-preserved c =
    let ls = c.args.lexed.now.leaves in
    let within : c.leaves.end < length ls = omega (arith, c.leaves.invariant.0, c.len.ensures, c.if-end-len.false) in
    let next = unbroken-next ls c.leaves.left c.leaves.end (raw_of c.kind.result) false c.leaves-test.true within c.kind.ensures (sym c.is_trivia.ensures ∙ c.if-is_trivia.false) in
    (omega (arith, within), omega (arith, c.leaves.invariant.1, c.leaves-test.true), sym next ∙ c.leaves.invariant.2)

pub returns-then-end-len : goal.returns-then-end-len
returns-then-end-len c =
    sym (unbroken-end c.args.lexed.now.leaves c.leaves.left c.leaves.end c.leaves-test.true (omega (arith, c.if-end-len.true, c.len.ensures)) ∙ c.leaves.invariant.2)

pub returns-then-is_trivia : goal.returns-then-is_trivia
returns-then-is_trivia c =
    let ls = c.args.lexed.now.leaves in
    let within : c.leaves.end < length ls = omega (arith, c.leaves.invariant.0, c.len.ensures, c.if-end-len.false) in
    let next = unbroken-next ls c.leaves.left c.leaves.end (raw_of c.kind.result) true c.leaves-test.true within c.kind.ensures (sym c.is_trivia.ensures ∙ c.if-is_trivia.true) in
    sym c.leaves.invariant.2 ∙ next

pub returns : goal.returns
returns c =
    (omega (arith, c.leaves.invariant.1, c.leaves-test.false), sym (unbroken-none c.leaves.left _ c.leaves-test.false ∙ c.leaves.invariant.2))

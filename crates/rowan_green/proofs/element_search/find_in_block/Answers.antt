use Rattle.std.proofs.Common.{◌≡◌, ◌++◌, ◌/◌, length, arith}
use Rattle.std.proofs.lemmas.List.{take-append-drop}
use Rattle.rowan_green.specs.Term.{texts_of}
use Rattle.rowan_green.proofs.Summing.{texts_split, child_right}
use Rattle.rowan_green.proofs.element_search.find_in_block.Goals as goal

pub find_by_scan-requires-else-offset-half-clause-fits : goal.find_by_scan-requires-else-offset-half-clause-fits
find_by_scan-requires-else-offset-half-clause-fits c =
    rw c.split_at.ensures.back (omega (arith, texts_split (length c.args.elements.now / 2) c.args.elements.now, c.requires.fits))

pub find_by_scan-requires-else-offset-half-clause-inside : goal.find_by_scan-requires-else-offset-half-clause-inside
find_by_scan-requires-else-offset-half-clause-inside c =
    rw c.split_at.ensures.back (omega (arith, texts_split (length c.args.elements.now / 2) c.args.elements.now, c.requires.half, c.requires.inside, c.if-offset-half.false))

pub returns-else-offset-half-clause-place : goal.returns-else-offset-half-clause-place
returns-else-offset-half-clause-place c =
    let e = c.split_at.ensures in
    let whole : c.split_at.result.0.now ++ c.split_at.result.1.now ≡ c.args.elements.now = rw (e.front, e.back) (take-append-drop _ _) in
    let h : c.args.half ≡ length (texts_of c.split_at.result.0.now) = rw e.front c.requires.half in
    let p = child_right _ _ _ _ _ _ h c.if-offset-half.false c.find_by_scan-else-offset-half.ensures.place in
    rw (c.further-else-offset-half.ensures, ← whole) p

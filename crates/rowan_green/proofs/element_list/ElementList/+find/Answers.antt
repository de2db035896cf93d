use Rattle.std.proofs.Common.{◌≡◌, length, arith}
use Rattle.rowan_green.proofs.Summing.{at_fork, at_block, child_right}
use Rattle.rowan_green.proofs.RunLemmas.{at_list_run}
use Rattle.rowan_green.proofs.element_list.ElementList.+find.Goals as goal

pub find_in_block-requires-clause-fits : goal.find_in_block-requires-clause-fits
find_in_block-requires-clause-fits t c =
    let b = at_block c.self.view_is c.self.invariant c.in-Block.is in
    rw c.deref.ensures.value b.fits.text

pub find-requires : goal.find-requires
find-requires t c =
    let f = at_fork c.self.view_is c.self.invariant c.in-Fork.is in
    rw (c.list.ensures, c.deref-then-offset-half.ensures) (omega (arith, f.height, f.above), omega (arith, f.before, c.if-offset-half.true))

pub further-requires-clause-looks : goal.further-requires-clause-looks
further-requires-clause-looks t c =
    let f = at_fork c.self.view_is c.self.invariant c.in-Fork.is in
    let k = rw (c.list.ensures, c.deref-then-offset-half.ensures) at c.find.ensures.looks in
    omega (arith, f.low, f.above, k)

pub find-requires-else-offset-half : goal.find-requires-else-offset-half
find-requires-else-offset-half t c =
    let f = at_fork c.self.view_is c.self.invariant c.in-Fork.is in
    rw (c.list-else-offset-half.ensures, c.deref-else-offset-half.ensures) (omega (arith, f.height, f.above), omega (arith, f.before, f.texts, c.if-offset-half.false, c.requires))

pub further-requires-else-offset-half-clause-looks : goal.further-requires-else-offset-half-clause-looks
further-requires-else-offset-half-clause-looks t c =
    let f = at_fork c.self.view_is c.self.invariant c.in-Fork.is in
    let k = rw (c.list-else-offset-half.ensures, c.deref-else-offset-half.ensures) at c.find-else-offset-half.ensures.looks in
    omega (arith, f.low, f.above, k)

pub returns-else-offset-half-clause-place : goal.returns-else-offset-half-clause-place
returns-else-offset-half-clause-place t c =
    let f = at_fork c.self.view_is c.self.invariant c.in-Fork.is in
    let p = rw (c.list-else-offset-half.ensures, c.deref-else-offset-half.ensures) at c.find-else-offset-half.ensures.place in
    let n : c.len.result ≡ length c.in-Fork.left.value.0 = rw c.deref-else-offset-half-2.ensures at c.len.ensures.count in
    rw (c.further-else-offset-half.ensures, f.terms, n) (child_right _ _ _ _ _ _ f.before c.if-offset-half.false p)

pub returns-in-Run-clause-many : goal.returns-in-Run-clause-many
returns-in-Run-clause-many t c =
    let r = at_list_run c.self.view_is c.self.invariant c.in-Run.is in
    λ _. r.many

use Rattle.std.proofs.Common.{◌-◌, arith}
use Rattle.std.proofs.lemmas.Nat.{pow_pos}
use Rattle.rowan_green.proofs.Summing.{power_halves, fits_take, fits_drop}
use Rattle.rowan_green.proofs.element_list.Part.+built.Goals as goal

pub built-requires : goal.built-requires
built-requires t c =
    let p = power_halves c.args.height c.if-height-eq0.false in
    let n = c.split_at.ensures.front_len in
    (omega (arith, c.if-height-eq0.false), (omega (arith, p, n, c.requires.many), (omega (arith, p, n, c.requires.few), rw c.split_at.ensures.front (fits_take _ _ c.requires.fits))))

pub built-requires-2 : goal.built-requires-2
built-requires-2 t c =
    let p = power_halves c.args.height c.if-height-eq0.false in
    let n = c.split_at.ensures.back_len in
    (omega (arith, c.if-height-eq0.false), (omega (arith, p, n, c.requires.many), (omega (arith, p, n, c.requires.few), rw c.split_at.ensures.back (fits_drop _ _ c.requires.fits))))

pub fork-requires-clause-left : goal.fork-requires-clause-left
fork-requires-clause-left t c =
    let p = power_halves c.args.height c.if-height-eq0.false in
    let n = c.split_at.ensures.front_len in
    rw (c.in_ok-left.ensures.ok, c.in_ok-built.ensures) (omega (arith, p, n, c.requires.many, pow_pos (c.args.height - 1)))

pub fork-requires-clause-right : goal.fork-requires-clause-right
fork-requires-clause-right t c =
    let p = power_halves c.args.height c.if-height-eq0.false in
    let n = c.split_at.ensures.back_len in
    rw (c.in_ok-right.ensures.ok, c.in_ok-built-2.ensures) (omega (arith, p, n, c.requires.many, pow_pos (c.args.height - 1)))

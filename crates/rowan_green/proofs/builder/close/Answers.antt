use Rattle.std.proofs.Common.{◌≡◌, ◌+◌, ◌<◌, ◌^◌, length, arith}
use Rattle.rowan_green.proofs.KeptLemmas.{rest_fits}
use Rattle.rowan_green.proofs.builder.close.Goals as goal

pub returns-clause-fits : goal.returns-clause-fits
returns-clause-fits c =
    let n : c.len.result ≡ length c.args.done.now.items = grind arith in
    let h : length c.args.done.now.items < c.args.open.first + 2 ^ 32 = omega (arith, n, c.if-len-open-gt-MOST.false) in
    rest_fits c.args.arena.now c.args.done.now.items c.args.open.first c.requires.filled h

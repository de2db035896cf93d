use Rattle.std.proofs.Common.{arith}
use Rattle.rowan_green.proofs.Joining.{three_fit}
use Rattle.rowan_green.proofs.element_list_join.fit_together.Goals as goal

pub returns-clause-fit : goal.returns-clause-fit
returns-clause-fit c =
    three_fit c.args.front.now.0 c.args.middle.now.0 c.args.back.now.0 (omega (arith, c.len.ensures.count, c.len-2.ensures.count, c.len-3.ensures.count, c.if-count.false))
    (omega (arith, c.text_len.ensures, c.text_len-2.ensures, c.text_len-3.ensures, c.from.ensures, c.from-2.ensures, c.from-3.ensures, c.from-else-count.ensures, c.if-text-from.false))

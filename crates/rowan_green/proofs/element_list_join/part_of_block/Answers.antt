use Rattle.std.proofs.Common.{take, arith}
use Rattle.rowan_green.proofs.Summing.{texts_split}
use Rattle.rowan_green.proofs.element_list_join.part_of_block.Goals as goal

pub few-requires-clause-fits : goal.few-requires-clause-fits
few-requires-clause-fits c =
    rw (c.in_ok-push_clones.ensures, c.in_ok-elements.ensures.items, c.list.ensures)
    (omega (arith, texts_split c.args.start (take c.args.end c.args.list.now.0), texts_split c.args.end c.args.list.now.0, c.requires.fits.text))

use Rattle.std.proofs.Common.{◌/◌, arith}
use Rattle.rowan_green.proofs.Summing.{texts_split}
use Rattle.rowan_green.proofs.element_list_join.in_blocks.Goals as goal

pub block-requires-clause-fits : goal.block-requires-clause-fits
block-requires-clause-fits c =
    rw c.in_ok-back.ensures.items (omega (arith, texts_split (c.len-2.result / 2) c.args.elements.items, c.requires.fits.text))

pub block-requires-2-clause-fits : goal.block-requires-2-clause-fits
block-requires-2-clause-fits c =
    rw c.in_ok-back.ensures.tail (omega (arith, texts_split (c.len-2.result / 2) c.args.elements.items, c.requires.fits.text))

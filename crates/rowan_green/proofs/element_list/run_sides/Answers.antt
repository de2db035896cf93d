use Rattle.rowan_green.proofs.RunLemmas.{half_fits_front, half_fits_back}
use Rattle.rowan_green.proofs.element_list.run_sides.Goals as goal

pub run-requires-clause-fits : goal.run-requires-clause-fits
run-requires-clause-fits c =
    half_fits_front c.args.run.now c.in_ok-front.front c.in_ok-front.back c.in_ok-front.ensures c.requires

pub run-requires-2-clause-fits : goal.run-requires-2-clause-fits
run-requires-2-clause-fits c =
    half_fits_back c.args.run.now c.in_ok-front.front c.in_ok-front.back c.in_ok-front.ensures c.requires

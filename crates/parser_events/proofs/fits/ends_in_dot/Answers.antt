-- The last byte tells the last character.
use Rattle.parser_input.proofs.InputSteps.{dot-told}
use Rattle.parser_events.proofs.fits.ends_in_dot.Goals as goal

pub returns : goal.returns
returns c = dot-told c.ends_with.result c.args.text.now c.utf8.text c.ends_with.ensures.cases

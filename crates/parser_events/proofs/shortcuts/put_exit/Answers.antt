use Rattle.std.proofs.Common.{refl}
use Rattle.parser_events.proofs.shortcuts.put_exit.Goals as goal

pub returns-in-Ok-clause-taken : goal.returns-in-Ok-clause-taken
returns-in-Ok-clause-taken g c = record { taken = c.in-Ok.ensures.taken; at = refl; within = c.requires }

pub returns-in-Err-clause-refused : goal.returns-in-Err-clause-refused
returns-in-Err-clause-refused g c = c.in-Err.ensures.refused

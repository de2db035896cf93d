use Rattle.std.proofs.Common.{sym, arith}
use Rattle.parser_events.proofs.Places.{after-at}
use Rattle.parser_events.proofs.Putting.{place-end}
use Rattle.parser_events.proofs.shortcuts.after_one.Goals as goal

pub returns-then-i-len-clause-place : goal.returns-then-i-len-clause-place
returns-then-i-len-clause-place c = sym (after-at c.args.lexed.now.leaves c.args.i 1)

pub returns-clause-place : goal.returns-clause-place
returns-clause-place c = place-end c.args.lexed.now.leaves c.args.i (omega arith)

use Rattle.std.proofs.Common.{length, false}
use Rattle.rustc_lexer.specs.Scan.{ticked}
use Rattle.rustc_lexer.proofs.Alike.{Alike}
use Rattle.rustc_lexer.proofs.cursor.Cursor.eat_ticked.Given as goal

abbrev pub invariant-ticked : goal.invariant-ticked
invariant-ticked l = Alike (ticked false) l.self (ticked false) l.initial.self

abbrev pub decreases-ticked : goal.decreases-ticked
decreases-ticked l = length l.self

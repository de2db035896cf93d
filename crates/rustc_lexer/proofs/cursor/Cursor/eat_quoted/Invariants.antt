use Rattle.std.proofs.Common.{length, false}
use Rattle.rustc_lexer.specs.Scan.{quoted}
use Rattle.rustc_lexer.proofs.Alike.{Alike}
use Rattle.rustc_lexer.proofs.cursor.Cursor.eat_quoted.Given as goal

abbrev pub invariant-quoted : goal.invariant-quoted
invariant-quoted l = Alike (quoted false) l.self (quoted false) l.initial.self

abbrev pub decreases-quoted : goal.decreases-quoted
decreases-quoted l = length l.self

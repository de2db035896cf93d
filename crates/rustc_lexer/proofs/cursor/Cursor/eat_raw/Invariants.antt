use Rattle.std.proofs.Common.{length}
use Rattle.rustc_lexer.specs.Scan.{raw}
use Rattle.rustc_lexer.proofs.Alike.{Alike}
use Rattle.rustc_lexer.proofs.cursor.Cursor.eat_raw.Given as goal

abbrev pub invariant-raw : goal.invariant-raw
invariant-raw l = Alike (raw l.hashes) l.self (raw l.hashes) l.initial.self

abbrev pub decreases-raw : goal.decreases-raw
decreases-raw l = length l.self

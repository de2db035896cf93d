use Rattle.std.proofs.Common.{◌+◌, ◌≤◌, length}
use Rattle.rustc_lexer.specs.Characters.{size}
use Rattle.rustc_lexer.specs.Scan.{block}
use Rattle.rustc_lexer.proofs.Alike.{Alike}
use Rattle.rustc_lexer.proofs.cursor.Cursor.eat_block.Given as goal

abbrev pub invariant-block : goal.invariant-block
invariant-block l = record {
  same : Alike (block l.depth) l.self (block 0) l.initial.self;
  room : l.depth + size l.self ≤ l.room;
}

abbrev pub decreases-block : goal.decreases-block
decreases-block l = length l.self

-- The bytes that were passed are blank, and written.
use Rattle.std.proofs.Common.{◌≡◌, ◌++◌, drop, take_while, string_bytes}
use Rattle.rust_source.specs.Lines.{is_blank}
use Rattle.rust_source.proofs.lines.blanks.Given as goal

abbrev pub invariant-loop-byte : goal.invariant-loop-byte
invariant-loop-byte l = take_while is_blank l.line ≡ string_bytes l.indent ++ take_while is_blank (drop l.byte-index l.line)

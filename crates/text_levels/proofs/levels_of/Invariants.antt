use Rattle.std.proofs.Common.{◌≡◌, chars, drop, map}
use Rattle.parser_input.specs.Lexed.{lexed}
use Rattle.text_levels.specs.Levels.{counted_all, kinds_of, start}
use Rattle.text_levels.proofs.levels_of.Given as goal

-- the count goes on to that of all tokens
abbrev pub invariant-loop-i : goal.invariant-loop-i
invariant-loop-i l =
    counted_all (drop l.i (kinds_of (lexed l.fn.edition (chars l.text)))) l.counter ≡ counted_all (kinds_of (lexed l.fn.edition (chars l.text))) start

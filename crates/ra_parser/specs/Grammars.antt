-- The grammars that a text can be read by.
use Rattle.std.specs.Prelude.{Bool, true, false}
use Rattle.ra_parser.specs.declared.grammar.Grammar.{Grammar}
use Rattle.ra_parser.specs.declared.grammar.Grammar.TheVariants as grammars

-- whether its tokens say that the whole language is read
abbrev pub is_whole : Grammar → Bool
is_whole grammars.Profile = false
is_whole grammars.Whole = true

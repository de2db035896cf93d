-- How many looks at the tokens of a text are made at most where it is read.
use Rattle.std.specs.Prelude.{ℕ, ◌+◌, ◌*◌, List, length}
use Rattle.parser_input.specs.Input.{Token, input}
use Rattle.parser_input.specs.declared.edition.Edition.{Edition}
use Rattle.ra_parser.specs.Grammars.{is_whole}
use Rattle.ra_parser.specs.declared.grammar.Grammar.{Grammar}
use Rattle.rust_document.specs.Reading.{leaves_in}

-- the most lookaheads for these tokens of the parser's input, and for its end
abbrev pub steps_for : List Token → ℕ
steps_for tokens = 4096 * (length tokens + 1)

abbrev pub most_steps : Grammar → Edition → List ℕ → ℕ
most_steps grammar edition text = steps_for (input (is_whole grammar) edition (leaves_in edition text))

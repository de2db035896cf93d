-- Editions and grammars by number.
use Rattle.std.specs.Prelude.{ℕ, ◌==◌, Option, Some, None, if◌then◌else◌}
use Rattle.parser_input.specs.declared.edition.Edition.{Edition}
use Rattle.parser_input.specs.declared.edition.Edition.TheVariants.{Edition2015, Edition2018, Edition2021, Edition2024, EditionNext}
use Rattle.ra_parser.specs.declared.grammar.Grammar.{Grammar}
use Rattle.ra_parser.specs.declared.grammar.Grammar.TheVariants.{Profile, Whole}

-- the edition of a year, or the next edition
abbrev pub edition_of : ℕ → Option Edition
edition_of number =
    if number == 2015 then Some Edition2015
    else if number == 2018 then Some Edition2018
    else if number == 2021 then Some Edition2021
    else if number == 2024 then Some Edition2024
    else if number == 0 then Some EditionNext
    else None

-- the profile, or the whole language
abbrev pub grammar_of : ℕ → Option Grammar
grammar_of number = if number == 0 then Some Profile else if number == 1 then Some Whole else None

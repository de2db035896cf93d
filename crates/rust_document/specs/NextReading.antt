-- What a document keeps of its text for the next reading, and what a reading takes from it.
use Rattle.std.specs.Prelude.{◌≡◌, ◌↔◌, ℕ, ◌≤◌, Bool, List, length, chars, Option, None, Some, IfSome, if◌then◌else◌}
use Rattle.std.specs.Str.{IsUtf8}
use Rattle.parser_input.specs.Input.{Token, input}
use Rattle.parser_input.specs.Lexed.{content}
use Rattle.parser_input.specs.declared.edition.Edition.{Edition}
use Rattle.parser_events.specs.Steps.{Step, steps}
use Rattle.rust_grammar.specs.Entry.{entry}
use Rattle.rust_grammar.specs.Rule.{Production, source_file}
use Rattle.rust_grammar.specs.Whole.{whole}
use Rattle.ra_parser.specs.Grammars.{is_whole}
use Rattle.ra_parser.specs.declared.grammar.Grammar.{Grammar}
use Rattle.rust_document.specs.Costs.{most_steps}
use Rattle.rust_document.specs.IsReading.{IsReading}
use Rattle.rust_document.specs.Reading.{after_preface, forest_by, leaves_in, tree_in}
use Rattle.rust_document.specs.declared.parse.Parse.{Parse}
use Rattle.rust_document.specs.declared.read.FirstReading.{FirstReading}
use Rattle.rust_document.specs.declared.read.NextReading.{NextReading}
use Rattle.rust_document.specs.declared.read.NextText.{NextText}

-- one leaf, or none
abbrev pub one_if : Bool → ℕ
one_if b = if b then 1 else 0

-- the steps of a text that is read by an entry
abbrev pub AreStepsBy : Production → Grammar → Edition → List ℕ → List Step → Type 0
AreStepsBy x grammar edition text ss = ss ≡ steps (forest_by x grammar edition (leaves_in edition text))

-- the parser's input of a text, by its characters
abbrev pub tokens_in : Grammar → Edition → List ℕ → List Token
tokens_in grammar edition text = input (is_whole grammar) edition (leaves_in edition text)

-- the output is the one for the input
abbrev pub IsOwnParse : Parse → Type 0
IsOwnParse p = p.output.steps ≡ steps (entry whole source_file p.input)

-- the parse of a text
pub record IsParseOf (grammar : Grammar) (edition : Edition) (text : List ℕ) (p : Parse) : Type 0 where
  pub input_is : p.input ≡ tokens_in grammar edition text
  pub own : IsOwnParse p

-- the reading of a text with what serves the next one
pub record IsFirstReading (grammar : Grammar) (edition : Edition) (text : List ℕ) (r : FirstReading) : Type 0 where
  pub reading_is : IsReading grammar edition text r.reading.tokens.items r.reading.root r.reading.errors.items
  pub kept_is : chars r.kept ≡ content text
  pub parse_is : IsParseOf grammar edition text r.parse

-- A text within the limit with its content's tokens. Its tree is given only if it has the input before.
pub record IsNextText (grammar : Grammar) (edition : Edition) (before : List Token) (n : NextText) : Type 0 where
  pub utf8 : IsUtf8 n.text.now
  pub fits : length n.text.now ≤ 16777216
  pub kept_is : chars n.kept ≡ content (chars n.text.now)
  pub root_is : IfSome n.root (λ t. (t ≡ tree_in grammar edition (chars n.text.now)) × (before ≡ tokens_in grammar edition (chars n.text.now)))

-- a parse of the text, or none where that with the input before serves
abbrev pub IsNextParse : Grammar → Edition → List ℕ → List Token → Option Parse → Type 0
IsNextParse grammar edition text before None = before ≡ tokens_in grammar edition text
IsNextParse grammar edition text before (Some p) = IsParseOf grammar edition text p

-- The reading of a text after one with an input: no lookahead is made exactly if the text has the same input.
pub record IsNextReading (grammar : Grammar) (edition : Edition) (text : List ℕ) (before : List Token) (r : NextReading) : Type 0 where
  pub reading_is : IsReading grammar edition text r.reading.tokens.items r.reading.root r.reading.errors.items
  pub kept_is : chars r.kept ≡ content text
  pub parse_is : IsNextParse grammar edition text before r.parse
  pub leaves_are : r.leaves ≡ length (after_preface edition text)
  pub steps_are : (r.steps ≡ 0) ↔ (before ≡ tokens_in grammar edition text)
  pub few_steps : r.steps ≤ most_steps grammar edition text

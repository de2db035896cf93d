-- What the reading of a text is in code.
use Rattle.std.specs.Prelude.{◌≡◌, ℕ, List, map}
use Rattle.rowan_green.specs.Forest.{Tree}
use Rattle.parser_input.specs.declared.edition.Edition.{Edition}
use Rattle.rust_grammar.specs.Rule.{Production, source_file}
use Rattle.ra_parser.specs.declared.grammar.Grammar.{Grammar}
use Rattle.rust_document.specs.Reading.{tree_by, messages_by}
use Rattle.rust_document.specs.Seen.{message_of_error}
use Rattle.rust_document.specs.declared.syntax_error.SyntaxError.{SyntaxError}
use Rattle.rust_document.specs.Tokens.{tokens_of, span_of}
use Rattle.rust_document.specs.declared.tokens.LexedToken.{LexedToken}

-- tokens, tree and messages are those of the text, read by an entry
pub record IsReadingBy (x : Production) (grammar : Grammar) (edition : Edition) (text : List ℕ) (tokens : List LexedToken) (root : Tree) (errors : List SyntaxError) : Type 0 where
  pub tokens_are : map span_of tokens ≡ tokens_of edition text
  pub root_is : root ≡ tree_by x grammar edition text
  pub errors_are : map message_of_error errors ≡ messages_by x grammar edition text

-- the reading as a source file
abbrev pub IsReading : Grammar → Edition → List ℕ → List LexedToken → Tree → List SyntaxError → Type 0
IsReading = IsReadingBy source_file

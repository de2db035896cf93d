-- What the exports tell that keep no document.
use Rattle.std.specs.Prelude.{◌≡◌, ℕ, List, length, chars, Option, Some, None}
use Rattle.parser_input.specs.Kind.{name_of, raw_of}
use Rattle.parser_input.specs.declared.edition.Edition.{Edition}
use Rattle.parser_input.specs.declared.syntax_kind.SyntaxKind.{SyntaxKind}
use Rattle.ra_parser.specs.declared.grammar.Grammar.{Grammar}
use Rattle.rust_document.specs.Reading.{messages_in}
use Rattle.document_requests.specs.Output.{Output}
use Rattle.kept_document.specs.Buffers.{IsPut}

-- as many messages as the text has, by the edition and the grammar of two numbers
abbrev pub CountsMessages : Option Edition → Option Grammar → List ℕ → ℕ → Type 0
CountsMessages None grammar text count = ⊥
CountsMessages (Some edition) None text count = ⊥
CountsMessages (Some edition) (Some grammar) text count = count ≡ length (messages_in grammar edition (chars text))

-- a kind with this number, whose name is written
pub record IsNamed (number code : ℕ) (old new : List ℕ) (written : ℕ) : Type 0 where
  pub kind : SyntaxKind
  pub is : raw_of kind ≡ number
  pub put : IsPut (name_of kind) code old new written

-- the answer to a request, and its status
pub record IsAnswered (answer : Output) (code : ℕ) (old new : List ℕ) (written status : ℕ) : Type 0 where
  pub put : IsPut answer.written code old new written
  pub status_is : status ≡ answer.status

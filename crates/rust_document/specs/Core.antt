-- Texts of the core language: their trees, and that the parser has nothing to say of them. Whether a text is one is asked of the
-- input that the profile reads; the whole language reads it to the same tree.
use Rattle.std.specs.Prelude.{◌≡◌, ℕ, false, List, chars}
use Rattle.parser_input.specs.Input.{input}
use Rattle.parser_input.specs.Lexed.{lexed}
use Rattle.parser_input.specs.declared.edition.Edition.{Edition}
use Rattle.parser_events.specs.Dress.{dress_root}
use Rattle.parser_events.specs.Forest.{Forest}
use Rattle.core_language.specs.Language.{IsCoreFile}
use Rattle.ra_parser.specs.declared.grammar.Grammar.{Grammar}
use Rattle.rust_document.specs.Reading.{leaves_in, messages_in, of_leaves, root_of, terms_of, tree_in}
use Rattle.rust_document.specs.Step.{State}

-- The text reads as this tree of the parser, dressed with the text's leaves, and only the lexer has messages.
pub record ReadsAs (grammar : Grammar) (edition : Edition) (text : List ℕ) (core : Forest) : Type 0 where
  pub tree_is : tree_in grammar edition text ≡ root_of (terms_of (dress_root core (leaves_in edition text)))
  pub messages_are : messages_in grammar edition text ≡ of_leaves 0 (lexed edition text)

-- Where the parser's input of a text is a core file, the text reads as the tree of its derivation, by either grammar.
abbrev pub CoreTextsAreRead : Type 0
CoreTextsAreRead =
    (grammar : Grammar) (edition : Edition) (text : List ℕ) (core : Forest) → IsCoreFile (input false edition (leaves_in edition text)) core →
    ReadsAs grammar edition text core

-- In a document, a text that is a core file reads as the tree of its derivation.
abbrev pub IsReadAsCore : State → Type 0
IsReadAsCore d =
    (core : Forest) → IsCoreFile (input false d.edition (leaves_in d.edition (chars d.text))) core →
    ReadsAs d.grammar d.edition (chars d.text) core

-- A text that is one token.
use Rattle.std.specs.Prelude.{ℕ, List, [], ◌∷◌, Option, Some, None, option_map}
use Rattle.std.specs.Borrow.{Bor}
use Rattle.rustc_lexer.specs.Tokens as lexer
use Rattle.parser_input.specs.Kind.{raw_of}
use Rattle.parser_input.specs.Lexed.{Lexed, cut}
use Rattle.parser_input.specs.Messages.{wording}
use Rattle.parser_input.specs.Stored.{bytes_of}
use Rattle.parser_input.specs.declared.edition.Edition.{Edition}
use Rattle.parser_input.specs.declared.syntax_kind.SyntaxKind.{SyntaxKind}

-- the only leaf, if there is one token and one leaf
abbrev pub alone : List lexer.Lexeme → List Lexed → Option Lexed
alone (t ∷ []) (l ∷ []) = Some l
alone _ _ = None

-- The leaf of a text that is one token and one leaf. No preface is read.
unfoldable pub single : Edition → List ℕ → Option Lexed
single edition text = alone (lexer.tokens text) (cut edition 0 text)

-- a leaf's kind, and what is wrong with it, in words
abbrev pub kind_and_message : Lexed → ℕ × Option (List ℕ)
kind_and_message l = (l.leaf.kind, option_map wording l.message)

abbrev pub read : SyntaxKind × Option (Bor (List ℕ)) → ℕ × Option (List ℕ)
read r = (raw_of r.0, option_map bytes_of r.1)

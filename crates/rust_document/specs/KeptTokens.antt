-- Which edits keep tokens, what their counts are, and which commands keep the parser's output.
use Rattle.std.specs.Prelude.{◌≡◌, ◌↔◌, ℕ, ◌-◌, ◌≤◌, false, List, drop, length, chars}
use Rattle.std.specs.List.{All}
use Rattle.rustc_lexer.specs.Characters.{size}
use Rattle.rustc_lexer.specs.Tokens.{token_list}
use Rattle.lexed_text.specs.Edit.{Edit, edit_of}
use Rattle.lexed_text.specs.declared.kept.Kept.{Kept}
use Rattle.parser_input.specs.Input.{Token, input}
use Rattle.parser_input.specs.Lexed.{content, is_split, preface}
use Rattle.parser_input.specs.declared.edition.Edition.{Edition}
use Rattle.ra_parser.specs.Grammars.{is_whole}
use Rattle.ra_parser.specs.declared.grammar.Grammar.{Grammar}
use Rattle.plain_names.specs.LeafNames.{texts}
use Rattle.rust_document.specs.Reading.{after_preface, leaves_in}
use Rattle.rust_document.specs.Step.{State}
use Rattle.rust_document.specs.declared.document.Edited.{Edited}

-- the bytes of a text's preface: of its shebang and its frontmatter
abbrev pub preface_size : List ℕ → ℕ
preface_size text = size (texts (preface (chars text)))

-- Each token of the text's content is a leaf: before edition 2024 none of them is a guarded prefix.
abbrev pub TokensAreLeaves : Edition → List ℕ → Type 0
TokensAreLeaves edition text = All (λ t. is_split edition t.kind ≡ false) (token_list (content (chars text)))

-- An edit from a byte on leaves the preface as it is, and starts behind it.
pub record KeepsPreface (old new : List ℕ) (start : ℕ) : Type 0 where
  pub same : preface (chars old) ≡ preface (chars new)
  pub behind : preface_size old ≤ start

-- It keeps tokens if, besides, each token of both texts is a leaf.
pub record KeepsTokens (edition : Edition) (old new : List ℕ) (start : ℕ) : Type 0 where
  pub keeps_preface : KeepsPreface old new start
  pub old_tokens : TokensAreLeaves edition old
  pub new_tokens : TokensAreLeaves edition new

-- an edit of a text, as an edit of what follows its preface
abbrev pub content_edit : List ℕ → ℕ → ℕ → List ℕ → Edit
content_edit text start end put =
    let p = preface_size text in
    edit_of (drop p text) (start - p) (end - p) put

-- the counts of an edit
abbrev pub counts_of : Edited → Kept
counts_of e = record { front = e.front; lexed = e.lexed; back = e.back }

-- no token is kept: all leaves behind the preface are lexed
pub record KeepsNoToken (edition : Edition) (new : List ℕ) (e : Edited) : Type 0 where
  pub front : e.front ≡ 0
  pub lexed : e.lexed ≡ length (after_preface edition (chars new))
  pub back : e.back ≡ 0

-- the parser's input of a text
abbrev pub input_of : Grammar → Edition → List ℕ → List Token
input_of grammar edition text = input (is_whole grammar) edition (leaves_in edition (chars text))

-- Two documents have the same parser's input.
abbrev pub HaveSameInput : State → State → Type 0
HaveSameInput d e = input_of d.grammar d.edition d.text ≡ input_of e.grammar e.edition e.text

-- The parser's output is kept, so no lookahead is made, exactly if the input is the old one.
abbrev pub KeepsOutput : State → State → ℕ → Type 0
KeepsOutput old new steps = (steps ≡ 0) ↔ HaveSameInput old new

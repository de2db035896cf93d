-- What holds of the leaves and of the preface of every text.
use Rattle.std.specs.Prelude.{◌≡◌, ℕ, ◌<◌, ◌≤◌, ◌↔◌, true, false, List, [], ◌∷◌, ◌++◌, length, drop, chars, option_map, Some, Ok, Err}
use Rattle.std.specs.List.{All, flat_map}
use Rattle.std.specs.Str.{IsUtf8}
use Rattle.rustc_lexer.specs.Tokens as lexer
use Rattle.parser_input.specs.Leaf.{leaves}
use Rattle.parser_input.specs.Lexed.{lexed, leaves_of, preface, content, is_split}
use Rattle.parser_input.specs.LineList.{lines, joined}
use Rattle.parser_input.specs.Lines.{first_line, dashes, is_fence}
use Rattle.parser_input.specs.Preface.{Source, opening_line, source, unclosed}
use Rattle.parser_input.specs.Slices.{IsSlice, AreSlices, leaf_piece}
use Rattle.parser_input.specs.Spans.{text_of}
use Rattle.parser_input.specs.declared.edition.Edition.{Edition}

-- without a preface, and without a guarded prefix before 2024, each token is one leaf
abbrev pub LexedIsLeaves : Type 0
LexedIsLeaves =
    (edition : Edition) (text : List ℕ) → preface text ≡ [] → content text ≡ text →
    All (λ l. is_split edition l.kind ≡ false) (lexer.tokens text) → leaves_of (lexed edition text) ≡ leaves edition text

-- the leaves of a text, joined, are the text
abbrev pub LeavesAreTheText : Type 0
LeavesAreTheText = (edition : Edition) (text : List ℕ) → flat_map (λ l. l.leaf.text) (lexed edition text) ≡ text

-- each leaf is the slice of the text at its span
abbrev pub LeavesAreSlices : Type 0
LeavesAreSlices =
    (edition : Edition) (text : List ℕ) (i : ℕ) → IsUtf8 text → i < length (lexed edition (chars text)) →
    IsSlice text (leaf_piece (lexed edition (chars text)) i)

-- so is each piece of a parsed source
abbrev pub PiecesAreSlices : Type 0
PiecesAreSlices =
    (text : List ℕ) (parts : Source) → IsUtf8 text → source (chars text) ≡ Ok parts → AreSlices text parts

-- the lines of a text, joined, are the text
abbrev pub LinesJoin : Type 0
LinesJoin = (text : List ℕ) → joined (lines text) ≡ text

-- a line that closes a frontmatter opened by `count` dashes
abbrev pub IsFence : ℕ → List ℕ → Type 0
IsFence count line = is_fence count (first_line line) ≡ true

abbrev pub IsNoFence : ℕ → List ℕ → Type 0
IsNoFence count line = is_fence count (first_line line) ≡ false

-- a text from the line that opens its frontmatter on: that line, those inside, the first fence, those after it
pub record FencedLines (text : List ℕ) (parts : Source) : Type 0 where
  pub opening_is : List ℕ
  pub inside : List (List ℕ)
  pub fence : List ℕ
  pub after : List (List ℕ)
  pub lines_are : lines (opening_line text) ≡ opening_is ∷ inside ++ fence ∷ after
  pub closes : IsFence (dashes (opening_line text)) fence
  pub none_before : All (IsNoFence (dashes (opening_line text))) inside
  pub frontmatter_is : option_map text_of parts.frontmatter ≡ Some (joined inside)
  pub content_is : parts.content.text ≡ joined after

-- the closing line is the first fence among the lines after the opening one; the content is what follows it
abbrev pub FirstFenceCloses : Type 0
FirstFenceCloses =
    (text : List ℕ) (parts : Source) → source text ≡ Ok parts → 3 ≤ dashes (opening_line text) →
    FencedLines text parts

-- where none is a fence, and there only, the frontmatter is unclosed
abbrev pub NoFenceIsUnclosed : Type 0
NoFenceIsUnclosed =
    (text : List ℕ) → 3 ≤ dashes (opening_line text) →
    (source text ≡ Err (unclosed text (dashes (opening_line text))))
    ↔ All (IsNoFence (dashes (opening_line text))) (drop 1 (lines (opening_line text)))

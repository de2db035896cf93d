-- How the leaves of a text are stored: where each ends.
use Rattle.std.specs.Prelude.{◌≡◌, ℕ, Bool, zero, suc, ◌+◌, ◌≤◌, List, [], ◌∷◌, ◌++◌, length, drop, chars, slice_range, slice_index_or, Option, Some, None, Result, Ok, Err}
use Rattle.std.specs.Borrow.{Bor}
use Rattle.std.specs.Str.{IsCharBoundary, IsUtf8}
use Rattle.rustc_lexer.specs.Characters.{size}
use Rattle.rustc_lexer.specs.Tokens.{first_lexeme}
use Rattle.parser_input.specs.Input.{Token, input}
use Rattle.parser_input.specs.Kind.{raw_of}
use Rattle.parser_input.specs.Kinds.{EOF}
use Rattle.parser_input.specs.Lexed.{Lexed, content, cut, leaves_of, lexed, next_leaf, preface, quiet, shebang_leaf}
use Rattle.parser_input.specs.Preface.{Source, after_shebang, shebang_piece}
use Rattle.parser_input.specs.declared.frontmatter_error.FrontmatterError.{FrontmatterError}
use Rattle.parser_input.specs.declared.edition.Edition.{Edition}
use Rattle.parser_input.specs.declared.lexed_str.StoredLeaf.{StoredLeaf}

-- a text with its leaves
pub record Whole : Type 0 where
  pub edition : Edition
  pub text : List ℕ
  pub leaves : List Lexed

-- a text with the leaves that it has in an edition
abbrev pub whole_of : Edition → List ℕ → Whole
whole_of edition text = record { edition = edition; text = text; leaves = lexed edition text }

-- a stored leaf of a text, by where it starts
abbrev pub seen : List ℕ → ℕ → StoredLeaf → Lexed
seen text start p =
    record { leaf = record { kind = raw_of p.kind; text = chars (slice_range text start p.end) }; message = p.message }

-- each leaf starts where the one before it ends
abbrev pub seen_from : List ℕ → ℕ → List StoredLeaf → List Lexed
seen_from text start [] = []
seen_from text start (p ∷ ps) = seen text start p ∷ seen_from text p.end ps

-- where the last one ends
abbrev pub end_from : ℕ → List StoredLeaf → ℕ
end_from start [] = start
end_from start (p ∷ ps) = end_from p.end ps

-- each ends between characters, not before its start
abbrev pub AreSpans : List ℕ → ℕ → List StoredLeaf → Type 0
AreSpans text start [] = Unit {0}
AreSpans text start (p ∷ ps) = (start ≤ p.end) × IsCharBoundary text p.end × AreSpans text p.end ps

-- the leaf that a text begins with
abbrev pub leaf_next : Edition → List ℕ → Lexed
leaf_next edition text = next_leaf edition (first_lexeme text)

-- the leaf at a place
abbrev pub leaf_at : List Lexed → ℕ → Lexed
leaf_at leaves i = slice_index_or leaves i (quiet EOF [])

-- the bytes of the first n leaves
abbrev pub offset : List Lexed → ℕ → ℕ
offset leaves zero = 0
offset [] (suc n) = 0
offset (l ∷ ls) (suc n) = size l.leaf.text + offset ls n

-- The leaves of a text up to a place are found: those that are stored, with those of what is left, are the text's leaves.
pub record Found (edition : Edition) (text : List ℕ) (place : ℕ) (ps : List StoredLeaf) : Type 0 where
  pub spans : AreSpans text 0 ps
  pub end_is : end_from 0 ps ≡ place
  pub within : place ≤ length text
  pub utf8 : IsUtf8 (drop place text)
  pub leaves_are : lexed edition (chars text) ≡ seen_from text 0 ps ++ cut edition 0 (chars (drop place text))

-- Stored leaves that reach up to a place.
pub record Placed (text : List ℕ) (place : ℕ) (ps : List StoredLeaf) : Type 0 where
  pub spans : AreSpans text 0 ps
  pub end_is : end_from 0 ps ≡ place
  pub within : place ≤ length text
  pub utf8 : IsUtf8 (drop place text)

-- The shebang is stored, if there is one.
pub record Begun (text : List ℕ) (place : ℕ) (ps : List StoredLeaf) : Type 0 where
  pub placed : Placed text place ps
  pub seen_is : seen_from text 0 ps ≡ shebang_leaf (shebang_piece (chars text))
  pub left_is : chars (drop place text) ≡ after_shebang (chars text)

-- The preface is stored.
pub record Opened (text : List ℕ) (place : ℕ) (ps : List StoredLeaf) : Type 0 where
  pub placed : Placed text place ps
  pub seen_is : seen_from text 0 ps ≡ preface (chars text)
  pub left_is : chars (drop place text) ≡ content (chars text)

-- The first leaves of a text are recorded, up to a place: what is recorded, with the input of the others, is the text's input.
pub record Passed (whole : Bool) (edition : Edition) (text : List ℕ) (ps : List StoredLeaf) (i place : ℕ) (tokens : List Token) : Type 0 where
  pub spans : AreSpans text place (drop i ps)
  pub boundary : IsCharBoundary text place
  pub input_is : input whole edition (leaves_of (seen_from text 0 ps)) ≡ tokens ++ input whole edition (leaves_of (seen_from text place (drop i ps)))

-- where the frontmatter ends, if there is one
abbrev pub frontmatter_end : Result Source FrontmatterError → Option ℕ
frontmatter_end (Err refusal) = None
frontmatter_end (Ok s) = elim s.closing [ None ↦ None | Some p ↦ Some s.content.start ]

-- the bytes of a borrowed text
abbrev pub bytes_of : Bor (List ℕ) → List ℕ
bytes_of text = text.now

-- How many leaves the preface of a text is, and how many stand after it.
use Rattle.std.proofs.Common.{◌≡◌, ℕ, ◌+◌, Bool, true, false, List, [], ◌∷◌, ◌++◌, length, Option, None, Some, Result, Ok, Err, is_some, if◌then◌else◌, refl, ap, ◌∙◌}
use Rattle.std.proofs.lemmas.List.{length-append}
use Rattle.rustc_lexer.specs.Shebang.{shebang, line_len}
use Rattle.parser_input.specs.Kinds.{FRONTMATTER}
use Rattle.parser_input.specs.Lexed.{Lexed, shebang_leaf, frontmatter_leaf, preface, content, cut, lexed, quiet}
use Rattle.parser_input.specs.Preface.{Piece, Source, piece, shebang_piece, source}
use Rattle.parser_input.specs.Stored.{frontmatter_end}
use Rattle.parser_input.specs.declared.edition.Edition.{Edition}
use Rattle.parser_input.specs.declared.frontmatter_error.FrontmatterError.{FrontmatterError}
use Rattle.rust_document.specs.NextReading.{one_if}
use Rattle.rust_document.specs.Reading.{after_preface}

-- a shebang is one
pub shebang-len : (text : List ℕ) → length (shebang_leaf (shebang_piece text)) ≡ one_if (is_some (shebang text))
unfolding shebang_piece
shebang-len text = by-case (is_some (shebang text))
  where
    by-case : (b : Bool) → length (shebang_leaf (if b then Some (piece text text (line_len text)) else None)) ≡ one_if b
    by-case true = refl
    by-case false = refl

-- so is a frontmatter
pub frontmatter-len : (text : List ℕ) → length (frontmatter_leaf text (source text)) ≡ one_if (is_some (frontmatter_end (source text)))
frontmatter-len text = by-result (source text)
  where
    by-closing : (c : Option Piece) (x : List ℕ) (n : ℕ) → length {A = Lexed} (elim c [ None ↦ [] | Some p ↦ quiet FRONTMATTER x ∷ [] ]) ≡ one_if (is_some (elim c [ None ↦ None | Some p ↦ Some n ]))
    by-closing None x n = refl
    by-closing (Some p) x n = refl

    by-result : (r : Result Source FrontmatterError) → length (frontmatter_leaf text r) ≡ one_if (is_some (frontmatter_end r))
    by-result (Err e) = refl
    by-result (Ok s) = by-closing s.closing _ s.content.start

-- the leaves of a text are its preface's and those after it
pub parts-len : (edition : Edition) (text : List ℕ) →
    length (lexed edition text)
    ≡ (length (shebang_leaf (shebang_piece text)) + length (frontmatter_leaf text (source text))) + length (after_preface edition text)
unfolding lexed preface
parts-len edition text =
    length-append (shebang_leaf (shebang_piece text) ++ frontmatter_leaf text (source text)) (cut edition 0 (content text))
    ∙ ap (λ (n : ℕ). n + length (after_preface edition text)) (length-append (shebang_leaf (shebang_piece text)) (frontmatter_leaf text (source text)))

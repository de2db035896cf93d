-- Where pieces and refusals stand, in bytes.
use Rattle.std.specs.Prelude.{ℕ, ◌+◌, List, chars}
use Rattle.std.specs.Borrow.{Bor}
use Rattle.std.specs.declared.ops.Range.{Range}
use Rattle.rustc_lexer.specs.Characters.{size}
use Rattle.parser_input.specs.Preface.{Piece}
use Rattle.parser_input.specs.declared.frontmatter_error.FrontmatterError.{FrontmatterError}
use Rattle.parser_input.specs.declared.frontmatter_error.FrontmatterError.TheVariants.{TooFewDashes, Unclosed}

abbrev pub end_of : Piece → ℕ
end_of p = p.start + size p.text

abbrev pub refused_start : FrontmatterError → ℕ
refused_start (TooFewDashes start end) = start
refused_start (Unclosed start end) = start

abbrev pub refused_end : FrontmatterError → ℕ
refused_end (TooFewDashes start end) = end
refused_end (Unclosed start end) = end

-- A piece by its characters, and by where it begins and ends.
abbrev pub text_of : Piece → List ℕ
text_of p = p.text

abbrev pub span_of : Piece → ℕ × ℕ
span_of p = (p.start, end_of p)

abbrev pub chars_of : Bor (List ℕ) → List ℕ
chars_of text = chars text.now

abbrev pub range_of : Range ℕ → ℕ × ℕ
range_of r = (r.start, r.end)

-- What is left of a text has no more bytes than the text.
use Rattle.std.proofs.Common.{◌∙◌, ap, arith}
use Rattle.rustc_lexer.specs.Characters.{size}
use Rattle.rustc_lexer.proofs.Sizes.{size-chars}
use Rattle.parser_input.proofs.frontmatter.Piece.remainder.Goals as goal

pub new-requires : goal.new-requires
new-requires c =
    let bytes = size-chars c.as_str.result.now c.as_str.utf8 ∙ ap size c.as_str.ensures in
    omega (arith, bytes, c.remaining.ensures, c.remaining-2.ensures)

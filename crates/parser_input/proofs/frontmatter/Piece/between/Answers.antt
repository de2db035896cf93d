-- A front of what is left of a text has no more bytes than the text.
use Rattle.std.proofs.Common.{◌∙◌, ap, arith}
use Rattle.rustc_lexer.specs.Characters.{size}
use Rattle.rustc_lexer.proofs.Sizes.{size-chars, size-parts}
use Rattle.parser_input.proofs.frontmatter.Piece.between.Goals as goal

pub new-requires : goal.new-requires
new-requires c =
    let n = c.requires.order.0 in
    let bytes = size-chars c.as_str.result.now c.as_str.utf8 ∙ ap size (c.as_str.ensures ∙ c.until.ensures n c.requires.order.1) in
    omega (arith, bytes, size-parts n c.args.from.now, c.remaining.ensures, c.remaining-2.ensures)

use Rattle.std.proofs.Common.{◌≡◌, ◌∙◌, ℕ, List, sym, ap, drop, true, false, Option, Some}
use Rattle.std.specs.Option.{is_some}
use Rattle.rustc_lexer.specs.Shebang.{shebang, line_len}
use Rattle.parser_input.specs.Preface.{Piece}
use Rattle.parser_input.proofs.Prefaces.{piece-some, piece-none}
use Rattle.parser_input.proofs.frontmatter.shebang_piece.Goals as goal

pub returns-then-is_some : goal.returns-then-is_some
returns-then-is_some c =
    let some : is_some (shebang c.args.text.now) ≡ true = ap (λ t. is_some (shebang t)) (sym c.as_str.ensures) ∙ ap is_some (sym c.strip_shebang.ensures) ∙ sym c.is_some.ensures ∙ c.if-is_some.true in
    let end = c.eat_first_line.ensures ∙ ap (λ (t : List ℕ). drop (line_len t) t) c.here-end.ensures in
    let K : Piece → Option Piece = λ p. Some p in
    ap K (c.between.ensures (line_len c.args.text.now) end) ∙ piece-some c.args.text.now some

pub returns : goal.returns
returns c =
    let none : is_some (shebang c.args.text.now) ≡ false = ap (λ t. is_some (shebang t)) (sym c.as_str.ensures) ∙ ap is_some (sym c.strip_shebang.ensures) ∙ sym c.is_some.ensures ∙ c.if-is_some.false in
    piece-none c.args.text.now none

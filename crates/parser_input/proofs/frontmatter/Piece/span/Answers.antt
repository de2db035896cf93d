-- A text has as many bytes as its characters take.
use Rattle.std.proofs.Common.{◌+◌, ◌∙◌, ℕ, ap}
use Rattle.rustc_lexer.proofs.Sizes.{size-chars}
use Rattle.parser_input.specs.Preface.{Piece}
use Rattle.parser_input.specs.Spans.{end_of}
use Rattle.parser_input.proofs.frontmatter.Piece.span.Goals as goal

pub returns-clause-end : goal.returns-clause-end
returns-clause-end c =
    let p = c.self.inside in
    c.self.invariant.0 ∙ ap (λ (n : ℕ). p.start + n) (size-chars p.text.now c.self.invariant.1) ∙ ap (λ (q : Piece). end_of q) c.self.view_is

use Rattle.std.proofs.Common.{◌∙◌, ◌-◌, List, ℕ, ap, sym, arith, drop, length, Option, Some}
use Rattle.rustc_lexer.specs.Characters.{size}
use Rattle.rustc_lexer.proofs.Sizes.{size-drop}
use Rattle.parser_input.specs.Lines.{after_line, dashes}
use Rattle.parser_input.specs.Preface.{Piece, piece, remainder, info_piece}
use Rattle.parser_input.proofs.Prefaces.{after-line-size, by-length, fenced-is}
use Rattle.parser_input.proofs.frontmatter.ScriptSource.fenced.Goals as goal

abbrev past_dashes : List ℕ → List ℕ
past_dashes t = drop (dashes t) t

pub info_piece-requires : goal.info_piece-requires
info_piece-requires c =
    let after = c.eat_dashes.ensures.rest ∙ ap (λ (t : List ℕ). past_dashes t) c.here-after.ensures in
    omega (arith, ap size after, size-drop (dashes c.args.opening.now) c.args.opening.now, c.requires.inside)

pub between-requires-2-clause-inside : goal.between-requires-2-clause-inside
between-requires-2-clause-inside c =
    let inside = c.eat_whole_line.ensures ∙ ap (λ (t : List ℕ). after_line t) c.here-inside.ensures in
    omega (arith, ap size inside, after-line-size c.args.opening.now, c.requires.inside)

pub between-requires-3-clause-inside : goal.between-requires-3-clause-inside
between-requires-3-clause-inside c =
    omega (arith, ap size c.requires.order.1, size-drop c.requires.order.0 (after_line c.args.opening.now), after-line-size c.args.opening.now, c.requires.inside)

pub remainder-requires : goal.remainder-requires
remainder-requires c =
    let content = c.eat_whole_line-2.ensures ∙ ap (λ (t : List ℕ). after_line t) c.here-content.ensures in
    omega (arith, ap size content, after-line-size c.args.closing.now, ap size c.requires.order.1, size-drop c.requires.order.0 (after_line c.args.opening.now), after-line-size c.args.opening.now, c.requires.inside)

pub returns : goal.returns
returns c =
    let text = c.args.text.now in
    let opening = c.args.opening.now in
    let closing = c.args.closing.now in
    let inside = after_line opening in
    let K : Piece → Option Piece = λ p. Some p in
    let after = c.eat_dashes.ensures.rest ∙ ap (λ (t : List ℕ). past_dashes t) c.here-after.ensures in
    let closed = c.eat_dashes-2.ensures.rest ∙ ap (λ (t : List ℕ). past_dashes t) c.here-closed.ensures in
    let inside_is = c.eat_whole_line.ensures ∙ ap (λ (t : List ℕ). after_line t) c.here-inside.ensures in
    let k = length inside - length closing in
    let lines = c.between-2.ensures k (by-length c.requires.order.0 inside closing c.requires.order.1 ∙ ap (λ (t : List ℕ). drop k t) (sym inside_is)) in
    fenced-is text opening closing _ record {
      shebang = c.shebang_piece.ensures;
      opening_is = ap K (c.between.ensures (dashes opening) after);
      info = c.info_piece.ensures ∙ ap (λ (t : List ℕ). info_piece text t) after;
      frontmatter = ap K (lines ∙ ap (λ (t : List ℕ). piece text t k) inside_is);
      closing_is = ap K (c.between-3.ensures (dashes closing) closed);
      content = c.remainder.ensures ∙ ap (λ (t : List ℕ). remainder text t) (c.eat_whole_line-2.ensures ∙ ap (λ (t : List ℕ). after_line t) c.here-content.ensures);
    }

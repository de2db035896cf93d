use Rattle.std.proofs.Common.{◌∙◌, ℕ, List, ap, drop, arith}
use Rattle.rustc_lexer.specs.Characters.{size}
use Rattle.parser_input.specs.Lines.{blank_len}
use Rattle.parser_input.specs.Preface.{opening_line}
use Rattle.parser_input.proofs.Prefaces.{opening-size}
use Rattle.parser_input.proofs.frontmatter.opening_line.Goals as goal

pub returns-clause-line : goal.returns-clause-line
unfolding opening_line
returns-clause-line c = c.eat_blank_lines.ensures ∙ ap (λ (r : List ℕ). drop (blank_len r) r) c.after_shebang-rest.ensures.rest

pub returns-clause-inside : goal.returns-clause-inside
unfolding opening_line
returns-clause-inside c =
    let line = c.eat_blank_lines.ensures ∙ ap (λ (r : List ℕ). drop (blank_len r) r) c.after_shebang-rest.ensures.rest in
    omega (arith, ap size line, opening-size c.args.text.now)

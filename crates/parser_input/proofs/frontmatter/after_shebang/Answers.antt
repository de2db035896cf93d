use Rattle.std.proofs.Common.{◌≡◌, ◌∙◌, ℕ, List, sym, ap, drop, true, false, arith}
use Rattle.std.specs.Option.{is_some}
use Rattle.rustc_lexer.specs.Characters.{size}
use Rattle.rustc_lexer.proofs.Sizes.{size-drop}
use Rattle.rustc_lexer.specs.Shebang.{shebang, line_len}
use Rattle.parser_input.proofs.Prefaces.{after-some, after-none}
use Rattle.parser_input.proofs.frontmatter.after_shebang.Goals as goal

pub returns-then-is_some-clause-rest : goal.returns-then-is_some-clause-rest
returns-then-is_some-clause-rest c =
    let some : is_some (shebang c.args.text.now) ≡ true = ap (λ t. is_some (shebang t)) (sym c.as_str.ensures) ∙ ap is_some (sym c.strip_shebang.ensures) ∙ sym c.is_some.ensures ∙ c.if-is_some.true in
    c.eat_first_line.ensures ∙ ap (λ (t : List ℕ). drop (line_len t) t) c.here-rest.ensures ∙ after-some c.args.text.now some

pub returns-else-is_some-clause-rest : goal.returns-else-is_some-clause-rest
returns-else-is_some-clause-rest c =
    let none : is_some (shebang c.args.text.now) ≡ false = ap (λ t. is_some (shebang t)) (sym c.as_str.ensures) ∙ ap is_some (sym c.strip_shebang.ensures) ∙ sym c.is_some.ensures ∙ c.if-is_some.false in
    c.here-rest.ensures ∙ after-none c.args.text.now none

pub returns-then-is_some-clause-inside : goal.returns-then-is_some-clause-inside
returns-then-is_some-clause-inside c =
    let some : is_some (shebang c.args.text.now) ≡ true = ap (λ t. is_some (shebang t)) (sym c.as_str.ensures) ∙ ap is_some (sym c.strip_shebang.ensures) ∙ sym c.is_some.ensures ∙ c.if-is_some.true in
    let rest = c.eat_first_line.ensures ∙ ap (λ (t : List ℕ). drop (line_len t) t) c.here-rest.ensures in
    omega (arith, ap size rest, size-drop (line_len c.args.text.now) c.args.text.now)

pub returns-else-is_some-clause-inside : goal.returns-else-is_some-clause-inside
returns-else-is_some-clause-inside c = omega (arith, ap size c.here-rest.ensures)

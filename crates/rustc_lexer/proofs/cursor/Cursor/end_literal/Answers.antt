use Rattle.std.proofs.Common.{◌∙◌, sym, ap, drop}
use Rattle.rustc_lexer.specs.Scan.{name, give}
use Rattle.rustc_lexer.specs.Lexeme.{suffix}
use Rattle.rustc_lexer.proofs.cursor.Cursor.end_literal.Goals as goal

pub returns-then-body-clause-rest : goal.returns-then-body-clause-rest
unfolding suffix name
returns-then-body-clause-rest c = c.eat_name.ensures ∙ ap (λ b. drop (suffix b c.args.self.now).taken c.args.self.now) (sym c.if-body.true)

pub returns-else-body-clause-rest : goal.returns-else-body-clause-rest
unfolding suffix give
returns-else-body-clause-rest c = ap (λ b. drop (suffix b c.args.self.now).taken c.args.self.now) (sym c.if-body.false)

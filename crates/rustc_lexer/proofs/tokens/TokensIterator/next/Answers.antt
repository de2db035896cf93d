use Rattle.std.proofs.Common.{◌∙◌, ◌∷◌, sym, ap, drop, length, arith}
use Rattle.rustc_lexer.specs.Tokens.{next_lexeme, token_list}
use Rattle.rustc_lexer.proofs.Alike.{some_left, none_left}
use Rattle.rustc_lexer.proofs.Cutting.{list-cons, list-nil}
use Rattle.rustc_lexer.proofs.tokens.TokensIterator.next.Goals as goal

pub returns-then-is_empty-clause-steps : goal.returns-then-is_empty-clause-steps
returns-then-is_empty-clause-steps c =
    let none = sym c.self.view_is ∙ list-nil c.self.inside.cursor (none_left _ _ c.is_empty.ensures c.if-is_empty.true) in
    (none, none)

step : goal.returns-clause-steps
step c =
    let old = c.self.inside.cursor in
    let first = list-cons old (some_left _ _ c.is_empty.ensures c.if-is_empty.false) in
    sym c.self.view_is ∙ first ∙ ap (λ t. t ∷ token_list (drop (length (next_lexeme old).text) old)) (sym c.advance_token.ensures.is_next)
    ∙ ap (λ z. c.advance_token.result ∷ token_list z) (sym c.advance_token.ensures.rest)

pub returns-clause-steps : goal.returns-clause-steps
returns-clause-steps c = step c

pub returns-clause-goes : goal.returns-clause-goes
returns-clause-goes c =
    let shorter = ap length (step c) in
    record { on = λ _. (tt, tt, omega arith); keeps = tt; rests = λ _. tt }

use Rattle.std.proofs.Common.{◌∙◌, ◌∷◌, sym, ap, drop}
use Rattle.rustc_lexer.specs.Tokens.{first_lexeme, tokens}
use Rattle.rustc_lexer.proofs.Cutting.{tokens-cons, first-length}
use Rattle.rustc_lexer.proofs.laws.tokens_go_on.Goals as goal

pub returns : goal.returns
returns c = λ x xs. tokens-cons x xs ∙ ap (λ n. first_lexeme (x ∷ xs) ∷ tokens (drop n (x ∷ xs))) (sym (first-length (x ∷ xs)))

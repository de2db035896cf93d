use Rattle.std.proofs.Common.{◌≡◌, suc, ◌+◌, take, subst, arith}
use Rattle.rustc_lexer.specs.Lexeme.{lexeme}
use Rattle.rustc_lexer.proofs.LexemesLocal.{lexeme-local}
use Rattle.rustc_lexer.proofs.laws.lexeme_is_local.Goals as goal

pub returns : goal.returns
returns c = λ xs ys e.
    let two : (lexeme xs).taken + 2 ≡ suc (suc (lexeme xs).taken) = omega arith in
    lexeme-local.at xs ys (subst (λ n. take n xs ≡ take n ys) two e)

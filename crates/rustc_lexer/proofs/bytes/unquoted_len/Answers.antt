use Rattle.std.proofs.Common.{sym, ap, not, ◌==◌, arith}
use Rattle.rustc_lexer.specs.Characters.{double_quote}
use Rattle.rustc_lexer.proofs.Runs.{run_found, run_all, not_true}
use Rattle.rustc_lexer.proofs.bytes.unquoted_len.Goals as goal

pub returns-in-Some : goal.returns-in-Some
returns-in-Some c =
    let found = c.in-Some.ensures in
    sym (run_found (λ b. not (b == double_quote)) c.args.bytes.now c.in-Some.n found.0.high (λ k l. not_true _ (found.0.before k (omega arith) l)) (ap not found.1))

pub returns-in-None : goal.returns-in-None
returns-in-None c =
    sym (run_all (λ b. not (b == double_quote)) c.args.bytes.now (λ k l. not_true _ (c.in-None.ensures k (omega arith) l)))

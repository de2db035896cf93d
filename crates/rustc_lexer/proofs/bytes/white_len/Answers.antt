use Rattle.std.proofs.Common.{◌≡◌, ◌&&◌, ltb, false, sym, get_or, arith}
use Rattle.rustc_lexer.specs.Characters.{is_whitespace}
use Rattle.rustc_lexer.proofs.Runs.{run_found, run_all}
use Rattle.rustc_lexer.proofs.bytes.white_len.Goals as goal

pub returns-then-not-is_ascii_white : goal.returns-then-not-is_ascii_white
returns-then-not-is_ascii_white c =
    let b = get_or c.args.bytes.now c.loop-i.i 0 in
    let stop : (ltb b 128 && is_whitespace b) ≡ false = cc in
    sym (run_found (λ b. ltb b 128 && is_whitespace b) c.args.bytes.now c.loop-i.i (omega arith) c.loop-i.invariant stop)

pub returns : goal.returns
returns c = sym (run_all (λ b. ltb b 128 && is_whitespace b) c.args.bytes.now (λ k l. c.loop-i.invariant k (omega arith)))

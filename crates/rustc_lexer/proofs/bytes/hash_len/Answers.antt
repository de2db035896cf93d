use Rattle.std.proofs.Common.{◌≡◌, ◌==◌, false, sym, get_or, arith}
use Rattle.std.proofs.lemmas.Bool.{ne_eqb}
use Rattle.rustc_lexer.specs.Characters.{hash}
use Rattle.rustc_lexer.proofs.Runs.{run_found, run_all}
use Rattle.rustc_lexer.proofs.bytes.hash_len.Goals as goal

pub returns-then-b-ne35 : goal.returns-then-b-ne35
returns-then-b-ne35 c =
    let b = get_or c.args.bytes.now c.loop-i.i 0 in
    let stop : (b == hash) ≡ false = ne_eqb _ _ c.if-b-ne35.true in
    sym (run_found (λ b. b == hash) c.args.bytes.now c.loop-i.i (omega arith) c.loop-i.invariant stop)

pub returns : goal.returns
returns c = sym (run_all (λ b. b == hash) c.args.bytes.now (λ k l. c.loop-i.invariant k (omega arith)))

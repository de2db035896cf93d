use Rattle.std.proofs.Common.{◌∙◌, ◌<◌, length, arith, sym}
use Rattle.std.proofs.lemmas.Bool.{eqb-false}
use Rattle.message_frames.proofs.Digits.{step, stop, done}
use Rattle.message_frames.proofs.number.number.Goals as goal

pub returns-in_err-n : goal.returns-in_err-n
returns-in_err-n c = c.from_residual.ensures ∙ stop c.args.digits.now c.loop-digit.digit-index c.loop-digit.n c.loop-digit-test.true c.in_err-n.ensures c.loop-digit.invariant

pub loop-digit-preserved : goal.loop-digit-preserved
loop-digit-preserved c = step c.args.digits.now c.loop-digit.digit-index c.loop-digit.n c.in_ok-n.n c.loop-digit-test.true c.in_ok-n.ensures c.loop-digit.invariant

pub returns : goal.returns
returns c =
    let some : 0 < length c.args.digits.now = omega (arith, eqb-false (length c.args.digits.now) 0 (sym c.is_empty.ensures ∙ c.if-is_empty.false)) in
    done c.args.digits.now c.loop-digit.digit-index c.loop-digit.n c.loop-digit-test.false some c.loop-digit.invariant

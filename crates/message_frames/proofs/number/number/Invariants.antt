use Rattle.std.proofs.Common.{◌≡◌, drop}
use Rattle.message_frames.specs.Numbers.{written}
use Rattle.message_frames.proofs.number.number.Given as goal

abbrev pub invariant-loop-digit : goal.invariant-loop-digit
invariant-loop-digit l = written l.n (drop l.digit-index l.digits) ≡ written 0 l.digits

use Rattle.std.proofs.Common.{◌≡◌}
use Rattle.lexed_text.proofs.lexed_text.lexed.Given as goal

abbrev pub invariant-loop-token : goal.invariant-loop-token
invariant-loop-token l = l.tokens.items ≡ l.yielded

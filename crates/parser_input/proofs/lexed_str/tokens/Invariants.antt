use Rattle.parser_input.specs.Stored.{Passed}
use Rattle.parser_input.proofs.lexed_str.tokens.Given as goal

abbrev pub invariant-loop-i : goal.invariant-loop-i
invariant-loop-i l = Passed l.whole l.edition l.text l.leaves l.i l.place l.tokens

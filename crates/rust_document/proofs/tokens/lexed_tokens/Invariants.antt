-- The leaves that were passed have their tokens.
use Rattle.rust_document.proofs.Places.{Passed}
use Rattle.rust_document.proofs.tokens.lexed_tokens.Given as goal

abbrev pub invariant-loop-i : goal.invariant-loop-i
invariant-loop-i l = Passed l.lexed.leaves l.i l.place.0 l.tokens.items

use Rattle.std.proofs.Common.{◌≡◌, ℕ, ◌++◌, take, drop, length}
use Rattle.parser_input.specs.Messages.{front}
use Rattle.parser_input.proofs.literals.front.Given as goal

abbrev pub invariant-front : goal.invariant-front
invariant-front l = (k : ℕ) × (l.rest ≡ drop k l.text) × (front l.end l.text ≡ take k l.text ++ front l.left l.rest)

abbrev pub decreases-front : goal.decreases-front
decreases-front l = length l.rest

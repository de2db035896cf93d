use Rattle.std.proofs.Common.{◌≡◌, ◌++◌, length}
use Rattle.session_words.specs.Escapes.{mended}
use Rattle.session_words.proofs.escapes.mended.Given as goal

-- what is written and what is left make the text
abbrev pub invariant-loop-rest : goal.invariant-loop-rest
invariant-loop-rest l = l.bytes.items ++ mended l.rest ≡ mended l.body

abbrev pub decreases-loop-rest : goal.decreases-loop-rest
decreases-loop-rest l = length l.rest

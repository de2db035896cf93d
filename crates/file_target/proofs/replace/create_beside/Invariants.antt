use Rattle.std.specs.Prelude.{ℕ, List, None, IfSome}
use Rattle.file_target.specs.Calls.{Call}
use Rattle.file_target.specs.Replacing.{IsAt}
use Rattle.file_target.proofs.replace.create_beside.Given as goal

-- There is no new file yet.
abbrev pub invariant-loop-number : goal.invariant-loop-number
invariant-loop-number g l = (bytes : List ℕ) (front : List Call) → IfSome (g.S.System.trace l.fn.system) (IsAt bytes front None) → IfSome (g.S.System.trace l.system) (IsAt bytes front None)

-- Whether steps leave one root by the last of them.
use Rattle.std.proofs.Common.{◌≡◌, ◌≤◌, ℕ, ◌+◌, List, length, map}
use Rattle.parser_events.specs.Fits.{leaves_root}
use Rattle.parser_events.specs.Seen.{step_of}
use Rattle.parser_events.specs.declared.step.Step.{Step}

-- With these steps left of all and `level` nodes open inside it, the root is left just as it is from the front.
pub record Rooted (all rest : List Step) (level : ℕ) : Type 0 where
  pub opened : level + length rest ≤ length all
  pub same : leaves_root level (map step_of rest) ≡ leaves_root 0 (map step_of all)

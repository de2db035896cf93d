-- A parser and an output as their callers see them.
use Rattle.std.specs.Prelude.{◌≡◌, ℕ, ◌-◌, ◌≤◌, List, length, drop, Option}
use Rattle.parser_input.specs.Input.{Token}
use Rattle.parser_events.specs.Marked.{Marked}
use Rattle.parser_events.specs.Steps.{Step}

-- The input, the number of consumed tokens, the open nodes with the trees that each has so far, and the number of
-- lookaheads. The innermost node is the first; the last trees are outside of all nodes. There are no nodes after an
-- allocation failure.
pub record View : Type 0 where
  pub input : List Token
  pub position : ℕ
  pub nodes : Option (List Marked)
  pub looks : ℕ

-- the steps of a parser's trees, and its number of lookaheads
pub record Parsed : Type 0 where
  pub steps : List Step
  pub looks : ℕ

-- these are the last tokens of an input
pub record IsRest (rest input : List Token) : Type 0 where
  pub count : length rest ≤ length input
  pub tokens : rest ≡ drop (length input - length rest) input

-- What is next when a function of the grammar is called.
use Rattle.std.specs.Prelude.{◌≢◌, ℕ, ◌≤◌, true}
use Rattle.parser_input.specs.Kinds.{EOF, UNSAFE_KW}
use Rattle.parser_events.specs.View.{View}
use Rattle.rust_grammar.specs.Rule.{Look}
use Rattle.rust_productions.specs.Looks.{tokens}
use Rattle.rust_productions.specs.Reads.{Saw, Condition}

-- A token is left, and the look sees what is next, in either mode.
pub record Starts (l : Look) (v : View) : Type 0 where
  pub sees : (c : Condition) → Saw c l v true
  pub some : 1 ≤ tokens v

-- A token is left, and the look sees what is next in this mode.
pub record StartsIn (c : Condition) (l : Look) (v : View) : Type 0 where
  pub sees : Saw c l v true
  pub some : 1 ≤ tokens v

-- a keyword that may follow `unsafe`
pub record FollowsUnsafe (word : ℕ) : Type 0 where
  pub other : word ≢ UNSAFE_KW
  pub inside : word ≢ EOF

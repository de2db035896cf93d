-- What a call of a function of the grammar costs. Each token that is taken pays for 4096 looks: `Takes 4000` leaves at least 4000 of
-- these to the caller, and for `Asks 3` the caller pays for at most three.
use Rattle.std.specs.Prelude.{◌≡◌, ℕ, ◌+◌, ◌*◌, ◌≤◌, Bool, false, length}
use Rattle.parser_events.specs.Stack.{IsInnermost}
use Rattle.parser_events.specs.View.{View}
use Rattle.rust_productions.specs.Moves.{Does}
use Rattle.rust_productions.specs.Stands.{left}

-- how many tokens are left
unfoldable pub tokens : View → ℕ
tokens v = length (left v)

-- the looks that one token pays for
abbrev pub looks_per_token : ℕ
looks_per_token = 4096

-- the looks that were made, and those that the tokens left pay for
abbrev pub spent : View → ℕ
spent v = v.looks + 4096 * tokens v

-- It takes at least one token, and at least `over` of the looks that this pays for are left over.
pub record Takes (over : ℕ) (old new : View) : Type 0 where
  pub left : tokens new + 1 ≤ tokens old
  pub looks : spent new + over ≤ spent old

-- It takes tokens or none, and makes at most `most` looks that these do not pay for.
pub record Asks (most : ℕ) (old new : View) : Type 0 where
  pub left : tokens new ≤ tokens old
  pub looks : spent new ≤ spent old + most

-- It takes no token, changes no node and makes at most `most` looks.
pub record Peeks (most : ℕ) (old new : View) : Type 0 where
  pub same : Does (λ s. s) old new
  pub left : tokens new ≡ tokens old
  pub looks : spent new ≤ spent old + most

-- It takes no token and makes no look.
pub record Stays (old new : View) : Type 0 where
  pub left : tokens new ≡ tokens old
  pub looks : spent new ≡ spent old

-- It takes at least one token, as `Takes`, and then the innermost node is that of this marker.
pub record TakesIn (node over : ℕ) (old new : View) : Type 0 where
  pub left : tokens new + 1 ≤ tokens old
  pub looks : spent new + over ≤ spent old
  pub marker : IsInnermost node new.nodes

-- It takes one token and makes no look, and then the innermost node is that of this marker.
pub record TakesOneIn (node : ℕ) (old new : View) : Type 0 where
  pub left : tokens new + 1 ≡ tokens old
  pub looks : spent new + 4096 ≡ spent old
  pub marker : IsInnermost node new.nodes

-- It takes at least two tokens, and then the innermost node is that of this marker.
pub record TakesTwoIn (node over : ℕ) (old new : View) : Type 0 where
  pub left : tokens new + 2 ≤ tokens old
  pub looks : spent new + over ≤ spent old
  pub marker : IsInnermost node new.nodes

-- It takes tokens or none, as `Asks`, and then the innermost node is that of this marker.
pub record AsksIn (node most : ℕ) (old new : View) : Type 0 where
  pub left : tokens new ≤ tokens old
  pub looks : spent new ≤ spent old + most
  pub marker : IsInnermost node new.nodes

-- As `Asks`; and where nothing was given before, as `Takes`.
pub record TakesUnless (given : Bool) (over most : ℕ) (old new : View) : Type 0 where
  pub takes : given ≡ false → Takes over old new
  pub left : tokens new ≤ tokens old
  pub looks : spent new ≤ spent old + most

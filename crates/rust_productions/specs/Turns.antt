-- Repetitions that are read turn by turn.
use Rattle.parser_events.specs.View.{View}
use Rattle.rust_grammar.specs.Rule.{Production, Rule, Star}
use Rattle.rust_productions.specs.Looks.{Takes}
use Rattle.rust_productions.specs.Reads.{Goes, Reads, Condition}

-- What is read from `entry` on is read once the turns from here on are.
pub record TurnsFrom (c : Condition) (a : Rule) (entry now : View) : Type 0 where
  pub rest : (end : View) → Reads c (Star a) now end → Reads c (Star a) entry end

-- A turn is read: it takes at least one token, and those taken pay for its looks.
pub record TakesTurn (c : Condition) (a : Rule) (old new : View) : Type 0 where
  pub turns : TurnsFrom c a old new
  pub takes : Takes 0 old new

-- What the production reads from `entry` on is read once it is from here on.
pub record GoesFrom (x : Production) (c : Condition) (entry now : View) : Type 0 where
  pub rest : (end : View) → Goes x c now end → Goes x c entry end

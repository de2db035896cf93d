-- The tokens of a tree in order, seen from a place.
use Rattle.std.specs.Prelude.{ℕ, ◌+◌, List, [], ◌∷◌, ◌++◌, reverse}
use Rattle.rowan_green.specs.Forest.{Tree}
use Rattle.rowan.specs.Place.{Place}
use Rattle.rowan_green.specs.declared.utility_types.NodeOrToken.TheVariants.{Node, Token}
use Rattle.rowan.specs.Around.{Cursor, tokens, children_before}
use Rattle.rowan.specs.Walk.{walk_from, entered}

-- the tokens at and below the children from a number on
abbrev pub tokens_from : Place → ℕ → List Place
tokens_from p i = tokens (entered (walk_from p i))

-- the tokens below a place
abbrev pub tokens_in : Place → List Place
tokens_in p = tokens_from p 0

-- the tokens after a place: those of its siblings after it, then those after its parent
abbrev pub tokens_after : Place → List Place
tokens_after p = after_by p.root p.up
  where
    after_by : Tree → List ℕ → List Place
    after_by root [] = []
    after_by root (i ∷ up) = tokens_from (record { root = root; up = up }) (i + 1) ++ after_by root up

-- the tokens at and below these children, which stand the last first: the last first too
abbrev pub tokens_back_by : List Cursor → List Place
tokens_back_by [] = []
tokens_back_by (Node q ∷ cs) = reverse (tokens_in q) ++ tokens_back_by cs
tokens_back_by (Token q ∷ cs) = q ∷ tokens_back_by cs

-- the tokens at and below the children before a number, the last first
abbrev pub tokens_back : Place → ℕ → List Place
tokens_back p i = tokens_back_by (children_before p i)

-- the tokens before a place, the nearest first: those of its siblings before it, then those before its parent
abbrev pub tokens_before : Place → List Place
tokens_before p = before_by p.root p.up
  where
    before_by : Tree → List ℕ → List Place
    before_by root [] = []
    before_by root (i ∷ up) = tokens_back (record { root = root; up = up }) i ++ before_by root up

-- Walks through a tree, as lists of events: the word of the tree, with the place of each sign.
use Rattle.std.specs.Prelude.{ℕ, zero, suc, ◌+◌, List, [], ◌∷◌, ◌++◌, drop, Option, Some, None}
use Rattle.std.specs.List.{filter_map}
use Rattle.rowan_green.specs.Forest.{Forest, empty, node, leaf}
use Rattle.rowan_green.specs.Term.{forest_of}
use Rattle.rowan_green.specs.declared.utility_types.NodeOrToken.TheVariants.{Node, Token}
use Rattle.rowan.specs.Place.{Place, below, terms_below}
use Rattle.rowan.specs.Around.{Cursor, place_in, nodes}
use Rattle.rowan.specs.declared.utility_types.WalkEvent.{WalkEvent}
use Rattle.rowan.specs.declared.utility_types.WalkEvent.TheVariants.{Enter, Leave}

abbrev pub Event : Type 0
Event = WalkEvent Cursor

-- the events of a forest below a place, the first term of which has index `i`: where the word opens a node, it is
-- entered, and where the word closes it, left; a token is entered and left
abbrev pub walk_forest : Place → ℕ → Forest → List Event
walk_forest p i empty = []
walk_forest p i (node k f r) = Enter (Node (below p i)) ∷ (walk_forest (below p i) 0 f ++ Leave (Node (below p i)) ∷ walk_forest p (i + 1) r)
walk_forest p i (leaf l r) = Enter (Token (below p i)) ∷ Leave (Token (below p i)) ∷ walk_forest p (i + 1) r

-- the events of the children of a place from a number on, and of all below them
abbrev pub walk_from : Place → ℕ → List Event
walk_from p i = walk_forest p i (forest_of (drop i (terms_below p)))

-- the events of an element and of all below it
abbrev pub walk : Cursor → List Event
walk c = Enter c ∷ (walk_from (place_in c) 0 ++ Leave c ∷ [])

abbrev pub entered_by : Event → Option Cursor
entered_by (Enter c) = Some c
entered_by (Leave c) = None

-- the elements that are entered, in order
abbrev pub entered : List Event → List Cursor
entered w = filter_map entered_by w

-- the nodes that are entered, in order
abbrev pub entered_nodes : List Event → List Place
entered_nodes w = nodes (entered w)

abbrev pub node_event : Event → Option (WalkEvent Place)
node_event (Enter (Node p)) = Some (Enter p)
node_event (Enter (Token p)) = None
node_event (Leave (Node p)) = Some (Leave p)
node_event (Leave (Token p)) = None

-- the events of nodes alone
abbrev pub node_events : List Event → List (WalkEvent Place)
node_events w = filter_map node_event w

-- what is left of a walk after the first leaving of an element that was entered `depth` elements further out, that leaving included
abbrev pub skipped : ℕ → List Event → List Event
skipped depth [] = []
skipped depth (Enter c ∷ w) = skipped (suc depth) w
skipped zero (Leave c ∷ w) = Leave c ∷ w
skipped (suc depth) (Leave c ∷ w) = skipped depth w

-- one fact of what is entered, another of what is left
abbrev pub MatchEvent : {A : Type 0} → WalkEvent A → (A → Type 0) → (A → Type 0) → Type 0
MatchEvent (Enter x) P Q = P x
MatchEvent (Leave x) P Q = Q x

-- What a parser has: the tokens that are left, and the open nodes.
use Rattle.std.specs.Prelude.{◌≡◌, List, drop, Option, Some, None}
use Rattle.parser_input.specs.Input.{Token}
use Rattle.parser_events.specs.Marked.{Marked}
use Rattle.parser_events.specs.View.{View}

-- the tokens that are not taken
abbrev pub left : View → List Token
left v = drop v.position v.input

-- The open nodes are `nodes`, unless an allocation failed.
abbrev pub Holds : Option (List Marked) → List Marked → Type 0
Holds None nodes = Unit {0}
Holds (Some open_nodes) nodes = open_nodes ≡ nodes

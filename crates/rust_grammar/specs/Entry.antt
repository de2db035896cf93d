-- What is read where a text is asked to be one thing: a file, the items or the statements of a macro, a type, a pattern, an
-- expression, an attribute's inside.
use Rattle.std.specs.Prelude.{Bool, true, false, List, [], ◌∷◌, Option, Some, None, if◌then◌else◌}
use Rattle.parser_input.specs.Kinds.{ERROR}
use Rattle.parser_input.specs.Input.{Token}
use Rattle.parser_events.specs.Forest.{Forest, Message, End, Leaf, Said, Node, UnexpectedTokens, ◌then◌}
use Rattle.rust_grammar.specs.Rule.{Production, source_file, macro_items, macro_statements}
use Rattle.rust_grammar.specs.Notation.{wanted}
use Rattle.rust_grammar.specs.Meaning.{Reading, Table, meaning, look_of, sees}

-- tokens as they stand, each a leaf
unfoldable pub leaves : List Token → Forest
leaves [] = End
leaves (t ∷ ts) = Leaf t.kind 1 (leaves ts)

unfoldable pub is_used_up : List Token → Bool
is_used_up [] = true
is_used_up (t ∷ ts) = false

-- a list of items or statements, which takes every input
unfoldable pub takes_all : Production → Bool
takes_all source_file = true
takes_all macro_items = true
takes_all macro_statements = true
takes_all x = false

-- trees after a message, if there is one
unfoldable pub with_message : Option Message → Forest → Forest
with_message (Some m) f = Said m f
with_message None f = f

-- The one tree of an input. What cannot begin the production stands whole in an error, after what is expected; where tokens are
-- left over, tree, message and tokens stand in an error.
unfoldable pub entry : Table → Production → List Token → Forest
entry g x ts =
    let start : Reading = record { given = End; rest = ts } in
    let s = meaning g x false start in
    let over = Node ERROR (s.given then Said UnexpectedTokens (leaves s.rest)) End in
    let missing = Node ERROR (with_message (wanted x) (leaves ts)) End in
    let one = if is_used_up s.rest then s.given else over in
    let other = if sees false start (look_of g x) then one else missing in
    if takes_all x then s.given else other

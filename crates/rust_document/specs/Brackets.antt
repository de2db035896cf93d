-- The brackets of token trees in a document's tree.
use Rattle.std.specs.Prelude.{ℕ, ◌==◌, Bool, true, false, ◌&&◌, if◌then◌else◌}
use Rattle.rowan_green.specs.Forest.{Forest, empty, node, leaf}
use Rattle.parser_input.specs.Kinds.{TOKEN_TREE, EOF}
use Rattle.rust_grammar.specs.TokenTrees.{partner, is_opening}

-- the kind of the last element, if that is a leaf
unfoldable pub last_kind : Forest → ℕ
last_kind empty = EOF
last_kind (leaf l empty) = l.kind
last_kind (leaf l r) = last_kind r
last_kind (node k f empty) = EOF
last_kind (node k f r) = last_kind r

-- an opening bracket, and at the end its partner
unfoldable pub is_closed : Forest → Bool
is_closed empty = false
is_closed (leaf l r) = is_opening l.kind && last_kind r == partner l.kind
is_closed (node k f r) = false

-- each token tree is closed, in a forest without whitespace and comments
unfoldable pub are_token_trees_closed : Forest → Bool
are_token_trees_closed empty = true
are_token_trees_closed (leaf l r) = are_token_trees_closed r
are_token_trees_closed (node k f r) =
    (if k == TOKEN_TREE then is_closed f else true) && are_token_trees_closed f && are_token_trees_closed r

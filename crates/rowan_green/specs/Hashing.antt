-- What is hashed of a node: no more than is read without a walk over what lies below it.
use Rattle.std.specs.Prelude.{◌-◌, [], ◌++◌, length, Option, Some, None, slice_get, if◌then◌else◌, nat_le}
use Rattle.std.specs.Hash.{HashWrites, u16, u32, str}
use Rattle.rowan_green.specs.Leaf.{Leaf}
use Rattle.rowan_green.specs.Forest.{Tree, tree_text}
use Rattle.rowan_green.specs.Term.{Term, children_of}
use Rattle.rowan_green.specs.declared.utility_types.NodeOrToken.TheVariants.{Node, Token}

-- of a token: the kind, and the text if it has at most 64 bytes, else the length
abbrev pub hashed_token : Leaf → HashWrites
hashed_token l = u16 l.kind ++ (if nat_le (length l.text) 64 then str l.text else u32 (length l.text))

-- of a child: of a token as above, of a node the kind and the length
abbrev pub hashed_child : Option Term → HashWrites
hashed_child None = []
hashed_child (Some (Node t)) = u16 t.kind ++ u32 (length (tree_text t))
hashed_child (Some (Token l)) = hashed_token l

-- of a node: the kind, the length, the number of children, and the first and the last child
abbrev pub hashed_node : Tree → HashWrites
hashed_node t =
    u16 t.kind ++ u32 (length (tree_text t)) ++ u32 (length (children_of t))
    ++ hashed_child (slice_get (children_of t) 0)
    ++ hashed_child (slice_get (children_of t) (length (children_of t) - 1))

-- The functions that get the attribute, and where it comes.
use Rattle.std.specs.Prelude.{ℕ, ◌==◌, Bool, true, false, List, Option, None, Some, codes, is_none, slice_get, if◌then◌else◌}
use Rattle.std.specs.List.{filter, filter_map, list_any}
use Rattle.std.specs.Str.{bytes_eq}
use Rattle.rust_source.specs.Elements.{ATTR, FN, PATH, RET_TYPE, VISIBILITY, Element, State, child_nodes, first_child_of, is_of_kind, kind_of, nodes_at, root_element, text_at}

-- true if there is an element, and it has this text
abbrev pub has_text : List ℕ → Option Element → Bool
has_text text None = false
has_text text (Some e) = bytes_eq (text_at e.place) text

-- The first path of the attribute is `must_use`: it may have a reason.
abbrev pub is_must_use : Element → Bool
is_must_use attribute = has_text (codes "must_use") (slice_get (filter (is_of_kind PATH) (nodes_at attribute)) 0)

-- one of the attributes of a function is
abbrev pub has_must_use : Element → Bool
has_must_use function = list_any is_must_use (filter (is_of_kind ATTR) (child_nodes function))

-- a visibility that is just `pub`
abbrev pub plain_pub : Option Element → Option Element
plain_pub None = None
plain_pub (Some visibility) = if bytes_eq (text_at visibility.place) (codes "pub") then Some visibility else None

-- The `pub` of a function that returns a type and lacks the attribute.
abbrev pub pub_of : Element → Option Element
pub_of function =
    if is_none (first_child_of RET_TYPE function) then None
    else if has_must_use function then None
    else plain_pub (first_child_of VISIBILITY function)

-- of a node, if it is such a function
abbrev pub place_of : Element → Option Element
place_of node = if kind_of node == FN then pub_of node else None

-- of all nodes of a tree, in preorder
abbrev pub places_in : Element → List Element
places_in root = filter_map place_of (nodes_at root)

-- of a document's tree
abbrev pub places : State → List Element
places d = places_in (root_element d)

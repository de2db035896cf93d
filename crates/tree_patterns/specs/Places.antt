-- Places: the parts of a pattern that stand for parts of a text.
use Rattle.std.specs.Prelude.{ℕ, ◌==◌, ◌&&◌, ◌||◌, not, Bool, true, false, List, Option, Some, None, if◌then◌else◌}
use Rattle.rowan_green.specs.Forest.{Forest, empty, node, leaf, Tree}
use Rattle.rowan_green.specs.Term.{Term}
use Rattle.rowan_green.specs.declared.utility_types.NodeOrToken.TheVariants as terms
use Rattle.parser_input.specs.Kinds as kinds
use Rattle.tree_patterns.specs.Kinds.{is_among}
use Rattle.tree_patterns.specs.declared.kinds.TheConstants.{EXPRESSIONS, TYPES, PATTERNS}
use Rattle.tree_patterns.specs.declared.place.Place.{Place}
use Rattle.tree_patterns.specs.declared.place.Place.TheVariants.{Expression, «Type», Pattern, Path, Segment, NameRef, Name, Token, Sequence, ArraySequence}

-- the raw kind of a place's leaf in the tree of a pattern; no kind of Rust has such a number
abbrev pub raw_of_place : Place → ℕ
raw_of_place Expression = 1024
raw_of_place «Type» = 1025
raw_of_place Pattern = 1026
raw_of_place Path = 1027
raw_of_place Segment = 1028
raw_of_place NameRef = 1029
raw_of_place Name = 1030
raw_of_place Token = 1031
raw_of_place Sequence = 1032
raw_of_place ArraySequence = 1033

-- the place that a leaf of a raw kind stands for
abbrev pub place_of : ℕ → Option Place
place_of kind =
    if kind == 1024 then Some Expression else
    if kind == 1025 then Some «Type» else
    if kind == 1026 then Some Pattern else
    if kind == 1027 then Some Path else
    if kind == 1028 then Some Segment else
    if kind == 1029 then Some NameRef else
    if kind == 1030 then Some Name else
    if kind == 1031 then Some Token else
    if kind == 1032 then Some Sequence else
    if kind == 1033 then Some ArraySequence else
    None

-- it matches any number of elements of a list
abbrev pub is_sequence : Place → Bool
is_sequence Sequence = true
is_sequence ArraySequence = true
is_sequence place = false

-- conditions with `let` among these elements: a `let`, or an operator with such an operand
abbrev pub has_let_in : Forest → Bool
has_let_in empty = false
has_let_in (node k f r) = (k == kinds.LET_EXPR || (k == kinds.BIN_EXPR && has_let_in f)) || has_let_in r
has_let_in (leaf l r) = has_let_in r

-- a node is a condition with `let`
abbrev pub has_let : Tree → Bool
has_let t = t.kind == kinds.LET_EXPR || (t.kind == kinds.BIN_EXPR && has_let_in t.forest)

-- a place for one element may stand for a node
abbrev pub may_be_node : Place → Tree → Bool
may_be_node Expression t = is_among EXPRESSIONS t.kind && not (has_let t)
may_be_node «Type» t = is_among TYPES t.kind
may_be_node Pattern t = is_among PATTERNS t.kind
may_be_node Path t = t.kind == kinds.PATH
may_be_node Segment t = t.kind == kinds.PATH_SEGMENT
may_be_node NameRef t = t.kind == kinds.NAME_REF
may_be_node Name t = t.kind == kinds.NAME
may_be_node Token t = true
may_be_node Sequence t = false
may_be_node ArraySequence t = false

-- it may stand for a token
abbrev pub may_be_token : Place → Bool
may_be_token Token = true
may_be_token place = false

-- it may stand for an element
abbrev pub may_be : Place → Term → Bool
may_be place (terms.Node t) = may_be_node place t
may_be place (terms.Token l) = may_be_token place

-- Where binary expressions may stand as operands of each other in a document's tree.
use Rattle.std.specs.Prelude.{ℕ, ◌==◌, Bool, true, ◌&&◌, ◌||◌, nat_lt, nat_le, if◌then◌else◌}
use Rattle.rowan_green.specs.Forest.{Forest, empty, node, leaf}
use Rattle.parser_input.specs.Kinds.{EOF, BIN_EXPR}
use Rattle.rust_grammar.specs.Powers.{power}

-- the operator of a binary expression with these children: the first leaf that is one
unfoldable pub operator : Forest → ℕ
operator empty = EOF
operator (leaf l r) = if power l.kind == 0 then operator r else l.kind
operator (node k f r) = operator r

-- The binding power of a node: that of the operator for a binary expression, more than that of each operator for any other node.
unfoldable pub level : (kind : ℕ) → (children : Forest) → ℕ
level kind children = if kind == BIN_EXPR then power (operator children) else 13

-- the binding power of the first of these elements
unfoldable pub left_level : Forest → ℕ
left_level empty = 13
left_level (leaf l r) = 13
left_level (node k f r) = level k f

-- the binding power of the last of these elements
unfoldable pub right_level : Forest → ℕ
right_level empty = 13
right_level (leaf l r) = right_level r
right_level (node k f empty) = level k f
right_level (node k f r) = right_level r

-- In a binary expression with these children the left operand binds no less tightly than the operator, and is no assignment;
-- the right one binds more tightly than the operator, unless that is an assignment.
unfoldable pub is_operator_placed : Forest → Bool
is_operator_placed children =
    let own = power (operator children) in
    let left = left_level children in
    let right = right_level children in
    let left_fits = nat_le own left && nat_lt 1 left in
    let right_fits = own == 1 || nat_lt own right in
    nat_lt 0 own && left_fits && right_fits

-- `is_operator_placed` holds for each binary expression, in a forest without whitespace and comments
unfoldable pub are_operators_placed : Forest → Bool
are_operators_placed empty = true
are_operators_placed (leaf l r) = are_operators_placed r
are_operators_placed (node k f r) =
    (if k == BIN_EXPR then is_operator_placed f else true) && are_operators_placed f && are_operators_placed r

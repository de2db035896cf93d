-- The powers of operators, and where binary expressions may stand as operands of each other.
use Rattle.std.specs.Prelude.{ℕ, ◌==◌, Bool, true, false, ◌&&◌, ◌||◌, List, [], ◌∷◌, nat_lt, nat_le, if◌then◌else◌}
use Rattle.parser_input.specs.Kinds.{EOF, BIN_EXPR, STAR, SLASH, PERCENT, PLUS, MINUS, SHL, SHR, AMP, CARET, PIPE, EQ2, NEQ, L_ANGLE, R_ANGLE, LTEQ, GTEQ, AMP2, PIPE2, EQ, PLUSEQ, MINUSEQ, STAREQ, SLASHEQ, PERCENTEQ, AMPEQ, PIPEEQ, CARETEQ, SHLEQ, SHREQ, PIPE_GT}
use Rattle.parser_events.specs.Forest as forest
use Rattle.parser_events.specs.Forest.{Forest}

-- a kind is one of these
unfoldable pub is_among : ℕ → List ℕ → Bool
is_among kind [] = false
is_among kind (k ∷ ks) = if kind == k then true else is_among kind ks

-- the operators that compare
abbrev pub comparisons : List ℕ
comparisons = EQ2 ∷ NEQ ∷ L_ANGLE ∷ R_ANGLE ∷ LTEQ ∷ GTEQ ∷ []

-- the operators that assign
abbrev pub assignments : List ℕ
assignments = EQ ∷ PLUSEQ ∷ MINUSEQ ∷ STAREQ ∷ SLASHEQ ∷ PERCENTEQ ∷ AMPEQ ∷ PIPEEQ ∷ CARETEQ ∷ SHLEQ ∷ SHREQ ∷ []

-- How tightly an operator binds, by the kind of its leaf, an assignment least of all; what is no operator between two operands
-- has no power.
unfoldable pub power : ℕ → ℕ
power kind =
    if is_among kind (STAR ∷ SLASH ∷ PERCENT ∷ []) then 12 else (
    if is_among kind (PLUS ∷ MINUS ∷ []) then 11 else (
    if is_among kind (SHL ∷ SHR ∷ []) then 10 else (
    if kind == AMP then 9 else (
    if kind == CARET then 8 else (
    if kind == PIPE then 7 else (
    if is_among kind comparisons then 6 else (
    if kind == AMP2 then 5 else (
    if kind == PIPE2 then 4 else (
    if kind == PIPE_GT then 2 else (
    if is_among kind assignments then 1 else 0))))))))))

-- the operator of a binary expression with these children: the first leaf
unfoldable pub operator : Forest → ℕ
operator forest.End = EOF
operator (forest.Leaf k n f) = k
operator (forest.Said message f) = operator f
operator (forest.ErrorLeaf message k f) = operator f
operator (forest.Node k c f) = operator f
operator (forest.Float e c f) = operator f

-- The binding power of a node: a binary expression has its operator's, any other node one above that of each operator.
unfoldable pub level : (kind : ℕ) → (children : Forest) → ℕ
level kind children = if kind == BIN_EXPR then power (operator children) else 13

-- the binding power of the first of these trees
unfoldable pub left_level : Forest → ℕ
left_level (forest.Node k c f) = level k c
left_level f = 13

-- the binding power of the last of these trees
unfoldable pub right_level : Forest → ℕ
right_level forest.End = 13
right_level (forest.Leaf k n f) = right_level f
right_level (forest.Said message f) = right_level f
right_level (forest.ErrorLeaf message k f) = right_level f
right_level (forest.Node k c forest.End) = level k c
right_level (forest.Node k c f) = right_level f
right_level (forest.Float e c f) = right_level f

-- In a binary expression with these children the left operand binds no less tightly than the operator, and is no
-- assignment; the right one binds more tightly than the operator, unless that is an assignment.
unfoldable pub is_operator_placed : Forest → Bool
is_operator_placed children =
    let own = power (operator children) in
    let left = left_level children in
    let right = right_level children in
    let left_fits = nat_le own left && nat_lt 1 left in
    let right_fits = own == 1 || nat_lt own right in
    nat_lt 0 own && left_fits && right_fits

-- each binary expression is so
unfoldable pub are_operators_placed : Forest → Bool
are_operators_placed forest.End = true
are_operators_placed (forest.Leaf k n f) = are_operators_placed f
are_operators_placed (forest.Said message f) = are_operators_placed f
are_operators_placed (forest.ErrorLeaf message k f) = are_operators_placed f
are_operators_placed (forest.Node k c f) =
    (if k == BIN_EXPR then is_operator_placed c else true) && are_operators_placed c && are_operators_placed f
are_operators_placed (forest.Float e c f) = are_operators_placed c && are_operators_placed f

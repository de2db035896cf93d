-- Trees in which an operator is misplaced.
use Rattle.std.specs.Prelude.{◌≡◌, ℕ, false, List, [], ◌∷◌}
use Rattle.parser_input.specs.Kinds.{IDENT, PATH_EXPR, BIN_EXPR, PLUS, MINUS, STAR, EQ, PLUSEQ, EQ2, AMP2, PIPE2, PIPE_GT}
use Rattle.parser_events.specs.Forest.{Forest, End, Leaf, Node, ◌then◌}
use Rattle.rust_grammar.specs.Powers.{are_operators_placed}

-- an operand that is no binary expression, and a binary expression of two operands
abbrev operand : Forest
operand = Node PATH_EXPR (Leaf IDENT 1 End) End

abbrev binary_expression : Forest → ℕ → Forest → Forest
binary_expression left operator right = Node BIN_EXPR (left then Leaf operator 1 right) End

-- Of equal power and grouped from the right; of smaller power on either side; an assignment on the left; without an operator;
-- misplaced further inside.
abbrev pub misplaced : List Forest
misplaced =
    binary_expression operand MINUS (binary_expression operand PLUS operand)
    ∷ binary_expression operand EQ2 (binary_expression operand EQ2 operand)
    ∷ binary_expression operand STAR (binary_expression operand PLUS operand)
    ∷ binary_expression (binary_expression operand PIPE2 operand) AMP2 operand
    ∷ binary_expression operand PLUS (binary_expression operand EQ operand)
    ∷ binary_expression (binary_expression operand EQ operand) PLUSEQ operand
    ∷ binary_expression operand PIPE_GT (binary_expression operand PIPE_GT operand)
    ∷ binary_expression (binary_expression operand PIPE_GT operand) PIPE2 operand
    ∷ binary_expression (binary_expression operand EQ operand) PIPE_GT operand
    ∷ binary_expression operand IDENT operand
    ∷ Node PATH_EXPR (binary_expression (binary_expression operand PLUS operand) STAR operand) End
    ∷ []

-- In each of these trees an operator is misplaced.
abbrev pub AreMisplaced : List Forest → Type 0
AreMisplaced [] = Unit {0}
AreMisplaced (f ∷ fs) = (are_operators_placed f ≡ false) × AreMisplaced fs

abbrev pub MisplacedOperatorsAreTold : Type 0
MisplacedOperatorsAreTold = AreMisplaced misplaced

-- Trees of expressions, and whether each operator is placed in them.
use Rattle.std.specs.Prelude.{◌≡◌, ℕ, Bool, true, false, List, [], ◌∷◌}
use Rattle.rowan_green.specs.Forest.{Forest, empty, node, leaf}
use Rattle.parser_input.specs.Kinds.{WHITESPACE, COMMENT, IDENT, L_PAREN, R_PAREN, PATH_EXPR, PAREN_EXPR, BIN_EXPR, PLUS, MINUS, STAR, EQ, PLUSEQ, EQ2, AMP2, PIPE2, PIPE_GT}
use Rattle.rust_document.specs.Shape.{kinds_in}
use Rattle.rust_document.specs.Operators.{are_operators_placed}

-- elements that others follow
abbrev Part : Type 0
Part = Forest → Forest

abbrev token : ℕ → Part
token kind r = leaf (record { kind = kind; text = [] }) r

-- `a`, `(e)`, and `e + f`, of some operator
abbrev a : Part
a r = node PATH_EXPR (token IDENT empty) r

abbrev bracketed : Part → Part
bracketed inner r = node PAREN_EXPR (token L_PAREN (inner (token R_PAREN empty))) r

abbrev binary : Part → ℕ → Part → Part
binary left operator right r = node BIN_EXPR (left (token WHITESPACE (token operator (token COMMENT (right empty))))) r

pub record Row : Type 0 where
  pub tree : Forest
  pub placed : Bool

abbrev right : Part → Row
right tree = record { tree = tree empty; placed = true }

abbrev wrong : Part → Row
wrong tree = record { tree = tree empty; placed = false }

-- By power, from the left where powers are equal, assignments from the right, and anything in brackets. Wrong: equal powers
-- grouped from the right; a smaller power on either side; an assignment on either side of an operator; none; one of these inside.
abbrev pub rows : List Row
rows =
    right (binary a PLUS (binary a STAR a))
    ∷ right (binary (binary a STAR a) PLUS a)
    ∷ right (binary (binary a PLUS a) MINUS a)
    ∷ right (binary a EQ (binary a PLUSEQ a))
    ∷ right (binary a STAR (bracketed (binary a PLUS a)))
    ∷ right (binary (bracketed (binary a EQ a)) EQ2 a)
    ∷ right (binary (binary (binary a PIPE2 a) PIPE_GT a) PIPE_GT a)
    ∷ right (binary a EQ (binary a PIPE_GT a))
    ∷ wrong (binary a MINUS (binary a PLUS a))
    ∷ wrong (binary a EQ2 (binary a EQ2 a))
    ∷ wrong (binary a STAR (binary a PLUS a))
    ∷ wrong (binary (binary a PIPE2 a) AMP2 a)
    ∷ wrong (binary a PLUS (binary a EQ a))
    ∷ wrong (binary (binary a EQ a) PLUSEQ a)
    ∷ wrong (binary a PIPE_GT (binary a PIPE_GT a))
    ∷ wrong (binary (binary a PIPE_GT a) PIPE2 a)
    ∷ wrong (binary a PIPE_GT (binary a EQ a))
    ∷ wrong (binary a IDENT a)
    ∷ wrong (bracketed (binary (binary a PLUS a) STAR a))
    ∷ []

-- The predicate has the value of each row for its tree.
abbrev pub AreTold : List Row → Type 0
AreTold [] = Unit {0}
AreTold (row ∷ more) = (are_operators_placed (kinds_in row.tree) ≡ row.placed) × AreTold more

abbrev pub PlacedOperatorsAreTold : Type 0
PlacedOperatorsAreTold = AreTold rows

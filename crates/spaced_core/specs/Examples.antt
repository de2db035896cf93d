-- Trees that are well-spaced, and trees that are not.
use Rattle.std.specs.Prelude.{ℕ, List, codes}
use Rattle.rowan_green.specs.Forest.{Forest, empty, node, leaf, Tree}
use Rattle.parser_input.specs.Kinds.{BIN_EXPR, BLOCK_EXPR, EXPR_STMT, FN, FN_KW, IDENT, INT_NUMBER, LITERAL, L_CURLY, L_PAREN, NAME, NAME_REF, PARAM_LIST, PAREN_EXPR, PATH, PATH_EXPR, PATH_SEGMENT, PIPE_GT, PLUS, R_CURLY, R_PAREN, SEMICOLON, SOURCE_FILE, STAR, STMT_LIST, WHITESPACE}
use Rattle.parser_input.specs.declared.edition.Edition.TheVariants.{Edition2015, Edition2024, EditionNext}
use Rattle.spaced_core.specs.WellSpaced.{IsWellSpaced}

-- a leaf of this kind with this text, which is ASCII, and what follows
abbrev word : ℕ → List ℕ → Forest → Forest
word kind text r = leaf (record { kind = kind; text = text }) r

-- a space, and what follows
abbrev gap : Forest → Forest
gap r = word WHITESPACE (codes " ") r

-- `fn f ( ) { .. ; }`, with such an expression and a space after it
abbrev file_with : (head : Forest → Forest) → Forest → Tree
file_with head expression =
    let statement = node EXPR_STMT expression (gap (word R_CURLY (codes "}") empty)) in
    let body = node BLOCK_EXPR (node STMT_LIST (word L_CURLY (codes "{") (gap statement)) empty) empty in
    record { kind = SOURCE_FILE; forest = node FN (word FN_KW (codes "fn") (gap (node NAME (word IDENT (codes "f") empty) (head (gap body))))) empty }

abbrev parameters : Forest → Forest
parameters r = node PARAM_LIST (word L_PAREN (codes "(") (gap (word R_PAREN (codes ")") empty))) r

abbrev semicolon : Forest
semicolon = gap (word SEMICOLON (codes ";") empty)

-- a name as an expression
abbrev name : List ℕ → Forest → Forest
name text r = node PATH_EXPR (node PATH (node PATH_SEGMENT (node NAME_REF (word IDENT text empty) empty) empty) empty) r

-- a number as an expression
abbrev number : List ℕ → Forest → Forest
number text r = node LITERAL (word INT_NUMBER text empty) r

-- `fn f ( ) { ( 1 + 2 ) * y ; }`
abbrev pub a_product : Tree
a_product =
    let sum = node BIN_EXPR (number (codes "1") (gap (word PLUS (codes "+") (gap (number (codes "2") empty))))) (gap (word R_PAREN (codes ")") empty)) in
    let factor = node PAREN_EXPR (word L_PAREN (codes "(") (gap sum)) in
    file_with (λ r. gap (parameters r)) (node BIN_EXPR (factor (gap (word STAR (codes "*") (gap (name (codes "y") empty))))) semicolon)

-- `fn f ( ) { a |> b ; }`
abbrev pub a_pipe : Tree
a_pipe = file_with (λ r. gap (parameters r)) (node BIN_EXPR (name (codes "a") (gap (word PIPE_GT (codes "|>") (gap (name (codes "b") empty))))) semicolon)

-- `fn f ( ) { union ; }`
abbrev pub a_contextual_keyword : Tree
a_contextual_keyword = file_with (λ r. gap (parameters r)) (name (codes "union") semicolon)

-- `fn f( ) { y ; }`, with nothing between the name and the bracket
abbrev pub a_touching_name : Tree
a_touching_name = file_with (λ r. parameters r) (name (codes "y") semicolon)

-- The first tree is well-spaced, and the second one where `|>` is an operator; the others are not.
abbrev pub ExamplesAreClassified : Type 0
ExamplesAreClassified =
    IsWellSpaced Edition2015 a_product
    × IsWellSpaced EditionNext a_pipe
    × (IsWellSpaced Edition2024 a_pipe → ⊥)
    × (IsWellSpaced Edition2024 a_contextual_keyword → ⊥)
    × (IsWellSpaced Edition2024 a_touching_name → ⊥)

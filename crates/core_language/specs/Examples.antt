-- A file and an expression of the core language, with their trees; and a tree that this expression does not have.
use Rattle.std.specs.Prelude.{if◌then◌else◌, ℕ, ◌==◌, false, List, [], ◌∷◌}
use Rattle.parser_input.specs.Kinds.{AMP, ARG_LIST, BIN_EXPR, BLOCK_EXPR, COLON, DOT, EOF, EXPR_STMT, FN, FN_KW, IDENT, IDENT_PAT, INT_NUMBER, LITERAL, L_CURLY, L_PAREN, METHOD_CALL_EXPR, NAME, NAME_REF, PARAM, PARAM_LIST, PATH, PATH_EXPR, PATH_SEGMENT, PATH_TYPE, PLUS, REF_TYPE, R_CURLY, R_PAREN, SEMICOLON, SOURCE_FILE, STAR, STMT_LIST}
use Rattle.parser_input.specs.Input.{Token}
use Rattle.parser_events.specs.Forest.{Forest, End, Leaf, Node, ◌then◌}
use Rattle.core_language.specs.Language.{IsCoreFile, IsCoreExpression}

-- a token that touches no other
abbrev pub apart : ℕ → Token
apart kind = record { kind = kind; contextual = if kind == IDENT then IDENT else EOF; joint = false; whole = false }

-- The writing of trees: `a · b` stands side by side, `N ⟪ a ⟫` is a node.
infixr 50 ◌·◌
infixl 80 ◌⟪◌⟫
abbrev ◌·◌ : Forest → Forest → Forest
a · b = a then b

-- a node
abbrev ◌⟪◌⟫ : ℕ → Forest → Forest
kind ⟪ a ⟫ = Node kind a End

-- a leaf over one token
abbrev leaf : ℕ → Forest
leaf kind = Leaf kind 1 End

-- a name as a path
abbrev a_path : Forest
a_path = PATH ⟪ PATH_SEGMENT ⟪ NAME_REF ⟪ leaf IDENT ⟫ ⟫ ⟫

-- a name as an expression
abbrev a_variable : Forest
a_variable = PATH_EXPR ⟪ a_path ⟫

-- `fn f(x: &T) { x.g(1); }`
abbrev pub a_file : List Token
a_file =
    apart FN_KW ∷ apart IDENT ∷ apart L_PAREN ∷ apart IDENT ∷ apart COLON ∷ apart AMP ∷ apart IDENT ∷ apart R_PAREN ∷
    apart L_CURLY ∷ apart IDENT ∷ apart DOT ∷ apart IDENT ∷ apart L_PAREN ∷ apart INT_NUMBER ∷ apart R_PAREN ∷ apart SEMICOLON ∷ apart R_CURLY ∷ []

-- its parameters
abbrev parameters : Forest
parameters =
    let type = REF_TYPE ⟪ leaf AMP · PATH_TYPE ⟪ a_path ⟫ ⟫ in
    PARAM_LIST ⟪ leaf L_PAREN · PARAM ⟪ IDENT_PAT ⟪ NAME ⟪ leaf IDENT ⟫ ⟫ · leaf COLON · type ⟫ · leaf R_PAREN ⟫

-- its one statement
abbrev statement : Forest
statement =
    let arguments = ARG_LIST ⟪ leaf L_PAREN · LITERAL ⟪ leaf INT_NUMBER ⟫ · leaf R_PAREN ⟫ in
    EXPR_STMT ⟪ METHOD_CALL_EXPR ⟪ a_variable · leaf DOT · NAME_REF ⟪ leaf IDENT ⟫ · arguments ⟫ · leaf SEMICOLON ⟫

-- its tree
abbrev pub a_file_tree : Forest
a_file_tree =
    let body = BLOCK_EXPR ⟪ STMT_LIST ⟪ leaf L_CURLY · statement · leaf R_CURLY ⟫ ⟫ in
    SOURCE_FILE ⟪ FN ⟪ leaf FN_KW · NAME ⟪ leaf IDENT ⟫ · parameters · body ⟫ ⟫

-- `a + b * c`
abbrev pub a_sum : List Token
a_sum = apart IDENT ∷ apart PLUS ∷ apart IDENT ∷ apart STAR ∷ apart IDENT ∷ []

-- its tree
abbrev pub a_sum_tree : Forest
a_sum_tree = BIN_EXPR ⟪ a_variable · leaf PLUS · BIN_EXPR ⟪ a_variable · leaf STAR · a_variable ⟫ ⟫

-- the tree of `(a + b) * c` without the brackets
abbrev pub another_tree : Forest
another_tree = BIN_EXPR ⟪ BIN_EXPR ⟪ a_variable · leaf PLUS · a_variable ⟫ · leaf STAR · a_variable ⟫

-- The file and the expression are core ones with their trees, and the expression is none with another.
abbrev pub ExamplesAreCore : Type 0
ExamplesAreCore = IsCoreFile a_file a_file_tree × IsCoreExpression a_sum a_sum_tree × (IsCoreExpression a_sum another_tree → ⊥)

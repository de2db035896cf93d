-- Inputs, and the trees that the whole grammar gives them.
use Rattle.std.specs.Prelude.{if◌then◌else◌, ℕ, ◌==◌, Bool, true, false, List, [], ◌∷◌, ◌≡◌}
use Rattle.parser_input.specs.Kinds.{EOF, ERROR, SEMICOLON, COMMA, DOT, L_PAREN, R_PAREN, L_CURLY, R_CURLY, L_BRACK, R_BRACK, AT, POUND, QUESTION, COLON, EQ, L_ANGLE, R_ANGLE, MINUS, AMP, PIPE, PLUS, STAR, DOT2, DOT2EQ, COLON2, EQ2, FAT_ARROW, INT_NUMBER, FLOAT_NUMBER, IDENT, UNDERSCORE, AS_KW, FN_KW, IF_KW, LET_KW, MATCH_KW, PUB_KW, STRUCT_KW, USE_KW, WHERE_KW, DYN_KW, SOURCE_FILE, MACRO_ITEMS, MACRO_STMTS, USE, USE_TREE, USE_TREE_LIST, RENAME, STRUCT, RECORD_FIELD_LIST, RECORD_FIELD, FN, PARAM_LIST, PARAM, VISIBILITY, ATTR, META, NAME, NAME_REF, PATH, PATH_SEGMENT, GENERIC_ARG_LIST, ASSOC_TYPE_ARG, CONST_ARG, TYPE_ARG, TYPE_BOUND_LIST, TYPE_BOUND, PATH_TYPE, REF_TYPE, DYN_TRAIT_TYPE, LITERAL_PAT, WILDCARD_PAT, IDENT_PAT, STMT_LIST, LET_STMT, EXPR_STMT, LITERAL, BLOCK_EXPR, RANGE_EXPR, BIN_EXPR, CALL_EXPR, ARG_LIST, METHOD_CALL_EXPR, FIELD_EXPR, RECORD_EXPR, RECORD_EXPR_FIELD_LIST, RECORD_EXPR_FIELD, PATH_EXPR, TUPLE_EXPR, PAREN_EXPR, CLOSURE_EXPR, LET_EXPR, IF_EXPR, MATCH_EXPR, MATCH_ARM_LIST, MATCH_ARM, MATCH_GUARD, SELF_KW, SUPER_KW, BANG, TUPLE_FIELD_LIST, TUPLE_FIELD, PAREN_TYPE, MACRO_CALL, TOKEN_TREE, PIPE_GT, DEFER_KW, DEFER_STMT}
use Rattle.parser_events.specs.Forest.{Expected, UnexpectedIn, ExpectedType, ExpectedExpression, ExpectedPattern, ExpectedItem, ExpectedStatement, ExpectedField, UnexpectedTokens, Message, Forest, End, Leaf, Said, ErrorLeaf, Node, Float, ◌then◌}
use Rattle.rust_grammar.specs.Rule.{source_file, macro_items, macro_statements, meta, any_type, pattern, expression, Production}
use Rattle.parser_input.specs.Input.{Token}
use Rattle.rust_grammar.specs.Entry.{entry}
use Rattle.rust_grammar.specs.Whole.{whole}

-- an input token that touches the next one, and one that does not; no word is a contextual keyword
abbrev pub touching : ℕ → Token
touching k = record { kind = k; contextual = if k == IDENT then IDENT else EOF; joint = true; whole = false }

abbrev pub apart : ℕ → Token
apart k = record { kind = k; contextual = if k == IDENT then IDENT else EOF; joint = false; whole = false }

-- a `|` that is the first token of the operator `|>`, and the `>` after it
abbrev pub pipe : List Token → List Token
pipe more = record { kind = PIPE; contextual = PIPE_GT; joint = true; whole = false } ∷ apart R_ANGLE ∷ more

-- The writing of trees: a leaf over one token, one over several, a message, an error with the token that it takes, a float
-- after a dot; `a · b` stands side by side, `N ⟪ a ⟫` is a node.
infixr 50 ◌·◌
infixl 80 ◌⟪◌⟫
abbrev ◌·◌ : Forest → Forest → Forest
a · b = a then b

abbrev ◌⟪◌⟫ : ℕ → Forest → Forest
k ⟪ a ⟫ = Node k a End

abbrev leaf : ℕ → Forest
leaf k = Leaf k 1 End

abbrev joined : ℕ → ℕ → Forest
joined k n = Leaf k n End

abbrev said : Message → Forest
said m = Said m End

abbrev skipped : Message → ℕ → Forest
skipped m k = ErrorLeaf m k End

abbrev float : Bool → Forest → Forest
float ends_in_dot a = Float ends_in_dot a End

-- trees that come often
abbrev a_name : Forest
a_name = NAME ⟪ leaf IDENT ⟫

abbrev a_path : Forest
a_path = PATH ⟪ PATH_SEGMENT ⟪ NAME_REF ⟪ leaf IDENT ⟫ ⟫ ⟫

abbrev a_path_expr : Forest
a_path_expr = PATH_EXPR ⟪ a_path ⟫

abbrev a_path_type : Forest
a_path_type = PATH_TYPE ⟪ a_path ⟫

abbrev a_name_pat : Forest
a_name_pat = IDENT_PAT ⟪ a_name ⟫

abbrev a_number : Forest
a_number = LITERAL ⟪ leaf INT_NUMBER ⟫

abbrev no_statements : Forest
no_statements = STMT_LIST ⟪ leaf L_CURLY · leaf R_CURLY ⟫

abbrev an_empty_block : Forest
an_empty_block = BLOCK_EXPR ⟪ no_statements ⟫

abbrev no_params : Forest
no_params = PARAM_LIST ⟪ leaf L_PAREN · leaf R_PAREN ⟫

abbrev an_empty_tuple : Forest
an_empty_tuple = TUPLE_EXPR ⟪ leaf L_PAREN · leaf R_PAREN ⟫

-- what is asked for, the tokens, and the tree
pub record Example : Type 0 where
  pub asked : Production
  pub tokens : List Token
  pub tree : Forest

abbrev pub examples : List Example
examples =
    -- expression `1 2`
    record {
      asked = expression;
      tokens = apart INT_NUMBER ∷ apart INT_NUMBER ∷ [];
      tree = ERROR ⟪ a_number · said UnexpectedTokens · leaf INT_NUMBER ⟫;
    }
    -- expression `.. + 1`
    ∷ record {
      asked = expression;
      tokens = touching DOT ∷ apart DOT ∷ apart PLUS ∷ apart INT_NUMBER ∷ [];
      tree = ERROR ⟪ RANGE_EXPR ⟪ joined DOT2 2 ⟫ · said UnexpectedTokens · leaf PLUS · leaf INT_NUMBER ⟫;
    }
    -- expression `x.1e0`
    ∷ record {
      asked = expression;
      tokens = touching IDENT ∷ touching DOT ∷ touching FLOAT_NUMBER ∷ [];
      tree = float false (a_path_expr · leaf DOT);
    }
    -- type `;`
    ∷ record {
      asked = any_type;
      tokens = apart SEMICOLON ∷ [];
      tree = ERROR ⟪ said ExpectedType · leaf SEMICOLON ⟫;
    }
    -- expression ``
    ∷ record {
      asked = expression;
      tokens = [];
      tree = ERROR ⟪ said ExpectedExpression ⟫;
    }
    -- pattern `= ..] where`
    ∷ record {
      asked = pattern;
      tokens = apart EQ ∷ touching DOT ∷ touching DOT ∷ apart R_BRACK ∷ apart WHERE_KW ∷ [];
      tree = ERROR ⟪ said ExpectedPattern · leaf EQ · leaf DOT · leaf DOT · leaf R_BRACK · leaf WHERE_KW ⟫;
    }
    -- attribute's inside `a b`
    ∷ record {
      asked = meta;
      tokens = apart IDENT ∷ apart IDENT ∷ [];
      tree = ERROR ⟪ META ⟪ a_path ⟫ · said UnexpectedTokens · leaf IDENT ⟫;
    }
    -- expression `2 + 2 == 5`
    ∷ record {
      asked = expression;
      tokens = apart INT_NUMBER ∷ apart PLUS ∷ apart INT_NUMBER ∷ touching EQ ∷ apart EQ ∷ apart INT_NUMBER ∷ [];
      tree = BIN_EXPR ⟪ BIN_EXPR ⟪ a_number · leaf PLUS · a_number ⟫ · joined EQ2 2 · a_number ⟫;
    }
    -- expression ` ;`
    ∷ record {
      asked = expression;
      tokens = apart SEMICOLON ∷ [];
      tree = ERROR ⟪ said ExpectedExpression · leaf SEMICOLON ⟫;
    }
    -- type `&a`
    ∷ record {
      asked = any_type;
      tokens = touching AMP ∷ apart IDENT ∷ [];
      tree = REF_TYPE ⟪ leaf AMP · a_path_type ⟫;
    }
    -- file `struct S;`
    ∷ record {
      asked = source_file;
      tokens = apart STRUCT_KW ∷ touching IDENT ∷ apart SEMICOLON ∷ [];
      tree = SOURCE_FILE ⟪ STRUCT ⟪ leaf STRUCT_KW · a_name · leaf SEMICOLON ⟫ ⟫;
    }
    -- expression `a = b = c`
    ∷ record {
      asked = expression;
      tokens = apart IDENT ∷ apart EQ ∷ apart IDENT ∷ apart EQ ∷ apart IDENT ∷ [];
      tree = BIN_EXPR ⟪ a_path_expr · leaf EQ · BIN_EXPR ⟪ a_path_expr · leaf EQ · a_path_expr ⟫ ⟫;
    }
    -- expression `a - b - c`
    ∷ record {
      asked = expression;
      tokens = apart IDENT ∷ apart MINUS ∷ apart IDENT ∷ apart MINUS ∷ apart IDENT ∷ [];
      tree = BIN_EXPR ⟪ BIN_EXPR ⟪ a_path_expr · leaf MINUS · a_path_expr ⟫ · leaf MINUS · a_path_expr ⟫;
    }
    -- file `struct S { a b: c }`
    ∷ record {
      asked = source_file;
      tokens = apart STRUCT_KW ∷ apart IDENT ∷ apart L_CURLY ∷ apart IDENT ∷ touching IDENT ∷ apart COLON ∷ apart IDENT ∷ apart R_CURLY ∷ [];
      tree = SOURCE_FILE ⟪ STRUCT ⟪ leaf STRUCT_KW · a_name · RECORD_FIELD_LIST ⟪ leaf L_CURLY · RECORD_FIELD ⟪ a_name · said (Expected COLON) · a_path_type ⟫ · said (Expected COMMA) · skipped (UnexpectedIn RECORD_FIELD_LIST) COLON · RECORD_FIELD ⟪ a_name · said (Expected COLON) · said ExpectedType ⟫ · leaf R_CURLY ⟫ ⟫ ⟫;
    }
    -- file `fn f( {}`
    ∷ record {
      asked = source_file;
      tokens = apart FN_KW ∷ touching IDENT ∷ apart L_PAREN ∷ touching L_CURLY ∷ apart R_CURLY ∷ [];
      tree = SOURCE_FILE ⟪ FN ⟪ leaf FN_KW · a_name · PARAM_LIST ⟪ leaf L_PAREN · said (Expected R_PAREN) ⟫ · an_empty_block ⟫ ⟫;
    }
    -- file `@error@`
    ∷ record {
      asked = source_file;
      tokens = touching AT ∷ touching IDENT ∷ apart AT ∷ [];
      tree = SOURCE_FILE ⟪ skipped ExpectedItem AT · ERROR ⟪ a_path · said ExpectedItem ⟫ · skipped ExpectedItem AT ⟫;
    }
    -- file `fn f() { let x = a * 2; }`
    ∷ record {
      asked = source_file;
      tokens = apart FN_KW ∷ touching IDENT ∷ touching L_PAREN ∷ apart R_PAREN ∷ apart L_CURLY ∷ apart LET_KW ∷ apart IDENT ∷ apart EQ ∷ apart IDENT ∷ apart STAR ∷ touching INT_NUMBER ∷ apart SEMICOLON ∷ apart R_CURLY ∷ [];
      tree = SOURCE_FILE ⟪ FN ⟪ leaf FN_KW · a_name · no_params · BLOCK_EXPR ⟪ STMT_LIST ⟪ leaf L_CURLY · LET_STMT ⟪ leaf LET_KW · a_name_pat · leaf EQ · BIN_EXPR ⟪ a_path_expr · leaf STAR · a_number ⟫ · leaf SEMICOLON ⟫ · leaf R_CURLY ⟫ ⟫ ⟫ ⟫;
    }
    -- file `fn f() { x.0.1; }`
    ∷ record {
      asked = source_file;
      tokens = apart FN_KW ∷ touching IDENT ∷ touching L_PAREN ∷ apart R_PAREN ∷ apart L_CURLY ∷ touching IDENT ∷ touching DOT ∷ touching FLOAT_NUMBER ∷ apart SEMICOLON ∷ apart R_CURLY ∷ [];
      tree = SOURCE_FILE ⟪ FN ⟪ leaf FN_KW · a_name · no_params · BLOCK_EXPR ⟪ STMT_LIST ⟪ leaf L_CURLY · EXPR_STMT ⟪ float false (a_path_expr · leaf DOT) · leaf SEMICOLON ⟫ · leaf R_CURLY ⟫ ⟫ ⟫ ⟫;
    }
    -- file `fn f() { g(()1, ()2); }`
    ∷ record {
      asked = source_file;
      tokens = apart FN_KW ∷ touching IDENT ∷ touching L_PAREN ∷ apart R_PAREN ∷ apart L_CURLY ∷ touching IDENT ∷ touching L_PAREN ∷ touching L_PAREN ∷ touching R_PAREN ∷ touching INT_NUMBER ∷ apart COMMA ∷ touching L_PAREN ∷ touching R_PAREN ∷ touching INT_NUMBER ∷ touching R_PAREN ∷ apart SEMICOLON ∷ apart R_CURLY ∷ [];
      tree = SOURCE_FILE ⟪ FN ⟪ leaf FN_KW · a_name · no_params · BLOCK_EXPR ⟪ STMT_LIST ⟪ leaf L_CURLY · EXPR_STMT ⟪ CALL_EXPR ⟪ a_path_expr · ARG_LIST ⟪ leaf L_PAREN · an_empty_tuple · said (Expected COMMA) · a_number · leaf COMMA · an_empty_tuple · said (Expected COMMA) · a_number · leaf R_PAREN ⟫ ⟫ · leaf SEMICOLON ⟫ · leaf R_CURLY ⟫ ⟫ ⟫ ⟫;
    }
    -- expression `match a { b => c, _ if x => {} 1 => 2 }`
    ∷ record {
      asked = expression;
      tokens = apart MATCH_KW ∷ apart IDENT ∷ apart L_CURLY ∷ apart IDENT ∷ touching EQ ∷ apart R_ANGLE ∷ touching IDENT ∷ apart COMMA ∷ apart UNDERSCORE ∷ apart IF_KW ∷ apart IDENT ∷ touching EQ ∷ apart R_ANGLE ∷ touching L_CURLY ∷ apart R_CURLY ∷ apart INT_NUMBER ∷ touching EQ ∷ apart R_ANGLE ∷ apart INT_NUMBER ∷ apart R_CURLY ∷ [];
      tree = MATCH_EXPR ⟪ leaf MATCH_KW · a_path_expr · MATCH_ARM_LIST ⟪ leaf L_CURLY · MATCH_ARM ⟪ a_name_pat · joined FAT_ARROW 2 · a_path_expr · leaf COMMA ⟫ · MATCH_ARM ⟪ WILDCARD_PAT ⟪ leaf UNDERSCORE ⟫ · MATCH_GUARD ⟪ leaf IF_KW · a_path_expr ⟫ · joined FAT_ARROW 2 · an_empty_block ⟫ · MATCH_ARM ⟪ LITERAL_PAT ⟪ a_number ⟫ · joined FAT_ARROW 2 · a_number ⟫ · leaf R_CURLY ⟫ ⟫;
    }
    -- file `use a::{b, c as d, e::*};`
    ∷ record {
      asked = source_file;
      tokens = apart USE_KW ∷ touching IDENT ∷ touching COLON ∷ touching COLON ∷ touching L_CURLY ∷ touching IDENT ∷ apart COMMA ∷ apart IDENT ∷ apart AS_KW ∷ touching IDENT ∷ apart COMMA ∷ touching IDENT ∷ touching COLON ∷ touching COLON ∷ touching STAR ∷ touching R_CURLY ∷ apart SEMICOLON ∷ [];
      tree = SOURCE_FILE ⟪ USE ⟪ leaf USE_KW · USE_TREE ⟪ a_path · joined COLON2 2 · USE_TREE_LIST ⟪ leaf L_CURLY · USE_TREE ⟪ a_path ⟫ · leaf COMMA · USE_TREE ⟪ a_path · RENAME ⟪ leaf AS_KW · a_name ⟫ ⟫ · leaf COMMA · USE_TREE ⟪ a_path · joined COLON2 2 · leaf STAR ⟫ · leaf R_CURLY ⟫ ⟫ · leaf SEMICOLON ⟫ ⟫;
    }
    -- type `dyn A<B, C = D, 1> + ?Sized`
    ∷ record {
      asked = any_type;
      tokens = apart DYN_KW ∷ touching IDENT ∷ touching L_ANGLE ∷ touching IDENT ∷ apart COMMA ∷ apart IDENT ∷ apart EQ ∷ touching IDENT ∷ apart COMMA ∷ touching INT_NUMBER ∷ apart R_ANGLE ∷ apart PLUS ∷ touching QUESTION ∷ apart IDENT ∷ [];
      tree = DYN_TRAIT_TYPE ⟪ leaf DYN_KW · TYPE_BOUND_LIST ⟪ TYPE_BOUND ⟪ PATH_TYPE ⟪ PATH ⟪ PATH_SEGMENT ⟪ NAME_REF ⟪ leaf IDENT ⟫ · GENERIC_ARG_LIST ⟪ leaf L_ANGLE · TYPE_ARG ⟪ a_path_type ⟫ · leaf COMMA · ASSOC_TYPE_ARG ⟪ NAME_REF ⟪ leaf IDENT ⟫ · leaf EQ · a_path_type ⟫ · leaf COMMA · CONST_ARG ⟪ a_number ⟫ · leaf R_ANGLE ⟫ ⟫ ⟫ ⟫ ⟫ · leaf PLUS · TYPE_BOUND ⟪ leaf QUESTION · a_path_type ⟫ ⟫ ⟫;
    }
    -- expression `|a, b: c| a..=b`
    ∷ record {
      asked = expression;
      tokens = touching PIPE ∷ touching IDENT ∷ apart COMMA ∷ touching IDENT ∷ apart COLON ∷ touching IDENT ∷ apart PIPE ∷ touching IDENT ∷ touching DOT ∷ touching DOT ∷ touching EQ ∷ apart IDENT ∷ [];
      tree = CLOSURE_EXPR ⟪ PARAM_LIST ⟪ leaf PIPE · PARAM ⟪ a_name_pat ⟫ · leaf COMMA · PARAM ⟪ a_name_pat · leaf COLON · a_path_type ⟫ · leaf PIPE ⟫ · RANGE_EXPR ⟪ a_path_expr · joined DOT2EQ 3 · a_path_expr ⟫ ⟫;
    }
    -- file `fn f( struct`
    ∷ record {
      asked = source_file;
      tokens = apart FN_KW ∷ touching IDENT ∷ apart L_PAREN ∷ apart STRUCT_KW ∷ [];
      tree = SOURCE_FILE ⟪ FN ⟪ leaf FN_KW · a_name · PARAM_LIST ⟪ leaf L_PAREN · skipped (UnexpectedIn PARAM_LIST) STRUCT_KW · said (Expected R_PAREN) ⟫ · said (Expected SEMICOLON) ⟫ ⟫;
    }
    -- expression `f(a => b`
    ∷ record {
      asked = expression;
      tokens = touching IDENT ∷ touching L_PAREN ∷ apart IDENT ∷ touching EQ ∷ apart R_ANGLE ∷ apart IDENT ∷ [];
      tree = CALL_EXPR ⟪ a_path_expr · ARG_LIST ⟪ leaf L_PAREN · a_path_expr · said (Expected COMMA) · skipped (UnexpectedIn ARG_LIST) EQ · skipped (UnexpectedIn ARG_LIST) R_ANGLE · a_path_expr · said (Expected COMMA) · said (Expected R_PAREN) ⟫ ⟫;
    }
    -- expression `S { a::b }`
    ∷ record {
      asked = expression;
      tokens = apart IDENT ∷ apart L_CURLY ∷ touching IDENT ∷ touching COLON ∷ touching COLON ∷ apart IDENT ∷ apart R_CURLY ∷ [];
      tree = RECORD_EXPR ⟪ a_path · RECORD_EXPR_FIELD_LIST ⟪ leaf L_CURLY · RECORD_EXPR_FIELD ⟪ NAME_REF ⟪ leaf IDENT ⟫ · leaf COLON · said ExpectedExpression ⟫ · said (Expected COMMA) · skipped (UnexpectedIn RECORD_EXPR_FIELD_LIST) COLON · RECORD_EXPR_FIELD ⟪ a_path_expr ⟫ · leaf R_CURLY ⟫ ⟫;
    }
    -- type `T::<=`
    ∷ record {
      asked = any_type;
      tokens = touching IDENT ∷ touching COLON ∷ touching COLON ∷ touching L_ANGLE ∷ apart EQ ∷ [];
      tree = PATH_TYPE ⟪ PATH ⟪ PATH_SEGMENT ⟪ NAME_REF ⟪ leaf IDENT ⟫ · GENERIC_ARG_LIST ⟪ joined COLON2 2 · leaf L_ANGLE · skipped (UnexpectedIn GENERIC_ARG_LIST) EQ · said (Expected R_ANGLE) ⟫ ⟫ ⟫ ⟫;
    }
    -- expression `x.f::g()`
    ∷ record {
      asked = expression;
      tokens = touching IDENT ∷ touching DOT ∷ touching IDENT ∷ touching COLON ∷ touching COLON ∷ touching IDENT ∷ touching L_PAREN ∷ apart R_PAREN ∷ [];
      tree = ERROR ⟪ METHOD_CALL_EXPR ⟪ a_path_expr · leaf DOT · NAME_REF ⟪ leaf IDENT ⟫ · said (Expected ARG_LIST) ⟫ · said UnexpectedTokens · leaf COLON · leaf COLON · leaf IDENT · leaf L_PAREN · leaf R_PAREN ⟫;
    }
    -- expression `a = = b`
    ∷ record {
      asked = expression;
      tokens = apart IDENT ∷ apart EQ ∷ apart EQ ∷ apart IDENT ∷ [];
      tree = ERROR ⟪ BIN_EXPR ⟪ a_path_expr · leaf EQ · said ExpectedExpression ⟫ · said UnexpectedTokens · leaf EQ · leaf IDENT ⟫;
    }
    -- expression `a + = b`
    ∷ record {
      asked = expression;
      tokens = apart IDENT ∷ apart PLUS ∷ apart EQ ∷ apart IDENT ∷ [];
      tree = BIN_EXPR ⟪ BIN_EXPR ⟪ a_path_expr · leaf PLUS · said ExpectedExpression ⟫ · leaf EQ · a_path_expr ⟫;
    }
    -- expression `a -> b`
    ∷ record {
      asked = expression;
      tokens = apart IDENT ∷ touching MINUS ∷ apart R_ANGLE ∷ apart IDENT ∷ [];
      tree = BIN_EXPR ⟪ BIN_EXPR ⟪ a_path_expr · leaf MINUS · said ExpectedExpression ⟫ · leaf R_ANGLE · a_path_expr ⟫;
    }
    -- expression `if S {} {}`
    ∷ record {
      asked = expression;
      tokens = apart IF_KW ∷ apart IDENT ∷ touching L_CURLY ∷ apart R_CURLY ∷ touching L_CURLY ∷ apart R_CURLY ∷ [];
      tree = ERROR ⟪ IF_EXPR ⟪ leaf IF_KW · a_path_expr · an_empty_block ⟫ · said UnexpectedTokens · leaf L_CURLY · leaf R_CURLY ⟫;
    }
    -- expression `if {}`
    ∷ record {
      asked = expression;
      tokens = apart IF_KW ∷ touching L_CURLY ∷ apart R_CURLY ∷ [];
      tree = IF_EXPR ⟪ leaf IF_KW · an_empty_block · said (Expected BLOCK_EXPR) ⟫;
    }
    -- expression `if (let`
    ∷ record {
      asked = expression;
      tokens = apart IF_KW ∷ touching L_PAREN ∷ apart LET_KW ∷ [];
      tree = ERROR ⟪ IF_EXPR ⟪ leaf IF_KW · PAREN_EXPR ⟪ leaf L_PAREN · said ExpectedExpression · said (Expected R_PAREN) ⟫ · said (Expected BLOCK_EXPR) ⟫ · said UnexpectedTokens · leaf LET_KW ⟫;
    }
    -- expression `if a + let b = c {}`
    ∷ record {
      asked = expression;
      tokens = apart IF_KW ∷ apart IDENT ∷ apart PLUS ∷ apart LET_KW ∷ apart IDENT ∷ apart EQ ∷ apart IDENT ∷ touching L_CURLY ∷ apart R_CURLY ∷ [];
      tree = IF_EXPR ⟪ leaf IF_KW · BIN_EXPR ⟪ a_path_expr · leaf PLUS · LET_EXPR ⟪ leaf LET_KW · a_name_pat · leaf EQ · a_path_expr ⟫ ⟫ · an_empty_block ⟫;
    }
    -- statements `#[a] let x;`
    ∷ record {
      asked = macro_statements;
      tokens = touching POUND ∷ touching L_BRACK ∷ touching IDENT ∷ apart R_BRACK ∷ apart LET_KW ∷ touching IDENT ∷ apart SEMICOLON ∷ [];
      tree = MACRO_STMTS ⟪ ERROR ⟪ ATTR ⟪ leaf POUND · leaf L_BRACK · META ⟪ a_path ⟫ · leaf R_BRACK ⟫ · said ExpectedItem ⟫ · LET_STMT ⟪ leaf LET_KW · a_name_pat · leaf SEMICOLON ⟫ ⟫;
    }
    -- statements `{}.a + 1;`
    ∷ record {
      asked = macro_statements;
      tokens = touching L_CURLY ∷ touching R_CURLY ∷ touching DOT ∷ apart IDENT ∷ apart PLUS ∷ touching INT_NUMBER ∷ apart SEMICOLON ∷ [];
      tree = MACRO_STMTS ⟪ EXPR_STMT ⟪ FIELD_EXPR ⟪ an_empty_block · leaf DOT · NAME_REF ⟪ leaf IDENT ⟫ ⟫ · said (Expected SEMICOLON) ⟫ · skipped ExpectedStatement PLUS · EXPR_STMT ⟪ a_number · leaf SEMICOLON ⟫ ⟫;
    }
    -- items `pub ;`
    ∷ record {
      asked = macro_items;
      tokens = apart PUB_KW ∷ apart SEMICOLON ∷ [];
      tree = MACRO_ITEMS ⟪ ERROR ⟪ VISIBILITY ⟪ leaf PUB_KW ⟫ · said ExpectedItem ⟫ · skipped ExpectedItem SEMICOLON ⟫;
    }
    -- type `::<T>`
    ∷ record {
      asked = any_type;
      tokens = touching COLON ∷ touching COLON ∷ touching L_ANGLE ∷ touching IDENT ∷ apart R_ANGLE ∷ [];
      tree = PATH_TYPE ⟪ PATH ⟪ PATH_SEGMENT ⟪ joined COLON2 2 · said (Expected NAME_REF) · GENERIC_ARG_LIST ⟪ leaf L_ANGLE · TYPE_ARG ⟪ a_path_type ⟫ · leaf R_ANGLE ⟫ ⟫ ⟫ ⟫;
    }
    -- expression `..= a.0.`
    ∷ record {
      asked = expression;
      tokens = touching DOT ∷ touching DOT ∷ apart EQ ∷ touching IDENT ∷ touching DOT ∷ apart FLOAT_NUMBER ∷ [];
      tree = RANGE_EXPR ⟪ joined DOT2EQ 3 · FIELD_EXPR ⟪ float true (a_path_expr · leaf DOT) · said ExpectedField ⟫ ⟫;
    }
    -- type `dyn T`, where `dyn` is no keyword
    ∷ record {
      asked = any_type;
      tokens = record { kind = IDENT; contextual = DYN_KW; joint = false; whole = false } ∷ apart IDENT ∷ [];
      tree = DYN_TRAIT_TYPE ⟪ leaf DYN_KW · TYPE_BOUND_LIST ⟪ TYPE_BOUND ⟪ a_path_type ⟫ ⟫ ⟫;
    }
    -- type `dyn self`, where `dyn` is no keyword
    ∷ record {
      asked = any_type;
      tokens = record { kind = IDENT; contextual = DYN_KW; joint = false; whole = false } ∷ apart SELF_KW ∷ [];
      tree = DYN_TRAIT_TYPE ⟪ leaf DYN_KW · TYPE_BOUND_LIST ⟪ TYPE_BOUND ⟪ PATH_TYPE ⟪ PATH ⟪ PATH_SEGMENT ⟪ NAME_REF ⟪ leaf SELF_KW ⟫ ⟫ ⟫ ⟫ ⟫ ⟫ ⟫;
    }
    -- file `struct S(pub (super::T));`
    ∷ record {
      asked = source_file;
      tokens = apart STRUCT_KW ∷ touching IDENT ∷ touching L_PAREN ∷ apart PUB_KW ∷ touching L_PAREN ∷ touching SUPER_KW ∷ touching COLON ∷ touching COLON ∷ touching IDENT ∷ touching R_PAREN ∷ touching R_PAREN ∷ apart SEMICOLON ∷ [];
      tree = SOURCE_FILE ⟪ STRUCT ⟪ leaf STRUCT_KW · a_name · TUPLE_FIELD_LIST ⟪ leaf L_PAREN · TUPLE_FIELD ⟪ VISIBILITY ⟪ leaf PUB_KW ⟫ · PAREN_TYPE ⟪ leaf L_PAREN · PATH_TYPE ⟪ PATH ⟪ PATH ⟪ PATH_SEGMENT ⟪ NAME_REF ⟪ leaf SUPER_KW ⟫ ⟫ ⟫ · joined COLON2 2 · PATH_SEGMENT ⟪ NAME_REF ⟪ leaf IDENT ⟫ ⟫ ⟫ ⟫ · leaf R_PAREN ⟫ ⟫ · leaf R_PAREN ⟫ · leaf SEMICOLON ⟫ ⟫;
    }
    -- items `#[a] pub C {}`
    ∷ record {
      asked = macro_items;
      tokens = touching POUND ∷ touching L_BRACK ∷ touching IDENT ∷ apart R_BRACK ∷ apart PUB_KW ∷ apart IDENT ∷ touching L_CURLY ∷ apart R_CURLY ∷ [];
      tree = MACRO_ITEMS ⟪ ERROR ⟪ ATTR ⟪ leaf POUND · leaf L_BRACK · META ⟪ a_path ⟫ · leaf R_BRACK ⟫ · VISIBILITY ⟪ leaf PUB_KW ⟫ · a_path · said ExpectedItem ⟫ · skipped ExpectedItem L_CURLY · skipped ExpectedItem R_CURLY ⟫;
    }
    -- items `a != b`
    ∷ record {
      asked = macro_items;
      tokens = apart IDENT ∷ touching BANG ∷ apart EQ ∷ apart IDENT ∷ [];
      tree = MACRO_ITEMS ⟪ MACRO_CALL ⟪ a_path · leaf BANG · said (Expected TOKEN_TREE) · said (Expected SEMICOLON) ⟫ · skipped ExpectedItem EQ · ERROR ⟪ a_path · said ExpectedItem ⟫ ⟫;
    }
    -- items `m!{} a`
    ∷ record {
      asked = macro_items;
      tokens = touching IDENT ∷ touching BANG ∷ touching L_CURLY ∷ apart R_CURLY ∷ apart IDENT ∷ [];
      tree = MACRO_ITEMS ⟪ MACRO_CALL ⟪ a_path · leaf BANG · TOKEN_TREE ⟪ leaf L_CURLY · leaf R_CURLY ⟫ ⟫ · ERROR ⟪ a_path · said ExpectedItem ⟫ ⟫;
    }
    -- expression `if let a b {}`
    ∷ record {
      asked = expression;
      tokens = apart IF_KW ∷ apart LET_KW ∷ apart IDENT ∷ apart IDENT ∷ touching L_CURLY ∷ apart R_CURLY ∷ [];
      tree = IF_EXPR ⟪ leaf IF_KW · LET_EXPR ⟪ leaf LET_KW · a_name_pat · said (Expected EQ) · a_path_expr ⟫ · an_empty_block ⟫;
    }
    -- file `fn f() { a |> b; }`, of edition `next`
    ∷ record {
      asked = source_file;
      tokens = apart FN_KW ∷ touching IDENT ∷ touching L_PAREN ∷ apart R_PAREN ∷ apart L_CURLY ∷ apart IDENT ∷ pipe (touching IDENT ∷ apart SEMICOLON ∷ apart R_CURLY ∷ []);
      tree = SOURCE_FILE ⟪ FN ⟪ leaf FN_KW · a_name · no_params · BLOCK_EXPR ⟪ STMT_LIST ⟪ leaf L_CURLY · EXPR_STMT ⟪ BIN_EXPR ⟪ a_path_expr · joined PIPE_GT 2 · a_path_expr ⟫ · leaf SEMICOLON ⟫ · leaf R_CURLY ⟫ ⟫ ⟫ ⟫;
    }
    -- that file, of an edition before `next`
    ∷ record {
      asked = source_file;
      tokens = apart FN_KW ∷ touching IDENT ∷ touching L_PAREN ∷ apart R_PAREN ∷ apart L_CURLY ∷ apart IDENT ∷ touching PIPE ∷ apart R_ANGLE ∷ touching IDENT ∷ apart SEMICOLON ∷ apart R_CURLY ∷ [];
      tree = SOURCE_FILE ⟪ FN ⟪ leaf FN_KW · a_name · no_params · BLOCK_EXPR ⟪ STMT_LIST ⟪ leaf L_CURLY · EXPR_STMT ⟪ BIN_EXPR ⟪ BIN_EXPR ⟪ a_path_expr · leaf PIPE · said ExpectedExpression ⟫ · leaf R_ANGLE · a_path_expr ⟫ · leaf SEMICOLON ⟫ · leaf R_CURLY ⟫ ⟫ ⟫ ⟫;
    }
    -- file `fn f() { defer {} }`, of edition `next`
    ∷ record {
      asked = source_file;
      tokens = apart FN_KW ∷ touching IDENT ∷ touching L_PAREN ∷ apart R_PAREN ∷ apart L_CURLY ∷ apart DEFER_KW ∷ touching L_CURLY ∷ apart R_CURLY ∷ apart R_CURLY ∷ [];
      tree = SOURCE_FILE ⟪ FN ⟪ leaf FN_KW · a_name · no_params · BLOCK_EXPR ⟪ STMT_LIST ⟪ leaf L_CURLY · DEFER_STMT ⟪ leaf DEFER_KW · an_empty_block ⟫ · leaf R_CURLY ⟫ ⟫ ⟫ ⟫;
    }
    -- expression `a |> b |> c`
    ∷ record {
      asked = expression;
      tokens = apart IDENT ∷ pipe (apart IDENT ∷ pipe (apart IDENT ∷ []));
      tree = BIN_EXPR ⟪ BIN_EXPR ⟪ a_path_expr · joined PIPE_GT 2 · a_path_expr ⟫ · joined PIPE_GT 2 · a_path_expr ⟫;
    }
    -- expression `a..b |> c`
    ∷ record {
      asked = expression;
      tokens = touching IDENT ∷ touching DOT ∷ touching DOT ∷ apart IDENT ∷ pipe (apart IDENT ∷ []);
      tree = BIN_EXPR ⟪ RANGE_EXPR ⟪ a_path_expr · joined DOT2 2 · a_path_expr ⟫ · joined PIPE_GT 2 · a_path_expr ⟫;
    }
    -- expression `a = b |> c`
    ∷ record {
      asked = expression;
      tokens = apart IDENT ∷ apart EQ ∷ apart IDENT ∷ pipe (apart IDENT ∷ []);
      tree = BIN_EXPR ⟪ a_path_expr · leaf EQ · BIN_EXPR ⟪ a_path_expr · joined PIPE_GT 2 · a_path_expr ⟫ ⟫;
    }
    -- expression `a |> b..c`
    ∷ record {
      asked = expression;
      tokens = apart IDENT ∷ pipe (touching IDENT ∷ touching DOT ∷ touching DOT ∷ apart IDENT ∷ []);
      tree = ERROR ⟪ BIN_EXPR ⟪ a_path_expr · joined PIPE_GT 2 · a_path_expr ⟫ · said UnexpectedTokens · leaf DOT · leaf DOT · leaf IDENT ⟫;
    }
    -- expression `a |>= b`
    ∷ record {
      asked = expression;
      tokens = apart IDENT ∷ record { kind = PIPE; contextual = PIPE_GT; joint = true; whole = false } ∷ touching R_ANGLE ∷ apart EQ ∷ apart IDENT ∷ [];
      tree = BIN_EXPR ⟪ BIN_EXPR ⟪ a_path_expr · joined PIPE_GT 2 · said ExpectedExpression ⟫ · leaf EQ · a_path_expr ⟫;
    }
    ∷ []

-- Each example gives its tree.
abbrev pub AreRight : List Example → Type 0
AreRight [] = Unit {0}
AreRight (e ∷ es) = (entry whole e.asked e.tokens ≡ e.tree) × AreRight es

abbrev pub ExamplesAreRight : Type 0
ExamplesAreRight = AreRight examples

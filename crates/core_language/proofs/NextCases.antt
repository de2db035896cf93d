-- Files of a reference implementation of edition `next`, with its inputs and trees: core files, and others of which the tree is
-- no core tree.
-- tools/cases.py writes this file; a lemma's number is the line of its case.
use Rattle.std.proofs.Common.{◌≡◌, ℕ, Bool, true, false, List, [], ◌∷◌, refl, arith}
use Rattle.parser_input.specs.Kinds.{AMP, AMP2, ARG_LIST, BANG, BIN_EXPR, BLOCK_EXPR, BYTE_STRING, CALL_EXPR, CARET, CHAR, COLON, COLON2, COMMA, DEFER_KW, DEFER_STMT, DOT, EOF, EQ, EXPR_STMT, FIELD_EXPR, FLOAT_NUMBER, FN, FN_KW, IDENT, IDENT_PAT, INT_NUMBER, ITEM_LIST, LET_KW, LET_STMT, LITERAL, L_BRACK, L_CURLY, L_PAREN, METHOD_CALL_EXPR, MINUS, MODULE, MOD_KW, MUT_KW, NAME, NAME_REF, PARAM, PARAM_LIST, PAREN_EXPR, PATH, PATH_EXPR, PATH_SEGMENT, PATH_TYPE, PERCENT, PERCENTEQ, PIPE, PIPE_GT, PREFIX_EXPR, PUB_KW, RECORD_FIELD, RECORD_FIELD_LIST, REF_EXPR, REF_TYPE, RET_TYPE, R_ANGLE, R_BRACK, R_CURLY, R_PAREN, SEMICOLON, SLASH, SLICE_TYPE, SOURCE_FILE, STAR, STMT_LIST, STRING, STRUCT, STRUCT_KW, THIN_ARROW, TRUE_KW, VISIBILITY}
use Rattle.parser_input.specs.Input.{Token}
use Rattle.parser_events.specs.Forest.{Forest, End, Leaf, Node}
use Rattle.rust_grammar.specs.Rule.{begins, passes, is_silent, shift, in_mode, from_start, there_at}
use Rattle.rust_grammar.specs.Notation.{row, any_of, one_of, is_longer, no_longer, longest}
use Rattle.rust_grammar.specs.Meaning.{meaning, by_length, by_rank, follow, look_of, begins_below, read, turns, leaf, say, skip, split, fresh, node, wrapped, after, sees, ahead, is_end}
use Rattle.rust_grammar.specs.Paths.{paths}
use Rattle.rust_grammar.specs.Types.{types}
use Rattle.rust_grammar.specs.Patterns.{patterns}
use Rattle.rust_grammar.specs.Expressions.{expressions}
use Rattle.rust_grammar.specs.Statements.{statements}
use Rattle.rust_grammar.specs.Items.{items}
use Rattle.rust_grammar.specs.Entry.{leaves, is_used_up, takes_all, entry}
use Rattle.rust_grammar.specs.Whole.{rule, rank, whole}
use Rattle.core_language.specs.Types.{Immutable, Mutable, Name, Below, PathType, ReferenceType, SliceType}
use Rattle.core_language.specs.Operators.{Integer, FloatNumber, Text, ByteText, TrueWord, Negate, Invert, Dereference, Pipe, LogicalAnd, BitXor, Divide, AssignRemainder}
use Rattle.core_language.specs.Expressions.{Literal, Named, Parenthesized, FunctionCall, MethodCall, FieldAccess, Prefixed, Binary, Assignment, NoArgument, LastArgument, ArgumentComma}
use Rattle.core_language.specs.Statements.{NamePattern, NoAnnotation, AnnotatedBy, NoInitializer, InitializedBy, Let, Run, Defer, NoStatement, LastExpression, StatementThen, Braces}
use Rattle.core_language.specs.Items.{Private, Public, NoElement, LastElement, ElementComma, NamedField, TypedPattern, NoReturnType, Returns, RecordStruct, OuterModule, Function, NoItem, ItemThen}
use Rattle.core_language.specs.Language.{IsCoreFile}
use Rattle.core_language.specs.Spaced.{spaced, spaced_before}
use Rattle.core_language.proofs.Otherwise.{read-otherwise}

-- a token, in the reader's words
abbrev token : (kind contextual : ℕ) → Bool → Token
token kind contextual joint = record { kind = kind; contextual = contextual; joint = joint; whole = false }

abbrev tokens6 : List Token
tokens6 = token PUB_KW EOF false ∷ token MOD_KW EOF false ∷ token IDENT IDENT false ∷ token SEMICOLON EOF false ∷ token PUB_KW EOF false ∷ token FN_KW EOF false ∷ token IDENT IDENT false ∷ token L_PAREN EOF false ∷ token IDENT IDENT false ∷ token COLON EOF false ∷ token AMP EOF false ∷ token MUT_KW EOF false ∷ token IDENT IDENT false ∷ token COMMA EOF false ∷ token MUT_KW EOF false ∷ token IDENT IDENT false ∷ token COLON EOF false ∷ token L_BRACK EOF false ∷ token IDENT IDENT false ∷ token R_BRACK EOF false ∷ token R_PAREN EOF false ∷ token L_CURLY EOF false ∷ token INT_NUMBER EOF false ∷ token SLASH EOF false ∷ token TRUE_KW EOF false ∷ token PERCENT EOF true ∷ token EQ EOF false ∷ token STRING EOF false ∷ token PIPE PIPE_GT true ∷ token R_ANGLE EOF false ∷ token BYTE_STRING EOF false ∷ token SEMICOLON EOF false ∷ token R_CURLY EOF false ∷ []

abbrev tree6 : Forest
tree6 = (Node SOURCE_FILE (Node MODULE (Node VISIBILITY (Leaf PUB_KW 1 End) (Leaf MOD_KW 1 (Node NAME (Leaf IDENT 1 End) (Leaf SEMICOLON 1 End)))) (Node FN (Node VISIBILITY (Leaf PUB_KW 1 End) (Leaf FN_KW 1 (Node NAME (Leaf IDENT 1 End) (Node PARAM_LIST (Leaf L_PAREN 1 (Node PARAM (Node IDENT_PAT (Node NAME (Leaf IDENT 1 End) End) (Leaf COLON 1 (Node REF_TYPE (Leaf AMP 1 (Leaf MUT_KW 1 (Node PATH_TYPE (Node PATH (Node PATH_SEGMENT (Node NAME_REF (Leaf IDENT 1 End) End) End) End) End))) End))) (Leaf COMMA 1 (Node PARAM (Node IDENT_PAT (Leaf MUT_KW 1 (Node NAME (Leaf IDENT 1 End) End)) (Leaf COLON 1 (Node SLICE_TYPE (Leaf L_BRACK 1 (Node PATH_TYPE (Node PATH (Node PATH_SEGMENT (Node NAME_REF (Leaf IDENT 1 End) End) End) End) (Leaf R_BRACK 1 End))) End))) (Leaf R_PAREN 1 End))))) (Node BLOCK_EXPR (Node STMT_LIST (Leaf L_CURLY 1 (Node EXPR_STMT (Node BIN_EXPR (Node BIN_EXPR (Node LITERAL (Leaf INT_NUMBER 1 End) (Leaf SLASH 1 (Node LITERAL (Leaf TRUE_KW 1 End) End))) (Leaf PERCENTEQ 2 (Node BIN_EXPR (Node LITERAL (Leaf STRING 1 End) (Leaf PIPE_GT 2 (Node LITERAL (Leaf BYTE_STRING 1 End) End))) End))) (Leaf SEMICOLON 1 End)) (Leaf R_CURLY 1 End))) End) End))))) End)) End)

core6 : IsCoreFile tokens6 tree6
core6 = record { items = (ItemThen (OuterModule (Public false) false false false) (ItemThen (Function (Public false) false false false (ElementComma (TypedPattern (NamePattern Immutable false) false (ReferenceType false (Mutable false) (PathType (Name false)))) false (LastElement (TypedPattern (NamePattern (Mutable false) false) false (SliceType false (PathType (Name false)) false)))) false NoReturnType (Braces false (StatementThen (Run (Assignment (Binary (Literal Integer false) Divide false (Literal TrueWord false)) AssignRemainder false (Binary (Literal Text false) Pipe false (Literal ByteText false))) false) NoStatement) false)) NoItem)); well_formed = (tt, ((((tt, tt, omega arith, omega arith, refl), (tt, tt, omega arith, omega arith, refl), omega arith), tt), tt)); has_tokens = refl; has_tree = refl }

spaced6 : spaced tree6 ([]) ≡ tokens6
unfolding spaced_before
spaced6 = refl

abbrev tokens27 : List Token
tokens27 = token FN_KW EOF false ∷ token IDENT IDENT false ∷ token L_PAREN EOF false ∷ token R_PAREN EOF false ∷ token MINUS EOF true ∷ token R_ANGLE EOF false ∷ token IDENT IDENT false ∷ token L_CURLY EOF false ∷ token MINUS EOF false ∷ token STRING EOF false ∷ token SEMICOLON EOF false ∷ token IDENT IDENT false ∷ token R_CURLY EOF false ∷ token FN_KW EOF false ∷ token IDENT IDENT false ∷ token L_PAREN EOF false ∷ token MUT_KW EOF false ∷ token IDENT IDENT false ∷ token COLON EOF false ∷ token L_BRACK EOF false ∷ token AMP EOF false ∷ token MUT_KW EOF false ∷ token IDENT IDENT false ∷ token R_BRACK EOF false ∷ token COMMA EOF false ∷ token R_PAREN EOF false ∷ token MINUS EOF true ∷ token R_ANGLE EOF false ∷ token AMP EOF false ∷ token L_BRACK EOF false ∷ token IDENT IDENT false ∷ token R_BRACK EOF false ∷ token L_CURLY EOF false ∷ token IDENT IDENT false ∷ token PIPE PIPE_GT true ∷ token R_ANGLE EOF false ∷ token L_PAREN EOF false ∷ token IDENT IDENT false ∷ token R_PAREN EOF false ∷ token SEMICOLON EOF false ∷ token L_PAREN EOF false ∷ token FLOAT_NUMBER EOF true ∷ token DOT EOF false ∷ token IDENT IDENT false ∷ token L_PAREN EOF false ∷ token R_PAREN EOF false ∷ token R_PAREN EOF false ∷ token R_CURLY EOF false ∷ []

abbrev tree27 : Forest
tree27 = (Node SOURCE_FILE (Node FN (Leaf FN_KW 1 (Node NAME (Leaf IDENT 1 End) (Node PARAM_LIST (Leaf L_PAREN 1 (Leaf R_PAREN 1 End)) (Node RET_TYPE (Leaf THIN_ARROW 2 (Node PATH_TYPE (Node PATH (Node PATH_SEGMENT (Node NAME_REF (Leaf IDENT 1 End) End) End) End) End)) (Node BLOCK_EXPR (Node STMT_LIST (Leaf L_CURLY 1 (Node EXPR_STMT (Node PREFIX_EXPR (Leaf MINUS 1 (Node LITERAL (Leaf STRING 1 End) End)) (Leaf SEMICOLON 1 End)) (Node PATH_EXPR (Node PATH (Node PATH_SEGMENT (Node NAME_REF (Leaf IDENT 1 End) End) End) End) (Leaf R_CURLY 1 End)))) End) End))))) (Node FN (Leaf FN_KW 1 (Node NAME (Leaf IDENT 1 End) (Node PARAM_LIST (Leaf L_PAREN 1 (Node PARAM (Node IDENT_PAT (Leaf MUT_KW 1 (Node NAME (Leaf IDENT 1 End) End)) (Leaf COLON 1 (Node SLICE_TYPE (Leaf L_BRACK 1 (Node REF_TYPE (Leaf AMP 1 (Leaf MUT_KW 1 (Node PATH_TYPE (Node PATH (Node PATH_SEGMENT (Node NAME_REF (Leaf IDENT 1 End) End) End) End) End))) (Leaf R_BRACK 1 End))) End))) (Leaf COMMA 1 (Leaf R_PAREN 1 End)))) (Node RET_TYPE (Leaf THIN_ARROW 2 (Node REF_TYPE (Leaf AMP 1 (Node SLICE_TYPE (Leaf L_BRACK 1 (Node PATH_TYPE (Node PATH (Node PATH_SEGMENT (Node NAME_REF (Leaf IDENT 1 End) End) End) End) (Leaf R_BRACK 1 End))) End)) End)) (Node BLOCK_EXPR (Node STMT_LIST (Leaf L_CURLY 1 (Node EXPR_STMT (Node BIN_EXPR (Node PATH_EXPR (Node PATH (Node PATH_SEGMENT (Node NAME_REF (Leaf IDENT 1 End) End) End) End) (Leaf PIPE_GT 2 (Node PAREN_EXPR (Leaf L_PAREN 1 (Node PATH_EXPR (Node PATH (Node PATH_SEGMENT (Node NAME_REF (Leaf IDENT 1 End) End) End) End) (Leaf R_PAREN 1 End))) End))) (Leaf SEMICOLON 1 End)) (Node PAREN_EXPR (Leaf L_PAREN 1 (Node METHOD_CALL_EXPR (Node LITERAL (Leaf FLOAT_NUMBER 1 End) (Leaf DOT 1 (Node NAME_REF (Leaf IDENT 1 End) (Node ARG_LIST (Leaf L_PAREN 1 (Leaf R_PAREN 1 End)) End)))) (Leaf R_PAREN 1 End))) (Leaf R_CURLY 1 End)))) End) End))))) End)) End)

core27 : IsCoreFile tokens27 tree27
core27 = record { items = (ItemThen (Function Private false false false NoElement false (Returns false (PathType (Name false))) (Braces false (StatementThen (Run (Prefixed Negate false (Literal Text false)) false) (LastExpression (Named (Name false)))) false)) (ItemThen (Function Private false false false (ElementComma (TypedPattern (NamePattern (Mutable false) false) false (SliceType false (ReferenceType false (Mutable false) (PathType (Name false))) false)) false NoElement) false (Returns false (ReferenceType false Immutable (SliceType false (PathType (Name false)) false))) (Braces false (StatementThen (Run (Binary (Named (Name false)) Pipe false (Parenthesized false (Named (Name false)) false)) false) (LastExpression (Parenthesized false (MethodCall (Literal FloatNumber true) false false false NoArgument false) false))) false)) NoItem)); well_formed = (((tt, omega arith), tt), (((tt, tt, omega arith, omega arith, refl), (tt, omega arith, tt)), tt)); has_tokens = refl; has_tree = refl }

spaced27 : spaced tree27 (true ∷ []) ≡ tokens27
unfolding spaced_before
spaced27 = refl

abbrev tokens35 : List Token
tokens35 = token FN_KW EOF false ∷ token IDENT IDENT false ∷ token L_PAREN EOF false ∷ token R_PAREN EOF false ∷ token L_CURLY EOF false ∷ token IDENT IDENT false ∷ token AMP EOF true ∷ token AMP EOF false ∷ token L_PAREN EOF false ∷ token CHAR EOF false ∷ token PIPE PIPE_GT true ∷ token R_ANGLE EOF false ∷ token IDENT IDENT false ∷ token COLON EOF true ∷ token COLON EOF false ∷ token IDENT IDENT false ∷ token R_PAREN EOF false ∷ token R_CURLY EOF false ∷ token STRUCT_KW EOF false ∷ token L_CURLY EOF false ∷ token R_CURLY EOF false ∷ []

abbrev tree35 : Forest
tree35 = (Node SOURCE_FILE (Node FN (Leaf FN_KW 1 (Node NAME (Leaf IDENT 1 End) (Node PARAM_LIST (Leaf L_PAREN 1 (Leaf R_PAREN 1 End)) (Node BLOCK_EXPR (Node STMT_LIST (Leaf L_CURLY 1 (Node BIN_EXPR (Node PATH_EXPR (Node PATH (Node PATH_SEGMENT (Node NAME_REF (Leaf IDENT 1 End) End) End) End) (Leaf AMP2 2 (Node PAREN_EXPR (Leaf L_PAREN 1 (Node BIN_EXPR (Node LITERAL (Leaf CHAR 1 End) (Leaf PIPE_GT 2 (Node PATH_EXPR (Node PATH (Node PATH (Node PATH_SEGMENT (Node NAME_REF (Leaf IDENT 1 End) End) End) (Leaf COLON2 2 (Node PATH_SEGMENT (Node NAME_REF (Leaf IDENT 1 End) End) End))) End) End))) (Leaf R_PAREN 1 End))) End))) (Leaf R_CURLY 1 End))) End) End)))) (Node STRUCT (Leaf STRUCT_KW 1 (Node NAME End (Node RECORD_FIELD_LIST (Leaf L_CURLY 1 (Leaf R_CURLY 1 End)) End))) End)) End)

other35 : IsCoreFile tokens35 tree35 → ⊥
unfolding meaning by_length by_rank follow look_of begins_below read turns leaf say skip split fresh node wrapped after sees ahead is_end begins passes is_silent shift in_mode from_start there_at rule rank whole row any_of one_of is_longer no_longer longest paths types patterns expressions statements items leaves is_used_up takes_all entry
other35 = read-otherwise tokens35 tree35 refl

spaced35 : spaced tree35 ([]) ≡ tokens35
unfolding spaced_before
spaced35 = refl

abbrev tokens80 : List Token
tokens80 = token PUB_KW EOF false ∷ token MOD_KW EOF false ∷ token IDENT IDENT false ∷ token L_CURLY EOF false ∷ token R_CURLY EOF false ∷ token PUB_KW EOF false ∷ token FN_KW EOF false ∷ token IDENT IDENT false ∷ token L_PAREN EOF false ∷ token R_PAREN EOF false ∷ token MINUS EOF true ∷ token R_ANGLE EOF false ∷ token L_CURLY EOF false ∷ token LET_KW EOF false ∷ token IDENT IDENT false ∷ token COLON EOF false ∷ token IDENT IDENT false ∷ token SEMICOLON EOF false ∷ token DEFER_KW EOF false ∷ token L_CURLY EOF false ∷ token TRUE_KW EOF false ∷ token SEMICOLON EOF false ∷ token IDENT IDENT false ∷ token SEMICOLON EOF false ∷ token R_CURLY EOF false ∷ token R_CURLY EOF false ∷ []

abbrev tree80 : Forest
tree80 = (Node SOURCE_FILE (Node MODULE (Node VISIBILITY (Leaf PUB_KW 1 End) (Leaf MOD_KW 1 (Node NAME (Leaf IDENT 1 End) (Node ITEM_LIST (Leaf L_CURLY 1 (Leaf R_CURLY 1 End)) End)))) (Node FN (Node VISIBILITY (Leaf PUB_KW 1 End) (Leaf FN_KW 1 (Node NAME (Leaf IDENT 1 End) (Node PARAM_LIST (Leaf L_PAREN 1 (Leaf R_PAREN 1 End)) (Node RET_TYPE (Leaf THIN_ARROW 2 (Node PATH_TYPE (Node PATH (Node PATH_SEGMENT (Node NAME_REF End End) End) End) End)) (Node BLOCK_EXPR (Node STMT_LIST (Leaf L_CURLY 1 (Node LET_STMT (Leaf LET_KW 1 (Node IDENT_PAT (Node NAME (Leaf IDENT 1 End) End) (Leaf COLON 1 (Node PATH_TYPE (Node PATH (Node PATH_SEGMENT (Node NAME_REF (Leaf IDENT 1 End) End) End) End) (Leaf SEMICOLON 1 End))))) (Node DEFER_STMT (Leaf DEFER_KW 1 (Node BLOCK_EXPR (Node STMT_LIST (Leaf L_CURLY 1 (Node EXPR_STMT (Node LITERAL (Leaf TRUE_KW 1 End) (Leaf SEMICOLON 1 End)) (Node EXPR_STMT (Node PATH_EXPR (Node PATH (Node PATH_SEGMENT (Node NAME_REF (Leaf IDENT 1 End) End) End) End) (Leaf SEMICOLON 1 End)) (Leaf R_CURLY 1 End)))) End) End)) (Leaf R_CURLY 1 End)))) End) End)))))) End)) End)

other80 : IsCoreFile tokens80 tree80 → ⊥
unfolding meaning by_length by_rank follow look_of begins_below read turns leaf say skip split fresh node wrapped after sees ahead is_end begins passes is_silent shift in_mode from_start there_at rule rank whole row any_of one_of is_longer no_longer longest paths types patterns expressions statements items leaves is_used_up takes_all entry
other80 = read-otherwise tokens80 tree80 refl

spaced80 : spaced tree80 ([]) ≡ tokens80
unfolding spaced_before
spaced80 = refl

abbrev tokens86 : List Token
tokens86 = token FN_KW EOF false ∷ token IDENT IDENT false ∷ token L_PAREN EOF false ∷ token MUT_KW EOF false ∷ token IDENT IDENT false ∷ token COLON EOF false ∷ token IDENT IDENT false ∷ token R_PAREN EOF false ∷ token MINUS EOF true ∷ token R_ANGLE EOF false ∷ token L_CURLY EOF false ∷ token IDENT IDENT false ∷ token PIPE PIPE_GT true ∷ token R_ANGLE EOF false ∷ token TRUE_KW EOF false ∷ token R_CURLY EOF false ∷ []

abbrev tree86 : Forest
tree86 = (Node SOURCE_FILE (Node FN (Leaf FN_KW 1 (Node NAME (Leaf IDENT 1 End) (Node PARAM_LIST (Leaf L_PAREN 1 (Node PARAM (Node IDENT_PAT (Leaf MUT_KW 1 (Node NAME (Leaf IDENT 1 End) End)) (Leaf COLON 1 (Node PATH_TYPE (Node PATH (Node PATH_SEGMENT (Node NAME_REF (Leaf IDENT 1 End) End) End) End) End))) (Leaf R_PAREN 1 End))) (Node RET_TYPE (Leaf THIN_ARROW 2 (Node PATH_TYPE (Node PATH (Node PATH_SEGMENT End End) End) End)) (Node BLOCK_EXPR (Node STMT_LIST (Leaf L_CURLY 1 (Node BIN_EXPR (Node PATH_EXPR (Node PATH (Node PATH_SEGMENT (Node NAME_REF (Leaf IDENT 1 End) End) End) End) (Leaf PIPE_GT 2 (Node LITERAL (Leaf TRUE_KW 1 End) End))) (Leaf R_CURLY 1 End))) End) End))))) End) End)

other86 : IsCoreFile tokens86 tree86 → ⊥
unfolding meaning by_length by_rank follow look_of begins_below read turns leaf say skip split fresh node wrapped after sees ahead is_end begins passes is_silent shift in_mode from_start there_at rule rank whole row any_of one_of is_longer no_longer longest paths types patterns expressions statements items leaves is_used_up takes_all entry
other86 = read-otherwise tokens86 tree86 refl

spaced86 : spaced tree86 ([]) ≡ tokens86
unfolding spaced_before
spaced86 = refl

abbrev tokens122 : List Token
tokens122 = token FN_KW EOF false ∷ token IDENT IDENT false ∷ token L_PAREN EOF false ∷ token R_PAREN EOF false ∷ token L_CURLY EOF false ∷ token L_PAREN EOF false ∷ token MINUS EOF false ∷ token R_PAREN EOF false ∷ token PIPE PIPE_GT true ∷ token R_ANGLE EOF false ∷ token AMP EOF false ∷ token AMP EOF false ∷ token IDENT IDENT false ∷ token R_CURLY EOF false ∷ token FN_KW EOF false ∷ token IDENT IDENT false ∷ token L_PAREN EOF false ∷ token R_PAREN EOF false ∷ token L_CURLY EOF false ∷ token AMP EOF false ∷ token STRING EOF false ∷ token SEMICOLON EOF false ∷ token LET_KW EOF false ∷ token IDENT IDENT false ∷ token COLON EOF false ∷ token IDENT IDENT false ∷ token EQ EOF false ∷ token IDENT IDENT false ∷ token SEMICOLON EOF false ∷ token R_CURLY EOF false ∷ []

abbrev tree122 : Forest
tree122 = (Node SOURCE_FILE (Node FN (Leaf FN_KW 1 (Node NAME (Leaf IDENT 1 End) (Node PARAM_LIST (Leaf L_PAREN 1 (Leaf R_PAREN 1 End)) (Node BLOCK_EXPR (Node STMT_LIST (Leaf L_CURLY 1 (Node BIN_EXPR (Node PAREN_EXPR (Leaf L_PAREN 1 (Node PREFIX_EXPR (Leaf MINUS 1 (Node PATH_EXPR End End)) (Leaf R_PAREN 1 End))) (Leaf PIPE_GT 2 (Node REF_EXPR (Leaf AMP 1 (Node REF_EXPR (Leaf AMP 1 (Node PATH_EXPR (Node PATH (Node PATH_SEGMENT (Node NAME_REF (Leaf IDENT 1 End) End) End) End) End)) End)) End))) (Leaf R_CURLY 1 End))) End) End)))) (Node FN (Leaf FN_KW 1 (Node NAME (Leaf IDENT 1 End) (Node PARAM_LIST (Leaf L_PAREN 1 (Leaf R_PAREN 1 End)) (Node BLOCK_EXPR (Node STMT_LIST (Leaf L_CURLY 1 (Node EXPR_STMT (Node REF_EXPR (Leaf AMP 1 (Node LITERAL (Leaf STRING 1 End) End)) (Leaf SEMICOLON 1 End)) (Node LET_STMT (Leaf LET_KW 1 (Node IDENT_PAT (Node NAME (Leaf IDENT 1 End) End) (Leaf COLON 1 (Node PATH_TYPE (Node PATH (Node PATH_SEGMENT (Node NAME_REF (Leaf IDENT 1 End) End) End) End) (Leaf EQ 1 (Node PATH_EXPR (Node PATH (Node PATH_SEGMENT (Node NAME_REF (Leaf IDENT 1 End) End) End) End) (Leaf SEMICOLON 1 End))))))) (Leaf R_CURLY 1 End)))) End) End)))) End)) End)

other122 : IsCoreFile tokens122 tree122 → ⊥
unfolding meaning by_length by_rank follow look_of begins_below read turns leaf say skip split fresh node wrapped after sees ahead is_end begins passes is_silent shift in_mode from_start there_at rule rank whole row any_of one_of is_longer no_longer longest paths types patterns expressions statements items leaves is_used_up takes_all entry
other122 = read-otherwise tokens122 tree122 refl

spaced122 : spaced tree122 ([]) ≡ tokens122
unfolding spaced_before
spaced122 = refl

abbrev tokens126 : List Token
tokens126 = token PUB_KW EOF false ∷ token FN_KW EOF false ∷ token IDENT IDENT false ∷ token L_PAREN EOF false ∷ token R_PAREN EOF false ∷ token MINUS EOF true ∷ token R_ANGLE EOF false ∷ token L_BRACK EOF false ∷ token IDENT IDENT false ∷ token R_BRACK EOF false ∷ token L_CURLY EOF false ∷ token BANG EOF false ∷ token IDENT IDENT false ∷ token R_CURLY EOF false ∷ token FN_KW EOF false ∷ token IDENT IDENT false ∷ token L_PAREN EOF false ∷ token MUT_KW EOF false ∷ token IDENT IDENT false ∷ token COLON EOF false ∷ token IDENT IDENT false ∷ token R_PAREN EOF false ∷ token L_CURLY EOF false ∷ token IDENT IDENT false ∷ token DOT EOF false ∷ token IDENT IDENT false ∷ token L_PAREN EOF false ∷ token FLOAT_NUMBER EOF false ∷ token COMMA EOF false ∷ token R_PAREN EOF false ∷ token PIPE PIPE_GT true ∷ token R_ANGLE EOF false ∷ token STRING EOF false ∷ token L_PAREN EOF false ∷ token STRING EOF false ∷ token COMMA EOF false ∷ token IDENT IDENT false ∷ token COMMA EOF false ∷ token R_PAREN EOF false ∷ token SEMICOLON EOF false ∷ token R_CURLY EOF false ∷ []

abbrev tree126 : Forest
tree126 = (Node SOURCE_FILE (Node FN (Node VISIBILITY (Leaf PUB_KW 1 End) (Leaf FN_KW 1 (Node NAME (Leaf IDENT 1 End) (Node PARAM_LIST (Leaf L_PAREN 1 (Leaf R_PAREN 1 End)) (Node RET_TYPE (Leaf THIN_ARROW 2 (Node SLICE_TYPE (Leaf L_BRACK 1 (Node PATH_TYPE (Node PATH (Node PATH_SEGMENT (Node NAME_REF (Leaf IDENT 1 End) End) End) End) (Leaf R_BRACK 1 End))) End)) (Node BLOCK_EXPR (Node STMT_LIST (Leaf L_CURLY 1 (Node PREFIX_EXPR (Leaf BANG 1 (Node PATH_EXPR (Node PATH (Node PATH_SEGMENT (Node NAME_REF (Leaf IDENT 1 End) End) End) End) End)) (Leaf R_CURLY 1 End))) End) End)))))) (Node FN (Leaf FN_KW 1 (Node NAME (Leaf IDENT 1 End) (Node PARAM_LIST (Leaf L_PAREN 1 (Node PARAM (Node IDENT_PAT (Leaf MUT_KW 1 (Node NAME (Leaf IDENT 1 End) End)) (Leaf COLON 1 (Node PATH_TYPE (Node PATH (Node PATH_SEGMENT (Node NAME_REF (Leaf IDENT 1 End) End) End) End) End))) (Leaf R_PAREN 1 End))) (Node BLOCK_EXPR (Node STMT_LIST (Leaf L_CURLY 1 (Node EXPR_STMT (Node BIN_EXPR (Node METHOD_CALL_EXPR (Node PATH_EXPR (Node PATH (Node PATH_SEGMENT (Node NAME_REF (Leaf IDENT 1 End) End) End) End) (Leaf DOT 1 (Node NAME_REF (Leaf IDENT 1 End) (Node ARG_LIST (Leaf L_PAREN 1 (Node LITERAL (Leaf FLOAT_NUMBER 1 End) (Leaf COMMA 1 (Leaf R_PAREN 1 End)))) End)))) (Leaf PIPE_GT 2 (Node CALL_EXPR (Node LITERAL (Leaf STRING 1 End) (Node ARG_LIST (Leaf L_PAREN 1 (Node LITERAL (Leaf STRING 1 End) (Leaf COMMA 1 (Node PATH_EXPR (Node PATH (Node PATH_SEGMENT (Node NAME_REF (Leaf IDENT 1 End) End) End) End) (Leaf COMMA 1 (Leaf R_PAREN 1 End)))))) End)) End))) (Leaf SEMICOLON 1 End)) (Leaf R_CURLY 1 End))) End) End)))) End)) End)

core126 : IsCoreFile tokens126 tree126
core126 = record { items = (ItemThen (Function (Public false) false false false NoElement false (Returns false (SliceType false (PathType (Name false)) false)) (Braces false (LastExpression (Prefixed Invert false (Named (Name false)))) false)) (ItemThen (Function Private false false false (LastElement (TypedPattern (NamePattern (Mutable false) false) false (PathType (Name false)))) false NoReturnType (Braces false (StatementThen (Run (Binary (MethodCall (Named (Name false)) false false false (ArgumentComma (Literal FloatNumber false) false NoArgument) false) Pipe false (FunctionCall (Literal Text false) false (ArgumentComma (Literal Text false) false (ArgumentComma (Named (Name false)) false NoArgument)) false)) false) NoStatement) false)) NoItem)); well_formed = ((tt, omega arith), ((((tt, omega arith, (tt, tt)), (tt, omega arith, refl, (tt, (tt, tt))), omega arith, omega arith, refl), tt), tt)); has_tokens = refl; has_tree = refl }

spaced126 : spaced tree126 (false ∷ []) ≡ tokens126
unfolding spaced_before
spaced126 = refl

abbrev tokens160 : List Token
tokens160 = token FN_KW EOF false ∷ token IDENT IDENT false ∷ token L_PAREN EOF false ∷ token IDENT IDENT false ∷ token COLON EOF false ∷ token L_BRACK EOF false ∷ token IDENT IDENT false ∷ token R_BRACK EOF false ∷ token COMMA EOF false ∷ token IDENT IDENT false ∷ token COLON EOF false ∷ token L_BRACK EOF false ∷ token IDENT IDENT false ∷ token R_BRACK EOF false ∷ token COMMA EOF false ∷ token IDENT IDENT false ∷ token COLON EOF false ∷ token AMP EOF false ∷ token MUT_KW EOF false ∷ token IDENT IDENT false ∷ token R_PAREN EOF false ∷ token MINUS EOF true ∷ token R_ANGLE EOF false ∷ token IDENT IDENT false ∷ token L_CURLY EOF false ∷ token LET_KW EOF false ∷ token IDENT IDENT false ∷ token COLON EOF false ∷ token IDENT IDENT false ∷ token EQ EOF false ∷ token IDENT IDENT false ∷ token SEMICOLON EOF false ∷ token STAR EOF false ∷ token INT_NUMBER EOF false ∷ token DOT EOF false ∷ token IDENT IDENT false ∷ token L_PAREN EOF false ∷ token FLOAT_NUMBER EOF true ∷ token R_PAREN EOF false ∷ token SEMICOLON EOF false ∷ token R_CURLY EOF false ∷ token PUB_KW EOF false ∷ token FN_KW EOF false ∷ token IDENT IDENT false ∷ token L_PAREN EOF false ∷ token IDENT IDENT false ∷ token COLON EOF false ∷ token L_BRACK EOF false ∷ token IDENT IDENT false ∷ token R_BRACK EOF false ∷ token COMMA EOF false ∷ token IDENT IDENT false ∷ token COLON EOF false ∷ token IDENT IDENT false ∷ token R_PAREN EOF false ∷ token L_CURLY EOF false ∷ token LET_KW EOF false ∷ token IDENT IDENT false ∷ token EQ EOF false ∷ token IDENT IDENT false ∷ token CARET EOF false ∷ token IDENT IDENT false ∷ token SLASH EOF false ∷ token IDENT IDENT false ∷ token SEMICOLON EOF false ∷ token DEFER_KW EOF false ∷ token L_CURLY EOF false ∷ token R_CURLY EOF false ∷ token L_PAREN EOF false ∷ token TRUE_KW EOF false ∷ token R_PAREN EOF false ∷ token DOT EOF false ∷ token IDENT IDENT false ∷ token L_PAREN EOF false ∷ token MINUS EOF false ∷ token FLOAT_NUMBER EOF true ∷ token COMMA EOF false ∷ token INT_NUMBER EOF false ∷ token L_PAREN EOF false ∷ token R_PAREN EOF false ∷ token COMMA EOF false ∷ token STRING EOF false ∷ token R_PAREN EOF false ∷ token R_CURLY EOF false ∷ []

abbrev tree160 : Forest
tree160 = (Node SOURCE_FILE (Node FN (Leaf FN_KW 1 (Node NAME (Leaf IDENT 1 End) (Node PARAM_LIST (Leaf L_PAREN 1 (Node PARAM (Node IDENT_PAT (Node NAME (Leaf IDENT 1 End) End) (Leaf COLON 1 (Node SLICE_TYPE (Leaf L_BRACK 1 (Node PATH_TYPE (Node PATH (Node PATH_SEGMENT (Node NAME_REF (Leaf IDENT 1 End) End) End) End) (Leaf R_BRACK 1 End))) End))) (Leaf COMMA 1 (Node PARAM (Node IDENT_PAT (Node NAME (Leaf IDENT 1 End) End) (Leaf COLON 1 (Node SLICE_TYPE (Leaf L_BRACK 1 (Node PATH_TYPE (Node PATH (Node PATH_SEGMENT (Node NAME_REF (Leaf IDENT 1 End) End) End) End) (Leaf R_BRACK 1 End))) End))) (Leaf COMMA 1 (Node PARAM (Node IDENT_PAT (Node NAME (Leaf IDENT 1 End) End) (Leaf COLON 1 (Node REF_TYPE (Leaf AMP 1 (Leaf MUT_KW 1 (Node PATH_TYPE (Node PATH (Node PATH_SEGMENT (Node NAME_REF (Leaf IDENT 1 End) End) End) End) End))) End))) (Leaf R_PAREN 1 End))))))) (Node RET_TYPE (Leaf THIN_ARROW 2 (Node PATH_TYPE (Node PATH (Node PATH_SEGMENT (Node NAME_REF (Leaf IDENT 1 End) End) End) End) End)) (Node BLOCK_EXPR (Node STMT_LIST (Leaf L_CURLY 1 (Node LET_STMT (Leaf LET_KW 1 (Node IDENT_PAT (Node NAME (Leaf IDENT 1 End) End) (Leaf COLON 1 (Node PATH_TYPE (Node PATH (Node PATH_SEGMENT (Node NAME_REF (Leaf IDENT 1 End) End) End) End) (Leaf EQ 1 (Node PATH_EXPR (Node PATH (Node PATH_SEGMENT (Node NAME_REF (Leaf IDENT 1 End) End) End) End) (Leaf SEMICOLON 1 End))))))) (Node EXPR_STMT (Node PREFIX_EXPR (Leaf STAR 1 (Node METHOD_CALL_EXPR (Node LITERAL (Leaf INT_NUMBER 1 End) (Leaf DOT 1 (Node NAME_REF (Leaf IDENT 1 End) (Node ARG_LIST (Leaf L_PAREN 1 (Node LITERAL (Leaf FLOAT_NUMBER 1 End) (Leaf R_PAREN 1 End))) End)))) End)) (Leaf SEMICOLON 1 End)) (Leaf R_CURLY 1 End)))) End) End))))) (Node FN (Node VISIBILITY (Leaf PUB_KW 1 End) (Leaf FN_KW 1 (Node NAME (Leaf IDENT 1 End) (Node PARAM_LIST (Leaf L_PAREN 1 (Node PARAM (Node IDENT_PAT (Node NAME (Leaf IDENT 1 End) End) (Leaf COLON 1 (Node SLICE_TYPE (Leaf L_BRACK 1 (Node PATH_TYPE (Node PATH (Node PATH_SEGMENT (Node NAME_REF (Leaf IDENT 1 End) End) End) End) (Leaf R_BRACK 1 End))) End))) (Leaf COMMA 1 (Node PARAM (Node IDENT_PAT (Node NAME (Leaf IDENT 1 End) End) (Leaf COLON 1 (Node PATH_TYPE (Node PATH (Node PATH_SEGMENT (Node NAME_REF (Leaf IDENT 1 End) End) End) End) End))) (Leaf R_PAREN 1 End))))) (Node BLOCK_EXPR (Node STMT_LIST (Leaf L_CURLY 1 (Node LET_STMT (Leaf LET_KW 1 (Node IDENT_PAT (Node NAME (Leaf IDENT 1 End) End) (Leaf EQ 1 (Node BIN_EXPR (Node PATH_EXPR (Node PATH (Node PATH_SEGMENT (Node NAME_REF (Leaf IDENT 1 End) End) End) End) (Leaf CARET 1 (Node BIN_EXPR (Node PATH_EXPR (Node PATH (Node PATH_SEGMENT (Node NAME_REF (Leaf IDENT 1 End) End) End) End) (Leaf SLASH 1 (Node PATH_EXPR (Node PATH (Node PATH_SEGMENT (Node NAME_REF (Leaf IDENT 1 End) End) End) End) End))) End))) (Leaf SEMICOLON 1 End))))) (Node DEFER_STMT (Leaf DEFER_KW 1 (Node BLOCK_EXPR (Node STMT_LIST (Leaf L_CURLY 1 (Leaf R_CURLY 1 End)) End) End)) (Node METHOD_CALL_EXPR (Node PAREN_EXPR (Leaf L_PAREN 1 (Node LITERAL (Leaf TRUE_KW 1 End) (Leaf R_PAREN 1 End))) (Leaf DOT 1 (Node NAME_REF (Leaf IDENT 1 End) (Node ARG_LIST (Leaf L_PAREN 1 (Node PREFIX_EXPR (Leaf MINUS 1 (Node LITERAL (Leaf FLOAT_NUMBER 1 End) End)) (Leaf COMMA 1 (Node CALL_EXPR (Node LITERAL (Leaf INT_NUMBER 1 End) (Node ARG_LIST (Leaf L_PAREN 1 (Leaf R_PAREN 1 End)) End)) (Leaf COMMA 1 (Node LITERAL (Leaf STRING 1 End) (Leaf R_PAREN 1 End))))))) End)))) (Leaf R_CURLY 1 End))))) End) End))))) End)) End)

core160 : IsCoreFile tokens160 tree160
core160 = record { items = (ItemThen (Function Private false false false (ElementComma (TypedPattern (NamePattern Immutable false) false (SliceType false (PathType (Name false)) false)) false (ElementComma (TypedPattern (NamePattern Immutable false) false (SliceType false (PathType (Name false)) false)) false (LastElement (TypedPattern (NamePattern Immutable false) false (ReferenceType false (Mutable false) (PathType (Name false))))))) false (Returns false (PathType (Name false))) (Braces false (StatementThen (Let false (NamePattern Immutable false) (AnnotatedBy false (PathType (Name false))) (InitializedBy false (Named (Name false))) false) (StatementThen (Run (Prefixed Dereference false (MethodCall (Literal Integer false) false false false (LastArgument (Literal FloatNumber true)) false)) false) NoStatement)) false)) (ItemThen (Function (Public false) false false false (ElementComma (TypedPattern (NamePattern Immutable false) false (SliceType false (PathType (Name false)) false)) false (LastElement (TypedPattern (NamePattern Immutable false) false (PathType (Name false))))) false NoReturnType (Braces false (StatementThen (Let false (NamePattern Immutable false) NoAnnotation (InitializedBy false (Binary (Named (Name false)) BitXor false (Binary (Named (Name false)) Divide false (Named (Name false))))) false) (StatementThen (Defer false (Braces false NoStatement false)) (LastExpression (MethodCall (Parenthesized false (Literal TrueWord false) false) false false false (ArgumentComma (Prefixed Negate false (Literal FloatNumber true)) false (ArgumentComma (FunctionCall (Literal Integer false) false NoArgument false) false (LastArgument (Literal Text false)))) false)))) false)) NoItem)); well_formed = ((tt, (((tt, omega arith, tt), omega arith), tt)), (((tt, (tt, tt, omega arith, omega arith, refl), omega arith, omega arith, refl), (tt, (tt, omega arith, ((tt, omega arith), ((tt, omega arith, refl, tt), tt))))), tt)); has_tokens = refl; has_tree = refl }

spaced160 : spaced tree160 (true ∷ true ∷ []) ≡ tokens160
unfolding spaced_before
spaced160 = refl

abbrev tokens178 : List Token
tokens178 = token FN_KW EOF false ∷ token IDENT IDENT false ∷ token L_PAREN EOF false ∷ token MUT_KW EOF false ∷ token IDENT IDENT false ∷ token COLON EOF false ∷ token IDENT IDENT false ∷ token COMMA EOF false ∷ token IDENT IDENT false ∷ token COLON EOF false ∷ token L_BRACK EOF false ∷ token IDENT IDENT false ∷ token R_BRACK EOF false ∷ token COMMA EOF false ∷ token IDENT IDENT false ∷ token COLON EOF false ∷ token L_BRACK EOF false ∷ token IDENT IDENT false ∷ token R_BRACK EOF false ∷ token R_PAREN EOF false ∷ token L_CURLY EOF false ∷ token DEFER_KW EOF false ∷ token L_CURLY EOF false ∷ token LET_KW EOF false ∷ token MUT_KW EOF false ∷ token IDENT IDENT false ∷ token COLON EOF false ∷ token L_BRACK EOF false ∷ token L_BRACK EOF false ∷ token IDENT IDENT false ∷ token R_BRACK EOF false ∷ token R_BRACK EOF false ∷ token EQ EOF false ∷ token IDENT IDENT false ∷ token SEMICOLON EOF false ∷ token LET_KW EOF false ∷ token MUT_KW EOF false ∷ token IDENT IDENT false ∷ token SEMICOLON EOF false ∷ token IDENT IDENT false ∷ token R_CURLY EOF false ∷ token IDENT IDENT false ∷ token COLON EOF true ∷ token COLON EOF false ∷ token IDENT IDENT false ∷ token COLON EOF true ∷ token COLON EOF false ∷ token IDENT IDENT false ∷ token DOT EOF false ∷ token IDENT IDENT false ∷ token SEMICOLON EOF false ∷ token R_CURLY EOF false ∷ []

abbrev tree178 : Forest
tree178 = (Node SOURCE_FILE (Node FN (Leaf FN_KW 1 (Node NAME (Leaf IDENT 1 End) (Node PARAM_LIST (Leaf L_PAREN 1 (Node PARAM (Node IDENT_PAT (Leaf MUT_KW 1 (Node NAME (Leaf IDENT 1 End) End)) (Leaf COLON 1 (Node PATH_TYPE (Node PATH (Node PATH_SEGMENT (Node NAME_REF (Leaf IDENT 1 End) End) End) End) End))) (Leaf COMMA 1 (Node PARAM (Node IDENT_PAT (Node NAME (Leaf IDENT 1 End) End) (Leaf COLON 1 (Node SLICE_TYPE (Leaf L_BRACK 1 (Node PATH_TYPE (Node PATH (Node PATH_SEGMENT (Node NAME_REF (Leaf IDENT 1 End) End) End) End) (Leaf R_BRACK 1 End))) End))) (Leaf COMMA 1 (Node PARAM (Node IDENT_PAT (Node NAME (Leaf IDENT 1 End) End) (Leaf COLON 1 (Node SLICE_TYPE (Leaf L_BRACK 1 (Node PATH_TYPE (Node PATH (Node PATH_SEGMENT (Node NAME_REF (Leaf IDENT 1 End) End) End) End) (Leaf R_BRACK 1 End))) End))) (Leaf R_PAREN 1 End))))))) (Node BLOCK_EXPR (Node STMT_LIST (Leaf L_CURLY 1 (Node DEFER_STMT (Leaf DEFER_KW 1 (Node BLOCK_EXPR (Node STMT_LIST (Leaf L_CURLY 1 (Node LET_STMT (Leaf LET_KW 1 (Node IDENT_PAT (Leaf MUT_KW 1 (Node NAME (Leaf IDENT 1 End) End)) (Leaf COLON 1 (Node SLICE_TYPE (Leaf L_BRACK 1 (Node SLICE_TYPE (Leaf L_BRACK 1 (Node PATH_TYPE (Node PATH (Node PATH_SEGMENT (Node NAME_REF (Leaf IDENT 1 End) End) End) End) (Leaf R_BRACK 1 End))) (Leaf R_BRACK 1 End))) (Leaf EQ 1 (Node PATH_EXPR (Node PATH (Node PATH_SEGMENT (Node NAME_REF (Leaf IDENT 1 End) End) End) End) (Leaf SEMICOLON 1 End))))))) (Node LET_STMT (Leaf LET_KW 1 (Node IDENT_PAT (Leaf MUT_KW 1 (Node NAME (Leaf IDENT 1 End) End)) (Leaf SEMICOLON 1 End))) (Node PATH_EXPR (Node PATH (Node PATH_SEGMENT (Node NAME_REF (Leaf IDENT 1 End) End) End) End) (Leaf R_CURLY 1 End))))) End) End)) (Node EXPR_STMT (Node FIELD_EXPR (Node PATH_EXPR (Node PATH (Node PATH (Node PATH (Node PATH_SEGMENT (Node NAME_REF (Leaf IDENT 1 End) End) End) (Leaf COLON2 2 (Node PATH_SEGMENT (Node NAME_REF (Leaf IDENT 1 End) End) End))) (Leaf COLON2 2 (Node PATH_SEGMENT (Node NAME_REF (Leaf IDENT 1 End) End) End))) End) (Leaf DOT 1 (Node NAME_REF (Leaf IDENT 1 End) End))) (Leaf SEMICOLON 1 End)) (Leaf R_CURLY 1 End)))) End) End)))) End) End)

core178 : IsCoreFile tokens178 tree178
core178 = record { items = (ItemThen (Function Private false false false (ElementComma (TypedPattern (NamePattern (Mutable false) false) false (PathType (Name false))) false (ElementComma (TypedPattern (NamePattern Immutable false) false (SliceType false (PathType (Name false)) false)) false (LastElement (TypedPattern (NamePattern Immutable false) false (SliceType false (PathType (Name false)) false))))) false NoReturnType (Braces false (StatementThen (Defer false (Braces false (StatementThen (Let false (NamePattern (Mutable false) false) (AnnotatedBy false (SliceType false (SliceType false (PathType (Name false)) false) false)) (InitializedBy false (Named (Name false))) false) (StatementThen (Let false (NamePattern (Mutable false) false) NoAnnotation NoInitializer false) (LastExpression (Named (Name false))))) false)) (StatementThen (Run (FieldAccess (Named (Below (Below (Name false) false false) false false)) false false) false) NoStatement)) false)) NoItem); well_formed = (((tt, (tt, tt)), ((tt, omega arith), tt)), tt); has_tokens = refl; has_tree = refl }

spaced178 : spaced tree178 ([]) ≡ tokens178
unfolding spaced_before
spaced178 = refl

abbrev tokens216 : List Token
tokens216 = token FN_KW EOF false ∷ token IDENT IDENT false ∷ token L_PAREN EOF false ∷ token IDENT IDENT false ∷ token COLON EOF false ∷ token IDENT IDENT false ∷ token COLON EOF true ∷ token COLON EOF false ∷ token IDENT IDENT false ∷ token COMMA EOF false ∷ token R_PAREN EOF false ∷ token MINUS EOF true ∷ token R_ANGLE EOF false ∷ token IDENT IDENT false ∷ token COLON EOF true ∷ token COLON EOF false ∷ token IDENT IDENT false ∷ token L_CURLY EOF false ∷ token INT_NUMBER EOF false ∷ token PIPE PIPE_GT true ∷ token R_ANGLE EOF false ∷ token FLOAT_NUMBER EOF true ∷ token SEMICOLON EOF false ∷ token R_CURLY EOF false ∷ token PUB_KW EOF false ∷ token FN_KW EOF false ∷ token IDENT IDENT false ∷ token L_PAREN EOF false ∷ token R_PAREN EOF false ∷ token MINUS EOF true ∷ token R_ANGLE EOF false ∷ token AMP EOF false ∷ token L_BRACK EOF false ∷ token IDENT IDENT false ∷ token COLON EOF true ∷ token COLON EOF false ∷ token IDENT IDENT false ∷ token R_BRACK EOF false ∷ token L_CURLY EOF false ∷ token DEFER_KW EOF false ∷ token L_CURLY EOF false ∷ token LET_KW EOF false ∷ token IDENT IDENT false ∷ token SEMICOLON EOF false ∷ token STRING EOF false ∷ token SEMICOLON EOF false ∷ token R_CURLY EOF false ∷ token INT_NUMBER EOF false ∷ token DOT EOF false ∷ token IDENT IDENT false ∷ token L_PAREN EOF false ∷ token STRING EOF false ∷ token COMMA EOF false ∷ token R_PAREN EOF false ∷ token DOT EOF false ∷ token IDENT IDENT false ∷ token L_PAREN EOF false ∷ token R_PAREN EOF false ∷ token SEMICOLON EOF false ∷ token STAR EOF false ∷ token IDENT IDENT false ∷ token DOT EOF false ∷ token IDENT IDENT false ∷ token R_CURLY EOF false ∷ []

abbrev tree216 : Forest
tree216 = (Node SOURCE_FILE (Node FN (Leaf FN_KW 1 (Node NAME (Leaf IDENT 1 End) (Node PARAM_LIST (Leaf L_PAREN 1 (Node PARAM (Node IDENT_PAT (Node NAME (Leaf IDENT 1 End) End) (Leaf COLON 1 (Node PATH_TYPE (Node PATH (Node PATH (Node PATH_SEGMENT (Node NAME_REF (Leaf IDENT 1 End) End) End) (Leaf COLON2 2 (Node PATH_SEGMENT (Node NAME_REF (Leaf IDENT 1 End) End) End))) End) End))) (Leaf COMMA 1 (Leaf R_PAREN 1 End)))) (Node RET_TYPE (Leaf THIN_ARROW 2 (Node PATH_TYPE (Node PATH (Node PATH (Node PATH_SEGMENT (Node NAME_REF (Leaf IDENT 1 End) End) End) (Leaf COLON2 2 (Node PATH_SEGMENT (Node NAME_REF (Leaf IDENT 1 End) End) End))) End) End)) (Node BLOCK_EXPR (Node STMT_LIST (Leaf L_CURLY 1 (Node EXPR_STMT (Node BIN_EXPR (Node LITERAL (Leaf INT_NUMBER 1 End) (Leaf PIPE_GT 2 (Node LITERAL (Leaf FLOAT_NUMBER 1 End) End))) (Leaf SEMICOLON 1 End)) (Leaf R_CURLY 1 End))) End) End))))) (Node FN (Node VISIBILITY (Leaf PUB_KW 1 End) (Leaf FN_KW 1 (Node NAME (Leaf IDENT 1 End) (Node PARAM_LIST (Leaf L_PAREN 1 (Leaf R_PAREN 1 End)) (Node RET_TYPE (Leaf THIN_ARROW 2 (Node REF_TYPE (Leaf AMP 1 (Node SLICE_TYPE (Leaf L_BRACK 1 (Node PATH_TYPE (Node PATH (Node PATH (Node PATH_SEGMENT (Node NAME_REF (Leaf IDENT 1 End) End) End) (Leaf COLON2 2 (Node PATH_SEGMENT (Node NAME_REF (Leaf IDENT 1 End) End) End))) End) (Leaf R_BRACK 1 End))) End)) End)) (Node BLOCK_EXPR (Node STMT_LIST (Leaf L_CURLY 1 (Node DEFER_STMT (Leaf DEFER_KW 1 (Node BLOCK_EXPR (Node STMT_LIST (Leaf L_CURLY 1 (Node LET_STMT (Leaf LET_KW 1 (Node IDENT_PAT (Node NAME (Leaf IDENT 1 End) End) (Leaf SEMICOLON 1 End))) (Node EXPR_STMT (Node LITERAL (Leaf STRING 1 End) (Leaf SEMICOLON 1 End)) (Leaf R_CURLY 1 End)))) End) End)) (Node EXPR_STMT (Node METHOD_CALL_EXPR (Node METHOD_CALL_EXPR (Node LITERAL (Leaf INT_NUMBER 1 End) (Leaf DOT 1 (Node NAME_REF (Leaf IDENT 1 End) (Node ARG_LIST (Leaf L_PAREN 1 (Node LITERAL (Leaf STRING 1 End) (Leaf COMMA 1 (Leaf R_PAREN 1 End)))) End)))) (Leaf DOT 1 (Node NAME_REF (Leaf IDENT 1 End) (Node ARG_LIST (Leaf L_PAREN 1 (Leaf R_PAREN 1 End)) End)))) (Leaf SEMICOLON 1 End)) (Node PREFIX_EXPR (Leaf STAR 1 (Node FIELD_EXPR (Node PATH_EXPR (Node PATH (Node PATH_SEGMENT (Node NAME_REF (Leaf IDENT 1 End) End) End) End) (Leaf DOT 1 (Node NAME_REF (Leaf IDENT 1 End) End))) End)) (Leaf R_CURLY 1 End))))) End) End)))))) End)) End)

core216 : IsCoreFile tokens216 tree216
core216 = record { items = (ItemThen (Function Private false false false (ElementComma (TypedPattern (NamePattern Immutable false) false (PathType (Below (Name false) false false))) false NoElement) false (Returns false (PathType (Below (Name false) false false))) (Braces false (StatementThen (Run (Binary (Literal Integer false) Pipe false (Literal FloatNumber true)) false) NoStatement) false)) (ItemThen (Function (Public false) false false false NoElement false (Returns false (ReferenceType false Immutable (SliceType false (PathType (Below (Name false) false false)) false))) (Braces false (StatementThen (Defer false (Braces false (StatementThen (Let false (NamePattern Immutable false) NoAnnotation NoInitializer false) (StatementThen (Run (Literal Text false) false) NoStatement)) false)) (StatementThen (Run (MethodCall (MethodCall (Literal Integer false) false false false (ArgumentComma (Literal Text false) false NoArgument) false) false false false NoArgument false) false) (LastExpression (Prefixed Dereference false (FieldAccess (Named (Name false)) false false))))) false)) NoItem)); well_formed = (((tt, tt, omega arith, omega arith, refl), tt), (((tt, (tt, tt)), (((tt, omega arith, (tt, tt)), omega arith, tt), ((tt, omega arith), omega arith))), tt)); has_tokens = refl; has_tree = refl }

spaced216 : spaced tree216 (true ∷ []) ≡ tokens216
unfolding spaced_before
spaced216 = refl

abbrev tokens228 : List Token
tokens228 = token PUB_KW EOF false ∷ token FN_KW EOF false ∷ token IDENT IDENT false ∷ token L_PAREN EOF false ∷ token IDENT IDENT false ∷ token COLON EOF false ∷ token AMP EOF false ∷ token L_BRACK EOF false ∷ token IDENT IDENT false ∷ token R_BRACK EOF false ∷ token COMMA EOF false ∷ token R_PAREN EOF false ∷ token L_CURLY EOF false ∷ token DEFER_KW EOF false ∷ token L_CURLY EOF false ∷ token STRING EOF false ∷ token SEMICOLON EOF false ∷ token INT_NUMBER EOF false ∷ token R_CURLY EOF false ∷ token DEFER_KW EOF false ∷ token L_CURLY EOF false ∷ token R_CURLY EOF false ∷ token R_CURLY EOF false ∷ []

abbrev tree228 : Forest
tree228 = (Node SOURCE_FILE (Node FN (Node VISIBILITY (Leaf PUB_KW 1 End) (Leaf FN_KW 1 (Node NAME (Leaf IDENT 1 End) (Node PARAM_LIST (Leaf L_PAREN 1 (Node PARAM (Node IDENT_PAT (Node NAME (Leaf IDENT 1 End) End) (Leaf COLON 1 (Node REF_TYPE (Leaf AMP 1 (Node SLICE_TYPE (Leaf L_BRACK 1 (Node PATH_TYPE (Node PATH (Node PATH_SEGMENT (Node NAME_REF (Leaf IDENT 1 End) End) End) End) (Leaf R_BRACK 1 End))) End)) End))) (Leaf COMMA 1 (Leaf R_PAREN 1 End)))) (Node BLOCK_EXPR (Node STMT_LIST (Leaf L_CURLY 1 (Node DEFER_STMT (Leaf DEFER_KW 1 (Node BLOCK_EXPR (Node STMT_LIST (Leaf L_CURLY 1 (Node EXPR_STMT (Node LITERAL (Leaf STRING 1 End) (Leaf SEMICOLON 1 End)) (Node LITERAL (Leaf INT_NUMBER 1 End) (Leaf R_CURLY 1 End)))) End) End)) (Node DEFER_STMT (Leaf DEFER_KW 1 (Node BLOCK_EXPR (Node STMT_LIST (Leaf L_CURLY 1 (Leaf R_CURLY 1 End)) End) End)) (Leaf R_CURLY 1 End)))) End) End))))) End) End)

core228 : IsCoreFile tokens228 tree228
core228 = record { items = (ItemThen (Function (Public false) false false false (ElementComma (TypedPattern (NamePattern Immutable false) false (ReferenceType false Immutable (SliceType false (PathType (Name false)) false))) false NoElement) false NoReturnType (Braces false (StatementThen (Defer false (Braces false (StatementThen (Run (Literal Text false) false) (LastExpression (Literal Integer false))) false)) (StatementThen (Defer false (Braces false NoStatement false)) NoStatement)) false)) NoItem); well_formed = (((tt, tt), (tt, tt)), tt); has_tokens = refl; has_tree = refl }

spaced228 : spaced tree228 ([]) ≡ tokens228
unfolding spaced_before
spaced228 = refl

abbrev tokens233 : List Token
tokens233 = token PUB_KW EOF false ∷ token FN_KW EOF false ∷ token IDENT IDENT false ∷ token L_PAREN EOF false ∷ token IDENT IDENT false ∷ token COLON EOF false ∷ token IDENT IDENT false ∷ token R_PAREN EOF false ∷ token L_CURLY EOF false ∷ token DEFER_KW EOF false ∷ token L_CURLY EOF false ∷ token LET_KW EOF false ∷ token IDENT IDENT false ∷ token COLON EOF false ∷ token IDENT IDENT false ∷ token COLON EOF true ∷ token COLON EOF false ∷ token IDENT IDENT false ∷ token SEMICOLON EOF false ∷ token LET_KW EOF false ∷ token MUT_KW EOF false ∷ token IDENT IDENT false ∷ token COLON EOF false ∷ token L_BRACK EOF false ∷ token IDENT IDENT false ∷ token COLON EOF true ∷ token COLON EOF false ∷ token IDENT IDENT false ∷ token R_BRACK EOF false ∷ token SEMICOLON EOF false ∷ token R_CURLY EOF false ∷ token IDENT IDENT false ∷ token R_CURLY EOF false ∷ token MOD_KW EOF false ∷ token IDENT IDENT false ∷ token SEMICOLON EOF false ∷ []

abbrev tree233 : Forest
tree233 = (Node SOURCE_FILE (Node FN (Node VISIBILITY (Leaf PUB_KW 1 End) (Leaf FN_KW 1 (Node NAME (Leaf IDENT 1 End) (Node PARAM_LIST (Leaf L_PAREN 1 (Node PARAM (Node IDENT_PAT (Node NAME (Leaf IDENT 1 End) End) (Leaf COLON 1 (Node PATH_TYPE (Node PATH (Node PATH_SEGMENT (Node NAME_REF (Leaf IDENT 1 End) End) End) End) End))) (Leaf R_PAREN 1 End))) (Node BLOCK_EXPR (Node STMT_LIST (Leaf L_CURLY 1 (Node DEFER_STMT (Leaf DEFER_KW 1 (Node BLOCK_EXPR (Node STMT_LIST (Leaf L_CURLY 1 (Node LET_STMT (Leaf LET_KW 1 (Node IDENT_PAT (Node NAME (Leaf IDENT 1 End) End) (Leaf COLON 1 (Node PATH_TYPE (Node PATH (Node PATH (Node PATH_SEGMENT (Node NAME_REF (Leaf IDENT 1 End) End) End) (Leaf COLON2 2 (Node PATH_SEGMENT (Node NAME_REF (Leaf IDENT 1 End) End) End))) End) (Leaf SEMICOLON 1 End))))) (Node LET_STMT (Leaf LET_KW 1 (Node IDENT_PAT (Leaf MUT_KW 1 (Node NAME (Leaf IDENT 1 End) End)) (Leaf COLON 1 (Node SLICE_TYPE (Leaf L_BRACK 1 (Node PATH_TYPE (Node PATH (Node PATH (Node PATH_SEGMENT (Node NAME_REF (Leaf IDENT 1 End) End) End) (Leaf COLON2 2 (Node PATH_SEGMENT (Node NAME_REF (Leaf IDENT 1 End) End) End))) End) (Leaf R_BRACK 1 End))) (Leaf SEMICOLON 1 End))))) (Leaf R_CURLY 1 End)))) End) End)) (Node PATH_EXPR (Node PATH (Node PATH_SEGMENT (Node NAME_REF (Leaf IDENT 1 End) End) End) End) (Leaf R_CURLY 1 End)))) End) End))))) (Node MODULE (Leaf MOD_KW 1 (Node NAME (Leaf IDENT 1 End) (Leaf SEMICOLON 1 End))) End)) End)

core233 : IsCoreFile tokens233 tree233
core233 = record { items = (ItemThen (Function (Public false) false false false (LastElement (TypedPattern (NamePattern Immutable false) false (PathType (Name false)))) false NoReturnType (Braces false (StatementThen (Defer false (Braces false (StatementThen (Let false (NamePattern Immutable false) (AnnotatedBy false (PathType (Below (Name false) false false))) NoInitializer false) (StatementThen (Let false (NamePattern (Mutable false) false) (AnnotatedBy false (SliceType false (PathType (Below (Name false) false false)) false)) NoInitializer false) NoStatement)) false)) (LastExpression (Named (Name false)))) false)) (ItemThen (OuterModule Private false false false) NoItem)); well_formed = (((tt, (tt, tt)), tt), (tt, tt)); has_tokens = refl; has_tree = refl }

spaced233 : spaced tree233 ([]) ≡ tokens233
unfolding spaced_before
spaced233 = refl

abbrev tokens264 : List Token
tokens264 = token PUB_KW EOF false ∷ token FN_KW EOF false ∷ token IDENT IDENT false ∷ token L_PAREN EOF false ∷ token MUT_KW EOF false ∷ token IDENT IDENT false ∷ token COLON EOF false ∷ token AMP EOF false ∷ token MUT_KW EOF false ∷ token IDENT IDENT false ∷ token COMMA EOF false ∷ token R_PAREN EOF false ∷ token MINUS EOF true ∷ token R_ANGLE EOF false ∷ token AMP EOF false ∷ token MUT_KW EOF false ∷ token L_BRACK EOF false ∷ token IDENT IDENT false ∷ token R_BRACK EOF false ∷ token L_CURLY EOF false ∷ token IDENT IDENT false ∷ token COLON EOF true ∷ token COLON EOF false ∷ token IDENT IDENT false ∷ token PIPE PIPE_GT true ∷ token R_ANGLE EOF false ∷ token IDENT IDENT false ∷ token SEMICOLON EOF false ∷ token STRING EOF false ∷ token AMP EOF true ∷ token AMP EOF false ∷ token FLOAT_NUMBER EOF true ∷ token R_CURLY EOF false ∷ token STRUCT_KW EOF false ∷ token IDENT IDENT false ∷ token L_CURLY EOF false ∷ token IDENT IDENT false ∷ token COLON EOF false ∷ token IDENT IDENT false ∷ token R_CURLY EOF false ∷ []

abbrev tree264 : Forest
tree264 = (Node SOURCE_FILE (Node FN (Node VISIBILITY (Leaf PUB_KW 1 End) (Leaf FN_KW 1 (Node NAME (Leaf IDENT 1 End) (Node PARAM_LIST (Leaf L_PAREN 1 (Node PARAM (Node IDENT_PAT (Leaf MUT_KW 1 (Node NAME (Leaf IDENT 1 End) End)) (Leaf COLON 1 (Node REF_TYPE (Leaf AMP 1 (Leaf MUT_KW 1 (Node PATH_TYPE (Node PATH (Node PATH_SEGMENT (Node NAME_REF (Leaf IDENT 1 End) End) End) End) End))) End))) (Leaf COMMA 1 (Leaf R_PAREN 1 End)))) (Node RET_TYPE (Leaf THIN_ARROW 2 (Node REF_TYPE (Leaf AMP 1 (Leaf MUT_KW 1 (Node SLICE_TYPE (Leaf L_BRACK 1 (Node PATH_TYPE (Node PATH (Node PATH_SEGMENT (Node NAME_REF (Leaf IDENT 1 End) End) End) End) (Leaf R_BRACK 1 End))) End))) End)) (Node BLOCK_EXPR (Node STMT_LIST (Leaf L_CURLY 1 (Node EXPR_STMT (Node BIN_EXPR (Node PATH_EXPR (Node PATH (Node PATH (Node PATH_SEGMENT (Node NAME_REF (Leaf IDENT 1 End) End) End) (Leaf COLON2 2 (Node PATH_SEGMENT (Node NAME_REF (Leaf IDENT 1 End) End) End))) End) (Leaf PIPE_GT 2 (Node PATH_EXPR (Node PATH (Node PATH_SEGMENT (Node NAME_REF (Leaf IDENT 1 End) End) End) End) End))) (Leaf SEMICOLON 1 End)) (Node BIN_EXPR (Node LITERAL (Leaf STRING 1 End) (Leaf AMP2 2 (Node LITERAL (Leaf FLOAT_NUMBER 1 End) End))) (Leaf R_CURLY 1 End)))) End) End)))))) (Node STRUCT (Leaf STRUCT_KW 1 (Node NAME (Leaf IDENT 1 End) (Node RECORD_FIELD_LIST (Leaf L_CURLY 1 (Node RECORD_FIELD (Node NAME (Leaf IDENT 1 End) (Leaf COLON 1 (Node PATH_TYPE (Node PATH (Node PATH_SEGMENT (Node NAME_REF (Leaf IDENT 1 End) End) End) End) End))) (Leaf R_CURLY 1 End))) End))) End)) End)

core264 : IsCoreFile tokens264 tree264
core264 = record { items = (ItemThen (Function (Public false) false false false (ElementComma (TypedPattern (NamePattern (Mutable false) false) false (ReferenceType false (Mutable false) (PathType (Name false)))) false NoElement) false (Returns false (ReferenceType false (Mutable false) (SliceType false (PathType (Name false)) false))) (Braces false (StatementThen (Run (Binary (Named (Below (Name false) false false)) Pipe false (Named (Name false))) false) (LastExpression (Binary (Literal Text false) LogicalAnd false (Literal FloatNumber true)))) false)) (ItemThen (RecordStruct Private false false false (LastElement (NamedField Private false false (PathType (Name false)))) false) NoItem)); well_formed = (((tt, tt, omega arith, omega arith, refl), (tt, tt, omega arith, omega arith, refl)), (tt, tt)); has_tokens = refl; has_tree = refl }

spaced264 : spaced tree264 (true ∷ []) ≡ tokens264
unfolding spaced_before
spaced264 = refl

abbrev tokens294 : List Token
tokens294 = token PUB_KW EOF false ∷ token FN_KW EOF false ∷ token IDENT IDENT false ∷ token L_PAREN EOF false ∷ token IDENT IDENT false ∷ token COLON EOF false ∷ token COMMA EOF false ∷ token R_PAREN EOF false ∷ token MINUS EOF true ∷ token R_ANGLE EOF false ∷ token IDENT IDENT false ∷ token COLON EOF true ∷ token COLON EOF false ∷ token IDENT IDENT false ∷ token L_CURLY EOF false ∷ token DEFER_KW EOF false ∷ token L_CURLY EOF false ∷ token LET_KW EOF false ∷ token IDENT IDENT false ∷ token EQ EOF false ∷ token TRUE_KW EOF false ∷ token SEMICOLON EOF false ∷ token R_CURLY EOF false ∷ token R_CURLY EOF false ∷ []

abbrev tree294 : Forest
tree294 = (Node SOURCE_FILE (Node FN (Node VISIBILITY (Leaf PUB_KW 1 End) (Leaf FN_KW 1 (Node NAME (Leaf IDENT 1 End) (Node PARAM_LIST (Leaf L_PAREN 1 (Node PARAM (Node IDENT_PAT (Node NAME (Leaf IDENT 1 End) End) (Leaf COLON 1 (Node PATH_TYPE (Node PATH (Node PATH_SEGMENT (Node NAME_REF End End) End) End) End))) (Leaf COMMA 1 (Leaf R_PAREN 1 End)))) (Node RET_TYPE (Leaf THIN_ARROW 2 (Node PATH_TYPE (Node PATH (Node PATH (Node PATH_SEGMENT (Node NAME_REF (Leaf IDENT 1 End) End) End) (Leaf COLON2 2 (Node PATH_SEGMENT (Node NAME_REF (Leaf IDENT 1 End) End) End))) End) End)) (Node BLOCK_EXPR (Node STMT_LIST (Leaf L_CURLY 1 (Node DEFER_STMT (Leaf DEFER_KW 1 (Node BLOCK_EXPR (Node STMT_LIST (Leaf L_CURLY 1 (Node LET_STMT (Leaf LET_KW 1 (Node IDENT_PAT (Node NAME (Leaf IDENT 1 End) End) (Leaf EQ 1 (Node LITERAL (Leaf TRUE_KW 1 End) (Leaf SEMICOLON 1 End))))) (Leaf R_CURLY 1 End))) End) End)) (Leaf R_CURLY 1 End))) End) End)))))) End) End)

other294 : IsCoreFile tokens294 tree294 → ⊥
unfolding meaning by_length by_rank follow look_of begins_below read turns leaf say skip split fresh node wrapped after sees ahead is_end begins passes is_silent shift in_mode from_start there_at rule rank whole row any_of one_of is_longer no_longer longest paths types patterns expressions statements items leaves is_used_up takes_all entry
other294 = read-otherwise tokens294 tree294 refl

spaced294 : spaced tree294 ([]) ≡ tokens294
unfolding spaced_before
spaced294 = refl

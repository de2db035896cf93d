-- Files of a reference implementation, with its inputs and trees: core files, and others of which the tree is no core tree.
-- tools/cases.py writes this file; a lemma's number is the line of its case.
use Rattle.std.proofs.Common.{◌≡◌, ℕ, Bool, true, false, List, [], ◌∷◌, refl, arith}
use Rattle.parser_input.specs.Kinds.{AMP, AMP2, AMPEQ, ARG_LIST, BANG, BIN_EXPR, BLOCK_EXPR, BYTE_STRING, CALL_EXPR, CARET, CARETEQ, CHAR, COLON, COLON2, COMMA, DOT, EOF, EQ, EQ2, EXPR_STMT, FIELD_EXPR, FLOAT_NUMBER, FN, FN_KW, GTEQ, IDENT, IDENT_PAT, INT_NUMBER, ITEM_LIST, LET_KW, LET_STMT, LITERAL, LTEQ, L_ANGLE, L_BRACK, L_CURLY, L_PAREN, METHOD_CALL_EXPR, MINUS, MINUSEQ, MODULE, MOD_KW, MUT_KW, NAME, NAME_REF, NEQ, PARAM, PARAM_LIST, PAREN_EXPR, PATH, PATH_EXPR, PATH_SEGMENT, PATH_TYPE, PERCENT, PERCENTEQ, PIPE, PIPE2, PIPEEQ, PLUS, PLUSEQ, PREFIX_EXPR, PUB_KW, RECORD_FIELD, RECORD_FIELD_LIST, REF_EXPR, REF_TYPE, RET_TYPE, R_ANGLE, R_BRACK, R_CURLY, R_PAREN, SEMICOLON, SHL, SHLEQ, SHR, SHREQ, SLASH, SLASHEQ, SLICE_TYPE, SOURCE_FILE, STAR, STAREQ, STMT_LIST, STRING, STRUCT, STRUCT_KW, THIN_ARROW, TRUE_KW, VISIBILITY}
use Rattle.parser_input.specs.Input.{Token}
use Rattle.parser_events.specs.Forest.{Forest, End, Leaf, Node}
use Rattle.rust_grammar.specs.Rule.{begins, passes, is_silent, shift, in_mode, from_start, there_at}
use Rattle.rust_grammar.specs.Notation.{row, any_of, one_of, is_longer, no_longer, longest}
use Rattle.rust_grammar.specs.Meaning.{meaning, by_length, by_rank, follow, look_of, begins_below, read, turns, leaf, say, skip, split, fresh, node, wrapped, after, sees, ahead, is_end}
use Rattle.rust_grammar.specs.Paths.{paths}
use Rattle.rust_grammar.specs.Types.{types}
use Rattle.rust_grammar.specs.Patterns.{patterns}
use Rattle.rust_grammar.specs.Expressions.{expressions}
use Rattle.rust_grammar.specs.Statements.{statements}
use Rattle.rust_grammar.specs.Items.{items}
use Rattle.rust_grammar.specs.Entry.{leaves, is_used_up, takes_all, entry}
use Rattle.rust_grammar.specs.Whole.{rule, rank, whole}
use Rattle.core_language.specs.Types.{Immutable, Mutable, Name, Below, PathType, ReferenceType, SliceType}
use Rattle.core_language.specs.Operators.{Integer, FloatNumber, Character, Text, ByteText, TrueWord, Negate, Invert, Dereference, LogicalOr, LogicalAnd, Equal, NotEqual, Less, Greater, LessOrEqual, GreaterOrEqual, BitOr, BitXor, BitAnd, ShiftLeft, ShiftRight, Plus, Minus, Times, Remainder, Assign, AssignPlus, AssignMinus, AssignTimes, AssignDivide, AssignRemainder, AssignBitAnd, AssignBitOr, AssignBitXor, AssignShiftLeft, AssignShiftRight}
use Rattle.core_language.specs.Expressions.{Literal, Named, Parenthesized, FunctionCall, MethodCall, FieldAccess, Prefixed, Borrow, Binary, Assignment, NoArgument, LastArgument, ArgumentComma}
use Rattle.core_language.specs.Statements.{NamePattern, NoAnnotation, AnnotatedBy, NoInitializer, InitializedBy, Let, Run, NoStatement, LastExpression, StatementThen, Braces}
use Rattle.core_language.specs.Items.{Private, Public, NoElement, LastElement, ElementComma, NamedField, TypedPattern, NoReturnType, Returns, UnitStruct, RecordStruct, OuterModule, InnerModule, Function, NoItem, ItemThen}
use Rattle.core_language.specs.Language.{IsCoreFile}
use Rattle.core_language.specs.Spaced.{spaced, spaced_before}
use Rattle.core_language.proofs.Otherwise.{read-otherwise}

-- a token, in the reader's words
abbrev token : (kind contextual : ℕ) → Bool → Token
token kind contextual joint = record { kind = kind; contextual = contextual; joint = joint; whole = false }

abbrev tokens3 : List Token
tokens3 = token STRUCT_KW EOF false ∷ token IDENT IDENT false ∷ token SEMICOLON EOF false ∷ []

abbrev tree3 : Forest
tree3 = (Node SOURCE_FILE (Node STRUCT (Leaf STRUCT_KW 1 (Node NAME (Leaf IDENT 1 End) (Leaf SEMICOLON 1 End))) End) End)

core3 : IsCoreFile tokens3 tree3
core3 = record { items = (ItemThen (UnitStruct Private false false false) NoItem); well_formed = (tt, tt); has_tokens = refl; has_tree = refl }

spaced3 : spaced tree3 ([]) ≡ tokens3
unfolding spaced_before
spaced3 = refl

abbrev tokens14 : List Token
tokens14 = token FN_KW EOF false ∷ token IDENT IDENT false ∷ token L_PAREN EOF false ∷ token R_PAREN EOF false ∷ token MINUS EOF true ∷ token R_ANGLE EOF false ∷ token IDENT IDENT false ∷ token L_CURLY EOF false ∷ token IDENT IDENT false ∷ token SEMICOLON EOF false ∷ token IDENT IDENT false ∷ token AMP EOF false ∷ token IDENT IDENT false ∷ token IDENT IDENT false ∷ token SEMICOLON EOF false ∷ token IDENT IDENT false ∷ token R_CURLY EOF false ∷ []

abbrev tree14 : Forest
tree14 = (Node SOURCE_FILE (Node FN (Leaf FN_KW 1 (Node NAME (Leaf IDENT 1 End) (Node PARAM_LIST (Leaf L_PAREN 1 (Leaf R_PAREN 1 End)) (Node RET_TYPE (Leaf THIN_ARROW 2 (Node PATH_TYPE (Node PATH (Node PATH_SEGMENT (Node NAME_REF (Leaf IDENT 1 End) End) End) End) End)) (Node BLOCK_EXPR (Node STMT_LIST (Leaf L_CURLY 1 (Node EXPR_STMT (Node PATH_EXPR (Node PATH (Node PATH_SEGMENT (Node NAME_REF (Leaf IDENT 1 End) End) End) End) (Leaf SEMICOLON 1 End)) (Node EXPR_STMT (Node BIN_EXPR (Node PATH_EXPR (Node PATH (Node PATH_SEGMENT (Node NAME_REF (Leaf IDENT 1 End) End) End) End) (Leaf AMP 1 (Node PATH_EXPR (Node PATH (Node PATH (Node PATH_SEGMENT (Node NAME_REF (Leaf IDENT 1 End) End) End) (Node PATH_SEGMENT (Node NAME_REF (Leaf IDENT 1 End) End) End)) End) End))) (Leaf SEMICOLON 1 End)) (Node PATH_EXPR (Node PATH (Node PATH_SEGMENT (Node NAME_REF (Leaf IDENT 1 End) End) End) End) (Leaf R_CURLY 1 End))))) End) End))))) End) End)

other14 : IsCoreFile tokens14 tree14 → ⊥
unfolding meaning by_length by_rank follow look_of begins_below read turns leaf say skip split fresh node wrapped after sees ahead is_end begins passes is_silent shift in_mode from_start there_at rule rank whole row any_of one_of is_longer no_longer longest paths types patterns expressions statements items leaves is_used_up takes_all entry
other14 = read-otherwise tokens14 tree14 refl

spaced14 : spaced tree14 ([]) ≡ tokens14
unfolding spaced_before
spaced14 = refl

abbrev tokens24 : List Token
tokens24 = token FN_KW EOF false ∷ token IDENT IDENT false ∷ token L_PAREN EOF false ∷ token IDENT IDENT false ∷ token COLON EOF false ∷ token IDENT IDENT false ∷ token R_PAREN EOF false ∷ token MINUS EOF true ∷ token R_ANGLE EOF false ∷ token AMP EOF false ∷ token MUT_KW EOF false ∷ token IDENT IDENT false ∷ token L_CURLY EOF false ∷ token STRING EOF false ∷ token EQ EOF false ∷ token STRING EOF false ∷ token SEMICOLON EOF false ∷ token R_CURLY EOF false ∷ []

abbrev tree24 : Forest
tree24 = (Node SOURCE_FILE (Node FN (Leaf FN_KW 1 (Node NAME (Leaf IDENT 1 End) (Node PARAM_LIST (Leaf L_PAREN 1 (Node PARAM (Node IDENT_PAT (Node NAME (Leaf IDENT 1 End) End) (Leaf COLON 1 (Node PATH_TYPE (Node PATH (Node PATH_SEGMENT (Node NAME_REF (Leaf IDENT 1 End) End) End) End) End))) (Leaf R_PAREN 1 End))) (Node RET_TYPE (Leaf THIN_ARROW 2 (Node REF_TYPE (Leaf AMP 1 (Leaf MUT_KW 1 (Node PATH_TYPE (Node PATH (Node PATH_SEGMENT (Node NAME_REF (Leaf IDENT 1 End) End) End) End) End))) End)) (Node BLOCK_EXPR (Node STMT_LIST (Leaf L_CURLY 1 (Node EXPR_STMT (Node BIN_EXPR (Node LITERAL (Leaf STRING 1 End) (Leaf EQ 1 (Node LITERAL (Leaf STRING 1 End) End))) (Leaf SEMICOLON 1 End)) (Leaf R_CURLY 1 End))) End) End))))) End) End)

core24 : IsCoreFile tokens24 tree24
core24 = record { items = (ItemThen (Function Private false false false (LastElement (TypedPattern (NamePattern Immutable false) false (PathType (Name false)))) false (Returns false (ReferenceType false (Mutable false) (PathType (Name false)))) (Braces false (StatementThen (Run (Assignment (Literal Text false) Assign false (Literal Text false)) false) NoStatement) false)) NoItem); well_formed = (((tt, tt, omega arith), tt), tt); has_tokens = refl; has_tree = refl }

spaced24 : spaced tree24 ([]) ≡ tokens24
unfolding spaced_before
spaced24 = refl

abbrev tokens42 : List Token
tokens42 = token FN_KW EOF false ∷ token IDENT IDENT false ∷ token L_PAREN EOF false ∷ token R_PAREN EOF false ∷ token L_CURLY EOF false ∷ token FLOAT_NUMBER EOF false ∷ token L_ANGLE EOF true ∷ token L_ANGLE EOF true ∷ token EQ EOF false ∷ token IDENT IDENT false ∷ token COLON EOF true ∷ token COLON EOF false ∷ token IDENT IDENT false ∷ token SEMICOLON EOF false ∷ token R_CURLY EOF false ∷ []

abbrev tree42 : Forest
tree42 = (Node SOURCE_FILE (Node FN (Leaf FN_KW 1 (Node NAME (Leaf IDENT 1 End) (Node PARAM_LIST (Leaf L_PAREN 1 (Leaf R_PAREN 1 End)) (Node BLOCK_EXPR (Node STMT_LIST (Leaf L_CURLY 1 (Node EXPR_STMT (Node BIN_EXPR (Node LITERAL (Leaf FLOAT_NUMBER 1 End) (Leaf SHLEQ 3 (Node PATH_EXPR (Node PATH (Node PATH (Node PATH_SEGMENT (Node NAME_REF (Leaf IDENT 1 End) End) End) (Leaf COLON2 2 (Node PATH_SEGMENT (Node NAME_REF (Leaf IDENT 1 End) End) End))) End) End))) (Leaf SEMICOLON 1 End)) (Leaf R_CURLY 1 End))) End) End)))) End) End)

core42 : IsCoreFile tokens42 tree42
core42 = record { items = (ItemThen (Function Private false false false NoElement false NoReturnType (Braces false (StatementThen (Run (Assignment (Literal FloatNumber false) AssignShiftLeft false (Named (Below (Name false) false false))) false) NoStatement) false)) NoItem); well_formed = (((tt, tt, omega arith), tt), tt); has_tokens = refl; has_tree = refl }

spaced42 : spaced tree42 (false ∷ []) ≡ tokens42
unfolding spaced_before
spaced42 = refl

abbrev tokens49 : List Token
tokens49 = token FN_KW EOF false ∷ token IDENT IDENT false ∷ token L_PAREN EOF false ∷ token MUT_KW EOF false ∷ token IDENT IDENT false ∷ token IDENT IDENT false ∷ token COMMA EOF false ∷ token R_PAREN EOF false ∷ token L_CURLY EOF false ∷ token STRING EOF false ∷ token SEMICOLON EOF false ∷ token STRING EOF false ∷ token DOT EOF false ∷ token IDENT IDENT false ∷ token R_CURLY EOF false ∷ []

abbrev tree49 : Forest
tree49 = (Node SOURCE_FILE (Node FN (Leaf FN_KW 1 (Node NAME (Leaf IDENT 1 End) (Node PARAM_LIST (Leaf L_PAREN 1 (Node PARAM (Node IDENT_PAT (Leaf MUT_KW 1 (Node NAME (Leaf IDENT 1 End) End)) (Node PATH_TYPE (Node PATH (Node PATH_SEGMENT (Node NAME_REF (Leaf IDENT 1 End) End) End) End) End)) (Leaf COMMA 1 (Leaf R_PAREN 1 End)))) (Node BLOCK_EXPR (Node STMT_LIST (Leaf L_CURLY 1 (Node EXPR_STMT (Node LITERAL (Leaf STRING 1 End) (Leaf SEMICOLON 1 End)) (Node FIELD_EXPR (Node LITERAL (Leaf STRING 1 End) (Leaf DOT 1 (Node NAME_REF (Leaf IDENT 1 End) End))) (Leaf R_CURLY 1 End)))) End) End)))) End) End)

other49 : IsCoreFile tokens49 tree49 → ⊥
unfolding meaning by_length by_rank follow look_of begins_below read turns leaf say skip split fresh node wrapped after sees ahead is_end begins passes is_silent shift in_mode from_start there_at rule rank whole row any_of one_of is_longer no_longer longest paths types patterns expressions statements items leaves is_used_up takes_all entry
other49 = read-otherwise tokens49 tree49 refl

spaced49 : spaced tree49 ([]) ≡ tokens49
unfolding spaced_before
spaced49 = refl

abbrev tokens72 : List Token
tokens72 = token MOD_KW EOF false ∷ token IDENT IDENT false ∷ token SEMICOLON EOF false ∷ []

abbrev tree72 : Forest
tree72 = (Node SOURCE_FILE (Node MODULE (Leaf MOD_KW 1 (Node NAME (Leaf IDENT 1 End) (Leaf SEMICOLON 1 End))) End) End)

core72 : IsCoreFile tokens72 tree72
core72 = record { items = (ItemThen (OuterModule Private false false false) NoItem); well_formed = (tt, tt); has_tokens = refl; has_tree = refl }

spaced72 : spaced tree72 ([]) ≡ tokens72
unfolding spaced_before
spaced72 = refl

abbrev tokens93 : List Token
tokens93 = token FN_KW EOF false ∷ token IDENT IDENT false ∷ token L_PAREN EOF false ∷ token MUT_KW EOF false ∷ token IDENT IDENT false ∷ token COLON EOF false ∷ token IDENT IDENT false ∷ token COMMA EOF false ∷ token IDENT IDENT false ∷ token COLON EOF false ∷ token IDENT IDENT false ∷ token R_PAREN EOF false ∷ token L_CURLY EOF false ∷ token IDENT IDENT false ∷ token COLON EOF true ∷ token COLON EOF false ∷ token IDENT IDENT false ∷ token SEMICOLON EOF false ∷ token L_PAREN EOF false ∷ token IDENT IDENT false ∷ token COLON EOF true ∷ token COLON EOF false ∷ token IDENT IDENT false ∷ token DOT EOF false ∷ token IDENT IDENT false ∷ token L_PAREN EOF false ∷ token IDENT IDENT false ∷ token COLON EOF true ∷ token COLON EOF false ∷ token IDENT IDENT false ∷ token R_PAREN EOF false ∷ token R_PAREN EOF false ∷ token L_ANGLE EOF false ∷ token FLOAT_NUMBER EOF true ∷ token EQ EOF false ∷ token FLOAT_NUMBER EOF false ∷ token SEMICOLON EOF false ∷ token STRING EOF false ∷ token R_CURLY EOF false ∷ []

abbrev tree93 : Forest
tree93 = (Node SOURCE_FILE (Node FN (Leaf FN_KW 1 (Node NAME (Leaf IDENT 1 End) (Node PARAM_LIST (Leaf L_PAREN 1 (Node PARAM (Node IDENT_PAT (Leaf MUT_KW 1 (Node NAME (Leaf IDENT 1 End) End)) (Leaf COLON 1 (Node PATH_TYPE (Node PATH (Node PATH_SEGMENT (Node NAME_REF (Leaf IDENT 1 End) End) End) End) End))) (Leaf COMMA 1 (Node PARAM (Node IDENT_PAT (Node NAME (Leaf IDENT 1 End) End) (Leaf COLON 1 (Node PATH_TYPE (Node PATH (Node PATH_SEGMENT (Node NAME_REF (Leaf IDENT 1 End) End) End) End) End))) (Leaf R_PAREN 1 End))))) (Node BLOCK_EXPR (Node STMT_LIST (Leaf L_CURLY 1 (Node EXPR_STMT (Node PATH_EXPR (Node PATH (Node PATH (Node PATH_SEGMENT (Node NAME_REF (Leaf IDENT 1 End) End) End) (Leaf COLON2 2 (Node PATH_SEGMENT (Node NAME_REF (Leaf IDENT 1 End) End) End))) End) (Leaf SEMICOLON 1 End)) (Node EXPR_STMT (Node BIN_EXPR (Node PAREN_EXPR (Leaf L_PAREN 1 (Node METHOD_CALL_EXPR (Node PATH_EXPR (Node PATH (Node PATH (Node PATH_SEGMENT (Node NAME_REF (Leaf IDENT 1 End) End) End) (Leaf COLON2 2 (Node PATH_SEGMENT (Node NAME_REF (Leaf IDENT 1 End) End) End))) End) (Leaf DOT 1 (Node NAME_REF (Leaf IDENT 1 End) (Node ARG_LIST (Leaf L_PAREN 1 (Node PATH_EXPR (Node PATH (Node PATH (Node PATH_SEGMENT (Node NAME_REF (Leaf IDENT 1 End) End) End) (Leaf COLON2 2 (Node PATH_SEGMENT (Node NAME_REF (Leaf IDENT 1 End) End) End))) End) (Leaf R_PAREN 1 End))) End)))) (Leaf R_PAREN 1 End))) (Leaf L_ANGLE 1 (Node BIN_EXPR (Node LITERAL (Leaf FLOAT_NUMBER 1 End) (Leaf EQ 1 (Node LITERAL (Leaf FLOAT_NUMBER 1 End) End))) End))) (Leaf SEMICOLON 1 End)) (Node LITERAL (Leaf STRING 1 End) (Leaf R_CURLY 1 End))))) End) End)))) End) End)

other93 : IsCoreFile tokens93 tree93 → ⊥
unfolding meaning by_length by_rank follow look_of begins_below read turns leaf say skip split fresh node wrapped after sees ahead is_end begins passes is_silent shift in_mode from_start there_at rule rank whole row any_of one_of is_longer no_longer longest paths types patterns expressions statements items leaves is_used_up takes_all entry
other93 = read-otherwise tokens93 tree93 refl

spaced93 : spaced tree93 (true ∷ false ∷ []) ≡ tokens93
unfolding spaced_before
spaced93 = refl

abbrev tokens106 : List Token
tokens106 = token FN_KW EOF false ∷ token IDENT IDENT false ∷ token L_PAREN EOF false ∷ token IDENT IDENT false ∷ token COLON EOF false ∷ token IDENT IDENT false ∷ token COMMA EOF false ∷ token R_PAREN EOF false ∷ token L_CURLY EOF false ∷ token MINUS EOF false ∷ token IDENT IDENT false ∷ token COLON EOF true ∷ token COLON EOF false ∷ token IDENT IDENT false ∷ token CARET EOF true ∷ token EQ EOF false ∷ token IDENT IDENT false ∷ token STAR EOF false ∷ token IDENT IDENT false ∷ token SEMICOLON EOF false ∷ token FLOAT_NUMBER EOF true ∷ token R_CURLY EOF false ∷ []

abbrev tree106 : Forest
tree106 = (Node SOURCE_FILE (Node FN (Leaf FN_KW 1 (Node NAME (Leaf IDENT 1 End) (Node PARAM_LIST (Leaf L_PAREN 1 (Node PARAM (Node IDENT_PAT (Node NAME (Leaf IDENT 1 End) End) (Leaf COLON 1 (Node PATH_TYPE (Node PATH (Node PATH_SEGMENT (Node NAME_REF (Leaf IDENT 1 End) End) End) End) End))) (Leaf COMMA 1 (Leaf R_PAREN 1 End)))) (Node BLOCK_EXPR (Node STMT_LIST (Leaf L_CURLY 1 (Node EXPR_STMT (Node BIN_EXPR (Node PREFIX_EXPR (Leaf MINUS 1 (Node PATH_EXPR (Node PATH (Node PATH (Node PATH_SEGMENT (Node NAME_REF (Leaf IDENT 1 End) End) End) (Leaf COLON2 2 (Node PATH_SEGMENT (Node NAME_REF (Leaf IDENT 1 End) End) End))) End) End)) (Leaf CARETEQ 2 (Node BIN_EXPR (Node PATH_EXPR (Node PATH (Node PATH_SEGMENT (Node NAME_REF (Leaf IDENT 1 End) End) End) End) (Leaf STAR 1 (Node PATH_EXPR (Node PATH (Node PATH_SEGMENT (Node NAME_REF (Leaf IDENT 1 End) End) End) End) End))) End))) (Leaf SEMICOLON 1 End)) (Node LITERAL (Leaf FLOAT_NUMBER 1 End) (Leaf R_CURLY 1 End)))) End) End)))) End) End)

core106 : IsCoreFile tokens106 tree106
core106 = record { items = (ItemThen (Function Private false false false (ElementComma (TypedPattern (NamePattern Immutable false) false (PathType (Name false))) false NoElement) false NoReturnType (Braces false (StatementThen (Run (Assignment (Prefixed Negate false (Named (Below (Name false) false false))) AssignBitXor false (Binary (Named (Name false)) Times false (Named (Name false)))) false) (LastExpression (Literal FloatNumber true))) false)) NoItem); well_formed = ((((tt, omega arith), (tt, tt, omega arith, omega arith, refl), omega arith), tt), tt); has_tokens = refl; has_tree = refl }

spaced106 : spaced tree106 (true ∷ []) ≡ tokens106
unfolding spaced_before
spaced106 = refl

abbrev tokens131 : List Token
tokens131 = token FN_KW EOF false ∷ token IDENT IDENT false ∷ token L_PAREN EOF false ∷ token R_PAREN EOF false ∷ token L_CURLY EOF false ∷ token IDENT IDENT false ∷ token COLON EOF true ∷ token COLON EOF false ∷ token IDENT IDENT false ∷ token SEMICOLON EOF false ∷ token CHAR EOF false ∷ token BANG EOF true ∷ token EQ EOF false ∷ token INT_NUMBER EOF false ∷ token SEMICOLON EOF false ∷ token R_CURLY EOF false ∷ []

abbrev tree131 : Forest
tree131 = (Node SOURCE_FILE (Node FN (Leaf FN_KW 1 (Node NAME (Leaf IDENT 1 End) (Node PARAM_LIST (Leaf L_PAREN 1 (Leaf R_PAREN 1 End)) (Node BLOCK_EXPR (Node STMT_LIST (Leaf L_CURLY 1 (Node EXPR_STMT (Node PATH_EXPR (Node PATH (Node PATH (Node PATH_SEGMENT (Node NAME_REF (Leaf IDENT 1 End) End) End) (Leaf COLON2 2 (Node PATH_SEGMENT (Node NAME_REF (Leaf IDENT 1 End) End) End))) End) (Leaf SEMICOLON 1 End)) (Node EXPR_STMT (Node BIN_EXPR (Node LITERAL (Leaf CHAR 1 End) (Leaf NEQ 2 (Node LITERAL (Leaf INT_NUMBER 1 End) End))) (Leaf SEMICOLON 1 End)) (Leaf R_CURLY 1 End)))) End) End)))) End) End)

core131 : IsCoreFile tokens131 tree131
core131 = record { items = (ItemThen (Function Private false false false NoElement false NoReturnType (Braces false (StatementThen (Run (Named (Below (Name false) false false)) false) (StatementThen (Run (Binary (Literal Character false) NotEqual false (Literal Integer false)) false) NoStatement)) false)) NoItem); well_formed = ((tt, ((tt, tt, omega arith, omega arith, refl), tt)), tt); has_tokens = refl; has_tree = refl }

spaced131 : spaced tree131 ([]) ≡ tokens131
unfolding spaced_before
spaced131 = refl

abbrev tokens132 : List Token
tokens132 = token FN_KW EOF false ∷ token IDENT IDENT false ∷ token L_PAREN EOF false ∷ token R_PAREN EOF false ∷ token MINUS EOF true ∷ token R_ANGLE EOF false ∷ token AMP EOF false ∷ token IDENT IDENT false ∷ token L_CURLY EOF false ∷ token LET_KW EOF false ∷ token IDENT IDENT false ∷ token EQ EOF false ∷ token IDENT IDENT false ∷ token COLON EOF true ∷ token COLON EOF false ∷ token IDENT IDENT false ∷ token R_ANGLE EOF false ∷ token IDENT IDENT false ∷ token DOT EOF false ∷ token IDENT IDENT false ∷ token DOT EOF false ∷ token IDENT IDENT false ∷ token SEMICOLON EOF false ∷ token R_CURLY EOF false ∷ []

abbrev tree132 : Forest
tree132 = (Node SOURCE_FILE (Node FN (Leaf FN_KW 1 (Node NAME (Leaf IDENT 1 End) (Node PARAM_LIST (Leaf L_PAREN 1 (Leaf R_PAREN 1 End)) (Node RET_TYPE (Leaf THIN_ARROW 2 (Node REF_TYPE (Leaf AMP 1 (Node PATH_TYPE (Node PATH (Node PATH_SEGMENT (Node NAME_REF (Leaf IDENT 1 End) End) End) End) End)) End)) (Node BLOCK_EXPR (Node STMT_LIST (Leaf L_CURLY 1 (Node LET_STMT (Leaf LET_KW 1 (Node IDENT_PAT (Node NAME (Leaf IDENT 1 End) End) (Leaf EQ 1 (Node BIN_EXPR (Node PATH_EXPR (Node PATH (Node PATH (Node PATH_SEGMENT (Node NAME_REF (Leaf IDENT 1 End) End) End) (Leaf COLON2 2 (Node PATH_SEGMENT (Node NAME_REF (Leaf IDENT 1 End) End) End))) End) (Leaf R_ANGLE 1 (Node FIELD_EXPR (Node FIELD_EXPR (Node PATH_EXPR (Node PATH (Node PATH_SEGMENT (Node NAME_REF (Leaf IDENT 1 End) End) End) End) (Leaf DOT 1 (Node NAME_REF (Leaf IDENT 1 End) End))) (Leaf DOT 1 (Node NAME_REF (Leaf IDENT 1 End) End))) End))) (Leaf SEMICOLON 1 End))))) (Leaf R_CURLY 1 End))) End) End))))) End) End)

core132 : IsCoreFile tokens132 tree132
core132 = record { items = (ItemThen (Function Private false false false NoElement false (Returns false (ReferenceType false Immutable (PathType (Name false)))) (Braces false (StatementThen (Let false (NamePattern Immutable false) NoAnnotation (InitializedBy false (Binary (Named (Below (Name false) false false)) Greater false (FieldAccess (FieldAccess (Named (Name false)) false false) false false))) false) NoStatement) false)) NoItem); well_formed = (((tt, ((tt, omega arith), omega arith), omega arith, omega arith, refl), tt), tt); has_tokens = refl; has_tree = refl }

spaced132 : spaced tree132 ([]) ≡ tokens132
unfolding spaced_before
spaced132 = refl

abbrev tokens140 : List Token
tokens140 = token STRUCT_KW EOF false ∷ token IDENT IDENT false ∷ token L_CURLY EOF false ∷ token IDENT IDENT false ∷ token COLON EOF false ∷ token AMP EOF false ∷ token IDENT IDENT false ∷ token R_CURLY EOF false ∷ token FN_KW EOF false ∷ token IDENT IDENT false ∷ token L_PAREN EOF false ∷ token R_PAREN EOF false ∷ token L_CURLY EOF false ∷ token IDENT IDENT false ∷ token STAR EOF true ∷ token EQ EOF false ∷ token IDENT IDENT false ∷ token DOT EOF false ∷ token IDENT IDENT false ∷ token L_PAREN EOF false ∷ token R_PAREN EOF false ∷ token SEMICOLON EOF false ∷ token R_CURLY EOF false ∷ []

abbrev tree140 : Forest
tree140 = (Node SOURCE_FILE (Node STRUCT (Leaf STRUCT_KW 1 (Node NAME (Leaf IDENT 1 End) (Node RECORD_FIELD_LIST (Leaf L_CURLY 1 (Node RECORD_FIELD (Node NAME (Leaf IDENT 1 End) (Leaf COLON 1 (Node REF_TYPE (Leaf AMP 1 (Node PATH_TYPE (Node PATH (Node PATH_SEGMENT (Node NAME_REF (Leaf IDENT 1 End) End) End) End) End)) End))) (Leaf R_CURLY 1 End))) End))) (Node FN (Leaf FN_KW 1 (Node NAME (Leaf IDENT 1 End) (Node PARAM_LIST (Leaf L_PAREN 1 (Leaf R_PAREN 1 End)) (Node BLOCK_EXPR (Node STMT_LIST (Leaf L_CURLY 1 (Node EXPR_STMT (Node BIN_EXPR (Node PATH_EXPR (Node PATH (Node PATH_SEGMENT (Node NAME_REF (Leaf IDENT 1 End) End) End) End) (Leaf STAREQ 2 (Node METHOD_CALL_EXPR (Node PATH_EXPR (Node PATH (Node PATH_SEGMENT (Node NAME_REF (Leaf IDENT 1 End) End) End) End) (Leaf DOT 1 (Node NAME_REF (Leaf IDENT 1 End) (Node ARG_LIST (Leaf L_PAREN 1 (Leaf R_PAREN 1 End)) End)))) End))) (Leaf SEMICOLON 1 End)) (Leaf R_CURLY 1 End))) End) End)))) End)) End)

core140 : IsCoreFile tokens140 tree140
core140 = record { items = (ItemThen (RecordStruct Private false false false (LastElement (NamedField Private false false (ReferenceType false Immutable (PathType (Name false))))) false) (ItemThen (Function Private false false false NoElement false NoReturnType (Braces false (StatementThen (Run (Assignment (Named (Name false)) AssignTimes false (MethodCall (Named (Name false)) false false false NoArgument false)) false) NoStatement) false)) NoItem)); well_formed = (tt, (((tt, (tt, omega arith, tt), omega arith), tt), tt)); has_tokens = refl; has_tree = refl }

spaced140 : spaced tree140 ([]) ≡ tokens140
unfolding spaced_before
spaced140 = refl

abbrev tokens160 : List Token
tokens160 = token PUB_KW EOF false ∷ token FN_KW EOF false ∷ token IDENT IDENT false ∷ token L_PAREN EOF false ∷ token MUT_KW EOF false ∷ token IDENT IDENT false ∷ token COLON EOF false ∷ token AMP EOF false ∷ token MUT_KW EOF false ∷ token IDENT IDENT false ∷ token R_PAREN EOF false ∷ token L_CURLY EOF false ∷ token LET_KW EOF false ∷ token IDENT IDENT false ∷ token EQ EOF false ∷ token AMP EOF false ∷ token IDENT IDENT false ∷ token SEMICOLON EOF false ∷ token FLOAT_NUMBER EOF true ∷ token PERCENT EOF false ∷ token IDENT IDENT false ∷ token COLON EOF true ∷ token COLON EOF false ∷ token IDENT IDENT false ∷ token SEMICOLON EOF false ∷ token R_CURLY EOF false ∷ token PUB_KW EOF false ∷ token STRUCT_KW EOF false ∷ token IDENT IDENT false ∷ token SEMICOLON EOF false ∷ []

abbrev tree160 : Forest
tree160 = (Node SOURCE_FILE (Node FN (Node VISIBILITY (Leaf PUB_KW 1 End) (Leaf FN_KW 1 (Node NAME (Leaf IDENT 1 End) (Node PARAM_LIST (Leaf L_PAREN 1 (Node PARAM (Node IDENT_PAT (Leaf MUT_KW 1 (Node NAME (Leaf IDENT 1 End) End)) (Leaf COLON 1 (Node REF_TYPE (Leaf AMP 1 (Leaf MUT_KW 1 (Node PATH_TYPE (Node PATH (Node PATH_SEGMENT (Node NAME_REF (Leaf IDENT 1 End) End) End) End) End))) End))) (Leaf R_PAREN 1 End))) (Node BLOCK_EXPR (Node STMT_LIST (Leaf L_CURLY 1 (Node LET_STMT (Leaf LET_KW 1 (Node IDENT_PAT (Node NAME (Leaf IDENT 1 End) End) (Leaf EQ 1 (Node REF_EXPR (Leaf AMP 1 (Node PATH_EXPR (Node PATH (Node PATH_SEGMENT (Node NAME_REF (Leaf IDENT 1 End) End) End) End) End)) (Leaf SEMICOLON 1 End))))) (Node EXPR_STMT (Node BIN_EXPR (Node LITERAL (Leaf FLOAT_NUMBER 1 End) (Leaf PERCENT 1 (Node PATH_EXPR (Node PATH (Node PATH (Node PATH_SEGMENT (Node NAME_REF (Leaf IDENT 1 End) End) End) (Leaf COLON2 2 (Node PATH_SEGMENT (Node NAME_REF (Leaf IDENT 1 End) End) End))) End) End))) (Leaf SEMICOLON 1 End)) (Leaf R_CURLY 1 End)))) End) End))))) (Node STRUCT (Node VISIBILITY (Leaf PUB_KW 1 End) (Leaf STRUCT_KW 1 (Node NAME (Leaf IDENT 1 End) (Leaf SEMICOLON 1 End)))) End)) End)

core160 : IsCoreFile tokens160 tree160
core160 = record { items = (ItemThen (Function (Public false) false false false (LastElement (TypedPattern (NamePattern (Mutable false) false) false (ReferenceType false (Mutable false) (PathType (Name false))))) false NoReturnType (Braces false (StatementThen (Let false (NamePattern Immutable false) NoAnnotation (InitializedBy false (Borrow false Immutable (Named (Name false)))) false) (StatementThen (Run (Binary (Literal FloatNumber true) Remainder false (Named (Below (Name false) false false))) false) NoStatement)) false)) (ItemThen (UnitStruct (Public false) false false false) NoItem)); well_formed = (((tt, omega arith), ((tt, tt, omega arith, omega arith, refl), tt)), (tt, tt)); has_tokens = refl; has_tree = refl }

spaced160 : spaced tree160 (true ∷ []) ≡ tokens160
unfolding spaced_before
spaced160 = refl

abbrev tokens196 : List Token
tokens196 = token FN_KW EOF false ∷ token IDENT IDENT false ∷ token L_PAREN EOF false ∷ token R_PAREN EOF false ∷ token L_CURLY EOF false ∷ token STRING EOF false ∷ token PLUS EOF false ∷ token IDENT IDENT false ∷ token COLON EOF true ∷ token COLON EOF false ∷ token IDENT IDENT false ∷ token COLON EOF true ∷ token COLON EOF false ∷ token IDENT IDENT false ∷ token SEMICOLON EOF false ∷ token AMP EOF false ∷ token MUT_KW EOF false ∷ token IDENT IDENT false ∷ token R_CURLY EOF false ∷ token FN_KW EOF false ∷ token IDENT IDENT false ∷ token L_PAREN EOF false ∷ token R_PAREN EOF false ∷ token L_CURLY EOF false ∷ token LET_KW EOF false ∷ token MUT_KW EOF false ∷ token IDENT IDENT false ∷ token SEMICOLON EOF false ∷ token IDENT IDENT false ∷ token R_CURLY EOF false ∷ []

abbrev tree196 : Forest
tree196 = (Node SOURCE_FILE (Node FN (Leaf FN_KW 1 (Node NAME (Leaf IDENT 1 End) (Node PARAM_LIST (Leaf L_PAREN 1 (Leaf R_PAREN 1 End)) (Node BLOCK_EXPR (Node STMT_LIST (Leaf L_CURLY 1 (Node EXPR_STMT (Node BIN_EXPR (Node LITERAL (Leaf STRING 1 End) (Leaf PLUS 1 (Node PATH_EXPR (Node PATH (Node PATH (Node PATH (Node PATH_SEGMENT (Node NAME_REF (Leaf IDENT 1 End) End) End) (Leaf COLON2 2 (Node PATH_SEGMENT (Node NAME_REF (Leaf IDENT 1 End) End) End))) (Leaf COLON2 2 (Node PATH_SEGMENT (Node NAME_REF (Leaf IDENT 1 End) End) End))) End) End))) (Leaf SEMICOLON 1 End)) (Node REF_EXPR (Leaf AMP 1 (Leaf MUT_KW 1 (Node PATH_EXPR (Node PATH (Node PATH_SEGMENT (Node NAME_REF (Leaf IDENT 1 End) End) End) End) End))) (Leaf R_CURLY 1 End)))) End) End)))) (Node FN (Leaf FN_KW 1 (Node NAME (Leaf IDENT 1 End) (Node PARAM_LIST (Leaf L_PAREN 1 (Leaf R_PAREN 1 End)) (Node BLOCK_EXPR (Node STMT_LIST (Leaf L_CURLY 1 (Node LET_STMT (Leaf LET_KW 1 (Node IDENT_PAT (Leaf MUT_KW 1 (Node NAME (Leaf IDENT 1 End) End)) (Leaf SEMICOLON 1 End))) (Node PATH_EXPR (Node PATH (Node PATH_SEGMENT (Node NAME_REF (Leaf IDENT 1 End) End) End) End) (Leaf R_CURLY 1 End)))) End) End)))) End)) End)

core196 : IsCoreFile tokens196 tree196
core196 = record { items = (ItemThen (Function Private false false false NoElement false NoReturnType (Braces false (StatementThen (Run (Binary (Literal Text false) Plus false (Named (Below (Below (Name false) false false) false false))) false) (LastExpression (Borrow false (Mutable false) (Named (Name false))))) false)) (ItemThen (Function Private false false false NoElement false NoReturnType (Braces false (StatementThen (Let false (NamePattern (Mutable false) false) NoAnnotation NoInitializer false) (LastExpression (Named (Name false)))) false)) NoItem)); well_formed = (((tt, tt, omega arith, omega arith, refl), (tt, omega arith)), ((tt, tt), tt)); has_tokens = refl; has_tree = refl }

spaced196 : spaced tree196 ([]) ≡ tokens196
unfolding spaced_before
spaced196 = refl

abbrev tokens302 : List Token
tokens302 = token FN_KW EOF false ∷ token IDENT IDENT false ∷ token L_PAREN EOF false ∷ token R_PAREN EOF false ∷ token MINUS EOF true ∷ token R_ANGLE EOF false ∷ token AMP EOF false ∷ token MUT_KW EOF false ∷ token IDENT IDENT false ∷ token L_CURLY EOF false ∷ token AMP EOF false ∷ token MUT_KW EOF false ∷ token L_PAREN EOF false ∷ token IDENT IDENT false ∷ token COLON EOF true ∷ token COLON EOF false ∷ token IDENT IDENT false ∷ token R_PAREN EOF false ∷ token AMP EOF false ∷ token BANG EOF false ∷ token IDENT IDENT false ∷ token DOT EOF false ∷ token IDENT IDENT false ∷ token L_PAREN EOF false ∷ token IDENT IDENT false ∷ token R_PAREN EOF false ∷ token SEMICOLON EOF false ∷ token FLOAT_NUMBER EOF true ∷ token DOT EOF false ∷ token IDENT IDENT false ∷ token L_PAREN EOF false ∷ token IDENT IDENT false ∷ token R_PAREN EOF false ∷ token DOT EOF false ∷ token IDENT IDENT false ∷ token L_PAREN EOF false ∷ token R_PAREN EOF false ∷ token DOT EOF false ∷ token IDENT IDENT false ∷ token L_PAREN EOF false ∷ token R_PAREN EOF false ∷ token SEMICOLON EOF false ∷ token L_PAREN EOF false ∷ token IDENT IDENT false ∷ token R_PAREN EOF false ∷ token BANG EOF true ∷ token EQ EOF false ∷ token IDENT IDENT false ∷ token DOT EOF false ∷ token IDENT IDENT false ∷ token L_PAREN EOF false ∷ token FLOAT_NUMBER EOF false ∷ token COMMA EOF false ∷ token FLOAT_NUMBER EOF true ∷ token R_PAREN EOF false ∷ token SLASH EOF true ∷ token EQ EOF false ∷ token IDENT IDENT false ∷ token COLON EOF true ∷ token COLON EOF false ∷ token IDENT IDENT false ∷ token PIPE EOF true ∷ token PIPE EOF false ∷ token STRING EOF false ∷ token R_ANGLE EOF true ∷ token R_ANGLE EOF true ∷ token EQ EOF false ∷ token AMP EOF false ∷ token MUT_KW EOF false ∷ token INT_NUMBER EOF false ∷ token R_CURLY EOF false ∷ []

abbrev tree302 : Forest
tree302 = (Node SOURCE_FILE (Node FN (Leaf FN_KW 1 (Node NAME (Leaf IDENT 1 End) (Node PARAM_LIST (Leaf L_PAREN 1 (Leaf R_PAREN 1 End)) (Node RET_TYPE (Leaf THIN_ARROW 2 (Node REF_TYPE (Leaf AMP 1 (Leaf MUT_KW 1 (Node PATH_TYPE (Node PATH (Node PATH_SEGMENT (Node NAME_REF (Leaf IDENT 1 End) End) End) End) End))) End)) (Node BLOCK_EXPR (Node STMT_LIST (Leaf L_CURLY 1 (Node EXPR_STMT (Node BIN_EXPR (Node REF_EXPR (Leaf AMP 1 (Leaf MUT_KW 1 (Node PAREN_EXPR (Leaf L_PAREN 1 (Node PATH_EXPR (Node PATH (Node PATH (Node PATH_SEGMENT (Node NAME_REF (Leaf IDENT 1 End) End) End) (Leaf COLON2 2 (Node PATH_SEGMENT (Node NAME_REF (Leaf IDENT 1 End) End) End))) End) (Leaf R_PAREN 1 End))) End))) (Leaf AMP 1 (Node PREFIX_EXPR (Leaf BANG 1 (Node METHOD_CALL_EXPR (Node PATH_EXPR (Node PATH (Node PATH_SEGMENT (Node NAME_REF (Leaf IDENT 1 End) End) End) End) (Leaf DOT 1 (Node NAME_REF (Leaf IDENT 1 End) (Node ARG_LIST (Leaf L_PAREN 1 (Node PATH_EXPR (Node PATH (Node PATH_SEGMENT (Node NAME_REF (Leaf IDENT 1 End) End) End) End) (Leaf R_PAREN 1 End))) End)))) End)) End))) (Leaf SEMICOLON 1 End)) (Node EXPR_STMT (Node METHOD_CALL_EXPR (Node METHOD_CALL_EXPR (Node METHOD_CALL_EXPR (Node LITERAL (Leaf FLOAT_NUMBER 1 End) (Leaf DOT 1 (Node NAME_REF (Leaf IDENT 1 End) (Node ARG_LIST (Leaf L_PAREN 1 (Node PATH_EXPR (Node PATH (Node PATH_SEGMENT (Node NAME_REF (Leaf IDENT 1 End) End) End) End) (Leaf R_PAREN 1 End))) End)))) (Leaf DOT 1 (Node NAME_REF (Leaf IDENT 1 End) (Node ARG_LIST (Leaf L_PAREN 1 (Leaf R_PAREN 1 End)) End)))) (Leaf DOT 1 (Node NAME_REF (Leaf IDENT 1 End) (Node ARG_LIST (Leaf L_PAREN 1 (Leaf R_PAREN 1 End)) End)))) (Leaf SEMICOLON 1 End)) (Node BIN_EXPR (Node BIN_EXPR (Node PAREN_EXPR (Leaf L_PAREN 1 (Node PATH_EXPR (Node PATH (Node PATH_SEGMENT (Node NAME_REF (Leaf IDENT 1 End) End) End) End) (Leaf R_PAREN 1 End))) (Leaf NEQ 2 (Node METHOD_CALL_EXPR (Node PATH_EXPR (Node PATH (Node PATH_SEGMENT (Node NAME_REF (Leaf IDENT 1 End) End) End) End) (Leaf DOT 1 (Node NAME_REF (Leaf IDENT 1 End) (Node ARG_LIST (Leaf L_PAREN 1 (Node LITERAL (Leaf FLOAT_NUMBER 1 End) (Leaf COMMA 1 (Node LITERAL (Leaf FLOAT_NUMBER 1 End) (Leaf R_PAREN 1 End))))) End)))) End))) (Leaf SLASHEQ 2 (Node BIN_EXPR (Node BIN_EXPR (Node PATH_EXPR (Node PATH (Node PATH (Node PATH_SEGMENT (Node NAME_REF (Leaf IDENT 1 End) End) End) (Leaf COLON2 2 (Node PATH_SEGMENT (Node NAME_REF (Leaf IDENT 1 End) End) End))) End) (Leaf PIPE2 2 (Node LITERAL (Leaf STRING 1 End) End))) (Leaf SHREQ 3 (Node REF_EXPR (Leaf AMP 1 (Leaf MUT_KW 1 (Node LITERAL (Leaf INT_NUMBER 1 End) End))) End))) End))) (Leaf R_CURLY 1 End))))) End) End))))) End) End)

core302 : IsCoreFile tokens302 tree302
core302 = record { items = (ItemThen (Function Private false false false NoElement false (Returns false (ReferenceType false (Mutable false) (PathType (Name false)))) (Braces false (StatementThen (Run (Binary (Borrow false (Mutable false) (Parenthesized false (Named (Below (Name false) false false)) false)) BitAnd false (Prefixed Invert false (MethodCall (Named (Name false)) false false false (LastArgument (Named (Name false))) false))) false) (StatementThen (Run (MethodCall (MethodCall (MethodCall (Literal FloatNumber true) false false false (LastArgument (Named (Name false))) false) false false false NoArgument false) false false false NoArgument false) false) (LastExpression (Assignment (Binary (Parenthesized false (Named (Name false)) false) NotEqual false (MethodCall (Named (Name false)) false false false (ArgumentComma (Literal FloatNumber false) false (LastArgument (Literal FloatNumber true))) false)) AssignDivide false (Assignment (Binary (Named (Below (Name false) false false)) LogicalOr false (Literal Text false)) AssignShiftRight false (Borrow false (Mutable false) (Literal Integer false))))))) false)) NoItem); well_formed = ((((tt, omega arith), ((tt, omega arith, tt), omega arith), omega arith, omega arith, refl), ((((tt, omega arith, tt), omega arith, tt), omega arith, tt), ((tt, (tt, omega arith, (tt, tt)), omega arith, omega arith, refl), ((tt, tt, omega arith, omega arith, refl), (tt, omega arith), omega arith), omega arith))), tt); has_tokens = refl; has_tree = refl }

spaced302 : spaced tree302 (true ∷ false ∷ true ∷ []) ≡ tokens302
unfolding spaced_before
spaced302 = refl

abbrev tokens306 : List Token
tokens306 = token FN_KW EOF false ∷ token IDENT IDENT false ∷ token L_PAREN EOF false ∷ token R_PAREN EOF false ∷ token L_CURLY EOF false ∷ token AMP EOF false ∷ token MUT_KW EOF false ∷ token IDENT IDENT false ∷ token MINUS EOF true ∷ token EQ EOF false ∷ token MINUS EOF false ∷ token R_CURLY EOF false ∷ []

abbrev tree306 : Forest
tree306 = (Node SOURCE_FILE (Node FN (Leaf FN_KW 1 (Node NAME (Leaf IDENT 1 End) (Node PARAM_LIST (Leaf L_PAREN 1 (Leaf R_PAREN 1 End)) (Node BLOCK_EXPR (Node STMT_LIST (Leaf L_CURLY 1 (Node BIN_EXPR (Node REF_EXPR (Leaf AMP 1 (Leaf MUT_KW 1 (Node PATH_EXPR (Node PATH (Node PATH_SEGMENT (Node NAME_REF (Leaf IDENT 1 End) End) End) End) End))) (Leaf MINUSEQ 2 (Node PREFIX_EXPR (Leaf MINUS 1 (Node PATH_EXPR (Node PATH End End) End)) End))) (Leaf R_CURLY 1 End))) End) End)))) End) End)

other306 : IsCoreFile tokens306 tree306 → ⊥
unfolding meaning by_length by_rank follow look_of begins_below read turns leaf say skip split fresh node wrapped after sees ahead is_end begins passes is_silent shift in_mode from_start there_at rule rank whole row any_of one_of is_longer no_longer longest paths types patterns expressions statements items leaves is_used_up takes_all entry
other306 = read-otherwise tokens306 tree306 refl

spaced306 : spaced tree306 ([]) ≡ tokens306
unfolding spaced_before
spaced306 = refl

abbrev tokens316 : List Token
tokens316 = token MOD_KW EOF false ∷ token IDENT IDENT false ∷ token L_CURLY EOF false ∷ token R_CURLY EOF false ∷ []

abbrev tree316 : Forest
tree316 = (Node SOURCE_FILE (Node MODULE (Leaf MOD_KW 1 (Node NAME (Leaf IDENT 1 End) (Node ITEM_LIST (Leaf L_CURLY 1 (Leaf R_CURLY 1 End)) End))) End) End)

core316 : IsCoreFile tokens316 tree316
core316 = record { items = (ItemThen (InnerModule Private false false false NoItem false) NoItem); well_formed = (tt, tt); has_tokens = refl; has_tree = refl }

spaced316 : spaced tree316 ([]) ≡ tokens316
unfolding spaced_before
spaced316 = refl

abbrev tokens324 : List Token
tokens324 = token FN_KW EOF false ∷ token IDENT IDENT false ∷ token L_PAREN EOF false ∷ token R_PAREN EOF false ∷ token MINUS EOF true ∷ token R_ANGLE EOF false ∷ token AMP EOF false ∷ token IDENT IDENT false ∷ token L_CURLY EOF false ∷ token IDENT IDENT false ∷ token DOT EOF false ∷ token IDENT IDENT false ∷ token L_PAREN EOF false ∷ token IDENT IDENT false ∷ token DOT EOF false ∷ token IDENT IDENT false ∷ token L_PAREN EOF false ∷ token INT_NUMBER EOF false ∷ token R_PAREN EOF false ∷ token COMMA EOF false ∷ token IDENT IDENT false ∷ token COLON EOF true ∷ token COLON EOF false ∷ token IDENT IDENT false ∷ token R_PAREN EOF false ∷ token EQ EOF true ∷ token EQ EOF false ∷ token AMP EOF false ∷ token FLOAT_NUMBER EOF false ∷ token DOT EOF false ∷ token IDENT IDENT false ∷ token SEMICOLON EOF false ∷ token BYTE_STRING EOF false ∷ token DOT EOF false ∷ token IDENT IDENT false ∷ token DOT EOF false ∷ token IDENT IDENT false ∷ token L_PAREN EOF false ∷ token R_PAREN EOF false ∷ token AMP EOF true ∷ token EQ EOF false ∷ token IDENT IDENT false ∷ token COLON EOF true ∷ token COLON EOF false ∷ token IDENT IDENT false ∷ token DOT EOF false ∷ token IDENT IDENT false ∷ token BANG EOF true ∷ token EQ EOF false ∷ token FLOAT_NUMBER EOF true ∷ token R_CURLY EOF false ∷ []

abbrev tree324 : Forest
tree324 = (Node SOURCE_FILE (Node FN (Leaf FN_KW 1 (Node NAME (Leaf IDENT 1 End) (Node PARAM_LIST (Leaf L_PAREN 1 (Leaf R_PAREN 1 End)) (Node RET_TYPE (Leaf THIN_ARROW 2 (Node REF_TYPE (Leaf AMP 1 (Node PATH_TYPE (Node PATH (Node PATH_SEGMENT (Node NAME_REF (Leaf IDENT 1 End) End) End) End) End)) End)) (Node BLOCK_EXPR (Node STMT_LIST (Leaf L_CURLY 1 (Node EXPR_STMT (Node BIN_EXPR (Node METHOD_CALL_EXPR (Node PATH_EXPR (Node PATH (Node PATH_SEGMENT (Node NAME_REF (Leaf IDENT 1 End) End) End) End) (Leaf DOT 1 (Node NAME_REF (Leaf IDENT 1 End) (Node ARG_LIST (Leaf L_PAREN 1 (Node METHOD_CALL_EXPR (Node PATH_EXPR (Node PATH (Node PATH_SEGMENT (Node NAME_REF (Leaf IDENT 1 End) End) End) End) (Leaf DOT 1 (Node NAME_REF (Leaf IDENT 1 End) (Node ARG_LIST (Leaf L_PAREN 1 (Node LITERAL (Leaf INT_NUMBER 1 End) (Leaf R_PAREN 1 End))) End)))) (Leaf COMMA 1 (Node PATH_EXPR (Node PATH (Node PATH (Node PATH_SEGMENT (Node NAME_REF (Leaf IDENT 1 End) End) End) (Leaf COLON2 2 (Node PATH_SEGMENT (Node NAME_REF (Leaf IDENT 1 End) End) End))) End) (Leaf R_PAREN 1 End))))) End)))) (Leaf EQ2 2 (Node REF_EXPR (Leaf AMP 1 (Node FIELD_EXPR (Node LITERAL (Leaf FLOAT_NUMBER 1 End) (Leaf DOT 1 (Node NAME_REF (Leaf IDENT 1 End) End))) End)) End))) (Leaf SEMICOLON 1 End)) (Node BIN_EXPR (Node METHOD_CALL_EXPR (Node FIELD_EXPR (Node LITERAL (Leaf BYTE_STRING 1 End) (Leaf DOT 1 (Node NAME_REF (Leaf IDENT 1 End) End))) (Leaf DOT 1 (Node NAME_REF (Leaf IDENT 1 End) (Node ARG_LIST (Leaf L_PAREN 1 (Leaf R_PAREN 1 End)) End)))) (Leaf AMPEQ 2 (Node BIN_EXPR (Node FIELD_EXPR (Node PATH_EXPR (Node PATH (Node PATH (Node PATH_SEGMENT (Node NAME_REF (Leaf IDENT 1 End) End) End) (Leaf COLON2 2 (Node PATH_SEGMENT (Node NAME_REF (Leaf IDENT 1 End) End) End))) End) (Leaf DOT 1 (Node NAME_REF (Leaf IDENT 1 End) End))) (Leaf NEQ 2 (Node LITERAL (Leaf FLOAT_NUMBER 1 End) End))) End))) (Leaf R_CURLY 1 End)))) End) End))))) End) End)

core324 : IsCoreFile tokens324 tree324
core324 = record { items = (ItemThen (Function Private false false false NoElement false (Returns false (ReferenceType false Immutable (PathType (Name false)))) (Braces false (StatementThen (Run (Binary (MethodCall (Named (Name false)) false false false (ArgumentComma (MethodCall (Named (Name false)) false false false (LastArgument (Literal Integer false)) false) false (LastArgument (Named (Below (Name false) false false)))) false) Equal false (Borrow false Immutable (FieldAccess (Literal FloatNumber false) false false))) false) (LastExpression (Assignment (MethodCall (FieldAccess (Literal ByteText false) false false) false false false NoArgument false) AssignBitAnd false (Binary (FieldAccess (Named (Below (Name false) false false)) false false) NotEqual false (Literal FloatNumber true))))) false)) NoItem); well_formed = ((((tt, omega arith, ((tt, omega arith, tt), tt)), ((tt, omega arith), omega arith), omega arith, omega arith, refl), (((tt, omega arith), omega arith, tt), ((tt, omega arith), tt, omega arith, omega arith, refl), omega arith)), tt); has_tokens = refl; has_tree = refl }

spaced324 : spaced tree324 (false ∷ true ∷ []) ≡ tokens324
unfolding spaced_before
spaced324 = refl

abbrev tokens360 : List Token
tokens360 = token STRUCT_KW EOF false ∷ token IDENT IDENT false ∷ token SEMICOLON EOF false ∷ token FN_KW EOF false ∷ token IDENT IDENT false ∷ token L_PAREN EOF false ∷ token MUT_KW EOF false ∷ token IDENT IDENT false ∷ token COLON EOF false ∷ token AMP EOF false ∷ token MUT_KW EOF false ∷ token IDENT IDENT false ∷ token R_PAREN EOF false ∷ token MINUS EOF true ∷ token R_ANGLE EOF false ∷ token IDENT IDENT false ∷ token L_CURLY EOF false ∷ token LET_KW EOF false ∷ token MUT_KW EOF false ∷ token IDENT IDENT false ∷ token COLON EOF false ∷ token IDENT IDENT false ∷ token EQ EOF false ∷ token STAR EOF false ∷ token BANG EOF false ∷ token IDENT IDENT false ∷ token SLASH EOF true ∷ token EQ EOF false ∷ token IDENT IDENT false ∷ token SEMICOLON EOF false ∷ token STRING EOF false ∷ token L_PAREN EOF false ∷ token INT_NUMBER EOF false ∷ token L_PAREN EOF false ∷ token FLOAT_NUMBER EOF true ∷ token R_PAREN EOF false ∷ token COMMA EOF false ∷ token INT_NUMBER EOF false ∷ token R_ANGLE EOF true ∷ token R_ANGLE EOF false ∷ token IDENT IDENT false ∷ token COLON EOF true ∷ token COLON EOF false ∷ token IDENT IDENT false ∷ token COMMA EOF false ∷ token STRING EOF false ∷ token DOT EOF false ∷ token IDENT IDENT false ∷ token R_PAREN EOF false ∷ token DOT EOF false ∷ token IDENT IDENT false ∷ token L_PAREN EOF false ∷ token L_PAREN EOF false ∷ token IDENT IDENT false ∷ token R_PAREN EOF false ∷ token DOT EOF false ∷ token IDENT IDENT false ∷ token R_PAREN EOF false ∷ token SEMICOLON EOF false ∷ token R_CURLY EOF false ∷ []

abbrev tree360 : Forest
tree360 = (Node SOURCE_FILE (Node STRUCT (Leaf STRUCT_KW 1 (Node NAME (Leaf IDENT 1 End) (Leaf SEMICOLON 1 End))) (Node FN (Leaf FN_KW 1 (Node NAME (Leaf IDENT 1 End) (Node PARAM_LIST (Leaf L_PAREN 1 (Node PARAM (Node IDENT_PAT (Leaf MUT_KW 1 (Node NAME (Leaf IDENT 1 End) End)) (Leaf COLON 1 (Node REF_TYPE (Leaf AMP 1 (Leaf MUT_KW 1 (Node PATH_TYPE (Node PATH (Node PATH_SEGMENT (Node NAME_REF (Leaf IDENT 1 End) End) End) End) End))) End))) (Leaf R_PAREN 1 End))) (Node RET_TYPE (Leaf THIN_ARROW 2 (Node PATH_TYPE (Node PATH (Node PATH_SEGMENT (Node NAME_REF (Leaf IDENT 1 End) End) End) End) End)) (Node BLOCK_EXPR (Node STMT_LIST (Leaf L_CURLY 1 (Node LET_STMT (Leaf LET_KW 1 (Node IDENT_PAT (Leaf MUT_KW 1 (Node NAME (Leaf IDENT 1 End) End)) (Leaf COLON 1 (Node PATH_TYPE (Node PATH (Node PATH_SEGMENT (Node NAME_REF (Leaf IDENT 1 End) End) End) End) (Leaf EQ 1 (Node BIN_EXPR (Node PREFIX_EXPR (Leaf STAR 1 (Node PREFIX_EXPR (Leaf BANG 1 (Node PATH_EXPR (Node PATH (Node PATH_SEGMENT (Node NAME_REF (Leaf IDENT 1 End) End) End) End) End)) End)) (Leaf SLASHEQ 2 (Node PATH_EXPR (Node PATH (Node PATH_SEGMENT (Node NAME_REF (Leaf IDENT 1 End) End) End) End) End))) (Leaf SEMICOLON 1 End))))))) (Node EXPR_STMT (Node METHOD_CALL_EXPR (Node CALL_EXPR (Node LITERAL (Leaf STRING 1 End) (Node ARG_LIST (Leaf L_PAREN 1 (Node CALL_EXPR (Node LITERAL (Leaf INT_NUMBER 1 End) (Node ARG_LIST (Leaf L_PAREN 1 (Node LITERAL (Leaf FLOAT_NUMBER 1 End) (Leaf R_PAREN 1 End))) End)) (Leaf COMMA 1 (Node BIN_EXPR (Node LITERAL (Leaf INT_NUMBER 1 End) (Leaf SHR 2 (Node PATH_EXPR (Node PATH (Node PATH (Node PATH_SEGMENT (Node NAME_REF (Leaf IDENT 1 End) End) End) (Leaf COLON2 2 (Node PATH_SEGMENT (Node NAME_REF (Leaf IDENT 1 End) End) End))) End) End))) (Leaf COMMA 1 (Node FIELD_EXPR (Node LITERAL (Leaf STRING 1 End) (Leaf DOT 1 (Node NAME_REF (Leaf IDENT 1 End) End))) (Leaf R_PAREN 1 End))))))) End)) (Leaf DOT 1 (Node NAME_REF (Leaf IDENT 1 End) (Node ARG_LIST (Leaf L_PAREN 1 (Node FIELD_EXPR (Node PAREN_EXPR (Leaf L_PAREN 1 (Node PATH_EXPR (Node PATH (Node PATH_SEGMENT (Node NAME_REF (Leaf IDENT 1 End) End) End) End) (Leaf R_PAREN 1 End))) (Leaf DOT 1 (Node NAME_REF (Leaf IDENT 1 End) End))) (Leaf R_PAREN 1 End))) End)))) (Leaf SEMICOLON 1 End)) (Leaf R_CURLY 1 End)))) End) End))))) End)) End)

core360 : IsCoreFile tokens360 tree360
core360 = record { items = (ItemThen (UnitStruct Private false false false) (ItemThen (Function Private false false false (LastElement (TypedPattern (NamePattern (Mutable false) false) false (ReferenceType false (Mutable false) (PathType (Name false))))) false (Returns false (PathType (Name false))) (Braces false (StatementThen (Let false (NamePattern (Mutable false) false) (AnnotatedBy false (PathType (Name false))) (InitializedBy false (Assignment (Prefixed Dereference false (Prefixed Invert false (Named (Name false)))) AssignDivide false (Named (Name false)))) false) (StatementThen (Run (MethodCall (FunctionCall (Literal Text false) false (ArgumentComma (FunctionCall (Literal Integer false) false (LastArgument (Literal FloatNumber true)) false) false (ArgumentComma (Binary (Literal Integer false) ShiftRight false (Named (Below (Name false) false false))) false (LastArgument (FieldAccess (Literal Text false) false false)))) false) false false false (LastArgument (FieldAccess (Parenthesized false (Named (Name false)) false) false false)) false) false) NoStatement)) false)) NoItem)); well_formed = (tt, (((((tt, omega arith), omega arith), tt, omega arith), (((tt, omega arith, refl, ((tt, omega arith, refl, tt), ((tt, tt, omega arith, omega arith, refl), (tt, omega arith)))), omega arith, (tt, omega arith)), tt)), tt)); has_tokens = refl; has_tree = refl }

spaced360 : spaced tree360 (true ∷ []) ≡ tokens360
unfolding spaced_before
spaced360 = refl

abbrev tokens361 : List Token
tokens361 = token PUB_KW EOF false ∷ token FN_KW EOF false ∷ token IDENT IDENT false ∷ token L_PAREN EOF false ∷ token IDENT IDENT false ∷ token COLON EOF false ∷ token AMP EOF false ∷ token MUT_KW EOF false ∷ token L_BRACK EOF false ∷ token IDENT IDENT false ∷ token R_BRACK EOF false ∷ token COMMA EOF false ∷ token L_CURLY EOF false ∷ token CHAR EOF false ∷ token DOT EOF false ∷ token IDENT IDENT false ∷ token L_PAREN EOF false ∷ token INT_NUMBER EOF false ∷ token COMMA EOF false ∷ token R_PAREN EOF false ∷ token R_CURLY EOF false ∷ []

abbrev tree361 : Forest
tree361 = (Node SOURCE_FILE (Node FN (Node VISIBILITY (Leaf PUB_KW 1 End) (Leaf FN_KW 1 (Node NAME (Leaf IDENT 1 End) (Node PARAM_LIST (Leaf L_PAREN 1 (Node PARAM (Node IDENT_PAT (Node NAME (Leaf IDENT 1 End) End) (Leaf COLON 1 (Node REF_TYPE (Leaf AMP 1 (Leaf MUT_KW 1 (Node SLICE_TYPE (Leaf L_BRACK 1 (Node PATH_TYPE (Node PATH (Node PATH_SEGMENT (Node NAME_REF (Leaf IDENT 1 End) End) End) End) (Leaf R_BRACK 1 End))) End))) End))) (Leaf COMMA 1 End))) (Node BLOCK_EXPR (Node STMT_LIST (Leaf L_CURLY 1 (Node METHOD_CALL_EXPR (Node LITERAL (Leaf CHAR 1 End) (Leaf DOT 1 (Node NAME_REF (Leaf IDENT 1 End) (Node ARG_LIST (Leaf L_PAREN 1 (Node LITERAL (Leaf INT_NUMBER 1 End) (Leaf COMMA 1 (Leaf R_PAREN 1 End)))) End)))) (Leaf R_CURLY 1 End))) End) End))))) End) End)

other361 : IsCoreFile tokens361 tree361 → ⊥
unfolding meaning by_length by_rank follow look_of begins_below read turns leaf say skip split fresh node wrapped after sees ahead is_end begins passes is_silent shift in_mode from_start there_at rule rank whole row any_of one_of is_longer no_longer longest paths types patterns expressions statements items leaves is_used_up takes_all entry
other361 = read-otherwise tokens361 tree361 refl

spaced361 : spaced tree361 ([]) ≡ tokens361
unfolding spaced_before
spaced361 = refl

abbrev tokens384 : List Token
tokens384 = token STRUCT_KW EOF false ∷ token IDENT IDENT false ∷ token SEMICOLON EOF false ∷ token FN_KW EOF false ∷ token IDENT IDENT false ∷ token L_PAREN EOF false ∷ token IDENT IDENT false ∷ token COLON EOF false ∷ token IDENT IDENT false ∷ token R_PAREN EOF false ∷ token L_CURLY EOF false ∷ token AMP EOF false ∷ token MUT_KW EOF false ∷ token IDENT IDENT false ∷ token DOT EOF false ∷ token IDENT IDENT false ∷ token L_PAREN EOF false ∷ token INT_NUMBER EOF false ∷ token R_PAREN EOF false ∷ token CARET EOF false ∷ token IDENT IDENT false ∷ token EQ EOF false ∷ token L_PAREN EOF false ∷ token INT_NUMBER EOF false ∷ token R_PAREN EOF false ∷ token SEMICOLON EOF false ∷ token R_CURLY EOF false ∷ []

abbrev tree384 : Forest
tree384 = (Node SOURCE_FILE (Node STRUCT (Leaf STRUCT_KW 1 (Node NAME (Leaf IDENT 1 End) (Leaf SEMICOLON 1 End))) (Node FN (Leaf FN_KW 1 (Node NAME (Leaf IDENT 1 End) (Node PARAM_LIST (Leaf L_PAREN 1 (Node PARAM (Node IDENT_PAT (Node NAME (Leaf IDENT 1 End) End) (Leaf COLON 1 (Node PATH_TYPE (Node PATH (Node PATH_SEGMENT (Node NAME_REF (Leaf IDENT 1 End) End) End) End) End))) (Leaf R_PAREN 1 End))) (Node BLOCK_EXPR (Node STMT_LIST (Leaf L_CURLY 1 (Node EXPR_STMT (Node BIN_EXPR (Node REF_EXPR (Leaf AMP 1 (Leaf MUT_KW 1 (Node METHOD_CALL_EXPR (Node PATH_EXPR (Node PATH (Node PATH_SEGMENT (Node NAME_REF (Leaf IDENT 1 End) End) End) End) (Leaf DOT 1 (Node NAME_REF (Leaf IDENT 1 End) (Node ARG_LIST (Leaf L_PAREN 1 (Node LITERAL (Leaf INT_NUMBER 1 End) (Leaf R_PAREN 1 End))) End)))) End))) (Leaf CARET 1 (Node BIN_EXPR (Node PATH_EXPR (Node PATH (Node PATH_SEGMENT (Node NAME_REF (Leaf IDENT 1 End) End) End) End) (Leaf EQ 1 (Node PAREN_EXPR (Leaf L_PAREN 1 (Node LITERAL (Leaf INT_NUMBER 1 End) (Leaf R_PAREN 1 End))) End))) End))) (Leaf SEMICOLON 1 End)) (Leaf R_CURLY 1 End))) End) End)))) End)) End)

other384 : IsCoreFile tokens384 tree384 → ⊥
unfolding meaning by_length by_rank follow look_of begins_below read turns leaf say skip split fresh node wrapped after sees ahead is_end begins passes is_silent shift in_mode from_start there_at rule rank whole row any_of one_of is_longer no_longer longest paths types patterns expressions statements items leaves is_used_up takes_all entry
other384 = read-otherwise tokens384 tree384 refl

spaced384 : spaced tree384 ([]) ≡ tokens384
unfolding spaced_before
spaced384 = refl

abbrev tokens404 : List Token
tokens404 = token FN_KW EOF false ∷ token IDENT IDENT false ∷ token L_PAREN EOF false ∷ token MUT_KW EOF false ∷ token IDENT IDENT false ∷ token COLON EOF false ∷ token AMP EOF false ∷ token MUT_KW EOF false ∷ token AMP EOF false ∷ token IDENT IDENT false ∷ token R_PAREN EOF false ∷ token MINUS EOF true ∷ token R_ANGLE EOF false ∷ token AMP EOF false ∷ token IDENT IDENT false ∷ token COLON EOF true ∷ token COLON EOF false ∷ token IDENT IDENT false ∷ token L_CURLY EOF false ∷ token IDENT IDENT false ∷ token L_PAREN EOF false ∷ token IDENT IDENT false ∷ token R_PAREN EOF false ∷ token SEMICOLON EOF false ∷ token STAR EOF false ∷ token CHAR EOF false ∷ token SEMICOLON EOF false ∷ token R_CURLY EOF false ∷ token PUB_KW EOF false ∷ token MOD_KW EOF false ∷ token IDENT IDENT false ∷ token L_CURLY EOF false ∷ token FN_KW EOF false ∷ token IDENT IDENT false ∷ token L_PAREN EOF false ∷ token IDENT IDENT false ∷ token COLON EOF false ∷ token IDENT IDENT false ∷ token COLON EOF true ∷ token COLON EOF false ∷ token IDENT IDENT false ∷ token COLON EOF true ∷ token COLON EOF false ∷ token IDENT IDENT false ∷ token COMMA EOF false ∷ token R_PAREN EOF false ∷ token MINUS EOF true ∷ token R_ANGLE EOF false ∷ token IDENT IDENT false ∷ token L_CURLY EOF false ∷ token IDENT IDENT false ∷ token PIPE EOF true ∷ token EQ EOF false ∷ token IDENT IDENT false ∷ token COLON EOF true ∷ token COLON EOF false ∷ token IDENT IDENT false ∷ token DOT EOF false ∷ token IDENT IDENT false ∷ token DOT EOF false ∷ token IDENT IDENT false ∷ token SEMICOLON EOF false ∷ token R_CURLY EOF false ∷ token PUB_KW EOF false ∷ token FN_KW EOF false ∷ token IDENT IDENT false ∷ token L_PAREN EOF false ∷ token R_PAREN EOF false ∷ token MINUS EOF true ∷ token R_ANGLE EOF false ∷ token IDENT IDENT false ∷ token COLON EOF true ∷ token COLON EOF false ∷ token IDENT IDENT false ∷ token L_CURLY EOF false ∷ token CHAR EOF false ∷ token R_CURLY EOF false ∷ token R_CURLY EOF false ∷ []

abbrev tree404 : Forest
tree404 = (Node SOURCE_FILE (Node FN (Leaf FN_KW 1 (Node NAME (Leaf IDENT 1 End) (Node PARAM_LIST (Leaf L_PAREN 1 (Node PARAM (Node IDENT_PAT (Leaf MUT_KW 1 (Node NAME (Leaf IDENT 1 End) End)) (Leaf COLON 1 (Node REF_TYPE (Leaf AMP 1 (Leaf MUT_KW 1 (Node REF_TYPE (Leaf AMP 1 (Node PATH_TYPE (Node PATH (Node PATH_SEGMENT (Node NAME_REF (Leaf IDENT 1 End) End) End) End) End)) End))) End))) (Leaf R_PAREN 1 End))) (Node RET_TYPE (Leaf THIN_ARROW 2 (Node REF_TYPE (Leaf AMP 1 (Node PATH_TYPE (Node PATH (Node PATH (Node PATH_SEGMENT (Node NAME_REF (Leaf IDENT 1 End) End) End) (Leaf COLON2 2 (Node PATH_SEGMENT (Node NAME_REF (Leaf IDENT 1 End) End) End))) End) End)) End)) (Node BLOCK_EXPR (Node STMT_LIST (Leaf L_CURLY 1 (Node EXPR_STMT (Node CALL_EXPR (Node PATH_EXPR (Node PATH (Node PATH_SEGMENT (Node NAME_REF (Leaf IDENT 1 End) End) End) End) (Node ARG_LIST (Leaf L_PAREN 1 (Node PATH_EXPR (Node PATH (Node PATH_SEGMENT (Node NAME_REF (Leaf IDENT 1 End) End) End) End) (Leaf R_PAREN 1 End))) End)) (Leaf SEMICOLON 1 End)) (Node EXPR_STMT (Node PREFIX_EXPR (Leaf STAR 1 (Node LITERAL (Leaf CHAR 1 End) End)) (Leaf SEMICOLON 1 End)) (Leaf R_CURLY 1 End)))) End) End))))) (Node MODULE (Node VISIBILITY (Leaf PUB_KW 1 End) (Leaf MOD_KW 1 (Node NAME (Leaf IDENT 1 End) (Node ITEM_LIST (Leaf L_CURLY 1 (Node FN (Leaf FN_KW 1 (Node NAME (Leaf IDENT 1 End) (Node PARAM_LIST (Leaf L_PAREN 1 (Node PARAM (Node IDENT_PAT (Node NAME (Leaf IDENT 1 End) End) (Leaf COLON 1 (Node PATH_TYPE (Node PATH (Node PATH (Node PATH (Node PATH_SEGMENT (Node NAME_REF (Leaf IDENT 1 End) End) End) (Leaf COLON2 2 (Node PATH_SEGMENT (Node NAME_REF (Leaf IDENT 1 End) End) End))) (Leaf COLON2 2 (Node PATH_SEGMENT (Node NAME_REF (Leaf IDENT 1 End) End) End))) End) End))) (Leaf COMMA 1 (Leaf R_PAREN 1 End)))) (Node RET_TYPE (Leaf THIN_ARROW 2 (Node PATH_TYPE (Node PATH (Node PATH_SEGMENT (Node NAME_REF (Leaf IDENT 1 End) End) End) End) End)) (Node BLOCK_EXPR (Node STMT_LIST (Leaf L_CURLY 1 (Node EXPR_STMT (Node BIN_EXPR (Node PATH_EXPR (Node PATH (Node PATH_SEGMENT (Node NAME_REF (Leaf IDENT 1 End) End) End) End) (Leaf PIPEEQ 2 (Node FIELD_EXPR (Node FIELD_EXPR (Node PATH_EXPR (Node PATH (Node PATH (Node PATH_SEGMENT (Node NAME_REF (Leaf IDENT 1 End) End) End) (Leaf COLON2 2 (Node PATH_SEGMENT (Node NAME_REF (Leaf IDENT 1 End) End) End))) End) (Leaf DOT 1 (Node NAME_REF (Leaf IDENT 1 End) End))) (Leaf DOT 1 (Node NAME_REF (Leaf IDENT 1 End) End))) End))) (Leaf SEMICOLON 1 End)) (Leaf R_CURLY 1 End))) End) End))))) (Node FN (Node VISIBILITY (Leaf PUB_KW 1 End) (Leaf FN_KW 1 (Node NAME (Leaf IDENT 1 End) (Node PARAM_LIST (Leaf L_PAREN 1 (Leaf R_PAREN 1 End)) (Node RET_TYPE (Leaf THIN_ARROW 2 (Node PATH_TYPE (Node PATH (Node PATH (Node PATH_SEGMENT (Node NAME_REF (Leaf IDENT 1 End) End) End) (Leaf COLON2 2 (Node PATH_SEGMENT (Node NAME_REF (Leaf IDENT 1 End) End) End))) End) End)) (Node BLOCK_EXPR (Node STMT_LIST (Leaf L_CURLY 1 (Node LITERAL (Leaf CHAR 1 End) (Leaf R_CURLY 1 End))) End) End)))))) (Leaf R_CURLY 1 End)))) End)))) End)) End)

core404 : IsCoreFile tokens404 tree404
core404 = record { items = (ItemThen (Function Private false false false (LastElement (TypedPattern (NamePattern (Mutable false) false) false (ReferenceType false (Mutable false) (ReferenceType false Immutable (PathType (Name false)))))) false (Returns false (ReferenceType false Immutable (PathType (Below (Name false) false false)))) (Braces false (StatementThen (Run (FunctionCall (Named (Name false)) false (LastArgument (Named (Name false))) false) false) (StatementThen (Run (Prefixed Dereference false (Literal Character false)) false) NoStatement)) false)) (ItemThen (InnerModule (Public false) false false false (ItemThen (Function Private false false false (ElementComma (TypedPattern (NamePattern Immutable false) false (PathType (Below (Below (Name false) false false) false false))) false NoElement) false (Returns false (PathType (Name false))) (Braces false (StatementThen (Run (Assignment (Named (Name false)) AssignBitOr false (FieldAccess (FieldAccess (Named (Below (Name false) false false)) false false) false false)) false) NoStatement) false)) (ItemThen (Function (Public false) false false false NoElement false (Returns false (PathType (Below (Name false) false false))) (Braces false (LastExpression (Literal Character false)) false)) NoItem)) false) NoItem)); well_formed = (((tt, omega arith, refl, tt), ((tt, omega arith), tt)), ((((tt, ((tt, omega arith), omega arith), omega arith), tt), (tt, tt)), tt)); has_tokens = refl; has_tree = refl }

spaced404 : spaced tree404 ([]) ≡ tokens404
unfolding spaced_before
spaced404 = refl

abbrev tokens413 : List Token
tokens413 = token PUB_KW EOF false ∷ token STRUCT_KW EOF false ∷ token IDENT IDENT false ∷ token L_CURLY EOF false ∷ token IDENT IDENT false ∷ token COLON EOF false ∷ token AMP EOF false ∷ token L_BRACK EOF false ∷ token IDENT IDENT false ∷ token COLON EOF true ∷ token COLON EOF false ∷ token IDENT IDENT false ∷ token COLON EOF true ∷ token COLON EOF false ∷ token IDENT IDENT false ∷ token R_BRACK EOF false ∷ token COMMA EOF false ∷ token PUB_KW EOF false ∷ token IDENT IDENT false ∷ token COLON EOF false ∷ token L_BRACK EOF false ∷ token L_BRACK EOF false ∷ token IDENT IDENT false ∷ token R_BRACK EOF false ∷ token R_BRACK EOF false ∷ token COMMA EOF false ∷ token PUB_KW EOF false ∷ token IDENT IDENT false ∷ token COLON EOF false ∷ token IDENT IDENT false ∷ token R_CURLY EOF false ∷ token PUB_KW EOF false ∷ token FN_KW EOF false ∷ token IDENT IDENT false ∷ token L_PAREN EOF false ∷ token IDENT IDENT false ∷ token COLON EOF false ∷ token IDENT IDENT false ∷ token COMMA EOF false ∷ token MUT_KW EOF false ∷ token IDENT IDENT false ∷ token COLON EOF false ∷ token IDENT IDENT false ∷ token COMMA EOF false ∷ token MUT_KW EOF false ∷ token IDENT IDENT false ∷ token COLON EOF false ∷ token IDENT IDENT false ∷ token COLON EOF true ∷ token COLON EOF false ∷ token IDENT IDENT false ∷ token COMMA EOF false ∷ token R_PAREN EOF false ∷ token MINUS EOF true ∷ token R_ANGLE EOF false ∷ token IDENT IDENT false ∷ token L_CURLY EOF false ∷ token IDENT IDENT false ∷ token COLON EOF true ∷ token COLON EOF false ∷ token IDENT IDENT false ∷ token PERCENT EOF true ∷ token EQ EOF false ∷ token IDENT IDENT false ∷ token L_ANGLE EOF false ∷ token IDENT IDENT false ∷ token SEMICOLON EOF false ∷ token R_CURLY EOF false ∷ []

abbrev tree413 : Forest
tree413 = (Node SOURCE_FILE (Node STRUCT (Node VISIBILITY (Leaf PUB_KW 1 End) (Leaf STRUCT_KW 1 (Node NAME (Leaf IDENT 1 End) (Node RECORD_FIELD_LIST (Leaf L_CURLY 1 (Node RECORD_FIELD (Node NAME (Leaf IDENT 1 End) (Leaf COLON 1 (Node REF_TYPE (Leaf AMP 1 (Node SLICE_TYPE (Leaf L_BRACK 1 (Node PATH_TYPE (Node PATH (Node PATH (Node PATH (Node PATH_SEGMENT (Node NAME_REF (Leaf IDENT 1 End) End) End) (Leaf COLON2 2 (Node PATH_SEGMENT (Node NAME_REF (Leaf IDENT 1 End) End) End))) (Leaf COLON2 2 (Node PATH_SEGMENT (Node NAME_REF (Leaf IDENT 1 End) End) End))) End) (Leaf R_BRACK 1 End))) End)) End))) (Leaf COMMA 1 (Node RECORD_FIELD (Node VISIBILITY (Leaf PUB_KW 1 End) (Node NAME (Leaf IDENT 1 End) (Leaf COLON 1 (Node SLICE_TYPE (Leaf L_BRACK 1 (Node SLICE_TYPE (Leaf L_BRACK 1 (Node PATH_TYPE (Node PATH (Node PATH_SEGMENT (Node NAME_REF (Leaf IDENT 1 End) End) End) End) (Leaf R_BRACK 1 End))) (Leaf R_BRACK 1 End))) End)))) (Leaf COMMA 1 (Node RECORD_FIELD (Node VISIBILITY (Leaf PUB_KW 1 End) (Node NAME (Leaf IDENT 1 End) (Leaf COLON 1 (Node PATH_TYPE (Node PATH (Node PATH_SEGMENT (Node NAME_REF (Leaf IDENT 1 End) End) End) End) End)))) (Leaf R_CURLY 1 End))))))) End)))) (Node FN (Node VISIBILITY (Leaf PUB_KW 1 End) (Leaf FN_KW 1 (Node NAME (Leaf IDENT 1 End) (Node PARAM_LIST (Leaf L_PAREN 1 (Node PARAM (Node IDENT_PAT (Node NAME (Leaf IDENT 1 End) End) (Leaf COLON 1 (Node PATH_TYPE (Node PATH (Node PATH_SEGMENT (Node NAME_REF (Leaf IDENT 1 End) End) End) End) End))) (Leaf COMMA 1 (Node PARAM (Node IDENT_PAT (Leaf MUT_KW 1 (Node NAME (Leaf IDENT 1 End) End)) (Leaf COLON 1 (Node PATH_TYPE (Node PATH (Node PATH_SEGMENT (Node NAME_REF (Leaf IDENT 1 End) End) End) End) End))) (Leaf COMMA 1 (Node PARAM (Node IDENT_PAT (Leaf MUT_KW 1 (Node NAME (Leaf IDENT 1 End) End)) (Leaf COLON 1 (Node PATH_TYPE (Node PATH (Node PATH (Node PATH_SEGMENT (Node NAME_REF (Leaf IDENT 1 End) End) End) (Leaf COLON2 2 (Node PATH_SEGMENT (Node NAME_REF (Leaf IDENT 1 End) End) End))) End) End))) (Leaf COMMA 1 (Leaf R_PAREN 1 End)))))))) (Node RET_TYPE (Leaf THIN_ARROW 2 (Node PATH_TYPE (Node PATH (Node PATH_SEGMENT (Node NAME_REF (Leaf IDENT 1 End) End) End) End) End)) (Node BLOCK_EXPR (Node STMT_LIST (Leaf L_CURLY 1 (Node EXPR_STMT (Node BIN_EXPR (Node PATH_EXPR (Node PATH (Node PATH (Node PATH_SEGMENT (Node NAME_REF (Leaf IDENT 1 End) End) End) (Leaf COLON2 2 (Node PATH_SEGMENT (Node NAME_REF (Leaf IDENT 1 End) End) End))) End) (Leaf PERCENTEQ 2 (Node BIN_EXPR (Node PATH_EXPR (Node PATH (Node PATH_SEGMENT (Node NAME_REF (Leaf IDENT 1 End) End) End) End) (Leaf L_ANGLE 1 (Node PATH_EXPR (Node PATH (Node PATH_SEGMENT (Node NAME_REF (Leaf IDENT 1 End) End) End) End) End))) End))) (Leaf SEMICOLON 1 End)) (Leaf R_CURLY 1 End))) End) End)))))) End)) End)

core413 : IsCoreFile tokens413 tree413
core413 = record { items = (ItemThen (RecordStruct (Public false) false false false (ElementComma (NamedField Private false false (ReferenceType false Immutable (SliceType false (PathType (Below (Below (Name false) false false) false false)) false))) false (ElementComma (NamedField (Public false) false false (SliceType false (SliceType false (PathType (Name false)) false) false)) false (LastElement (NamedField (Public false) false false (PathType (Name false)))))) false) (ItemThen (Function (Public false) false false false (ElementComma (TypedPattern (NamePattern Immutable false) false (PathType (Name false))) false (ElementComma (TypedPattern (NamePattern (Mutable false) false) false (PathType (Name false))) false (ElementComma (TypedPattern (NamePattern (Mutable false) false) false (PathType (Below (Name false) false false))) false NoElement))) false (Returns false (PathType (Name false))) (Braces false (StatementThen (Run (Assignment (Named (Below (Name false) false false)) AssignRemainder false (Binary (Named (Name false)) Less false (Named (Name false)))) false) NoStatement) false)) NoItem)); well_formed = (tt, (((tt, (tt, tt, omega arith, omega arith, refl), omega arith), tt), tt)); has_tokens = refl; has_tree = refl }

spaced413 : spaced tree413 ([]) ≡ tokens413
unfolding spaced_before
spaced413 = refl

abbrev tokens440 : List Token
tokens440 = token FN_KW EOF false ∷ token IDENT IDENT false ∷ token L_PAREN EOF false ∷ token IDENT IDENT false ∷ token COLON EOF false ∷ token IDENT IDENT false ∷ token R_PAREN EOF false ∷ token L_CURLY EOF false ∷ token IDENT IDENT false ∷ token SEMICOLON EOF false ∷ token MINUS EOF false ∷ token EQ EOF false ∷ token BANG EOF false ∷ token TRUE_KW EOF false ∷ token STAR EOF false ∷ token AMP EOF false ∷ token FLOAT_NUMBER EOF false ∷ token SEMICOLON EOF false ∷ token R_CURLY EOF false ∷ []

abbrev tree440 : Forest
tree440 = (Node SOURCE_FILE (Node FN (Leaf FN_KW 1 (Node NAME (Leaf IDENT 1 End) (Node PARAM_LIST (Leaf L_PAREN 1 (Node PARAM (Node IDENT_PAT (Node NAME (Leaf IDENT 1 End) End) (Leaf COLON 1 (Node PATH_TYPE (Node PATH (Node PATH_SEGMENT (Node NAME_REF (Leaf IDENT 1 End) End) End) End) End))) (Leaf R_PAREN 1 End))) (Node BLOCK_EXPR (Node STMT_LIST (Leaf L_CURLY 1 (Node EXPR_STMT (Node PATH_EXPR (Node PATH (Node PATH_SEGMENT (Node NAME_REF (Leaf IDENT 1 End) End) End) End) (Leaf SEMICOLON 1 End)) (Node EXPR_STMT (Node BIN_EXPR (Node PREFIX_EXPR (Leaf MINUS 1 (Node PATH_EXPR (Node PATH (Node PATH_SEGMENT End End) End) End)) (Leaf EQ 1 (Node BIN_EXPR (Node PREFIX_EXPR (Leaf BANG 1 (Node LITERAL (Leaf TRUE_KW 1 End) End)) (Leaf STAR 1 (Node REF_EXPR (Leaf AMP 1 (Node LITERAL (Leaf FLOAT_NUMBER 1 End) End)) End))) End))) (Leaf SEMICOLON 1 End)) (Leaf R_CURLY 1 End)))) End) End)))) End) End)

other440 : IsCoreFile tokens440 tree440 → ⊥
unfolding meaning by_length by_rank follow look_of begins_below read turns leaf say skip split fresh node wrapped after sees ahead is_end begins passes is_silent shift in_mode from_start there_at rule rank whole row any_of one_of is_longer no_longer longest paths types patterns expressions statements items leaves is_used_up takes_all entry
other440 = read-otherwise tokens440 tree440 refl

spaced440 : spaced tree440 (false ∷ []) ≡ tokens440
unfolding spaced_before
spaced440 = refl

abbrev tokens445 : List Token
tokens445 = token PUB_KW EOF false ∷ token FN_KW EOF false ∷ token IDENT IDENT false ∷ token L_PAREN EOF false ∷ token R_PAREN EOF false ∷ token MINUS EOF true ∷ token R_ANGLE EOF false ∷ token L_BRACK EOF false ∷ token IDENT IDENT false ∷ token R_BRACK EOF false ∷ token L_CURLY EOF false ∷ token LET_KW EOF false ∷ token IDENT IDENT false ∷ token EQ EOF false ∷ token MINUS EOF false ∷ token IDENT IDENT false ∷ token CARET EOF false ∷ token STAR EOF false ∷ token FLOAT_NUMBER EOF true ∷ token SEMICOLON EOF false ∷ token LET_KW EOF false ∷ token IDENT IDENT false ∷ token COLON EOF false ∷ token IDENT IDENT false ∷ token EQ EOF false ∷ token IDENT IDENT false ∷ token COLON EOF true ∷ token COLON EOF false ∷ token IDENT IDENT false ∷ token MINUS EOF false ∷ token AMP EOF false ∷ token MUT_KW EOF false ∷ token BYTE_STRING EOF false ∷ token SEMICOLON EOF false ∷ token R_CURLY EOF false ∷ []

abbrev tree445 : Forest
tree445 = (Node SOURCE_FILE (Node FN (Node VISIBILITY (Leaf PUB_KW 1 End) (Leaf FN_KW 1 (Node NAME (Leaf IDENT 1 End) (Node PARAM_LIST (Leaf L_PAREN 1 (Leaf R_PAREN 1 End)) (Node RET_TYPE (Leaf THIN_ARROW 2 (Node SLICE_TYPE (Leaf L_BRACK 1 (Node PATH_TYPE (Node PATH (Node PATH_SEGMENT (Node NAME_REF (Leaf IDENT 1 End) End) End) End) (Leaf R_BRACK 1 End))) End)) (Node BLOCK_EXPR (Node STMT_LIST (Leaf L_CURLY 1 (Node LET_STMT (Leaf LET_KW 1 (Node IDENT_PAT (Node NAME (Leaf IDENT 1 End) End) (Leaf EQ 1 (Node BIN_EXPR (Node PREFIX_EXPR (Leaf MINUS 1 (Node PATH_EXPR (Node PATH (Node PATH_SEGMENT (Node NAME_REF (Leaf IDENT 1 End) End) End) End) End)) (Leaf CARET 1 (Node PREFIX_EXPR (Leaf STAR 1 (Node LITERAL (Leaf FLOAT_NUMBER 1 End) End)) End))) (Leaf SEMICOLON 1 End))))) (Node LET_STMT (Leaf LET_KW 1 (Node IDENT_PAT (Node NAME (Leaf IDENT 1 End) End) (Leaf COLON 1 (Node PATH_TYPE (Node PATH (Node PATH_SEGMENT (Node NAME_REF (Leaf IDENT 1 End) End) End) End) (Leaf EQ 1 (Node BIN_EXPR (Node PATH_EXPR (Node PATH (Node PATH (Node PATH_SEGMENT (Node NAME_REF (Leaf IDENT 1 End) End) End) (Leaf COLON2 2 (Node PATH_SEGMENT (Node NAME_REF (Leaf IDENT 1 End) End) End))) End) (Leaf MINUS 1 (Node REF_EXPR (Leaf AMP 1 (Leaf MUT_KW 1 (Node LITERAL (Leaf BYTE_STRING 1 End) End))) End))) (Leaf SEMICOLON 1 End))))))) (Leaf R_CURLY 1 End)))) End) End)))))) End) End)

core445 : IsCoreFile tokens445 tree445
core445 = record { items = (ItemThen (Function (Public false) false false false NoElement false (Returns false (SliceType false (PathType (Name false)) false)) (Braces false (StatementThen (Let false (NamePattern Immutable false) NoAnnotation (InitializedBy false (Binary (Prefixed Negate false (Named (Name false))) BitXor false (Prefixed Dereference false (Literal FloatNumber true)))) false) (StatementThen (Let false (NamePattern Immutable false) (AnnotatedBy false (PathType (Name false))) (InitializedBy false (Binary (Named (Below (Name false) false false)) Minus false (Borrow false (Mutable false) (Literal ByteText false)))) false) NoStatement)) false)) NoItem); well_formed = ((((tt, omega arith), (tt, omega arith), omega arith, omega arith, refl), ((tt, (tt, omega arith), omega arith, omega arith, refl), tt)), tt); has_tokens = refl; has_tree = refl }

spaced445 : spaced tree445 (true ∷ []) ≡ tokens445
unfolding spaced_before
spaced445 = refl

abbrev tokens454 : List Token
tokens454 = token PUB_KW EOF false ∷ token FN_KW EOF false ∷ token IDENT IDENT false ∷ token L_PAREN EOF false ∷ token MUT_KW EOF false ∷ token IDENT IDENT false ∷ token COLON EOF false ∷ token IDENT IDENT false ∷ token COMMA EOF false ∷ token MUT_KW EOF false ∷ token IDENT IDENT false ∷ token COLON EOF false ∷ token IDENT IDENT false ∷ token R_PAREN EOF false ∷ token MINUS EOF true ∷ token R_ANGLE EOF false ∷ token IDENT IDENT false ∷ token L_CURLY EOF false ∷ token LET_KW EOF false ∷ token IDENT IDENT false ∷ token EQ EOF false ∷ token IDENT IDENT false ∷ token DOT EOF false ∷ token IDENT IDENT false ∷ token L_PAREN EOF false ∷ token FLOAT_NUMBER EOF false ∷ token COMMA EOF false ∷ token R_PAREN EOF false ∷ token PIPE EOF false ∷ token FLOAT_NUMBER EOF true ∷ token DOT EOF false ∷ token IDENT IDENT false ∷ token L_PAREN EOF false ∷ token R_PAREN EOF false ∷ token L_ANGLE EOF true ∷ token EQ EOF false ∷ token TRUE_KW EOF false ∷ token L_PAREN EOF false ∷ token IDENT IDENT false ∷ token DOT EOF false ∷ token IDENT IDENT false ∷ token L_PAREN EOF false ∷ token IDENT IDENT false ∷ token COMMA EOF false ∷ token IDENT IDENT false ∷ token COMMA EOF false ∷ token IDENT IDENT false ∷ token COLON EOF true ∷ token COLON EOF false ∷ token IDENT IDENT false ∷ token COLON EOF true ∷ token COLON EOF false ∷ token IDENT IDENT false ∷ token R_PAREN EOF false ∷ token R_PAREN EOF false ∷ token SEMICOLON EOF false ∷ token STAR EOF false ∷ token IDENT IDENT false ∷ token R_CURLY EOF false ∷ []

abbrev tree454 : Forest
tree454 = (Node SOURCE_FILE (Node FN (Node VISIBILITY (Leaf PUB_KW 1 End) (Leaf FN_KW 1 (Node NAME (Leaf IDENT 1 End) (Node PARAM_LIST (Leaf L_PAREN 1 (Node PARAM (Node IDENT_PAT (Leaf MUT_KW 1 (Node NAME (Leaf IDENT 1 End) End)) (Leaf COLON 1 (Node PATH_TYPE (Node PATH (Node PATH_SEGMENT (Node NAME_REF (Leaf IDENT 1 End) End) End) End) End))) (Leaf COMMA 1 (Node PARAM (Node IDENT_PAT (Leaf MUT_KW 1 (Node NAME (Leaf IDENT 1 End) End)) (Leaf COLON 1 (Node PATH_TYPE (Node PATH (Node PATH_SEGMENT (Node NAME_REF (Leaf IDENT 1 End) End) End) End) End))) (Leaf R_PAREN 1 End))))) (Node RET_TYPE (Leaf THIN_ARROW 2 (Node PATH_TYPE (Node PATH (Node PATH_SEGMENT (Node NAME_REF (Leaf IDENT 1 End) End) End) End) End)) (Node BLOCK_EXPR (Node STMT_LIST (Leaf L_CURLY 1 (Node LET_STMT (Leaf LET_KW 1 (Node IDENT_PAT (Node NAME (Leaf IDENT 1 End) End) (Leaf EQ 1 (Node BIN_EXPR (Node BIN_EXPR (Node METHOD_CALL_EXPR (Node PATH_EXPR (Node PATH (Node PATH_SEGMENT (Node NAME_REF (Leaf IDENT 1 End) End) End) End) (Leaf DOT 1 (Node NAME_REF (Leaf IDENT 1 End) (Node ARG_LIST (Leaf L_PAREN 1 (Node LITERAL (Leaf FLOAT_NUMBER 1 End) (Leaf COMMA 1 (Leaf R_PAREN 1 End)))) End)))) (Leaf PIPE 1 (Node METHOD_CALL_EXPR (Node LITERAL (Leaf FLOAT_NUMBER 1 End) (Leaf DOT 1 (Node NAME_REF (Leaf IDENT 1 End) (Node ARG_LIST (Leaf L_PAREN 1 (Leaf R_PAREN 1 End)) End)))) End))) (Leaf LTEQ 2 (Node CALL_EXPR (Node LITERAL (Leaf TRUE_KW 1 End) (Node ARG_LIST (Leaf L_PAREN 1 (Node METHOD_CALL_EXPR (Node PATH_EXPR (Node PATH (Node PATH_SEGMENT (Node NAME_REF (Leaf IDENT 1 End) End) End) End) (Leaf DOT 1 (Node NAME_REF (Leaf IDENT 1 End) (Node ARG_LIST (Leaf L_PAREN 1 (Node PATH_EXPR (Node PATH (Node PATH_SEGMENT (Node NAME_REF (Leaf IDENT 1 End) End) End) End) (Leaf COMMA 1 (Node PATH_EXPR (Node PATH (Node PATH_SEGMENT (Node NAME_REF (Leaf IDENT 1 End) End) End) End) (Leaf COMMA 1 (Node PATH_EXPR (Node PATH (Node PATH (Node PATH (Node PATH_SEGMENT (Node NAME_REF (Leaf IDENT 1 End) End) End) (Leaf COLON2 2 (Node PATH_SEGMENT (Node NAME_REF (Leaf IDENT 1 End) End) End))) (Leaf COLON2 2 (Node PATH_SEGMENT (Node NAME_REF (Leaf IDENT 1 End) End) End))) End) (Leaf R_PAREN 1 End))))))) End)))) (Leaf R_PAREN 1 End))) End)) End))) (Leaf SEMICOLON 1 End))))) (Node PREFIX_EXPR (Leaf STAR 1 (Node PATH_EXPR (Node PATH (Node PATH_SEGMENT (Node NAME_REF (Leaf IDENT 1 End) End) End) End) End)) (Leaf R_CURLY 1 End)))) End) End)))))) End) End)

core454 : IsCoreFile tokens454 tree454
core454 = record { items = (ItemThen (Function (Public false) false false false (ElementComma (TypedPattern (NamePattern (Mutable false) false) false (PathType (Name false))) false (LastElement (TypedPattern (NamePattern (Mutable false) false) false (PathType (Name false))))) false (Returns false (PathType (Name false))) (Braces false (StatementThen (Let false (NamePattern Immutable false) NoAnnotation (InitializedBy false (Binary (Binary (MethodCall (Named (Name false)) false false false (ArgumentComma (Literal FloatNumber false) false NoArgument) false) BitOr false (MethodCall (Literal FloatNumber true) false false false NoArgument false)) LessOrEqual false (FunctionCall (Literal TrueWord false) false (LastArgument (MethodCall (Named (Name false)) false false false (ArgumentComma (Named (Name false)) false (ArgumentComma (Named (Name false)) false (LastArgument (Named (Below (Below (Name false) false false) false false))))) false)) false))) false) (LastExpression (Prefixed Dereference false (Named (Name false))))) false)) NoItem); well_formed = (((((tt, omega arith, (tt, tt)), (tt, omega arith, tt), omega arith, omega arith, refl), (tt, omega arith, refl, (tt, omega arith, (tt, (tt, tt)))), omega arith, omega arith, refl), (tt, omega arith)), tt); has_tokens = refl; has_tree = refl }

spaced454 : spaced tree454 (false ∷ true ∷ []) ≡ tokens454
unfolding spaced_before
spaced454 = refl

abbrev tokens485 : List Token
tokens485 = token PUB_KW EOF false ∷ token FN_KW EOF false ∷ token IDENT IDENT false ∷ token L_PAREN EOF false ∷ token R_PAREN EOF false ∷ token L_CURLY EOF false ∷ token STRING EOF false ∷ token L_ANGLE EOF true ∷ token L_ANGLE EOF false ∷ token TRUE_KW EOF false ∷ token AMP EOF true ∷ token AMP EOF false ∷ token IDENT IDENT false ∷ token COLON EOF true ∷ token COLON EOF false ∷ token IDENT IDENT false ∷ token R_ANGLE EOF true ∷ token EQ EOF false ∷ token IDENT IDENT false ∷ token SEMICOLON EOF false ∷ token L_PAREN EOF false ∷ token STRING EOF false ∷ token L_PAREN EOF false ∷ token TRUE_KW EOF false ∷ token COMMA EOF false ∷ token IDENT IDENT false ∷ token COLON EOF true ∷ token COLON EOF false ∷ token IDENT IDENT false ∷ token R_PAREN EOF false ∷ token R_PAREN EOF false ∷ token R_CURLY EOF false ∷ []

abbrev tree485 : Forest
tree485 = (Node SOURCE_FILE (Node FN (Node VISIBILITY (Leaf PUB_KW 1 End) (Leaf FN_KW 1 (Node NAME (Leaf IDENT 1 End) (Node PARAM_LIST (Leaf L_PAREN 1 (Leaf R_PAREN 1 End)) (Node BLOCK_EXPR (Node STMT_LIST (Leaf L_CURLY 1 (Node EXPR_STMT (Node BIN_EXPR (Node BIN_EXPR (Node LITERAL (Leaf STRING 1 End) (Leaf SHL 2 (Node LITERAL (Leaf TRUE_KW 1 End) End))) (Leaf AMP2 2 (Node BIN_EXPR (Node PATH_EXPR (Node PATH (Node PATH (Node PATH_SEGMENT (Node NAME_REF (Leaf IDENT 1 End) End) End) (Leaf COLON2 2 (Node PATH_SEGMENT (Node NAME_REF (Leaf IDENT 1 End) End) End))) End) (Leaf GTEQ 2 (Node PATH_EXPR (Node PATH (Node PATH_SEGMENT (Node NAME_REF (Leaf IDENT 1 End) End) End) End) End))) End))) (Leaf SEMICOLON 1 End)) (Node PAREN_EXPR (Leaf L_PAREN 1 (Node CALL_EXPR (Node LITERAL (Leaf STRING 1 End) (Node ARG_LIST (Leaf L_PAREN 1 (Node LITERAL (Leaf TRUE_KW 1 End) (Leaf COMMA 1 (Node PATH_EXPR (Node PATH (Node PATH (Node PATH_SEGMENT (Node NAME_REF (Leaf IDENT 1 End) End) End) (Leaf COLON2 2 (Node PATH_SEGMENT (Node NAME_REF (Leaf IDENT 1 End) End) End))) End) (Leaf R_PAREN 1 End))))) End)) (Leaf R_PAREN 1 End))) (Leaf R_CURLY 1 End)))) End) End))))) End) End)

core485 : IsCoreFile tokens485 tree485
core485 = record { items = (ItemThen (Function (Public false) false false false NoElement false NoReturnType (Braces false (StatementThen (Run (Binary (Binary (Literal Text false) ShiftLeft false (Literal TrueWord false)) LogicalAnd false (Binary (Named (Below (Name false) false false)) GreaterOrEqual false (Named (Name false)))) false) (LastExpression (Parenthesized false (FunctionCall (Literal Text false) false (ArgumentComma (Literal TrueWord false) false (LastArgument (Named (Below (Name false) false false)))) false) false))) false)) NoItem); well_formed = ((((tt, tt, omega arith, omega arith, refl), (tt, tt, omega arith, omega arith, refl), omega arith, omega arith, refl), (tt, omega arith, refl, (tt, tt))), tt); has_tokens = refl; has_tree = refl }

spaced485 : spaced tree485 ([]) ≡ tokens485
unfolding spaced_before
spaced485 = refl

abbrev tokens504 : List Token
tokens504 = token FN_KW EOF false ∷ token L_PAREN EOF false ∷ token R_PAREN EOF false ∷ token L_CURLY EOF false ∷ token IDENT IDENT false ∷ token PERCENT EOF true ∷ token EQ EOF false ∷ token IDENT IDENT false ∷ token R_CURLY EOF false ∷ []

abbrev tree504 : Forest
tree504 = (Node SOURCE_FILE (Node FN (Leaf FN_KW 1 (Node NAME End (Node PARAM_LIST (Leaf L_PAREN 1 (Leaf R_PAREN 1 End)) (Node BLOCK_EXPR (Node STMT_LIST (Leaf L_CURLY 1 (Node BIN_EXPR (Node PATH_EXPR (Node PATH (Node PATH_SEGMENT (Node NAME_REF (Leaf IDENT 1 End) End) End) End) (Leaf PERCENTEQ 2 (Node PATH_EXPR (Node PATH (Node PATH_SEGMENT (Node NAME_REF (Leaf IDENT 1 End) End) End) End) End))) (Leaf R_CURLY 1 End))) End) End)))) End) End)

other504 : IsCoreFile tokens504 tree504 → ⊥
unfolding meaning by_length by_rank follow look_of begins_below read turns leaf say skip split fresh node wrapped after sees ahead is_end begins passes is_silent shift in_mode from_start there_at rule rank whole row any_of one_of is_longer no_longer longest paths types patterns expressions statements items leaves is_used_up takes_all entry
other504 = read-otherwise tokens504 tree504 refl

spaced504 : spaced tree504 ([]) ≡ tokens504
unfolding spaced_before
spaced504 = refl

abbrev tokens546 : List Token
tokens546 = token FN_KW EOF false ∷ token IDENT IDENT false ∷ token L_PAREN EOF false ∷ token R_PAREN EOF false ∷ token MINUS EOF true ∷ token R_ANGLE EOF false ∷ token IDENT IDENT false ∷ token L_CURLY EOF false ∷ token BANG EOF false ∷ token INT_NUMBER EOF false ∷ token MINUS EOF true ∷ token EQ EOF false ∷ token INT_NUMBER EOF false ∷ token L_PAREN EOF false ∷ token IDENT IDENT false ∷ token COLON EOF true ∷ token COLON EOF false ∷ token IDENT IDENT false ∷ token COMMA EOF false ∷ token IDENT IDENT false ∷ token COMMA EOF false ∷ token TRUE_KW EOF false ∷ token R_PAREN EOF false ∷ token R_CURLY EOF false ∷ token PUB_KW EOF false ∷ token STRUCT_KW EOF false ∷ token IDENT IDENT false ∷ token L_CURLY EOF false ∷ token PUB_KW EOF false ∷ token IDENT IDENT false ∷ token COLON EOF false ∷ token AMP EOF false ∷ token MUT_KW EOF false ∷ token IDENT IDENT false ∷ token R_CURLY EOF false ∷ []

abbrev tree546 : Forest
tree546 = (Node SOURCE_FILE (Node FN (Leaf FN_KW 1 (Node NAME (Leaf IDENT 1 End) (Node PARAM_LIST (Leaf L_PAREN 1 (Leaf R_PAREN 1 End)) (Node RET_TYPE (Leaf THIN_ARROW 2 (Node PATH_TYPE (Node PATH (Node PATH_SEGMENT (Node NAME_REF (Leaf IDENT 1 End) End) End) End) End)) (Node BLOCK_EXPR (Node STMT_LIST (Leaf L_CURLY 1 (Node BIN_EXPR (Node PREFIX_EXPR (Leaf BANG 1 (Node LITERAL (Leaf INT_NUMBER 1 End) End)) (Leaf MINUSEQ 2 (Node CALL_EXPR (Node LITERAL (Leaf INT_NUMBER 1 End) (Node ARG_LIST (Leaf L_PAREN 1 (Node PATH_EXPR (Node PATH (Node PATH (Node PATH_SEGMENT (Node NAME_REF (Leaf IDENT 1 End) End) End) (Leaf COLON2 2 (Node PATH_SEGMENT (Node NAME_REF (Leaf IDENT 1 End) End) End))) End) (Leaf COMMA 1 (Node PATH_EXPR (Node PATH (Node PATH_SEGMENT (Node NAME_REF (Leaf IDENT 1 End) End) End) End) (Leaf COMMA 1 (Node LITERAL (Leaf TRUE_KW 1 End) (Leaf R_PAREN 1 End))))))) End)) End))) (Leaf R_CURLY 1 End))) End) End))))) (Node STRUCT (Node VISIBILITY (Leaf PUB_KW 1 End) (Leaf STRUCT_KW 1 (Node NAME (Leaf IDENT 1 End) (Node RECORD_FIELD_LIST (Leaf L_CURLY 1 (Node RECORD_FIELD (Node VISIBILITY (Leaf PUB_KW 1 End) (Node NAME (Leaf IDENT 1 End) (Leaf COLON 1 (Node REF_TYPE (Leaf AMP 1 (Leaf MUT_KW 1 (Node PATH_TYPE (Node PATH (Node PATH_SEGMENT (Node NAME_REF (Leaf IDENT 1 End) End) End) End) End))) End)))) (Leaf R_CURLY 1 End))) End)))) End)) End)

core546 : IsCoreFile tokens546 tree546
core546 = record { items = (ItemThen (Function Private false false false NoElement false (Returns false (PathType (Name false))) (Braces false (LastExpression (Assignment (Prefixed Invert false (Literal Integer false)) AssignMinus false (FunctionCall (Literal Integer false) false (ArgumentComma (Named (Below (Name false) false false)) false (ArgumentComma (Named (Name false)) false (LastArgument (Literal TrueWord false)))) false))) false)) (ItemThen (RecordStruct (Public false) false false false (LastElement (NamedField (Public false) false false (ReferenceType false (Mutable false) (PathType (Name false))))) false) NoItem)); well_formed = (((tt, omega arith), (tt, omega arith, refl, (tt, (tt, tt))), omega arith), (tt, tt)); has_tokens = refl; has_tree = refl }

spaced546 : spaced tree546 ([]) ≡ tokens546
unfolding spaced_before
spaced546 = refl

abbrev tokens562 : List Token
tokens562 = token PUB_KW EOF false ∷ token FN_KW EOF false ∷ token IDENT IDENT false ∷ token L_PAREN EOF false ∷ token MUT_KW EOF false ∷ token IDENT IDENT false ∷ token COLON EOF false ∷ token IDENT IDENT false ∷ token R_PAREN EOF false ∷ token MINUS EOF true ∷ token R_ANGLE EOF false ∷ token IDENT IDENT false ∷ token L_CURLY EOF false ∷ token LET_KW EOF false ∷ token IDENT IDENT false ∷ token EQ EOF false ∷ token AMP EOF false ∷ token IDENT IDENT false ∷ token L_PAREN EOF false ∷ token TRUE_KW EOF false ∷ token COMMA EOF false ∷ token R_PAREN EOF false ∷ token SEMICOLON EOF false ∷ token R_CURLY EOF false ∷ token PUB_KW EOF false ∷ token FN_KW EOF false ∷ token IDENT IDENT false ∷ token L_PAREN EOF false ∷ token MUT_KW EOF false ∷ token IDENT IDENT false ∷ token COLON EOF false ∷ token IDENT IDENT false ∷ token COLON EOF true ∷ token COLON EOF false ∷ token IDENT IDENT false ∷ token R_PAREN EOF false ∷ token MINUS EOF true ∷ token R_ANGLE EOF false ∷ token L_BRACK EOF false ∷ token IDENT IDENT false ∷ token R_BRACK EOF false ∷ token L_CURLY EOF false ∷ token L_PAREN EOF false ∷ token IDENT IDENT false ∷ token COLON EOF true ∷ token COLON EOF false ∷ token IDENT IDENT false ∷ token COLON EOF true ∷ token COLON EOF false ∷ token IDENT IDENT false ∷ token R_PAREN EOF false ∷ token SEMICOLON EOF false ∷ token LET_KW EOF false ∷ token IDENT IDENT false ∷ token EQ EOF false ∷ token IDENT IDENT false ∷ token COLON EOF true ∷ token COLON EOF false ∷ token IDENT IDENT false ∷ token PLUS EOF true ∷ token EQ EOF false ∷ token IDENT IDENT false ∷ token SEMICOLON EOF false ∷ token R_CURLY EOF false ∷ []

abbrev tree562 : Forest
tree562 = (Node SOURCE_FILE (Node FN (Node VISIBILITY (Leaf PUB_KW 1 End) (Leaf FN_KW 1 (Node NAME (Leaf IDENT 1 End) (Node PARAM_LIST (Leaf L_PAREN 1 (Node PARAM (Node IDENT_PAT (Leaf MUT_KW 1 (Node NAME (Leaf IDENT 1 End) End)) (Leaf COLON 1 (Node PATH_TYPE (Node PATH (Node PATH_SEGMENT (Node NAME_REF (Leaf IDENT 1 End) End) End) End) End))) (Leaf R_PAREN 1 End))) (Node RET_TYPE (Leaf THIN_ARROW 2 (Node PATH_TYPE (Node PATH (Node PATH_SEGMENT (Node NAME_REF (Leaf IDENT 1 End) End) End) End) End)) (Node BLOCK_EXPR (Node STMT_LIST (Leaf L_CURLY 1 (Node LET_STMT (Leaf LET_KW 1 (Node IDENT_PAT (Node NAME (Leaf IDENT 1 End) End) (Leaf EQ 1 (Node REF_EXPR (Leaf AMP 1 (Node CALL_EXPR (Node PATH_EXPR (Node PATH (Node PATH_SEGMENT (Node NAME_REF (Leaf IDENT 1 End) End) End) End) (Node ARG_LIST (Leaf L_PAREN 1 (Node LITERAL (Leaf TRUE_KW 1 End) (Leaf COMMA 1 (Leaf R_PAREN 1 End)))) End)) End)) (Leaf SEMICOLON 1 End))))) (Leaf R_CURLY 1 End))) End) End)))))) (Node FN (Node VISIBILITY (Leaf PUB_KW 1 End) (Leaf FN_KW 1 (Node NAME (Leaf IDENT 1 End) (Node PARAM_LIST (Leaf L_PAREN 1 (Node PARAM (Node IDENT_PAT (Leaf MUT_KW 1 (Node NAME (Leaf IDENT 1 End) End)) (Leaf COLON 1 (Node PATH_TYPE (Node PATH (Node PATH (Node PATH_SEGMENT (Node NAME_REF (Leaf IDENT 1 End) End) End) (Leaf COLON2 2 (Node PATH_SEGMENT (Node NAME_REF (Leaf IDENT 1 End) End) End))) End) End))) (Leaf R_PAREN 1 End))) (Node RET_TYPE (Leaf THIN_ARROW 2 (Node SLICE_TYPE (Leaf L_BRACK 1 (Node PATH_TYPE (Node PATH (Node PATH_SEGMENT (Node NAME_REF (Leaf IDENT 1 End) End) End) End) (Leaf R_BRACK 1 End))) End)) (Node BLOCK_EXPR (Node STMT_LIST (Leaf L_CURLY 1 (Node EXPR_STMT (Node PAREN_EXPR (Leaf L_PAREN 1 (Node PATH_EXPR (Node PATH (Node PATH (Node PATH (Node PATH_SEGMENT (Node NAME_REF (Leaf IDENT 1 End) End) End) (Leaf COLON2 2 (Node PATH_SEGMENT (Node NAME_REF (Leaf IDENT 1 End) End) End))) (Leaf COLON2 2 (Node PATH_SEGMENT (Node NAME_REF (Leaf IDENT 1 End) End) End))) End) (Leaf R_PAREN 1 End))) (Leaf SEMICOLON 1 End)) (Node LET_STMT (Leaf LET_KW 1 (Node IDENT_PAT (Node NAME (Leaf IDENT 1 End) End) (Leaf EQ 1 (Node BIN_EXPR (Node PATH_EXPR (Node PATH (Node PATH (Node PATH_SEGMENT (Node NAME_REF (Leaf IDENT 1 End) End) End) (Leaf COLON2 2 (Node PATH_SEGMENT (Node NAME_REF (Leaf IDENT 1 End) End) End))) End) (Leaf PLUSEQ 2 (Node PATH_EXPR (Node PATH (Node PATH_SEGMENT (Node NAME_REF (Leaf IDENT 1 End) End) End) End) End))) (Leaf SEMICOLON 1 End))))) (Leaf R_CURLY 1 End)))) End) End)))))) End)) End)

core562 : IsCoreFile tokens562 tree562
core562 = record { items = (ItemThen (Function (Public false) false false false (LastElement (TypedPattern (NamePattern (Mutable false) false) false (PathType (Name false)))) false (Returns false (PathType (Name false))) (Braces false (StatementThen (Let false (NamePattern Immutable false) NoAnnotation (InitializedBy false (Borrow false Immutable (FunctionCall (Named (Name false)) false (ArgumentComma (Literal TrueWord false) false NoArgument) false))) false) NoStatement) false)) (ItemThen (Function (Public false) false false false (LastElement (TypedPattern (NamePattern (Mutable false) false) false (PathType (Below (Name false) false false)))) false (Returns false (SliceType false (PathType (Name false)) false)) (Braces false (StatementThen (Run (Parenthesized false (Named (Below (Below (Name false) false false) false false)) false) false) (StatementThen (Let false (NamePattern Immutable false) NoAnnotation (InitializedBy false (Assignment (Named (Below (Name false) false false)) AssignPlus false (Named (Name false)))) false) NoStatement)) false)) NoItem)); well_formed = ((((tt, omega arith, refl, (tt, tt)), omega arith), tt), ((tt, ((tt, tt, omega arith), tt)), tt)); has_tokens = refl; has_tree = refl }

spaced562 : spaced tree562 ([]) ≡ tokens562
unfolding spaced_before
spaced562 = refl

abbrev tokens581 : List Token
tokens581 = token FN_KW EOF false ∷ token IDENT IDENT false ∷ token L_PAREN EOF false ∷ token R_PAREN EOF false ∷ token L_CURLY EOF false ∷ token IDENT IDENT false ∷ token DOT EOF false ∷ token IDENT IDENT false ∷ token L_PAREN EOF false ∷ token R_PAREN EOF false ∷ token SEMICOLON EOF false ∷ token FLOAT_NUMBER EOF true ∷ token L_PAREN EOF false ∷ token R_PAREN EOF false ∷ token DOT EOF false ∷ token IDENT IDENT false ∷ token R_CURLY EOF false ∷ []

abbrev tree581 : Forest
tree581 = (Node SOURCE_FILE (Node FN (Leaf FN_KW 1 (Node NAME (Leaf IDENT 1 End) (Node PARAM_LIST (Leaf L_PAREN 1 (Leaf R_PAREN 1 End)) (Node BLOCK_EXPR (Node STMT_LIST (Leaf L_CURLY 1 (Node EXPR_STMT (Node METHOD_CALL_EXPR (Node PATH_EXPR (Node PATH (Node PATH_SEGMENT (Node NAME_REF (Leaf IDENT 1 End) End) End) End) (Leaf DOT 1 (Node NAME_REF (Leaf IDENT 1 End) (Node ARG_LIST (Leaf L_PAREN 1 (Leaf R_PAREN 1 End)) End)))) (Leaf SEMICOLON 1 End)) (Node FIELD_EXPR (Node CALL_EXPR (Node LITERAL (Leaf FLOAT_NUMBER 1 End) (Node ARG_LIST (Leaf L_PAREN 1 (Leaf R_PAREN 1 End)) End)) (Leaf DOT 1 (Node NAME_REF (Leaf IDENT 1 End) End))) (Leaf R_CURLY 1 End)))) End) End)))) End) End)

core581 : IsCoreFile tokens581 tree581
core581 = record { items = (ItemThen (Function Private false false false NoElement false NoReturnType (Braces false (StatementThen (Run (MethodCall (Named (Name false)) false false false NoArgument false) false) (LastExpression (FieldAccess (FunctionCall (Literal FloatNumber true) false NoArgument false) false false))) false)) NoItem); well_formed = (((tt, omega arith, tt), ((tt, omega arith, refl, tt), omega arith)), tt); has_tokens = refl; has_tree = refl }

spaced581 : spaced tree581 (true ∷ []) ≡ tokens581
unfolding spaced_before
spaced581 = refl

abbrev tokens597 : List Token
tokens597 = token FN_KW EOF false ∷ token IDENT IDENT false ∷ token L_PAREN EOF false ∷ token IDENT IDENT false ∷ token COLON EOF false ∷ token IDENT IDENT false ∷ token MINUS EOF true ∷ token R_ANGLE EOF false ∷ token IDENT IDENT false ∷ token L_CURLY EOF false ∷ token LET_KW EOF false ∷ token IDENT IDENT false ∷ token SEMICOLON EOF false ∷ token STRING EOF false ∷ token DOT EOF false ∷ token IDENT IDENT false ∷ token R_CURLY EOF false ∷ []

abbrev tree597 : Forest
tree597 = (Node SOURCE_FILE (Node FN (Leaf FN_KW 1 (Node NAME (Leaf IDENT 1 End) (Node PARAM_LIST (Leaf L_PAREN 1 (Node PARAM (Node IDENT_PAT (Node NAME (Leaf IDENT 1 End) End) (Leaf COLON 1 (Node PATH_TYPE (Node PATH (Node PATH_SEGMENT (Node NAME_REF (Leaf IDENT 1 End) End) End) End) End))) End)) (Node RET_TYPE (Leaf THIN_ARROW 2 (Node PATH_TYPE (Node PATH (Node PATH_SEGMENT (Node NAME_REF (Leaf IDENT 1 End) End) End) End) End)) (Node BLOCK_EXPR (Node STMT_LIST (Leaf L_CURLY 1 (Node LET_STMT (Leaf LET_KW 1 (Node IDENT_PAT (Node NAME (Leaf IDENT 1 End) End) (Leaf SEMICOLON 1 End))) (Node FIELD_EXPR (Node LITERAL (Leaf STRING 1 End) (Leaf DOT 1 (Node NAME_REF (Leaf IDENT 1 End) End))) (Leaf R_CURLY 1 End)))) End) End))))) End) End)

other597 : IsCoreFile tokens597 tree597 → ⊥
unfolding meaning by_length by_rank follow look_of begins_below read turns leaf say skip split fresh node wrapped after sees ahead is_end begins passes is_silent shift in_mode from_start there_at rule rank whole row any_of one_of is_longer no_longer longest paths types patterns expressions statements items leaves is_used_up takes_all entry
other597 = read-otherwise tokens597 tree597 refl

spaced597 : spaced tree597 ([]) ≡ tokens597
unfolding spaced_before
spaced597 = refl

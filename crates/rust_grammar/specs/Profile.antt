-- The profile: the rows, and the table, that the grammar had before the whole language was beside it. They stand here for one law
-- alone, that what the profile reads is kept (Kept).
use Rattle.std.specs.Prelude.{ℕ, List, [], ◌∷◌}
use Rattle.parser_input.specs.Kinds.{ERROR, COMMA, DEFER_STMT, COLON, DYN_KW, SOURCE_FILE, MACRO_ITEMS, MACRO_STMTS, MODULE, ITEM_LIST, USE, USE_TREE, USE_TREE_LIST, RENAME, STRUCT, ENUM, VARIANT_LIST, VARIANT, RECORD_FIELD_LIST, RECORD_FIELD, TUPLE_FIELD_LIST, TUPLE_FIELD, FN, PARAM_LIST, SELF_PARAM, PARAM, RET_TYPE, CONST, STATIC, TYPE_ALIAS, IMPL, TRAIT, ASSOC_ITEM_LIST, VISIBILITY, ATTR, META, MACRO_CALL, TOKEN_TREE, NAME, NAME_REF, LIFETIME, PATH, PATH_SEGMENT, GENERIC_ARG_LIST, LIFETIME_ARG, ASSOC_TYPE_ARG, CONST_ARG, TYPE_ARG, GENERIC_PARAM_LIST, LIFETIME_PARAM, TYPE_PARAM, TYPE_BOUND_LIST, TYPE_BOUND, WHERE_CLAUSE, WHERE_PRED, PATH_TYPE, TUPLE_TYPE, PAREN_TYPE, NEVER_TYPE, PTR_TYPE, ARRAY_TYPE, SLICE_TYPE, REF_TYPE, INFER_TYPE, IMPL_TRAIT_TYPE, DYN_TRAIT_TYPE, OR_PAT, LITERAL_PAT, WILDCARD_PAT, REF_PAT, TUPLE_PAT, PAREN_PAT, SLICE_PAT, REST_PAT, IDENT_PAT, TUPLE_STRUCT_PAT, RECORD_PAT, RECORD_PAT_FIELD_LIST, RECORD_PAT_FIELD, PATH_PAT, STMT_LIST, LET_STMT, LET_ELSE, EXPR_STMT, LITERAL, BLOCK_EXPR, RANGE_EXPR, BIN_EXPR, CAST_EXPR, PREFIX_EXPR, REF_EXPR, CALL_EXPR, ARG_LIST, INDEX_EXPR, TRY_EXPR, METHOD_CALL_EXPR, FIELD_EXPR, MACRO_EXPR, RECORD_EXPR, RECORD_EXPR_FIELD_LIST, RECORD_EXPR_FIELD, PATH_EXPR, TUPLE_EXPR, PAREN_EXPR, ARRAY_EXPR, RETURN_EXPR, BREAK_EXPR, CONTINUE_EXPR, CLOSURE_EXPR, LET_EXPR, IF_EXPR, WHILE_EXPR, LOOP_EXPR, FOR_EXPR, MATCH_EXPR, MATCH_ARM_LIST, MATCH_ARM, MATCH_GUARD}
use Rattle.parser_events.specs.Forest.{Expected, ExpectedExpression, ExpectedItem, ExpectedStatement, ExpectedMatchArm, ExpectedField}
use Rattle.rust_grammar.specs.Rule.{source_file, macro_items, macro_statements, item, body, assoc_items, variants, record_fields, tuple_fields, visibility, attribute, meta, token_tree, use_tree, use_list, params, param, name, lifetime, name_ref, path, type_path, expr_path, generic_args, generic_arg, generic_params, generic_param, bounds, bound, where_clause, where_pred, any_type, ret_type, pattern, single_pattern, pattern_fields, pattern_field, literal, statement_list, block, statement, macro_statement, statement_end, macro_statement_end, expression, operation, operation_tail, pipe_tail, disjunction, conjunction, comparison, bit_or, bit_xor, bit_and, bit_shift, sum, product, cast, prefixed, postfix, after_dot, arguments, atom, field_values, field_value, block_like, if_expr, match_arms, match_arm, Production, Look, Kind, Contextual, Joint, Left, InCondition, Given, Both, Either, Not, Spelling, Rule, Nothing, One, Any, Want, Say, Skip, Split, When, Unless, Call}
use Rattle.rust_grammar.specs.Words.{'dots', 'dots_eq', '::', '==', '=>', '!=', '->', '<=', '>=', '&&', '||', '|>', '<<', '>>', '+=', '-=', '*=', '/=', '%=', '&=', '|=', '^=', '<<=', '>>=', 'semi', 'comma', 'dot', 'l_paren', 'r_paren', 'l_curly', 'r_curly', '[', ']', 'at', '#', '?', ':', '=', '!', '<', '>', '-', '&', '|', '+', '*', '/', '^', '%', 'break', 'const', 'continue', 'defer', 'crate', 'else', 'enum', 'false', 'fn', 'for', 'if', 'impl', 'in', 'let', 'loop', 'match', 'mod', 'move', 'mut', 'pub', 'ref', 'return', 'self', 'Self', 'static', 'struct', 'super', 'trait', 'true', 'type', 'unsafe', 'use', 'where', 'while', 'as', 'dyn', '_', 'ident', 'lifetime', 'int', 'float', 'char', 'byte', 'string', 'byte_string', 'c_string', 'shebang', 'frontmatter', 'contextual_dyn'}
use Rattle.rust_grammar.specs.Calls.{Item, AssocItems, Variants, RecordFields, TupleFields, Visibility, Attribute, Meta, TokenTree, UseTree, UseList, Name, Lifetime, Ref, Path, TypePath, ExprPath, GenericArgs, GenericArg, GenericParams, GenericParam, Bounds, Bound, WhereClause, WherePred, Params, Param, RetType, AnyType, Pattern, SinglePattern, PatternFields, PatternField, Literal, StatementList, Block, Expression, Operation, Disjunction, Comparison, Prefixed, Arguments, Atom, FieldValues, FieldValue, BlockLike, IfExpr, MatchArms, MatchArm}
use Rattle.rust_grammar.specs.Notation.{◌or◌, ◌▸◌, ◌▹◌, ⁅◌⁆, ◌*, ◌⁺, ◌!, ◌⟨◌⟩, ◌<⟨◌⟩, more, off, on, at_end, next, row, ◌before◌, ◌before_any◌, ◌not_before◌, any_of, one_of, until, rest_listed, listed, op}
use Rattle.rust_grammar.specs.Meaning.{Table}

-- the words that a segment of a path can be
abbrev pub refs : List Spelling
refs = 'ident' ∷ 'self' ∷ 'super' ∷ 'crate' ∷ 'Self' ∷ []

-- the `::` after which a `*` or a list of uses stands, which ends a path
abbrev pub colons_before_more : Look
colons_before_more = '::' before_any ('*' ∷ 'l_curly' ∷ [])

-- a `::` after which a path goes on
abbrev pub path_goes_on : Look
path_goes_on = Both (Not colons_before_more) (Both (Kind 0 COLON) (Both (Joint 0) (Kind 1 COLON)))

-- a field by name or by number
abbrev pub field_name : Rule
field_name = NAME_REF ⟨ One 'ident' or One 'int' ⟩

-- segments, each with these arguments; a path ends before `::*` and `::{`
abbrev pub path_with : Rule → Rule
path_with args =
    PATH ⟨ PATH_SEGMENT ⟨ ⁅ One '::' ⁆ ▸ Ref ! ▸ args ⟩ ⟩
    ▸ (Unless colons_before_more (PATH <⟨ One '::' ▸ (PATH_SEGMENT ⟨ Ref ▸ args ⟩) ! ⟩)) *

-- The arguments of a path in a type begin at `::<`, or at a `<` that no `=` is next to; those in an expression or a pattern
-- at `::<` alone, and other paths have none.
unfoldable pub profile_paths : (others : Production → Rule) → Production → Rule
profile_paths others name = NAME ⟨ One 'ident' ⟩
profile_paths others lifetime = LIFETIME ⟨ One 'lifetime' ⟩
profile_paths others name_ref = NAME_REF ⟨ One 'ident' or One 'self' or One 'super' or One 'crate' or One 'Self' ⟩
profile_paths others path = path_with Nothing
profile_paths others type_path = path_with ⁅ When (Either ('::' before '<') ('<' not_before ('=' ∷ []))) GenericArgs ⁆
profile_paths others expr_path = path_with ⁅ When ('::' before '<') GenericArgs ⁆
profile_paths others generic_args = When (Either ('::' before '<') (next '<')) (GENERIC_ARG_LIST ⟨ ⁅ One '::' ⁆ ▸ listed GENERIC_ARG_LIST '<' GenericArg '>' ⟩)
profile_paths others generic_arg =
    LIFETIME_ARG ⟨ Lifetime ⟩
    or ASSOC_TYPE_ARG ⟨ NAME_REF ⟨ One 'ident' ⟩ ▹ One '=' ▸ AnyType ! ⟩
    or CONST_ARG ⟨ ⁅ One '-' ⁆ ▸ Literal ! ⟩
    or TYPE_ARG ⟨ AnyType ⟩
profile_paths others generic_params = GENERIC_PARAM_LIST ⟨ listed GENERIC_PARAM_LIST '<' GenericParam '>' ⟩
profile_paths others generic_param =
    LIFETIME_PARAM ⟨ Lifetime ▸ ⁅ One ':' ▸ Bounds ⁆ ⟩
    or TYPE_PARAM ⟨ Name ▸ ⁅ One ':' ▸ Bounds ⁆ ▸ ⁅ One '=' ▸ AnyType ! ⁆ ⟩
profile_paths others bounds = TYPE_BOUND_LIST ⟨ ⁅ Bound ▸ (One '+' ▸ ⁅ Bound ⁆) * ⁆ ⟩
profile_paths others bound = TYPE_BOUND ⟨ Lifetime or ⁅ One '?' ⁆ ▸ (PATH_TYPE ⟨ TypePath ⟩) ! ⟩
profile_paths others where_clause = WHERE_CLAUSE ⟨ One 'where' ▸ ⁅ WherePred ▸ (One 'comma' ▸ ⁅ WherePred ⁆) * ⁆ ⟩
profile_paths others where_pred = WHERE_PRED ⟨ (Lifetime or AnyType) ▸ One ':' ! ▸ Bounds ⟩
profile_paths others x = others x

-- A word `dyn` that is no keyword of the edition is one where what can follow `dyn` is next.
unfoldable pub profile_types : (others : Production → Rule) → Production → Rule
profile_types others any_type =
    One 'l_paren' ▸ (TUPLE_TYPE <⟨ One 'r_paren' ⟩ or AnyType ! ▸ (TUPLE_TYPE <⟨ One 'comma' ▸ rest_listed TUPLE_TYPE AnyType 'r_paren' ⟩ or PAREN_TYPE <⟨ One 'r_paren' ! ⟩))
    or NEVER_TYPE ⟨ One '!' ⟩
    or PTR_TYPE ⟨ One '*' ▸ (One 'const' or One 'mut' !) ▸ AnyType ! ⟩
    or One '[' ▸ AnyType ! ▸ (ARRAY_TYPE <⟨ One 'semi' ▸ CONST_ARG ⟨ off (Expression !) ⟩ ▸ One ']' ! ⟩ or SLICE_TYPE <⟨ One ']' ! ⟩)
    or REF_TYPE ⟨ One '&' ▸ ⁅ Lifetime ⁆ ▸ ⁅ One 'mut' ⁆ ▸ AnyType ! ⟩
    or INFER_TYPE ⟨ One '_' ⟩
    or IMPL_TRAIT_TYPE ⟨ One 'impl' ▸ Bounds ⟩
    or DYN_TRAIT_TYPE ⟨ One 'dyn' ▸ Bounds ⟩
    or When (Both (Contextual 0 DYN_KW) (one_of 1 ('?' ∷ 'lifetime' ∷ refs))) (DYN_TRAIT_TYPE ⟨ One 'contextual_dyn' ▸ Bounds ⟩)
    or PATH_TYPE ⟨ TypePath ⟩
profile_types others ret_type = RET_TYPE ⟨ One '->' ▸ AnyType ! ⟩
profile_types others x = others x

-- the token of a literal
abbrev pub literal_token : Rule
literal_token = One 'int' or One 'float' or One 'char' or One 'byte' or One 'string' or One 'byte_string' or One 'c_string' or One 'true' or One 'false'

unfoldable pub profile_patterns : (others : Production → Rule) → Production → Rule
profile_patterns others pattern =
    One '|' ▸ SinglePattern ! ▸ OR_PAT <⟨ (One '|' ▸ SinglePattern !) * ⟩
    or SinglePattern ▸ ⁅ OR_PAT <⟨ (One '|' ▸ SinglePattern !) ⁺ ⟩ ⁆
profile_patterns others single_pattern =
    LITERAL_PAT ⟨ ⁅ One '-' ⁆ ▸ Literal ! ⟩
    or WILDCARD_PAT ⟨ One '_' ⟩
    or REF_PAT ⟨ One '&' ▸ ⁅ One 'mut' ⁆ ▸ SinglePattern ! ⟩
    or When ('l_paren' before 'dots') (TUPLE_PAT ⟨ listed TUPLE_PAT 'l_paren' Pattern 'r_paren' ⟩)
    or One 'l_paren' ▸ (TUPLE_PAT <⟨ One 'r_paren' ⟩ or Pattern ! ▸ (TUPLE_PAT <⟨ One 'comma' ▸ rest_listed TUPLE_PAT Pattern 'r_paren' ⟩ or PAREN_PAT <⟨ One 'r_paren' ! ⟩))
    or SLICE_PAT ⟨ listed SLICE_PAT '[' Pattern ']' ⟩
    or REST_PAT ⟨ One 'dots' ⟩
    or When (any_of (next 'ref' ∷ next 'mut' ∷ 'ident' not_before ('::' ∷ 'l_paren' ∷ 'l_curly' ∷ '!' ∷ []) ∷ [])) (IDENT_PAT ⟨ ⁅ One 'ref' ⁆ ▸ ⁅ One 'mut' ⁆ ▸ Name ! ▸ ⁅ One 'at' ▸ SinglePattern ! ⁆ ⟩)
    or ExprPath ▸ (TUPLE_STRUCT_PAT <⟨ listed TUPLE_STRUCT_PAT 'l_paren' Pattern 'r_paren' ⟩ or RECORD_PAT <⟨ PatternFields ⟩ or PATH_PAT <⟨ Nothing ⟩)
profile_patterns others pattern_fields = RECORD_PAT_FIELD_LIST ⟨ listed RECORD_PAT_FIELD_LIST 'l_curly' PatternField 'r_curly' ⟩
profile_patterns others pattern_field =
    REST_PAT ⟨ One 'dots' ⟩
    or RECORD_PAT_FIELD ⟨ field_name ▹ One ':' ▸ Pattern ! ⟩
    or RECORD_PAT_FIELD ⟨ IDENT_PAT ⟨ ⁅ One 'ref' ⁆ ▸ ⁅ One 'mut' ⁆ ▸ Name ! ⟩ ⟩
profile_patterns others literal = LITERAL ⟨ literal_token ⟩
profile_patterns others x = others x

-- in condition mode a `{` ends the condition where an expression may be left out
abbrev pub body_begins : Look
body_begins = Both InCondition (next 'l_curly')

-- the two range operators
abbrev pub range_mark : Rule
range_mark = op 'dots_eq' or op 'dots'

-- a range up to an operand; the mark and the operand are both there
abbrev pub range_to : Spelling → Rule
range_to mark = op mark ▹ Unless body_begins Disjunction

-- operands of the next layer, with these operators between them, grouped from the left
abbrev pub layer : (operand : Production) → (operators : Rule) → Rule
layer operand operators = Call operand ▸ (BIN_EXPR <⟨ operators ▸ Want (Call operand) ExpectedExpression ⟩) *

abbrev pub assignment : Rule
assignment = op '=' or op '+=' or op '-=' or op '*=' or op '/=' or op '%=' or op '&=' or op '|=' or op '^=' or op '<<=' or op '>>='

-- an expression in condition mode
abbrev condition : Rule
condition = on Operation

-- the value of a `return` or a `break`
abbrev value : Rule
value = ⁅ Unless body_begins Operation ⁆

abbrev pub closure_param : Rule
closure_param = PARAM ⟨ SinglePattern ▸ ⁅ One ':' ▸ AnyType ! ⁆ ⟩

abbrev pub closure_params : Rule
closure_params = PARAM_LIST ⟨ listed PARAM_LIST '|' closure_param '|' ⟩

-- the tail of a path: the rest of a macro call, the fields of a record, or nothing; `!=` is an operator
abbrev after_path : Rule
after_path =
    Unless (next '!=') (MACRO_CALL <⟨ One '!' ▸ TokenTree ! ⟩ ▸ MACRO_EXPR <⟨ Nothing ⟩)
    or Unless InCondition (RECORD_EXPR <⟨ FieldValues ⟩)
    or PATH_EXPR <⟨ Nothing ⟩

-- Condition mode ends inside brackets and blocks. Of a float after a dot nothing more is read, unless it ends in a dot:
-- then it is read on after that dot.
unfoldable pub profile_expressions : (others : Production → Rule) → Production → Rule
profile_expressions others expression = Operation
profile_expressions others operation =
    RANGE_EXPR ⟨ range_to 'dots_eq' ⟩ ▸ more operation_tail
    or RANGE_EXPR ⟨ range_to 'dots' ⟩ ▸ more operation_tail
    or RANGE_EXPR ⟨ range_mark ⟩
    or Disjunction ▸ more operation_tail
profile_expressions others operation_tail =
    RANGE_EXPR <⟨ range_to 'dots_eq' ⟩ ▸ more operation_tail
    or RANGE_EXPR <⟨ range_to 'dots' ⟩ ▸ more operation_tail
    or RANGE_EXPR <⟨ range_mark ⟩
    or more pipe_tail
profile_expressions others pipe_tail =
    BIN_EXPR <⟨ op '|>' ▸ Disjunction ! ⟩ ▸ more pipe_tail
    or BIN_EXPR <⟨ assignment ▸ Operation ! ⟩
    or Nothing
profile_expressions others disjunction = layer conjunction (op '||')
profile_expressions others conjunction = layer comparison (op '&&')
profile_expressions others comparison = layer bit_or (op '==' or op '!=' or op '<' or op '>' or op '<=' or op '>=')
profile_expressions others bit_or = layer bit_xor (op '|')
profile_expressions others bit_xor = layer bit_and (op '^')
profile_expressions others bit_and = layer bit_shift (op '&')
profile_expressions others bit_shift = layer sum (op '<<' or op '>>')
profile_expressions others sum = layer product (op '+' or op '-')
profile_expressions others product = layer cast (op '*' or op '/' or op '%')
profile_expressions others cast = Prefixed ▸ (CAST_EXPR <⟨ One 'as' ▸ AnyType ! ⟩) *
profile_expressions others prefixed =
    PREFIX_EXPR ⟨ (One '-' or One '!' or One '*') ▸ Prefixed ! ⟩
    or REF_EXPR ⟨ One '&' ▸ ⁅ One 'mut' ⁆ ▸ Prefixed ! ⟩
    or Atom ▸ (more postfix) *
profile_expressions others postfix =
    CALL_EXPR <⟨ Arguments ⟩
    or INDEX_EXPR <⟨ One '[' ▸ off (Expression !) ▸ One ']' ! ⟩
    or TRY_EXPR <⟨ One '?' ⟩
    or Unless (next 'dots') (One 'dot' ▸ more after_dot)
profile_expressions others after_dot =
    When (Either ('ident' before 'l_paren') ('ident' before '::')) (METHOD_CALL_EXPR <⟨ NAME_REF ⟨ One 'ident' ⟩ ▸ ⁅ GenericArgs ⁆ ▸ Arguments ! ⟩)
    or FIELD_EXPR <⟨ field_name ⟩
    or When (Both (next 'float') (Joint 0)) Split
    or When (next 'float') (Split ▸ more after_dot)
    or FIELD_EXPR <⟨ Say ExpectedField ⟩
profile_expressions others arguments = ARG_LIST ⟨ listed ARG_LIST 'l_paren' Expression 'r_paren' ⟩
profile_expressions others atom =
    Literal
    or BlockLike
    or ExprPath ▸ after_path
    or One 'l_paren' ▸ (TUPLE_EXPR <⟨ One 'r_paren' ⟩ or off (Expression !) ▸ (TUPLE_EXPR <⟨ One 'comma' ▸ rest_listed TUPLE_EXPR Expression 'r_paren' ⟩ or PAREN_EXPR <⟨ One 'r_paren' ! ⟩))
    or ARRAY_EXPR ⟨ One '[' ▸ (off Expression ▸ (One 'semi' ▸ off (Expression !) ▸ One ']' ! or One 'comma' ▸ rest_listed ARRAY_EXPR Expression ']' or One ']' !) or One ']' !) ⟩
    or RETURN_EXPR ⟨ One 'return' ▸ value ⟩
    or BREAK_EXPR ⟨ One 'break' ▸ value ⟩
    or CONTINUE_EXPR ⟨ One 'continue' ⟩
    or CLOSURE_EXPR ⟨ (One 'move' ▸ closure_params ! or closure_params) ▸ (RetType ▸ Block ! or Operation !) ⟩
    or When (Both InCondition (next 'let')) (LET_EXPR ⟨ One 'let' ▸ Pattern ! ▸ One '=' ! ▸ Comparison ! ⟩)
profile_expressions others field_values = RECORD_EXPR_FIELD_LIST ⟨ listed RECORD_EXPR_FIELD_LIST 'l_curly' FieldValue 'r_curly' ⟩
profile_expressions others field_value =
    RECORD_EXPR_FIELD ⟨ field_name ▹ One ':' ▸ Expression ! ⟩
    or RECORD_EXPR_FIELD ⟨ PATH_EXPR ⟨ ExprPath ⟩ ⟩
    or One 'dots' ▸ ⁅ Expression ⁆
profile_expressions others block_like =
    Block
    or BLOCK_EXPR ⟨ One 'unsafe' ▸ StatementList ! ⟩
    or IfExpr
    or WHILE_EXPR ⟨ One 'while' ▸ condition ! ▸ Block ! ⟩
    or LOOP_EXPR ⟨ One 'loop' ▸ Block ! ⟩
    or FOR_EXPR ⟨ One 'for' ▸ Pattern ! ▸ One 'in' ! ▸ condition ! ▸ Block ! ⟩
    or MATCH_EXPR ⟨ One 'match' ▸ condition ! ▸ MatchArms ! ⟩
    or When (row 0 ('ident' ∷ '!' ∷ 'l_curly' ∷ [])) (MACRO_EXPR ⟨ MACRO_CALL ⟨ ExprPath ▸ One '!' ▸ TokenTree ⟩ ⟩)
profile_expressions others if_expr = IF_EXPR ⟨ One 'if' ▸ condition ! ▸ Block ! ▸ ⁅ One 'else' ▸ (IfExpr or Block !) ⁆ ⟩
profile_expressions others match_arms = MATCH_ARM_LIST ⟨ One 'l_curly' ▸ off ((Unless (until 'r_curly') (MatchArm or Skip ExpectedMatchArm)) *) ▸ One 'r_curly' ! ⟩
profile_expressions others match_arm =
    MATCH_ARM ⟨ Pattern ▸ ⁅ MATCH_GUARD ⟨ One 'if' ▸ condition ! ⟩ ⁆ ▸ One '=>' ! ▸ (BlockLike ▸ ⁅ One 'comma' ⁆ or Expression ! ▸ (One 'comma' or When (next 'r_curly') Nothing or Say (Expected COMMA))) ⟩
profile_expressions others x = others x

-- where an item begins among statements; other items begin like expressions
abbrev pub item_begins : Look
item_begins =
    any_of
    (one_of 0 ('#' ∷ 'pub' ∷ 'mod' ∷ 'use' ∷ 'struct' ∷ 'enum' ∷ 'fn' ∷ 'const' ∷ 'static' ∷ 'type' ∷ 'impl' ∷ 'trait' ∷ [])
    ∷ 'unsafe' before_any ('fn' ∷ 'impl' ∷ 'trait' ∷ [])
    ∷ [])

-- a `?`, or a dot that begins no range: an expression that ends in a block goes on
abbrev pub goes_on : Look
goes_on = Either (next '?') (Both (next 'dot') (Not (next 'dots')))

-- A list of statements: where it ends, one of its statements, and the end of an expression in it.
pub record Listing : Type 0 where
  pub ends : Look
  pub one : Production
  pub end : Production

-- a block's list, up to its `}`, and the statements of a macro, up to the input's end
abbrev pub in_block : Listing
in_block = record { ends = until 'r_curly'; one = statement; end = statement_end }

abbrev pub in_macro : Listing
in_macro = record { ends = at_end; one = macro_statement; end = macro_statement_end }

-- all statements of a list
abbrev pub all_of : Listing → Rule
all_of list = (Unless list.ends (Call list.one)) *

-- A statement, with the end of an expression: an expression that ends in a block needs no `;`, and the last expression
-- of a list is no statement.
abbrev pub statement_of : Listing → Rule
statement_of list =
    One 'semi'
    or When ('#' before '!') Attribute
    or DEFER_STMT ⟨ One 'defer' ▸ Block ! ⟩
    or LET_STMT ⟨ One 'let' ▸ Pattern ! ▸ ⁅ One ':' ▸ AnyType ! ⁆ ▸ ⁅ One '=' ▸ Expression ! ⁆ ▸ ⁅ LET_ELSE ⟨ One 'else' ▸ Block ! ⟩ ⁆ ▸ One 'semi' ! ⟩
    or When item_begins Item
    or BlockLike ▸ (When goes_on ((more postfix) ⁺ ▸ more list.end) or EXPR_STMT <⟨ One 'semi' ⟩ or When list.ends Nothing or EXPR_STMT <⟨ Nothing ⟩)
    or Expression ▸ more list.end
    or Skip ExpectedStatement

-- the end of an expression that needs a `;`, unless it is the last of its list
abbrev pub end_of : Listing → Rule
end_of list = EXPR_STMT <⟨ One 'semi' ⟩ or When list.ends Nothing or EXPR_STMT <⟨ One 'semi' ! ⟩

unfoldable pub profile_statements : (others : Production → Rule) → Production → Rule
profile_statements others statement_list = STMT_LIST ⟨ One 'l_curly' ▸ off (all_of in_block) ▸ One 'r_curly' ! ⟩
profile_statements others block = BLOCK_EXPR ⟨ StatementList ⟩
profile_statements others statement = statement_of in_block
profile_statements others statement_end = end_of in_block
profile_statements others macro_statements = MACRO_STMTS ⟨ all_of in_macro ⟩
profile_statements others macro_statement = statement_of in_macro
profile_statements others macro_statement_end = end_of in_macro
profile_statements others x = others x

-- items until the list ends; an attribute of what they stand in is no part of an item
abbrev pub items_until : (ends : Look) → Rule
items_until ends = (Unless ends (When ('#' before '!') Attribute or Item)) *

-- items in braces
abbrev pub items_in_braces : Rule
items_in_braces = One 'l_curly' ▸ off (items_until (until 'r_curly')) ▸ One 'r_curly' !

-- where a bracket after `pub` belongs to it, and is not the type of a field
abbrev pub visibility_goes_on : Look
visibility_goes_on =
    any_of
    ('l_paren' before 'in'
    ∷ row 0 ('l_paren' ∷ 'crate' ∷ 'r_paren' ∷ [])
    ∷ row 0 ('l_paren' ∷ 'self' ∷ 'r_paren' ∷ [])
    ∷ row 0 ('l_paren' ∷ 'super' ∷ 'r_paren' ∷ [])
    ∷ [])

-- the looks of a function, of its own `self`
abbrev pub fn_begins : Look
fn_begins = any_of (next 'fn' ∷ 'const' before 'fn' ∷ 'const' before 'unsafe' ∷ 'unsafe' before 'fn' ∷ [])

abbrev pub self_begins : Look
self_begins = any_of (next 'self' ∷ 'mut' before 'self' ∷ '&' before 'self' ∷ row 0 ('&' ∷ 'mut' ∷ 'self' ∷ []) ∷ '&' before 'lifetime' ∷ [])

-- a variant of an enum, a field with a name, and one without
abbrev pub variant : Rule
variant = VARIANT ⟨ Attribute * ▸ ⁅ Visibility ⁆ ▸ Name ! ▸ ⁅ RecordFields or TupleFields ⁆ ⟩

abbrev pub record_field : Rule
record_field = RECORD_FIELD ⟨ Attribute * ▸ ⁅ Visibility ⁆ ▸ Name ! ▸ One ':' ! ▸ AnyType ! ⟩

abbrev pub tuple_field : Rule
tuple_field = TUPLE_FIELD ⟨ Attribute * ▸ ⁅ Visibility ⁆ ▸ AnyType ! ⟩

-- inside a token tree: token trees, and any token but a closing bracket
abbrev pub inner_token : Rule
inner_token = TokenTree or When (Both Left (Not (one_of 0 ('r_paren' ∷ 'r_curly' ∷ ']' ∷ [])))) Any

abbrev tokens : Rule
tokens = inner_token *

-- after the path of a use tree: more of it, or another name
abbrev pub after_use : Rule
after_use = ⁅ One '::' ▸ (One '*' or UseList) or RENAME ⟨ One 'as' ▸ (One '_' or Name !) ⟩ ⁆

-- A body stands around the attributes and the visibility before it. A word that begins no item is read as the path of a macro.
unfoldable pub profile_items : (others : Production → Rule) → Production → Rule
profile_items others source_file = SOURCE_FILE ⟨ ⁅ One 'shebang' ⁆ ▸ ⁅ One 'frontmatter' ⁆ ▸ items_until at_end ⟩
profile_items others macro_items = MACRO_ITEMS ⟨ items_until at_end ⟩
profile_items others item = Attribute * ▸ ⁅ Visibility ⁆ ▸ more body
profile_items others body =
    MODULE <⟨ One 'mod' ▸ Name ! ▸ (ITEM_LIST ⟨ items_in_braces ⟩ or One 'semi' !) ⟩
    or USE <⟨ One 'use' ▸ UseTree ! ▸ One 'semi' ! ⟩
    or STRUCT <⟨ One 'struct' ▸ Name ! ▸ ⁅ GenericParams ⁆ ▸ (TupleFields ▸ ⁅ WhereClause ⁆ ▸ One 'semi' ! or ⁅ WhereClause ⁆ ▸ (RecordFields or One 'semi' !)) ⟩
    or ENUM <⟨ One 'enum' ▸ Name ! ▸ ⁅ GenericParams ⁆ ▸ ⁅ WhereClause ⁆ ▸ Variants ! ⟩
    or When fn_begins (FN <⟨ ⁅ One 'const' ⁆ ▸ ⁅ One 'unsafe' ⁆ ▸ One 'fn' ! ▸ Name ! ▸ ⁅ GenericParams ⁆ ▸ Params ! ▸ ⁅ RetType ⁆ ▸ ⁅ WhereClause ⁆ ▸ (Block or One 'semi' !) ⟩)
    or CONST <⟨ One 'const' ▸ (One '_' or Name !) ▸ One ':' ! ▸ AnyType ! ▸ ⁅ One '=' ▸ Expression ! ⁆ ▸ One 'semi' ! ⟩
    or STATIC <⟨ One 'static' ▸ ⁅ One 'mut' ⁆ ▸ Name ! ▸ One ':' ! ▸ AnyType ! ▸ ⁅ One '=' ▸ Expression ! ⁆ ▸ One 'semi' ! ⟩
    or TYPE_ALIAS <⟨ One 'type' ▸ Name ! ▸ ⁅ GenericParams ⁆ ▸ ⁅ One ':' ▸ Bounds ⁆ ▸ ⁅ WhereClause ⁆ ▸ ⁅ One '=' ▸ AnyType ! ⁆ ▸ One 'semi' ! ⟩
    or When (Either (next 'impl') ('unsafe' before 'impl')) (IMPL <⟨ ⁅ One 'unsafe' ⁆ ▸ One 'impl' ▸ ⁅ GenericParams ⁆ ▸ AnyType ! ▸ ⁅ One 'for' ▸ AnyType ! ⁆ ▸ ⁅ WhereClause ⁆ ▸ AssocItems ! ⟩)
    or When (Either (next 'trait') ('unsafe' before 'trait')) (TRAIT <⟨ ⁅ One 'unsafe' ⁆ ▸ One 'trait' ▸ Name ! ▸ ⁅ GenericParams ⁆ ▸ ⁅ One ':' ▸ Bounds ⁆ ▸ ⁅ WhereClause ⁆ ▸ AssocItems ! ⟩)
    or Path ▸ (MACRO_CALL <⟨ One '!' ▸ (When (next 'l_curly') TokenTree or TokenTree ! ▸ One 'semi' !) ⟩ or ERROR <⟨ Say ExpectedItem ⟩)
    or When Given (ERROR <⟨ Say ExpectedItem ⟩)
    or Skip ExpectedItem
profile_items others assoc_items = ASSOC_ITEM_LIST ⟨ items_in_braces ⟩
profile_items others variants = VARIANT_LIST ⟨ listed VARIANT_LIST 'l_curly' variant 'r_curly' ⟩
profile_items others record_fields = RECORD_FIELD_LIST ⟨ listed RECORD_FIELD_LIST 'l_curly' record_field 'r_curly' ⟩
profile_items others tuple_fields = TUPLE_FIELD_LIST ⟨ listed TUPLE_FIELD_LIST 'l_paren' tuple_field 'r_paren' ⟩
profile_items others params = PARAM_LIST ⟨ listed PARAM_LIST 'l_paren' Param 'r_paren' ⟩
profile_items others param =
    When self_begins (SELF_PARAM ⟨ ⁅ One '&' ▸ ⁅ Lifetime ⁆ ⁆ ▸ ⁅ One 'mut' ⁆ ▸ NAME ⟨ One 'self' ! ⟩ ▸ ⁅ One ':' ▸ AnyType ! ⁆ ⟩)
    or PARAM ⟨ Pattern ▸ One ':' ! ▸ AnyType ! ⟩
profile_items others visibility = VISIBILITY ⟨ One 'pub' ▸ ⁅ When visibility_goes_on (One 'l_paren' ▸ ⁅ One 'in' ⁆ ▸ Path ! ▸ One 'r_paren' !) ⁆ ⟩
profile_items others attribute = ATTR ⟨ One '#' ▸ ⁅ One '!' ⁆ ▸ One '[' ! ▸ off (Meta !) ▸ One ']' ! ⟩
profile_items others meta = META ⟨ Path ▸ ⁅ One '=' ▸ Expression ! or TokenTree ⁆ ⟩
profile_items others token_tree =
    TOKEN_TREE ⟨ One 'l_paren' ▸ tokens ▸ One 'r_paren' ! ⟩
    or TOKEN_TREE ⟨ One '[' ▸ tokens ▸ One ']' ! ⟩
    or TOKEN_TREE ⟨ One 'l_curly' ▸ tokens ▸ One 'r_curly' ! ⟩
profile_items others use_tree =
    USE_TREE ⟨ ⁅ When colons_before_more (One '::') ⁆ ▸ (One '*' or UseList or Path ▸ after_use) ⟩
profile_items others use_list = USE_TREE_LIST ⟨ listed USE_TREE_LIST 'l_curly' UseTree 'r_curly' ⟩
profile_items others x = others x

-- A production calls, before it takes a token, only those of lower rank.
unfoldable pub profile_rank : Production → ℕ
profile_rank source_file = 5
profile_rank macro_items = 5
profile_rank macro_statements = 19
profile_rank item = 3
profile_rank body = 2
profile_rank meta = 2
profile_rank use_tree = 2
profile_rank param = 4
profile_rank path = 1
profile_rank type_path = 1
profile_rank expr_path = 1
profile_rank generic_arg = 3
profile_rank generic_param = 1
profile_rank bounds = 3
profile_rank bound = 2
profile_rank where_pred = 4
profile_rank any_type = 2
profile_rank pattern = 3
profile_rank single_pattern = 2
profile_rank pattern_field = 1
profile_rank block = 1
profile_rank statement = 17
profile_rank macro_statement = 17
profile_rank expression = 16
profile_rank operation = 15
profile_rank operation_tail = 1
profile_rank disjunction = 14
profile_rank conjunction = 13
profile_rank comparison = 12
profile_rank bit_or = 11
profile_rank bit_xor = 10
profile_rank bit_and = 9
profile_rank bit_shift = 8
profile_rank sum = 7
profile_rank product = 6
profile_rank cast = 5
profile_rank prefixed = 4
profile_rank postfix = 1
profile_rank atom = 3
profile_rank field_value = 2
profile_rank block_like = 2
profile_rank match_arm = 17
profile_rank x = 0

unfoldable pub profile_rule : Production → Rule
profile_rule = profile_items (profile_statements (profile_expressions (profile_patterns (profile_types (profile_paths (λ x. Nothing))))))

unfoldable pub profile : Table
profile = record { rule = profile_rule; rank = profile_rank; ranks = 20 }

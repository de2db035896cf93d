-- The rows of expressions: ranges and assignments, the layers of operators, postfix operators, and the rest.
use Rattle.std.specs.Prelude.{[], ◌∷◌}
use Rattle.parser_input.specs.Kinds.{ERROR, RAW_KW, PARAM_LIST, PARAM, MACRO_CALL, NAME_REF, BLOCK_EXPR, RANGE_EXPR, BIN_EXPR, CAST_EXPR, PREFIX_EXPR, REF_EXPR, CALL_EXPR, ARG_LIST, INDEX_EXPR, TRY_EXPR, METHOD_CALL_EXPR, FIELD_EXPR, MACRO_EXPR, RECORD_EXPR, RECORD_EXPR_FIELD_LIST, RECORD_EXPR_FIELD, PATH_EXPR, TUPLE_EXPR, PAREN_EXPR, ARRAY_EXPR, RETURN_EXPR, BREAK_EXPR, CONTINUE_EXPR, CLOSURE_EXPR, LET_EXPR, IF_EXPR, WHILE_EXPR, LOOP_EXPR, FOR_EXPR, MATCH_EXPR, MATCH_ARM_LIST, MATCH_ARM, MATCH_GUARD, LABEL, AWAIT_EXPR, UNDERSCORE_EXPR}
use Rattle.parser_events.specs.Forest.{ExpectedExpression, ExpectedMatchArm, ExpectedField}
use Rattle.rust_grammar.specs.Rule.{expression, operation, operation_tail, pipe_tail, disjunction, conjunction, comparison, bit_or, bit_xor, bit_and, bit_shift, sum, product, cast, prefixed, postfix, after_dot, arguments, atom, field_values, field_value, block_like, if_expr, match_arms, match_arm, arm_body, Production, Look, Contextual, Joint, Whole, InCondition, Both, Either, Not, Spelling, Rule, Nothing, One, Want, Say, Skip, Split, When, Unless, Call}
use Rattle.rust_grammar.specs.Words.{'dots', 'dots_eq', '::', '==', '=>', '!=', '<=', '>=', '&&', '||', '|>', '<<', '>>', '+=', '-=', '*=', '/=', '%=', '&=', '|=', '^=', '<<=', '>>=', 'semi', 'comma', 'dot', 'l_paren', 'r_paren', 'l_curly', 'r_curly', '[', ']', '#', '?', ':', '=', '!', '<', '>', '-', '&', '|', '+', '*', '/', '^', '%', 'break', 'const', 'continue', 'crate', 'else', 'for', 'if', 'in', 'let', 'loop', 'match', 'move', 'mut', 'return', 'self', 'Self', 'static', 'super', 'unsafe', 'while', 'as', '_', 'ident', 'lifetime', 'float', 'async', 'await', 'gen', 'try', 'contextual_raw'}
use Rattle.rust_grammar.specs.Calls.{Attribute, TokenTree, Lifetime, ExprPath, GenericArgs, RetType, TypeNoBounds, Pattern, SinglePattern, Literal, StatementList, Block, Expression, Operation, Disjunction, Comparison, Prefixed, Arguments, Atom, FieldValues, FieldValue, BlockLike, IfExpr, MatchArms, MatchArm, ArmBody}
use Rattle.rust_grammar.specs.Notation.{◌or◌, ◌▸◌, ◌▹◌, ⁅◌⁆, ◌*, ◌⁺, ◌!, ◌⟨◌⟩, ◌<⟨◌⟩, lead, more, off, on, wide, next, row, ◌before◌, ◌before_any◌, ◌not_before◌, any_of, one_of, until, separator, rest_listed, listed, in_parentheses, op}
use Rattle.rust_grammar.specs.Shared.{field_name, outer_attributes, attributed, binder_begins, for_binder, type_annotation}
use Rattle.rust_grammar.specs.Paths.{expr_qualified}
use Rattle.rust_grammar.specs.Patterns.{named_field_begins}

-- in condition mode a `{` ends the condition where an expression may be left out
abbrev pub body_begins : Look
body_begins = Both InCondition (next 'l_curly')

-- the two range operators
abbrev pub range_mark : Rule
range_mark = op 'dots_eq' or op 'dots'

abbrev pub mark_begins : Look
mark_begins = one_of 0 ('dots' ∷ 'dots_eq' ∷ [])

-- Where a range has no end: before a body, and in the whole language, where a range is an operand, before a further mark.
abbrev pub no_end_begins : Look
no_end_begins = Either body_begins (wide mark_begins)

-- a range up to an operand; the mark and the operand are both there
abbrev pub range_operand : Rule
range_operand = Unless no_end_begins Disjunction

abbrev pub range_to : Spelling → Rule
range_to mark = op mark ▹ range_operand

-- operands of the next layer, with these operators between them, grouped from the left
abbrev pub turns_of : (operand : Production) → (operators : Rule) → Rule
turns_of operand operators = (BIN_EXPR <⟨ operators ▸ Want (Call operand) ExpectedExpression ⟩) *

abbrev pub layer : (operand : Production) → (operators : Rule) → Rule
layer operand operators = Call operand ▸ turns_of operand operators

abbrev pub comparisons : Rule
comparisons = op '==' or op '!=' or op '<' or op '>' or op '<=' or op '>='

abbrev pub assignment : Rule
assignment = op '=' or op '+=' or op '-=' or op '*=' or op '/=' or op '%=' or op '&=' or op '|=' or op '^=' or op '<<=' or op '>>='

-- the types that an operand is cast to
abbrev pub casts : Rule
casts = (CAST_EXPR <⟨ One 'as' ▸ TypeNoBounds ! ⟩) *

-- the operators of all layers after an operand that was read, those that bind most first
abbrev pub after_operand : Rule
after_operand =
    casts
    ▸ turns_of cast (op '*' or op '/' or op '%')
    ▸ turns_of product (op '+' or op '-')
    ▸ turns_of sum (op '<<' or op '>>')
    ▸ turns_of bit_shift (op '&')
    ▸ turns_of bit_and (op '^')
    ▸ turns_of bit_xor (op '|')
    ▸ turns_of bit_or comparisons
    ▸ turns_of comparison (op '&&')
    ▸ turns_of conjunction (op '||')
    ▸ more operation_tail

abbrev pub opt_assignment : Rule
opt_assignment = BIN_EXPR <⟨ assignment ▸ Operation ! ⟩ or Nothing

-- an operand with the postfix operators after it
abbrev pub postfixed : Rule
postfixed = Atom ▸ (more postfix) *

abbrev pub ref_expr : Rule
ref_expr = REF_EXPR ⟨ One '&' ▸ ⁅ One 'mut' ⁆ ▸ Prefixed ! ⟩

-- An operand that only the whole language has: a raw reference, one after attributes, or a range without a start. The word `raw` is one before `mut`,
-- `const` and a name alone.
abbrev pub raw_begins : Look
raw_begins = Both (next '&') (Both (Contextual 1 RAW_KW) (one_of 2 ('mut' ∷ 'const' ∷ 'ident' ∷ [])))

abbrev pub mut_or_const : Rule
mut_or_const = One 'mut' or One 'const'

abbrev pub raw_ref_expr : Rule
raw_ref_expr = REF_EXPR ⟨ One '&' ▸ One 'contextual_raw' ▸ ⁅ mut_or_const ⁆ ▸ Prefixed ! ⟩

abbrev pub open_range : Rule
open_range = range_to 'dots_eq' or range_to 'dots' or range_mark

-- an operand after attributes: they stand first in its outermost node
abbrev pub operand_after_attributes : Rule
operand_after_attributes = lead Prefixed or ERROR <⟨ Say ExpectedExpression ⟩

abbrev pub new_operand_begins : Look
new_operand_begins = any_of (raw_begins ∷ next '#' ∷ mark_begins ∷ [])

abbrev pub new_operand : Rule
new_operand = When raw_begins raw_ref_expr or attributed operand_after_attributes or RANGE_EXPR ⟨ open_range ⟩

abbrev pub index : Rule
index = One '[' ▸ off (Expression !) ▸ One ']' !

-- a method call after its dot, and where one begins
abbrev pub method_begins : Look
method_begins = Either ('ident' before 'l_paren') ('ident' before '::')

abbrev pub method_call : Rule
method_call = NAME_REF ⟨ One 'ident' ⟩ ▸ ⁅ GenericArgs ⁆ ▸ Arguments !

abbrev pub await_expr : Rule
await_expr = AWAIT_EXPR <⟨ One 'await' ⟩

-- a float after a dot, which is two fields or one with a dot; else there is no field
abbrev pub float_field : Rule
float_field = When (Both (next 'float') (Joint 0)) Split or When (next 'float') (Split ▸ more after_dot) or FIELD_EXPR <⟨ Say ExpectedField ⟩

-- an expression in condition mode
abbrev pub condition : Rule
condition = on Operation

-- the value of a `return` or a `break`; the label of a `break` or a `continue`, and both expressions
abbrev pub value : Rule
value = ⁅ Unless body_begins Operation ⁆

abbrev pub jump_label : Rule
jump_label = ⁅ When (wide (next 'lifetime')) Lifetime ⁆

abbrev pub break_expr : Rule
break_expr = BREAK_EXPR ⟨ One 'break' ▸ jump_label ▸ value ⟩

abbrev pub continue_expr : Rule
continue_expr = CONTINUE_EXPR ⟨ One 'continue' ▸ jump_label ⟩

-- a closure, and its parameters
abbrev pub closure_param : Rule
closure_param = PARAM ⟨ outer_attributes ▸ SinglePattern ▸ ⁅ type_annotation ⁆ ⟩

abbrev pub closure_params : Rule
closure_params = PARAM_LIST ⟨ listed PARAM_LIST '|' closure_param '|' ⟩

abbrev pub closure_body : Rule
closure_body = RetType ▸ Block ! or Operation !

abbrev pub moved_params : Rule
moved_params = One 'move' ▸ closure_params !

abbrev pub closure_expr : Rule
closure_expr = CLOSURE_EXPR ⟨ (moved_params or closure_params) ▸ closure_body ⟩

-- Words before the parameters of a closure of the whole language, in their one order, from each of them on.
abbrev pub gen_move : Rule
gen_move = ⁅ One 'gen' ⁆ ▸ ⁅ One 'move' ⁆

abbrev pub async_to_move : Rule
async_to_move = ⁅ One 'async' ⁆ ▸ gen_move

abbrev pub static_to_move : Rule
static_to_move = ⁅ One 'static' ⁆ ▸ async_to_move

abbrev pub const_to_move : Rule
const_to_move = ⁅ One 'const' ⁆ ▸ static_to_move

abbrev pub words_from_async : Rule
words_from_async = One 'async' ▸ gen_move

abbrev pub words_from_static : Rule
words_from_static = One 'static' ▸ async_to_move

abbrev pub words_from_const : Rule
words_from_const = One 'const' ▸ static_to_move

abbrev pub words_from_binder : Rule
words_from_binder = for_binder ▸ const_to_move

abbrev pub closure_words : Rule
closure_words = words_from_binder or words_from_const or words_from_static or words_from_async

abbrev pub const_closure_begins : Look
const_closure_begins = 'const' before_any ('|' ∷ 'move' ∷ 'async' ∷ 'static' ∷ [])

abbrev pub closure_words_begin : Look
closure_words_begin = any_of (next 'async' ∷ next 'static' ∷ const_closure_begins ∷ binder_begins ∷ [])

abbrev pub closure_with_words : Rule
closure_with_words = CLOSURE_EXPR ⟨ closure_words ▸ closure_params ! ▸ closure_body ⟩

-- what follows a path: the rest of a macro call, the fields of a record, or nothing; `!=` is an operator
abbrev pub macro_tail : Rule
macro_tail = One '!' ▸ TokenTree !

abbrev pub after_path : Rule
after_path =
    Unless (next '!=') (MACRO_CALL <⟨ macro_tail ⟩ ▸ MACRO_EXPR <⟨ Nothing ⟩)
    or Unless InCondition (RECORD_EXPR <⟨ FieldValues ⟩)
    or PATH_EXPR <⟨ Nothing ⟩

abbrev pub path_expr : Rule
path_expr = ExprPath ▸ after_path

-- a parenthesized expression or a tuple expression, and what follows its `(`
abbrev pub after_l_paren : Rule
after_l_paren = in_parentheses TUPLE_EXPR PAREN_EXPR (off (Expression !)) Expression

abbrev pub tuple_or_paren : Rule
tuple_or_paren = One 'l_paren' ▸ after_l_paren

-- an array expression, what follows its `[`, and what follows its first element
abbrev pub after_element : Rule
after_element = One 'semi' ▸ off (Expression !) ▸ One ']' ! or One 'comma' ▸ rest_listed ARRAY_EXPR Expression ']' or One ']' !

abbrev pub array_elements : Rule
array_elements = off Expression ▸ after_element or One ']' !

abbrev pub array_expr : Rule
array_expr = ARRAY_EXPR ⟨ One '[' ▸ array_elements ⟩

-- a `let` in a condition
abbrev pub let_begins : Look
let_begins = Both InCondition (next 'let')

abbrev pub let_expr : Rule
let_expr = LET_EXPR ⟨ One 'let' ▸ Pattern ! ▸ One '=' ! ▸ Comparison ! ⟩

-- An expression that only the whole language has: a `let` outside of a condition too, a path that begins with `<T as U>`, a `_`,
-- a closure with words before its parameters.
abbrev pub let_anywhere : Rule
let_anywhere = LET_EXPR ⟨ One 'let' ▸ Pattern ! ▸ One '=' ! ▸ on (Comparison !) ⟩

abbrev pub qualified_expr : Rule
qualified_expr = expr_qualified ▸ after_path

abbrev pub underscore_expr : Rule
underscore_expr = UNDERSCORE_EXPR ⟨ One '_' ⟩

abbrev pub anchor_begins : Look
anchor_begins = '<' not_before ('=' ∷ [])

abbrev pub new_atom_begins : Look
new_atom_begins = any_of (next 'let' ∷ anchor_begins ∷ next '_' ∷ closure_words_begin ∷ [])

abbrev pub new_atom : Rule
new_atom = let_anywhere or qualified_expr or underscore_expr or closure_with_words

-- a field value that is a path alone, and the base struct of a struct expression
abbrev pub shorthand : Rule
shorthand = RECORD_EXPR_FIELD ⟨ PATH_EXPR ⟨ ExprPath ⟩ ⟩

abbrev pub struct_base : Rule
struct_base = One 'dots' ▸ ⁅ Expression ⁆

-- a field value after its attributes
abbrev pub named_value : Rule
named_value = field_name ▸ One ':' ▸ Expression !

abbrev pub attributed_value : Rule
attributed_value = When named_field_begins (RECORD_EXPR_FIELD <⟨ named_value ⟩) or struct_base or RECORD_EXPR_FIELD <⟨ PATH_EXPR ⟨ ExprPath ⟩ ⟩

-- expressions that end in a block
abbrev pub unsafe_block : Rule
unsafe_block = BLOCK_EXPR ⟨ One 'unsafe' ▸ StatementList ! ⟩

abbrev pub if_or_block : Rule
if_or_block = IfExpr or Block !

abbrev pub else_branch : Rule
else_branch = One 'else' ▸ if_or_block

abbrev pub while_rest : Rule
while_rest = One 'while' ▸ condition ! ▸ Block !

abbrev pub while_expr : Rule
while_expr = WHILE_EXPR ⟨ while_rest ⟩

abbrev pub loop_rest : Rule
loop_rest = One 'loop' ▸ Block !

abbrev pub loop_expr : Rule
loop_expr = LOOP_EXPR ⟨ loop_rest ⟩

abbrev pub for_rest : Rule
for_rest = One 'for' ▸ Pattern ! ▸ One 'in' ! ▸ condition ! ▸ Block !

abbrev pub for_expr : Rule
for_expr = FOR_EXPR ⟨ for_rest ⟩

abbrev pub match_expr : Rule
match_expr = MATCH_EXPR ⟨ One 'match' ▸ condition ! ▸ MatchArms ! ⟩

-- An expression that only the whole language has and that ends in a block: a loop or a block with a label, a block with words.
abbrev pub label : Rule
label = LABEL ⟨ Lifetime ▸ One ':' ! ⟩

abbrev pub after_label : Rule
after_label = WHILE_EXPR <⟨ while_rest ⟩ or LOOP_EXPR <⟨ loop_rest ⟩ or FOR_EXPR <⟨ for_rest ⟩ or BLOCK_EXPR <⟨ StatementList ! ⟩

abbrev pub labelled : Rule
labelled = label ▸ after_label

abbrev pub words_from_gen : Rule
words_from_gen = One 'gen' ▸ ⁅ One 'move' ⁆

abbrev pub block_words : Rule
block_words = One 'const' or One 'try' or words_from_async or words_from_gen

abbrev pub block_with_words : Rule
block_with_words = BLOCK_EXPR ⟨ block_words ▸ StatementList ! ⟩

abbrev pub label_begins : Look
label_begins = 'lifetime' before ':'

abbrev pub async_block_begins : Look
async_block_begins = Either ('async' before_any ('l_curly' ∷ 'gen' ∷ [])) (row 0 ('async' ∷ 'move' ∷ 'l_curly' ∷ []))

abbrev pub gen_block_begins : Look
gen_block_begins = Either ('gen' before 'l_curly') (row 0 ('gen' ∷ 'move' ∷ 'l_curly' ∷ []))

abbrev pub block_words_begin : Look
block_words_begin = any_of ('const' before 'l_curly' ∷ async_block_begins ∷ gen_block_begins ∷ 'try' before 'l_curly' ∷ [])

abbrev pub new_block_begins : Look
new_block_begins = Either label_begins block_words_begin

abbrev pub new_block : Rule
new_block = labelled or block_with_words

-- a macro call in braces
abbrev pub macro_block_begins : Look
macro_block_begins = row 0 ('ident' ∷ '!' ∷ 'l_curly' ∷ [])

abbrev pub macro_block : Rule
macro_block = MACRO_EXPR ⟨ MACRO_CALL ⟨ ExprPath ▸ One '!' ▸ TokenTree ⟩ ⟩

-- one arm of a `match`, or an error over one token; in the whole language an attribute of the `match` too
abbrev pub arm_or_error : Rule
arm_or_error = MatchArm or Skip ExpectedMatchArm

abbrev pub attribute_or_arm : Rule
attribute_or_arm = When (wide ('#' before '!')) Attribute or arm_or_error

abbrev pub arm_turn : Rule
arm_turn = Unless (until 'r_curly') attribute_or_arm

-- the guard of an arm, which in the whole language is read out of condition mode
abbrev pub guard_value : Rule
guard_value = When (Whole 0) (off (Operation !)) or condition !

abbrev pub match_guard : Rule
match_guard = MATCH_GUARD ⟨ One 'if' ▸ guard_value ⟩

-- a `?`, or a dot that begins no range: an expression that ends in a block goes on
abbrev pub goes_on : Look
goes_on = Either (next '?') (Both (next 'dot') (Not (next 'dots')))

-- a path of several segments, and a macro call in braces after one
abbrev pub long_path_begins : Look
long_path_begins = any_of (next '::' ∷ 'ident' before '::' ∷ 'self' before '::' ∷ 'super' before '::' ∷ 'crate' before '::' ∷ 'Self' before '::' ∷ [])

abbrev pub braced_macro_begins : Look
braced_macro_begins = '!' before 'l_curly'

abbrev pub braced_macro : Rule
braced_macro = MACRO_CALL <⟨ One '!' ▸ TokenTree ⟩ ▸ MACRO_EXPR <⟨ Nothing ⟩

-- The value of an arm in the whole language: one that ends in a block needs no comma, and goes on only at a `?` or a dot.
abbrev pub arm_comma : Rule
arm_comma = separator 'r_curly'

abbrev pub further_operators : Rule
further_operators = (more postfix) ⁺ ▸ after_operand ▸ arm_comma

abbrev pub arm_tail : Rule
arm_tail = When goes_on further_operators or ⁅ One 'comma' ⁆

abbrev pub after_long_path : Rule
after_long_path = When braced_macro_begins (braced_macro ▸ arm_tail) or after_path ▸ (more postfix) * ▸ after_operand ▸ arm_comma

abbrev pub long_path_value : Rule
long_path_value = ExprPath ▸ after_long_path

-- that in the profile
abbrev pub profile_value : Rule
profile_value = BlockLike ▸ ⁅ One 'comma' ⁆ or Expression ! ▸ arm_comma

abbrev pub arm_value : Rule
arm_value = When (Whole 0) ArmBody or profile_value

-- Condition mode ends inside brackets and blocks. Of a float after a dot nothing more is read, unless it ends in a dot:
-- then it is read on after that dot.
unfoldable pub expressions : (others : Production → Rule) → Production → Rule
expressions others expression = Operation
expressions others operation =
    RANGE_EXPR ⟨ range_to 'dots_eq' ⟩ ▸ more operation_tail
    or RANGE_EXPR ⟨ range_to 'dots' ⟩ ▸ more operation_tail
    or RANGE_EXPR ⟨ range_mark ⟩
    or Disjunction ▸ more operation_tail
expressions others operation_tail =
    RANGE_EXPR <⟨ range_to 'dots_eq' ⟩ ▸ more operation_tail
    or RANGE_EXPR <⟨ range_to 'dots' ⟩ ▸ more operation_tail
    or RANGE_EXPR <⟨ range_mark ⟩
    or more pipe_tail
expressions others pipe_tail =
    BIN_EXPR <⟨ op '|>' ▸ Disjunction ! ⟩ ▸ more pipe_tail
    or opt_assignment
expressions others disjunction = layer conjunction (op '||')
expressions others conjunction = layer comparison (op '&&')
expressions others comparison = layer bit_or comparisons
expressions others bit_or = layer bit_xor (op '|')
expressions others bit_xor = layer bit_and (op '^')
expressions others bit_and = layer bit_shift (op '&')
expressions others bit_shift = layer sum (op '<<' or op '>>')
expressions others sum = layer product (op '+' or op '-')
expressions others product = layer cast (op '*' or op '/' or op '%')
expressions others cast = Prefixed ▸ casts
expressions others prefixed =
    PREFIX_EXPR ⟨ (One '-' or One '!' or One '*') ▸ Prefixed ! ⟩
    or When (wide new_operand_begins) new_operand
    or ref_expr
    or postfixed
expressions others postfix =
    CALL_EXPR <⟨ Arguments ⟩
    or INDEX_EXPR <⟨ index ⟩
    or TRY_EXPR <⟨ One '?' ⟩
    or Unless (next 'dots') (One 'dot' ▸ more after_dot)
expressions others after_dot =
    When method_begins (METHOD_CALL_EXPR <⟨ method_call ⟩)
    or When (wide (next 'await')) await_expr
    or FIELD_EXPR <⟨ field_name ⟩
    or float_field
expressions others arguments = ARG_LIST ⟨ listed ARG_LIST 'l_paren' Expression 'r_paren' ⟩
expressions others atom =
    Literal
    or BlockLike
    or path_expr
    or tuple_or_paren
    or array_expr
    or RETURN_EXPR ⟨ One 'return' ▸ value ⟩
    or break_expr
    or continue_expr
    or closure_expr
    or When (wide new_atom_begins) new_atom
    or When let_begins let_expr
expressions others field_values = RECORD_EXPR_FIELD_LIST ⟨ listed RECORD_EXPR_FIELD_LIST 'l_curly' FieldValue 'r_curly' ⟩
expressions others field_value =
    When (wide (next '#')) (attributed attributed_value)
    or RECORD_EXPR_FIELD ⟨ field_name ▹ One ':' ▸ Expression ! ⟩
    or shorthand
    or struct_base
expressions others block_like =
    Block
    or unsafe_block
    or IfExpr
    or while_expr
    or loop_expr
    or Unless (wide binder_begins) for_expr
    or match_expr
    or When (wide new_block_begins) new_block
    or When macro_block_begins macro_block
expressions others if_expr = IF_EXPR ⟨ One 'if' ▸ condition ! ▸ Block ! ▸ ⁅ else_branch ⁆ ⟩
expressions others match_arms = MATCH_ARM_LIST ⟨ One 'l_curly' ▸ off (arm_turn *) ▸ One 'r_curly' ! ⟩
expressions others match_arm =
    MATCH_ARM ⟨ outer_attributes ▸ Pattern ▸ ⁅ match_guard ⁆ ▸ One '=>' ! ▸ arm_value ⟩
expressions others arm_body =
    BlockLike ▸ arm_tail
    or When long_path_begins long_path_value
    or Expression ! ▸ arm_comma
expressions others x = others x

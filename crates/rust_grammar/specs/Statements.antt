-- The rows of statements and blocks.
use Rattle.std.specs.Prelude.{[], ◌∷◌}
use Rattle.parser_input.specs.Kinds.{MACRO_STMTS, STMT_LIST, LET_STMT, LET_ELSE, EXPR_STMT, BLOCK_EXPR, DEFER_STMT}
use Rattle.parser_events.specs.Forest.{ExpectedStatement}
use Rattle.rust_grammar.specs.Rule.{body, macro_statements, statement_list, block, statement, macro_statement, statement_end, macro_statement_end, postfix, Production, Look, Both, Either, Not, Whole, Rule, Nothing, One, Skip, When, Unless, Call}
use Rattle.rust_grammar.specs.Words.{'semi', 'l_curly', 'r_curly', '#', '!', 'const', 'defer', 'else', 'enum', 'fn', 'impl', 'let', 'mod', 'pub', 'static', 'struct', 'super', 'trait', 'type', 'unsafe', 'use', '|', 'move', 'async'}
use Rattle.rust_grammar.specs.Calls.{Item, Visibility, Attribute, Prefixed, Pattern, StatementList, Block, Expression, BlockLike, ExprPath}
use Rattle.rust_grammar.specs.Notation.{◌or◌, ◌▸◌, ⁅◌⁆, ◌*, ◌⁺, ◌!, ◌⟨◌⟩, ◌<⟨◌⟩, lead, more, off, next, at_end, ◌before◌, ◌before_any◌, any_of, one_of, until, wide}
use Rattle.rust_grammar.specs.Shared.{attributed, type_annotation, initializer}
use Rattle.rust_grammar.specs.Expressions.{after_operand, after_path, braced_macro, braced_macro_begins, goes_on, long_path_begins}
use Rattle.rust_grammar.specs.Items.{new_item_begins}

-- where an item begins among statements; other items begin like expressions
abbrev pub item_begins : Look
item_begins =
    any_of
    (one_of 0 ('#' ∷ 'pub' ∷ 'mod' ∷ 'use' ∷ 'struct' ∷ 'enum' ∷ 'fn' ∷ 'const' ∷ 'static' ∷ 'type' ∷ 'impl' ∷ 'trait' ∷ [])
    ∷ 'unsafe' before_any ('fn' ∷ 'impl' ∷ 'trait' ∷ [])
    ∷ [])

-- A list of statements: where it ends, one of its statements, and the end of an expression in it.
pub record Listing : Type 0 where
  pub ends : Look
  pub one : Production
  pub end : Production

-- a block's list, up to its `}`, and the statements of a macro, up to the input's end
abbrev pub in_block : Listing
in_block = record { ends = until 'r_curly'; one = statement; end = statement_end }

abbrev pub in_macro : Listing
in_macro = record { ends = at_end; one = macro_statement; end = macro_statement_end }

-- all statements of a list
abbrev pub all_of : Listing → Rule
all_of list = (Unless list.ends (Call list.one)) *

-- the else branch of a `let` statement, and the statement
abbrev pub let_else : Rule
let_else = LET_ELSE ⟨ One 'else' ▸ Block ! ⟩

abbrev pub let_rest : Rule
let_rest = One 'let' ▸ Pattern ! ▸ ⁅ type_annotation ⁆ ▸ ⁅ initializer ⁆ ▸ ⁅ let_else ⁆ ▸ One 'semi' !

abbrev pub let_stmt : Rule
let_stmt = LET_STMT ⟨ let_rest ⟩

-- a `let` statement of the whole language, whose temporaries live as long as those of the block around it
abbrev pub super_let_begins : Look
super_let_begins = 'super' before 'let'

abbrev pub super_let : Rule
super_let = LET_STMT ⟨ One 'super' ▸ let_rest ⟩

abbrev pub defer_stmt : Rule
defer_stmt = DEFER_STMT ⟨ One 'defer' ▸ Block ! ⟩

-- The operators after an expression that ends in a block and goes on, in the whole language.
abbrev pub further_operators : Rule
further_operators = ⁅ When (Whole 0) after_operand ⁆

-- what follows an expression that ends in a block
abbrev pub after_block : Listing → Rule
after_block list =
    When goes_on ((more postfix) ⁺ ▸ further_operators ▸ more list.end) or EXPR_STMT <⟨ One 'semi' ⟩ or When list.ends Nothing or EXPR_STMT <⟨ Nothing ⟩

-- any other expression as a statement, and both
abbrev pub ended_expression : Listing → Rule
ended_expression list = Expression ▸ more list.end

abbrev pub expression_statement : Listing → Rule
expression_statement list = BlockLike ▸ after_block list or ended_expression list or Skip ExpectedStatement

-- Where an item begins among statements in the whole language: at no const block, and at no closure after `static`.
abbrev pub no_item_begins : Look
no_item_begins = Either ('const' before 'l_curly') ('static' before_any ('|' ∷ 'move' ∷ 'async' ∷ []))

abbrev pub any_item_begins : Look
any_item_begins = Both (Either item_begins new_item_begins) (Not no_item_begins)

-- what follows the first operand of a statement
abbrev pub operators_and_end : Listing → Rule
operators_and_end list = after_operand ▸ more list.end

-- a statement that begins with a path of several segments: a macro call in braces needs no `;`
abbrev pub path_tail : Listing → Rule
path_tail list = When braced_macro_begins (braced_macro ▸ after_block list) or after_path ▸ (more postfix) * ▸ operators_and_end list

abbrev pub long_path_statement : Listing → Rule
long_path_statement list = ExprPath ▸ path_tail list

abbrev pub attributed_let : Rule
attributed_let = LET_STMT <⟨ let_rest ⟩

abbrev pub item_after_attributes_begins : Look
item_after_attributes_begins = Both any_item_begins (Not (next '#'))

abbrev pub item_after_attributes : Rule
item_after_attributes = ⁅ Visibility ⁆ ▸ more body

-- A statement after attributes: a `let`, an item, or an expression, in whose outermost operand the attributes stand first.
abbrev pub after_attributes : Listing → Rule
after_attributes list =
    attributed_let
    or When (wide item_after_attributes_begins) item_after_attributes
    or lead BlockLike ▸ after_block list
    or lead Prefixed ▸ operators_and_end list
    or more body

-- a statement that only the whole language has, and where one begins
abbrev pub new_statement_begins : Look
new_statement_begins = any_of (long_path_begins ∷ super_let_begins ∷ any_item_begins ∷ [])

abbrev pub new_statement : Listing → Rule
new_statement list = attributed (after_attributes list) or When long_path_begins (long_path_statement list) or When super_let_begins super_let or Item

-- A statement, with the end of an expression: an expression that ends in a block needs no `;`, and the last expression
-- of a list is no statement.
abbrev pub statement_of : Listing → Rule
statement_of list =
    One 'semi'
    or When ('#' before '!') Attribute
    or defer_stmt
    or let_stmt
    or When (wide new_statement_begins) (new_statement list)
    or When (Both item_begins (Not (Whole 0))) Item
    or expression_statement list

-- the end of an expression that needs a `;`, unless it is the last of its list
abbrev pub end_of : Listing → Rule
end_of list = EXPR_STMT <⟨ One 'semi' ⟩ or When list.ends Nothing or EXPR_STMT <⟨ One 'semi' ! ⟩

unfoldable pub statements : (others : Production → Rule) → Production → Rule
statements others statement_list = STMT_LIST ⟨ One 'l_curly' ▸ off (all_of in_block) ▸ One 'r_curly' ! ⟩
statements others block = BLOCK_EXPR ⟨ StatementList ⟩
statements others statement = statement_of in_block
statements others statement_end = end_of in_block
statements others macro_statements = MACRO_STMTS ⟨ all_of in_macro ⟩
statements others macro_statement = statement_of in_macro
statements others macro_statement_end = end_of in_macro
statements others x = others x

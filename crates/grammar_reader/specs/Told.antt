-- The argument of a function that reads one of several things.
use Rattle.std.specs.Prelude.{ℕ, [], ◌∷◌}
use Rattle.rust_grammar.specs.Calls.{Attribute, Item}
use Rattle.rust_grammar.specs.Notation.{◌or◌, ◌before◌, ◌not_before◌, list_element, until}
use Rattle.rust_grammar.specs.Rule as rules
use Rattle.rust_grammar.specs.Rule.{Look, Either, Rule, Call, Unless, When}
use Rattle.rust_grammar.specs.Statements.{Listing, after_block, in_block, in_macro}
use Rattle.rust_grammar.specs.Words.{one, '::', '<', '=', '#', '!'}
use Rattle.rust_grammar.specs.Paths.{captured, expr_args, type_arg, type_args}
use Rattle.rust_grammar.specs.Expressions.{closure_param}
use Rattle.rust_grammar.specs.Paths.{captured}
use Rattle.rust_grammar.specs.Types.{fn_ptr_param}
use Rattle.rust_grammar.specs.Items.{record_field, tuple_field, variant}
use Rattle.grammar_reader.specs.declared.grammar.expressions.Level.{Level}
use Rattle.grammar_reader.specs.declared.grammar.expressions.Level.TheVariants as levels
use Rattle.grammar_reader.specs.declared.grammar.list_end.ListEnd.{ListEnd}
use Rattle.grammar_reader.specs.declared.grammar.list_end.ListEnd.TheVariants as list_ends
use Rattle.grammar_reader.specs.declared.grammar.lists.Element.{Element}
use Rattle.grammar_reader.specs.declared.grammar.lists.Element.TheVariants as elements
use Rattle.grammar_reader.specs.declared.grammar.paths.Mode.{Mode}
use Rattle.grammar_reader.specs.declared.grammar.paths.Mode.TheVariants as modes

-- which operators an expression has outside of brackets
abbrev pub level_of : Level → rules.Production
level_of levels.Comparison = rules.comparison
level_of levels.Disjunction = rules.disjunction
level_of levels.Expression = rules.expression
level_of levels.Operation = rules.operation
level_of levels.Prefixed = rules.prefixed

-- what the elements of a list are
abbrev pub element_of : Element → Rule
element_of elements.Captured = captured
element_of elements.ClosureParam = closure_param
element_of elements.Expression = Call rules.expression
element_of elements.FieldValue = Call rules.field_value
element_of elements.FnPtrParam = fn_ptr_param
element_of elements.GenericArg = Call rules.generic_arg
element_of elements.GenericParam = Call rules.generic_param
element_of elements.Param = Call rules.param
element_of elements.Pattern = Call rules.pattern
element_of elements.PatternField = Call rules.pattern_field
element_of elements.RecordField = record_field
element_of elements.TupleField = tuple_field
element_of elements.Type = Call rules.any_type
element_of elements.TypeArg = type_arg
element_of elements.Variant = variant

-- how many looks tell at most whether an element is next, and how many one takes that takes no token
abbrev pub looks_before : Element → ℕ
looks_before elements.ClosureParam = 9
looks_before elements.Expression = 19
looks_before x = 30

abbrev pub looks_in : Element → ℕ
looks_in elements.ClosureParam = 0
looks_in x = 600

-- what a list repeats
abbrev pub list_turn : (list : ℕ) → (element : Rule) → (close : ℕ) → Rule
list_turn list element close = Unless (until (one close)) (list_element list element (one close))

-- Where arguments begin in a path of an expression, and of a type.
abbrev pub angle : Look
angle = '<' not_before ('=' ∷ [])

abbrev pub args_look : Mode → Look
args_look modes.Expr = '::' before '<'
args_look modes.Type = Either ('::' before '<') angle

abbrev pub args_of : Mode → Rule
args_of modes.Expr = expr_args
args_of modes.Type = type_args

abbrev pub path_of : Mode → rules.Production
path_of modes.Expr = rules.expr_path
path_of modes.Type = rules.type_path

-- A list of statements up to a brace is that of a block, and one up to the end of the input that of a macro.
abbrev pub listing_of : ListEnd → Listing
listing_of list_ends.Brace = in_block
listing_of list_ends.Input = in_macro

-- where a list of items or of statements ends
abbrev pub ends_of : ListEnd → Look
ends_of end = (listing_of end).ends

-- what a list of items repeats
abbrev pub item_or_attribute : Rule
item_or_attribute = When ('#' before '!') Attribute or Item

-- what follows an expression that ends in a block
abbrev pub after_block_of : ListEnd → Rule
after_block_of end = after_block (listing_of end)

-- The whole grammar: the rows of all subjects, and the order in which productions call each other.
use Rattle.std.specs.Prelude.{ℕ}
use Rattle.rust_grammar.specs.Rule.{source_file, macro_items, macro_statements, item, body, meta, use_tree, param, path, type_path, expr_path, generic_arg, generic_param, bounds, bound, where_pred, any_type, pattern, single_pattern, pattern_field, block, statement, macro_statement, expression, operation, operation_tail, disjunction, conjunction, comparison, bit_or, bit_xor, bit_and, bit_shift, sum, product, cast, prefixed, postfix, atom, field_value, block_like, match_arm, type_no_bounds, Production, Rule, Nothing, pattern_atom, arm_body}
use Rattle.rust_grammar.specs.Meaning.{Table}
use Rattle.rust_grammar.specs.Items.{items}
use Rattle.rust_grammar.specs.Statements.{statements}
use Rattle.rust_grammar.specs.Expressions.{expressions}
use Rattle.rust_grammar.specs.Patterns.{patterns}
use Rattle.rust_grammar.specs.Types.{types}
use Rattle.rust_grammar.specs.Paths.{paths}

-- A production calls, before it takes a token, only those of lower rank.
unfoldable pub rank : Production → ℕ
rank source_file = 5
rank macro_items = 5
rank macro_statements = 19
rank item = 3
rank body = 2
rank meta = 2
rank use_tree = 2
rank param = 5
rank path = 1
rank type_path = 1
rank expr_path = 1
rank generic_arg = 5
rank generic_param = 1
rank bounds = 3
rank bound = 2
rank where_pred = 5
rank any_type = 4
rank pattern = 4
rank single_pattern = 3
rank pattern_field = 1
rank block = 1
rank statement = 17
rank macro_statement = 17
rank expression = 16
rank operation = 15
rank operation_tail = 1
rank disjunction = 14
rank conjunction = 13
rank comparison = 12
rank bit_or = 11
rank bit_xor = 10
rank bit_and = 9
rank bit_shift = 8
rank sum = 7
rank product = 6
rank cast = 5
rank prefixed = 4
rank postfix = 1
rank atom = 3
rank field_value = 2
rank block_like = 2
rank match_arm = 18
rank type_no_bounds = 5
rank pattern_atom = 2
rank arm_body = 17
rank x = 0

-- the rows of all subjects; each production stands in one of them
unfoldable pub rule : Production → Rule
rule = items (statements (expressions (patterns (types (paths (λ x. Nothing))))))

unfoldable pub whole : Table
whole = record { rule = rule; rank = rank; ranks = 20 }

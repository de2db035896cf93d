-- The rules of the whole grammar pass the test of steps.
use Rattle.std.proofs.Common.{◌≡◌, ℕ, Bool, true, not, ◌&&◌, ◌||◌, nat_le, refl}
use Rattle.rust_grammar.specs.Rule.{Production, source_file, macro_items, macro_statements, item, body, assoc_items, variants, record_fields, tuple_fields, visibility, attribute, meta, token_tree, use_tree, use_list, params, param, name, lifetime, name_ref, path, type_path, expr_path, generic_args, generic_arg, generic_params, generic_param, bounds, bound, where_clause, where_pred, any_type, ret_type, pattern, single_pattern, pattern_fields, pattern_field, literal, statement_list, block, statement, macro_statement, statement_end, macro_statement_end, expression, operation, operation_tail, pipe_tail, disjunction, conjunction, comparison, bit_or, bit_xor, bit_and, bit_shift, sum, product, cast, prefixed, postfix, after_dot, arguments, atom, field_values, field_value, block_like, if_expr, match_arms, match_arm, type_no_bounds, begins, passes, is_silent, shift, in_mode, from_start, there_at, pattern_atom, arm_body}
use Rattle.rust_grammar.specs.Notation.{row, one_of, any_of, is_longer, no_longer, longest}
use Rattle.rust_grammar.specs.Meaning.{look_of, begins_below}
use Rattle.rust_grammar.specs.Paths.{paths}
use Rattle.rust_grammar.specs.Types.{types}
use Rattle.rust_grammar.specs.Patterns.{patterns}
use Rattle.rust_grammar.specs.Expressions.{expressions}
use Rattle.rust_grammar.specs.Statements.{statements}
use Rattle.rust_grammar.specs.Items.{items}
use Rattle.rust_grammar.specs.Whole.{rule, rank, whole}
use Rattle.rust_grammar.proofs.Fine.{takes}
use Rattle.rust_grammar.proofs.WholeTable.{claim}
use Rattle.rust_grammar.proofs.Costs.{Prices, idle, debt, is_paid}

-- the most steps that a production gives without a leaf
unfoldable pub idle_most : Production → ℕ
idle_most source_file = 10
idle_most macro_items = 10
idle_most macro_statements = 12
idle_most item = 8
idle_most body = 8
idle_most meta = 7
idle_most use_tree = 7
idle_most param = 17
idle_most path = 5
idle_most type_path = 5
idle_most expr_path = 5
idle_most generic_arg = 9
idle_most bounds = 11
idle_most bound = 9
idle_most where_pred = 21
idle_most any_type = 7
idle_most pattern = 7
idle_most single_pattern = 7
idle_most pattern_field = 5
idle_most statement = 10
idle_most macro_statement = 10
idle_most statement_end = 3
idle_most macro_statement_end = 3
idle_most expression = 7
idle_most operation = 7
idle_most disjunction = 7
idle_most conjunction = 7
idle_most comparison = 7
idle_most bit_or = 7
idle_most bit_xor = 7
idle_most bit_and = 7
idle_most bit_shift = 7
idle_most sum = 7
idle_most product = 7
idle_most cast = 7
idle_most prefixed = 7
idle_most after_dot = 3
idle_most atom = 7
idle_most field_value = 9
idle_most match_arm = 18
idle_most type_no_bounds = 7
idle_most pattern_atom = 7
idle_most arm_body = 8
idle_most x = 0

-- the most that it gives with a leaf, where each further one pays for 64
unfoldable pub debt_most : Production → ℕ
debt_most source_file = 40
debt_most macro_items = 40
debt_most macro_statements = 42
debt_most item = 30
debt_most body = 30
debt_most assoc_items = 12
debt_most variants = 8
debt_most record_fields = 16
debt_most tuple_fields = 14
debt_most visibility = 3
debt_most attribute = 12
debt_most meta = 15
debt_most token_tree = 4
debt_most use_tree = 14
debt_most use_list = 12
debt_most params = 22
debt_most param = 35
debt_most name = 3
debt_most lifetime = 3
debt_most name_ref = 3
debt_most path = 9
debt_most type_path = 19
debt_most expr_path = 19
debt_most generic_args = 14
debt_most generic_arg = 27
debt_most generic_params = 4
debt_most generic_param = 15
debt_most bounds = 25
debt_most bound = 23
debt_most where_clause = 24
debt_most where_pred = 39
debt_most any_type = 25
debt_most ret_type = 10
debt_most pattern = 21
debt_most single_pattern = 21
debt_most pattern_fields = 10
debt_most pattern_field = 17
debt_most literal = 3
debt_most statement_list = 14
debt_most block = 16
debt_most statement = 30
debt_most macro_statement = 30
debt_most statement_end = 3
debt_most macro_statement_end = 3
debt_most expression = 23
debt_most operation = 23
debt_most operation_tail = 10
debt_most pipe_tail = 10
debt_most disjunction = 23
debt_most conjunction = 23
debt_most comparison = 23
debt_most bit_or = 23
debt_most bit_xor = 23
debt_most bit_and = 23
debt_most bit_shift = 23
debt_most sum = 23
debt_most product = 23
debt_most cast = 23
debt_most prefixed = 23
debt_most postfix = 14
debt_most after_dot = 14
debt_most arguments = 12
debt_most atom = 23
debt_most field_values = 14
debt_most field_value = 23
debt_most block_like = 23
debt_most if_expr = 11
debt_most match_arms = 22
debt_most match_arm = 34
debt_most type_no_bounds = 25
debt_most pattern_atom = 21
debt_most arm_body = 24

unfoldable pub prices : Prices
prices = record { looks = look_of whole; sure = claim; idle_of = idle_most; debt_of = debt_most }

unfoldable pub is_priced : Production → Bool
is_priced x =
    is_paid prices (rule x) && nat_le (idle prices (rule x)) (idle_most x) && nat_le (debt prices (rule x)) (debt_most x) && (not (claim x) || takes claim (rule x)) && nat_le 1 (debt_most x) && nat_le (debt_most x) 64 && nat_le (idle_most x) 64

pub all_priced : (x : Production) → is_priced x ≡ true
unfolding is_priced prices idle_most debt_most is_paid idle debt takes claim look_of begins_below begins passes is_silent shift in_mode from_start there_at rule rank whole row one_of any_of is_longer no_longer longest paths types patterns expressions statements items
all_priced source_file = refl
all_priced macro_items = refl
all_priced macro_statements = refl
all_priced item = refl
all_priced body = refl
all_priced assoc_items = refl
all_priced variants = refl
all_priced record_fields = refl
all_priced tuple_fields = refl
all_priced visibility = refl
all_priced attribute = refl
all_priced meta = refl
all_priced token_tree = refl
all_priced use_tree = refl
all_priced use_list = refl
all_priced params = refl
all_priced param = refl
all_priced name = refl
all_priced lifetime = refl
all_priced name_ref = refl
all_priced path = refl
all_priced type_path = refl
all_priced expr_path = refl
all_priced generic_args = refl
all_priced generic_arg = refl
all_priced generic_params = refl
all_priced generic_param = refl
all_priced bounds = refl
all_priced bound = refl
all_priced where_clause = refl
all_priced where_pred = refl
all_priced any_type = refl
all_priced ret_type = refl
all_priced pattern = refl
all_priced single_pattern = refl
all_priced pattern_fields = refl
all_priced pattern_field = refl
all_priced literal = refl
all_priced statement_list = refl
all_priced block = refl
all_priced statement = refl
all_priced macro_statement = refl
all_priced statement_end = refl
all_priced macro_statement_end = refl
all_priced expression = refl
all_priced operation = refl
all_priced operation_tail = refl
all_priced pipe_tail = refl
all_priced disjunction = refl
all_priced conjunction = refl
all_priced comparison = refl
all_priced bit_or = refl
all_priced bit_xor = refl
all_priced bit_and = refl
all_priced bit_shift = refl
all_priced sum = refl
all_priced product = refl
all_priced cast = refl
all_priced prefixed = refl
all_priced postfix = refl
all_priced after_dot = refl
all_priced arguments = refl
all_priced atom = refl
all_priced field_values = refl
all_priced field_value = refl
all_priced block_like = refl
all_priced if_expr = refl
all_priced match_arms = refl
all_priced match_arm = refl
all_priced type_no_bounds = refl
all_priced pattern_atom = refl
all_priced arm_body = refl

-- The table of the whole grammar passes the test, so its productions mean what their rules say.
use Rattle.std.proofs.Common.{◌≡◌, Bool, true, false, refl}
use Rattle.rust_grammar.specs.Rule.{Production, source_file, macro_items, macro_statements, item, body, assoc_items, variants, record_fields, tuple_fields, visibility, attribute, meta, token_tree, use_tree, use_list, params, param, name, lifetime, name_ref, path, type_path, expr_path, generic_args, generic_arg, generic_params, generic_param, bounds, bound, where_clause, where_pred, any_type, ret_type, pattern, single_pattern, pattern_fields, pattern_field, literal, statement_list, block, statement, macro_statement, statement_end, macro_statement_end, expression, operation, operation_tail, pipe_tail, disjunction, conjunction, comparison, bit_or, bit_xor, bit_and, bit_shift, sum, product, cast, prefixed, postfix, after_dot, arguments, atom, field_values, field_value, block_like, if_expr, match_arms, match_arm, type_no_bounds, begins, passes, is_silent, shift, in_mode, from_start, there_at, pattern_atom, arm_body}
use Rattle.rust_grammar.specs.Notation.{row, one_of, any_of, is_longer, no_longer, longest}
use Rattle.rust_grammar.specs.Meaning.{Reading, read, meaning, look_of, begins_below}
use Rattle.rust_grammar.proofs.Fine.{fine, ranked, ranked_at_end, fails, takes}
use Rattle.rust_grammar.specs.Paths.{paths}
use Rattle.rust_grammar.specs.Types.{types}
use Rattle.rust_grammar.specs.Patterns.{patterns}
use Rattle.rust_grammar.specs.Expressions.{expressions}
use Rattle.rust_grammar.specs.Statements.{statements}
use Rattle.rust_grammar.specs.Items.{items}
use Rattle.rust_grammar.specs.Whole.{rule, rank, whole}
use Rattle.rust_grammar.specs.Laws.{is_nothing}
use Rattle.rust_grammar.proofs.Plain.{meaning_is_plain}

-- the productions that surely take a token where one is left
unfoldable pub claim : Production → Bool
claim assoc_items = true
claim variants = true
claim record_fields = true
claim tuple_fields = true
claim visibility = true
claim attribute = true
claim token_tree = true
claim use_list = true
claim params = true
claim name = true
claim lifetime = true
claim name_ref = true
claim generic_args = true
claim generic_params = true
claim generic_param = true
claim where_clause = true
claim ret_type = true
claim pattern_fields = true
claim literal = true
claim statement_list = true
claim block = true
claim postfix = true
claim arguments = true
claim field_values = true
claim block_like = true
claim if_expr = true
claim match_arms = true
claim x = false

pub all_fine : (x : Production) → fine whole claim x ≡ true
unfolding fine ranked ranked_at_end fails takes claim look_of begins_below begins passes is_silent shift in_mode from_start there_at rule rank whole row one_of any_of is_longer no_longer longest paths types patterns expressions statements items
all_fine source_file = refl
all_fine macro_items = refl
all_fine macro_statements = refl
all_fine item = refl
all_fine body = refl
all_fine assoc_items = refl
all_fine variants = refl
all_fine record_fields = refl
all_fine tuple_fields = refl
all_fine visibility = refl
all_fine attribute = refl
all_fine meta = refl
all_fine token_tree = refl
all_fine use_tree = refl
all_fine use_list = refl
all_fine params = refl
all_fine param = refl
all_fine name = refl
all_fine lifetime = refl
all_fine name_ref = refl
all_fine path = refl
all_fine type_path = refl
all_fine expr_path = refl
all_fine generic_args = refl
all_fine generic_arg = refl
all_fine generic_params = refl
all_fine generic_param = refl
all_fine bounds = refl
all_fine bound = refl
all_fine where_clause = refl
all_fine where_pred = refl
all_fine any_type = refl
all_fine ret_type = refl
all_fine pattern = refl
all_fine single_pattern = refl
all_fine pattern_fields = refl
all_fine pattern_field = refl
all_fine literal = refl
all_fine statement_list = refl
all_fine block = refl
all_fine statement = refl
all_fine macro_statement = refl
all_fine statement_end = refl
all_fine macro_statement_end = refl
all_fine expression = refl
all_fine operation = refl
all_fine operation_tail = refl
all_fine pipe_tail = refl
all_fine disjunction = refl
all_fine conjunction = refl
all_fine comparison = refl
all_fine bit_or = refl
all_fine bit_xor = refl
all_fine bit_and = refl
all_fine bit_shift = refl
all_fine sum = refl
all_fine product = refl
all_fine cast = refl
all_fine prefixed = refl
all_fine postfix = refl
all_fine after_dot = refl
all_fine arguments = refl
all_fine atom = refl
all_fine field_values = refl
all_fine field_value = refl
all_fine block_like = refl
all_fine if_expr = refl
all_fine match_arms = refl
all_fine match_arm = refl
all_fine type_no_bounds = refl
all_fine pattern_atom = refl
all_fine arm_body = refl

pub whole-means :
    (x : Production) (c : Bool) (s : Reading) → meaning whole x c s ≡ read (look_of whole) (meaning whole) c (rule x) s
unfolding whole
whole-means = meaning_is_plain whole claim all_fine

pub all_have_rules : (x : Production) → is_nothing (rule x) ≡ false
unfolding is_nothing rule paths types patterns expressions statements items
all_have_rules source_file = refl
all_have_rules macro_items = refl
all_have_rules macro_statements = refl
all_have_rules item = refl
all_have_rules body = refl
all_have_rules assoc_items = refl
all_have_rules variants = refl
all_have_rules record_fields = refl
all_have_rules tuple_fields = refl
all_have_rules visibility = refl
all_have_rules attribute = refl
all_have_rules meta = refl
all_have_rules token_tree = refl
all_have_rules use_tree = refl
all_have_rules use_list = refl
all_have_rules params = refl
all_have_rules param = refl
all_have_rules name = refl
all_have_rules lifetime = refl
all_have_rules name_ref = refl
all_have_rules path = refl
all_have_rules type_path = refl
all_have_rules expr_path = refl
all_have_rules generic_args = refl
all_have_rules generic_arg = refl
all_have_rules generic_params = refl
all_have_rules generic_param = refl
all_have_rules bounds = refl
all_have_rules bound = refl
all_have_rules where_clause = refl
all_have_rules where_pred = refl
all_have_rules any_type = refl
all_have_rules ret_type = refl
all_have_rules pattern = refl
all_have_rules single_pattern = refl
all_have_rules pattern_fields = refl
all_have_rules pattern_field = refl
all_have_rules literal = refl
all_have_rules statement_list = refl
all_have_rules block = refl
all_have_rules statement = refl
all_have_rules macro_statement = refl
all_have_rules statement_end = refl
all_have_rules macro_statement_end = refl
all_have_rules expression = refl
all_have_rules operation = refl
all_have_rules operation_tail = refl
all_have_rules pipe_tail = refl
all_have_rules disjunction = refl
all_have_rules conjunction = refl
all_have_rules comparison = refl
all_have_rules bit_or = refl
all_have_rules bit_xor = refl
all_have_rules bit_and = refl
all_have_rules bit_shift = refl
all_have_rules sum = refl
all_have_rules product = refl
all_have_rules cast = refl
all_have_rules prefixed = refl
all_have_rules postfix = refl
all_have_rules after_dot = refl
all_have_rules arguments = refl
all_have_rules atom = refl
all_have_rules field_values = refl
all_have_rules field_value = refl
all_have_rules block_like = refl
all_have_rules if_expr = refl
all_have_rules match_arms = refl
all_have_rules match_arm = refl
all_have_rules type_no_bounds = refl
all_have_rules pattern_atom = refl
all_have_rules arm_body = refl

pub whole-begins : (x : Production) → look_of whole x ≡ begins (look_of whole) (rule x)
unfolding look_of begins_below begins passes is_silent shift in_mode from_start there_at rule rank whole row one_of any_of is_longer no_longer longest paths types patterns expressions statements items
whole-begins source_file = refl
whole-begins macro_items = refl
whole-begins macro_statements = refl
whole-begins item = refl
whole-begins body = refl
whole-begins assoc_items = refl
whole-begins variants = refl
whole-begins record_fields = refl
whole-begins tuple_fields = refl
whole-begins visibility = refl
whole-begins attribute = refl
whole-begins meta = refl
whole-begins token_tree = refl
whole-begins use_tree = refl
whole-begins use_list = refl
whole-begins params = refl
whole-begins param = refl
whole-begins name = refl
whole-begins lifetime = refl
whole-begins name_ref = refl
whole-begins path = refl
whole-begins type_path = refl
whole-begins expr_path = refl
whole-begins generic_args = refl
whole-begins generic_arg = refl
whole-begins generic_params = refl
whole-begins generic_param = refl
whole-begins bounds = refl
whole-begins bound = refl
whole-begins where_clause = refl
whole-begins where_pred = refl
whole-begins any_type = refl
whole-begins ret_type = refl
whole-begins pattern = refl
whole-begins single_pattern = refl
whole-begins pattern_fields = refl
whole-begins pattern_field = refl
whole-begins literal = refl
whole-begins statement_list = refl
whole-begins block = refl
whole-begins statement = refl
whole-begins macro_statement = refl
whole-begins statement_end = refl
whole-begins macro_statement_end = refl
whole-begins expression = refl
whole-begins operation = refl
whole-begins operation_tail = refl
whole-begins pipe_tail = refl
whole-begins disjunction = refl
whole-begins conjunction = refl
whole-begins comparison = refl
whole-begins bit_or = refl
whole-begins bit_xor = refl
whole-begins bit_and = refl
whole-begins bit_shift = refl
whole-begins sum = refl
whole-begins product = refl
whole-begins cast = refl
whole-begins prefixed = refl
whole-begins postfix = refl
whole-begins after_dot = refl
whole-begins arguments = refl
whole-begins atom = refl
whole-begins field_values = refl
whole-begins field_value = refl
whole-begins block_like = refl
whole-begins if_expr = refl
whole-begins match_arms = refl
whole-begins match_arm = refl
whole-begins type_no_bounds = refl
whole-begins pattern_atom = refl
whole-begins arm_body = refl

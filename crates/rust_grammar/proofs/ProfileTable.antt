-- The profile's table passes the test, so its productions mean what their rules say.
use Rattle.std.proofs.Common.{◌≡◌, Bool, true, refl}
use Rattle.rust_grammar.specs.Rule.{Production, source_file, macro_items, macro_statements, item, body, assoc_items, variants, record_fields, tuple_fields, visibility, attribute, meta, token_tree, use_tree, use_list, params, param, name, lifetime, name_ref, path, type_path, expr_path, generic_args, generic_arg, generic_params, generic_param, bounds, bound, where_clause, where_pred, any_type, ret_type, pattern, single_pattern, pattern_fields, pattern_field, literal, statement_list, block, statement, macro_statement, statement_end, macro_statement_end, expression, operation, operation_tail, pipe_tail, disjunction, conjunction, comparison, bit_or, bit_xor, bit_and, bit_shift, sum, product, cast, prefixed, postfix, after_dot, arguments, atom, field_values, field_value, block_like, if_expr, match_arms, match_arm, type_no_bounds, begins, passes, is_silent, shift, in_mode, from_start, there_at, pattern_atom, arm_body}
use Rattle.rust_grammar.specs.Notation.{row, one_of, any_of, is_longer, no_longer, longest}
use Rattle.rust_grammar.specs.Meaning.{Reading, read, meaning, look_of, begins_below}
use Rattle.rust_grammar.specs.Profile.{profile_paths, profile_types, profile_patterns, profile_expressions, profile_statements, profile_items, profile_rule, profile_rank, profile}
use Rattle.rust_grammar.proofs.Fine.{fine, ranked, ranked_at_end, fails, takes}
use Rattle.rust_grammar.proofs.WholeTable.{claim}
use Rattle.rust_grammar.proofs.Plain.{meaning_is_plain}

pub profile_fine : (x : Production) → fine profile claim x ≡ true
unfolding fine ranked ranked_at_end fails takes claim look_of begins_below begins passes is_silent shift in_mode from_start there_at row one_of any_of is_longer no_longer longest profile_rule profile_rank profile profile_paths profile_types profile_patterns profile_expressions profile_statements profile_items
profile_fine source_file = refl
profile_fine macro_items = refl
profile_fine macro_statements = refl
profile_fine item = refl
profile_fine body = refl
profile_fine assoc_items = refl
profile_fine variants = refl
profile_fine record_fields = refl
profile_fine tuple_fields = refl
profile_fine visibility = refl
profile_fine attribute = refl
profile_fine meta = refl
profile_fine token_tree = refl
profile_fine use_tree = refl
profile_fine use_list = refl
profile_fine params = refl
profile_fine param = refl
profile_fine name = refl
profile_fine lifetime = refl
profile_fine name_ref = refl
profile_fine path = refl
profile_fine type_path = refl
profile_fine expr_path = refl
profile_fine generic_args = refl
profile_fine generic_arg = refl
profile_fine generic_params = refl
profile_fine generic_param = refl
profile_fine bounds = refl
profile_fine bound = refl
profile_fine where_clause = refl
profile_fine where_pred = refl
profile_fine any_type = refl
profile_fine ret_type = refl
profile_fine pattern = refl
profile_fine single_pattern = refl
profile_fine pattern_fields = refl
profile_fine pattern_field = refl
profile_fine literal = refl
profile_fine statement_list = refl
profile_fine block = refl
profile_fine statement = refl
profile_fine macro_statement = refl
profile_fine statement_end = refl
profile_fine macro_statement_end = refl
profile_fine expression = refl
profile_fine operation = refl
profile_fine operation_tail = refl
profile_fine pipe_tail = refl
profile_fine disjunction = refl
profile_fine conjunction = refl
profile_fine comparison = refl
profile_fine bit_or = refl
profile_fine bit_xor = refl
profile_fine bit_and = refl
profile_fine bit_shift = refl
profile_fine sum = refl
profile_fine product = refl
profile_fine cast = refl
profile_fine prefixed = refl
profile_fine postfix = refl
profile_fine after_dot = refl
profile_fine arguments = refl
profile_fine atom = refl
profile_fine field_values = refl
profile_fine field_value = refl
profile_fine block_like = refl
profile_fine if_expr = refl
profile_fine match_arms = refl
profile_fine match_arm = refl
profile_fine type_no_bounds = refl
profile_fine pattern_atom = refl
profile_fine arm_body = refl

pub profile-means : (x : Production) (c : Bool) (s : Reading) → meaning profile x c s ≡ read (look_of profile) (meaning profile) c (profile_rule x) s
unfolding profile
profile-means = meaning_is_plain profile claim profile_fine

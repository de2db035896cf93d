-- Where the productions of the whole grammar begin, and what they give, is settled by their rules.
use Rattle.std.proofs.Common.{◌≡◌, ℕ, ◌<◌, true, refl, subst, arith}
use mathlib.Core.Path.{fun_ext}
use Rattle.rust_grammar.specs.Rule.{Production, Look, source_file, macro_items, macro_statements, item, body, assoc_items, variants, record_fields, tuple_fields, visibility, attribute, meta, token_tree, use_tree, use_list, params, param, name, lifetime, name_ref, path, type_path, expr_path, generic_args, generic_arg, generic_params, generic_param, bounds, bound, where_clause, where_pred, any_type, ret_type, pattern, single_pattern, pattern_fields, pattern_field, literal, statement_list, block, statement, macro_statement, statement_end, macro_statement_end, expression, operation, operation_tail, pipe_tail, disjunction, conjunction, comparison, bit_or, bit_xor, bit_and, bit_shift, sum, product, cast, prefixed, postfix, after_dot, arguments, atom, field_values, field_value, block_like, if_expr, match_arms, match_arm, type_no_bounds, passes, is_silent, pattern_atom, arm_body}
use Rattle.rust_grammar.specs.Notation.{row, one_of, any_of, is_longer, no_longer, longest}
use Rattle.rust_grammar.specs.Meaning.{look_of}
use Rattle.rust_grammar.specs.Paths.{paths}
use Rattle.rust_grammar.specs.Types.{types}
use Rattle.rust_grammar.specs.Patterns.{patterns}
use Rattle.rust_grammar.specs.Expressions.{expressions}
use Rattle.rust_grammar.specs.Statements.{statements}
use Rattle.rust_grammar.specs.Items.{items}
use Rattle.rust_grammar.specs.Whole.{rule, rank, whole}
use Rattle.rust_grammar.specs.Laws.{AreReadings, OnlyOneBeginning, OnlyOneReading}
use Rattle.rust_grammar.proofs.Plain.{fine-rank}
use Rattle.rust_grammar.proofs.WholeTable.{claim, all_fine}
use Rattle.rust_grammar.proofs.Only.{only-meaning}
use Rattle.rust_grammar.proofs.OnlyLooks.{asks_less, asks_only, reaches_second, only-looks}

-- The rank, except that `operation_tail` asks the lookaheads of an operand after a range operator.
unfoldable pub depth : Production → ℕ
depth operation_tail = 15
depth x = rank x

depth-below : (x : Production) → depth x < 20
unfolding depth rank whole
depth-below operation_tail = omega arith
depth-below x = fine-rank whole claim all_fine x

pub all_asked : (x : Production) → asks_less depth whole x ≡ true
unfolding asks_less depth asks_only reaches_second passes is_silent rule rank whole row one_of any_of is_longer no_longer longest paths types patterns expressions statements items
all_asked source_file = refl
all_asked macro_items = refl
all_asked macro_statements = refl
all_asked item = refl
all_asked body = refl
all_asked assoc_items = refl
all_asked variants = refl
all_asked record_fields = refl
all_asked tuple_fields = refl
all_asked visibility = refl
all_asked attribute = refl
all_asked meta = refl
all_asked token_tree = refl
all_asked use_tree = refl
all_asked use_list = refl
all_asked params = refl
all_asked param = refl
all_asked name = refl
all_asked lifetime = refl
all_asked name_ref = refl
all_asked path = refl
all_asked type_path = refl
all_asked expr_path = refl
all_asked generic_args = refl
all_asked generic_arg = refl
all_asked generic_params = refl
all_asked generic_param = refl
all_asked bounds = refl
all_asked bound = refl
all_asked where_clause = refl
all_asked where_pred = refl
all_asked any_type = refl
all_asked ret_type = refl
all_asked pattern = refl
all_asked single_pattern = refl
all_asked pattern_fields = refl
all_asked pattern_field = refl
all_asked literal = refl
all_asked statement_list = refl
all_asked block = refl
all_asked statement = refl
all_asked macro_statement = refl
all_asked statement_end = refl
all_asked macro_statement_end = refl
all_asked expression = refl
all_asked operation = refl
all_asked operation_tail = refl
all_asked pipe_tail = refl
all_asked disjunction = refl
all_asked conjunction = refl
all_asked comparison = refl
all_asked bit_or = refl
all_asked bit_xor = refl
all_asked bit_and = refl
all_asked bit_shift = refl
all_asked sum = refl
all_asked product = refl
all_asked cast = refl
all_asked prefixed = refl
all_asked postfix = refl
all_asked after_dot = refl
all_asked arguments = refl
all_asked atom = refl
all_asked field_values = refl
all_asked field_value = refl
all_asked block_like = refl
all_asked if_expr = refl
all_asked match_arms = refl
all_asked match_arm = refl
all_asked type_no_bounds = refl
all_asked pattern_atom = refl
all_asked arm_body = refl

pub one-beginning : OnlyOneBeginning
unfolding whole
one-beginning looks equation x = only-looks depth whole all_asked looks equation x (depth-below x)

pub one-reading : OnlyOneReading
unfolding whole
one-reading looks gives begin equation =
    let same : looks ≡ look_of whole = fun_ext (one-beginning looks begin) in
    only-meaning whole claim all_fine gives (subst (λ (l : Production → Look). AreReadings l gives) same equation)

-- Types, patterns and expressions of the whole grammar pass the test of one node.
use Rattle.std.proofs.Common.{◌≡◌, Bool, true, false, refl, if◌then◌else◌}
use Rattle.rust_grammar.specs.Rule.{Production, source_file, macro_items, macro_statements, item, body, assoc_items, variants, record_fields, tuple_fields, visibility, attribute, meta, token_tree, use_tree, use_list, params, param, name, lifetime, name_ref, path, type_path, expr_path, generic_args, generic_arg, generic_params, generic_param, bounds, bound, where_clause, where_pred, any_type, ret_type, pattern, single_pattern, pattern_fields, pattern_field, literal, statement_list, block, statement, macro_statement, statement_end, macro_statement_end, expression, operation, operation_tail, pipe_tail, disjunction, conjunction, comparison, bit_or, bit_xor, bit_and, bit_shift, sum, product, cast, prefixed, postfix, after_dot, arguments, atom, field_values, field_value, block_like, if_expr, match_arms, match_arm, type_no_bounds, begins, passes, is_silent, shift, in_mode, from_start, there_at, pattern_atom, arm_body}
use Rattle.rust_grammar.specs.Notation.{row, one_of, any_of, is_longer, no_longer, longest}
use Rattle.rust_grammar.specs.Meaning.{look_of, begins_below}
use Rattle.rust_grammar.specs.Paths.{paths}
use Rattle.rust_grammar.specs.Types.{types}
use Rattle.rust_grammar.specs.Patterns.{patterns}
use Rattle.rust_grammar.specs.Expressions.{expressions}
use Rattle.rust_grammar.specs.Statements.{statements}
use Rattle.rust_grammar.specs.Items.{items}
use Rattle.rust_grammar.specs.Whole.{rule, rank, whole}
use Rattle.rust_grammar.proofs.Known.{same_look, is_left, is_first, is_never, tells, weakens, implies}
use Rattle.rust_grammar.proofs.Shapes.{Shape, Blank, Single, Several, is_within, join, node_shape, Rooting, call_shape, continued_shape, shape}

-- the productions that give one node
unfoldable pub gives_one : Production → Bool
gives_one source_file = true
gives_one macro_items = true
gives_one macro_statements = true
gives_one meta = true
gives_one name = true
gives_one lifetime = true
gives_one name_ref = true
gives_one path = true
gives_one type_path = true
gives_one expr_path = true
gives_one any_type = true
gives_one pattern = true
gives_one single_pattern = true
gives_one pattern_atom = true
gives_one literal = true
gives_one block = true
gives_one expression = true
gives_one operation = true
gives_one operation_tail = true
gives_one pipe_tail = true
gives_one disjunction = true
gives_one conjunction = true
gives_one comparison = true
gives_one bit_or = true
gives_one bit_xor = true
gives_one bit_and = true
gives_one bit_shift = true
gives_one sum = true
gives_one product = true
gives_one cast = true
gives_one prefixed = true
gives_one postfix = true
gives_one after_dot = true
gives_one atom = true
gives_one block_like = true
gives_one if_expr = true
gives_one x = false

-- what they begin with
unfoldable pub starts_with : Production → Shape
starts_with operation_tail = Single
starts_with pipe_tail = Single
starts_with postfix = Several
starts_with after_dot = Several
starts_with x = Blank

unfoldable pub rooting : Rooting
rooting = record { looks = look_of whole; is_one = gives_one; start = starts_with }

unfoldable pub is_root : Production → Bool
is_root x = let part = is_within (shape rooting false (starts_with x) (rule x)) Single in if gives_one x then part else true

pub all_roots : (x : Production) → is_root x ≡ true
unfolding is_root rooting gives_one starts_with shape is_within join node_shape call_shape continued_shape same_look is_left is_first is_never tells weakens implies look_of begins_below begins passes is_silent shift in_mode from_start there_at rule rank whole row one_of any_of is_longer no_longer longest paths types patterns expressions statements items
all_roots source_file = refl
all_roots macro_items = refl
all_roots macro_statements = refl
all_roots item = refl
all_roots body = refl
all_roots assoc_items = refl
all_roots variants = refl
all_roots record_fields = refl
all_roots tuple_fields = refl
all_roots visibility = refl
all_roots attribute = refl
all_roots meta = refl
all_roots token_tree = refl
all_roots use_tree = refl
all_roots use_list = refl
all_roots params = refl
all_roots param = refl
all_roots name = refl
all_roots lifetime = refl
all_roots name_ref = refl
all_roots path = refl
all_roots type_path = refl
all_roots expr_path = refl
all_roots generic_args = refl
all_roots generic_arg = refl
all_roots generic_params = refl
all_roots generic_param = refl
all_roots bounds = refl
all_roots bound = refl
all_roots where_clause = refl
all_roots where_pred = refl
all_roots any_type = refl
all_roots ret_type = refl
all_roots pattern = refl
all_roots single_pattern = refl
all_roots pattern_fields = refl
all_roots pattern_field = refl
all_roots literal = refl
all_roots statement_list = refl
all_roots block = refl
all_roots statement = refl
all_roots macro_statement = refl
all_roots statement_end = refl
all_roots macro_statement_end = refl
all_roots expression = refl
all_roots operation = refl
all_roots operation_tail = refl
all_roots pipe_tail = refl
all_roots disjunction = refl
all_roots conjunction = refl
all_roots comparison = refl
all_roots bit_or = refl
all_roots bit_xor = refl
all_roots bit_and = refl
all_roots bit_shift = refl
all_roots sum = refl
all_roots product = refl
all_roots cast = refl
all_roots prefixed = refl
all_roots postfix = refl
all_roots after_dot = refl
all_roots arguments = refl
all_roots atom = refl
all_roots field_values = refl
all_roots field_value = refl
all_roots block_like = refl
all_roots if_expr = refl
all_roots match_arms = refl
all_roots match_arm = refl
all_roots type_no_bounds = refl
all_roots pattern_atom = refl
all_roots arm_body = refl

-- The rules of the whole grammar pass the test of tokens that are taken.
use Rattle.std.proofs.Common.{◌≡◌, None, Bool, true, refl, if◌then◌else◌}
use Rattle.rust_grammar.specs.Rule.{Production, source_file, macro_items, macro_statements, item, body, assoc_items, variants, record_fields, tuple_fields, visibility, attribute, meta, token_tree, use_tree, use_list, params, param, name, lifetime, name_ref, path, type_path, expr_path, generic_args, generic_arg, generic_params, generic_param, bounds, bound, where_clause, where_pred, any_type, ret_type, pattern, single_pattern, pattern_fields, pattern_field, literal, statement_list, block, statement, macro_statement, statement_end, macro_statement_end, expression, operation, operation_tail, pipe_tail, disjunction, conjunction, comparison, bit_or, bit_xor, bit_and, bit_shift, sum, product, cast, prefixed, postfix, after_dot, arguments, atom, field_values, field_value, block_like, if_expr, match_arms, match_arm, type_no_bounds, Look, Never, Left, Given, Both, Not, begins, passes, is_silent, shift, in_mode, from_start, there_at, pattern_atom, arm_body}
use Rattle.rust_grammar.specs.Notation.{row, one_of, any_of, is_longer, no_longer, longest}
use Rattle.rust_grammar.specs.Meaning.{look_of, begins_below}
use Rattle.rust_grammar.specs.Paths.{paths}
use Rattle.rust_grammar.specs.Types.{types}
use Rattle.rust_grammar.specs.Patterns.{patterns}
use Rattle.rust_grammar.specs.Expressions.{expressions}
use Rattle.rust_grammar.specs.Statements.{statements}
use Rattle.rust_grammar.specs.Items.{items}
use Rattle.rust_grammar.specs.Whole.{rule, rank, whole}
use Rattle.rust_grammar.proofs.Parts.{asks_tokens}
use Rattle.rust_grammar.proofs.Known.{same_look, is_left, is_first, is_never, tells, weakens, implies, cut, sift}
use Rattle.rust_grammar.proofs.Elsewhere.{asks, without, down, all_down, back, asked}
use Rattle.rust_grammar.proofs.Fine.{takes}
use Rattle.rust_grammar.proofs.WholeTable.{claim}
use Rattle.rust_grammar.proofs.Spelling.{at}
use Rattle.rust_grammar.proofs.Moving.{Movers, unmoved_calls, unmoved_option, unmoved, moves}

-- Where this is seen, a production takes a token, if one is left.
unfoldable pub moves_where : Production → Look
moves_where item = Both Left (Not Given)
moves_where body = Both Left (Not Given)
moves_where path = look_of whole path
moves_where expr_path = look_of whole expr_path
moves_where statement = look_of whole statement
moves_where macro_statement = look_of whole macro_statement
moves_where expression = look_of whole expression
moves_where operation = look_of whole operation
moves_where disjunction = look_of whole disjunction
moves_where conjunction = look_of whole conjunction
moves_where comparison = look_of whole comparison
moves_where bit_or = look_of whole bit_or
moves_where bit_xor = look_of whole bit_xor
moves_where bit_and = look_of whole bit_and
moves_where bit_shift = look_of whole bit_shift
moves_where sum = look_of whole sum
moves_where product = look_of whole product
moves_where cast = look_of whole cast
moves_where prefixed = look_of whole prefixed
moves_where atom = look_of whole atom
moves_where x = Never

unfoldable pub movers : Movers
movers = record { looks = look_of whole; always = claim; where_seen = moves_where }

unfoldable pub is_mover : Production → Bool
is_mover x = let part = moves movers None (moves_where x) (rule x) in if is_never (moves_where x) then true else part

pub all_move : (x : Production) → is_mover x ≡ true
unfolding is_mover movers moves_where claim unmoved_calls unmoved_option takes unmoved moves at same_look is_left is_first is_never tells weakens implies cut sift from_start asks without down all_down back asked asks_tokens look_of begins_below begins passes is_silent shift in_mode there_at rule rank whole row one_of any_of is_longer no_longer longest paths types patterns expressions statements items
all_move source_file = refl
all_move macro_items = refl
all_move macro_statements = refl
all_move item = refl
all_move body = refl
all_move assoc_items = refl
all_move variants = refl
all_move record_fields = refl
all_move tuple_fields = refl
all_move visibility = refl
all_move attribute = refl
all_move meta = refl
all_move token_tree = refl
all_move use_tree = refl
all_move use_list = refl
all_move params = refl
all_move param = refl
all_move name = refl
all_move lifetime = refl
all_move name_ref = refl
all_move path = refl
all_move type_path = refl
all_move expr_path = refl
all_move generic_args = refl
all_move generic_arg = refl
all_move generic_params = refl
all_move generic_param = refl
all_move bounds = refl
all_move bound = refl
all_move where_clause = refl
all_move where_pred = refl
all_move any_type = refl
all_move ret_type = refl
all_move pattern = refl
all_move single_pattern = refl
all_move pattern_fields = refl
all_move pattern_field = refl
all_move literal = refl
all_move statement_list = refl
all_move block = refl
all_move statement = refl
all_move macro_statement = refl
all_move statement_end = refl
all_move macro_statement_end = refl
all_move expression = refl
all_move operation = refl
all_move operation_tail = refl
all_move pipe_tail = refl
all_move disjunction = refl
all_move conjunction = refl
all_move comparison = refl
all_move bit_or = refl
all_move bit_xor = refl
all_move bit_and = refl
all_move bit_shift = refl
all_move sum = refl
all_move product = refl
all_move cast = refl
all_move prefixed = refl
all_move postfix = refl
all_move after_dot = refl
all_move arguments = refl
all_move atom = refl
all_move field_values = refl
all_move field_value = refl
all_move block_like = refl
all_move if_expr = refl
all_move match_arms = refl
all_move match_arm = refl
all_move type_no_bounds = refl
all_move pattern_atom = refl
all_move arm_body = refl

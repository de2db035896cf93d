-- What a lead of the whole grammar reads is one node.
use Rattle.std.proofs.Common.{◌≡◌, Bool, true, false, refl, sym, true≢false}
use Rattle.parser_events.specs.Fits.{IsRooted}
use Rattle.rust_grammar.specs.Rule.{Production, source_file, macro_items, macro_statements, item, body, assoc_items, variants, record_fields, tuple_fields, visibility, attribute, meta, token_tree, use_tree, use_list, params, param, name, lifetime, name_ref, path, type_path, expr_path, generic_args, generic_arg, generic_params, generic_param, bounds, bound, where_clause, where_pred, any_type, ret_type, pattern, single_pattern, pattern_fields, pattern_field, literal, statement_list, block, statement, macro_statement, statement_end, macro_statement_end, expression, operation, operation_tail, pipe_tail, disjunction, conjunction, comparison, bit_or, bit_xor, bit_and, bit_shift, sum, product, cast, prefixed, postfix, after_dot, arguments, atom, field_values, field_value, block_like, if_expr, match_arms, match_arm, type_no_bounds, Rule, begins, passes, is_silent, shift, in_mode, from_start, there_at, pattern_atom, arm_body}
use Rattle.rust_grammar.specs.Notation.{row, one_of, any_of, is_longer, no_longer, longest}
use Rattle.rust_grammar.specs.Meaning.{Reading, fresh, meaning, look_of, begins_below}
use Rattle.rust_grammar.specs.Paths.{paths}
use Rattle.rust_grammar.specs.Types.{types}
use Rattle.rust_grammar.specs.Patterns.{patterns}
use Rattle.rust_grammar.specs.Expressions.{expressions}
use Rattle.rust_grammar.specs.Statements.{statements}
use Rattle.rust_grammar.specs.Items.{items}
use Rattle.rust_grammar.specs.Whole.{rule, rank, whole}
use Rattle.rust_grammar.specs.Parts.{leads}
use Rattle.rust_grammar.specs.Laws.{reads, LeadsGiveOneNode}
use Rattle.rust_grammar.proofs.Parts.{every, all-from}
use Rattle.rust_grammar.proofs.Known.{same_look, is_left, is_first, is_never, tells, weakens, implies}
use Rattle.rust_grammar.proofs.Shapes.{Blank, Single, is_within, join, node_shape, call_shape, continued_shape, shape, within-holds, has-shape}
use Rattle.rust_grammar.proofs.ShapesTable.{gives_one, starts_with, rooting}
use Rattle.rust_grammar.proofs.EntriesFit.{as-claimed, productions-root}

unfoldable gives_node : Rule → Bool
gives_node a = is_within (shape rooting false Blank a) Single

all_lead : (x : Production) → every gives_node (leads (rule x)) ≡ true
unfolding every gives_node leads rooting gives_one starts_with shape is_within join node_shape call_shape continued_shape same_look is_left is_first is_never tells weakens implies look_of begins_below begins passes is_silent shift in_mode from_start there_at rule rank whole row one_of any_of is_longer no_longer longest paths types patterns expressions statements items
all_lead source_file = refl
all_lead macro_items = refl
all_lead macro_statements = refl
all_lead item = refl
all_lead body = refl
all_lead assoc_items = refl
all_lead variants = refl
all_lead record_fields = refl
all_lead tuple_fields = refl
all_lead visibility = refl
all_lead attribute = refl
all_lead meta = refl
all_lead token_tree = refl
all_lead use_tree = refl
all_lead use_list = refl
all_lead params = refl
all_lead param = refl
all_lead name = refl
all_lead lifetime = refl
all_lead name_ref = refl
all_lead path = refl
all_lead type_path = refl
all_lead expr_path = refl
all_lead generic_args = refl
all_lead generic_arg = refl
all_lead generic_params = refl
all_lead generic_param = refl
all_lead bounds = refl
all_lead bound = refl
all_lead where_clause = refl
all_lead where_pred = refl
all_lead any_type = refl
all_lead ret_type = refl
all_lead pattern = refl
all_lead single_pattern = refl
all_lead pattern_fields = refl
all_lead pattern_field = refl
all_lead literal = refl
all_lead statement_list = refl
all_lead block = refl
all_lead statement = refl
all_lead macro_statement = refl
all_lead statement_end = refl
all_lead macro_statement_end = refl
all_lead expression = refl
all_lead operation = refl
all_lead operation_tail = refl
all_lead pipe_tail = refl
all_lead disjunction = refl
all_lead conjunction = refl
all_lead comparison = refl
all_lead bit_or = refl
all_lead bit_xor = refl
all_lead bit_and = refl
all_lead bit_shift = refl
all_lead sum = refl
all_lead product = refl
all_lead cast = refl
all_lead prefixed = refl
all_lead postfix = refl
all_lead after_dot = refl
all_lead arguments = refl
all_lead atom = refl
all_lead field_values = refl
all_lead field_value = refl
all_lead block_like = refl
all_lead if_expr = refl
all_lead match_arms = refl
all_lead match_arm = refl
all_lead type_no_bounds = refl
all_lead pattern_atom = refl
all_lead arm_body = refl

node-given : (a : Rule) → gives_node a ≡ true → (in_condition : Bool) (s : Reading) → IsRooted (reads in_condition a (fresh s)).given
unfolding gives_node rooting fresh
node-given a e in_condition s =
    within-holds (shape rooting false Blank a) Single (reads in_condition a (fresh s)).given e
    (has-shape rooting (meaning whole) (as-claimed (meaning whole) productions-root) a false Blank in_condition (fresh s) (λ i. absurd (true≢false (sym i))) refl)

pub leads-give-one-node : LeadsGiveOneNode
leads-give-one-node x = all-from gives_node (λ a. (in_condition : Bool) (s : Reading) → IsRooted (reads in_condition a (fresh s)).given) node-given (leads (rule x)) (all_lead x)

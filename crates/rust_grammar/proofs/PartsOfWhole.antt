-- The parts of the whole grammar's rules pass the tests.
use Rattle.std.proofs.Common.{◌≡◌, Bool, true, false, ◌&&◌, refl}
use Rattle.rust_grammar.specs.Rule.{Production, Rule, source_file, macro_items, macro_statements, item, body, assoc_items, variants, record_fields, tuple_fields, visibility, attribute, meta, token_tree, use_tree, use_list, params, param, name, lifetime, name_ref, path, type_path, expr_path, generic_args, generic_arg, generic_params, generic_param, bounds, bound, where_clause, where_pred, any_type, ret_type, pattern, single_pattern, pattern_fields, pattern_field, literal, statement_list, block, statement, macro_statement, statement_end, macro_statement_end, expression, operation, operation_tail, pipe_tail, disjunction, conjunction, comparison, bit_or, bit_xor, bit_and, bit_shift, sum, product, cast, prefixed, postfix, after_dot, arguments, atom, field_values, field_value, block_like, if_expr, match_arms, match_arm, type_no_bounds, begins, passes, is_silent, shift, in_mode, from_start, there_at, pattern_atom, arm_body}
use Rattle.rust_grammar.specs.Notation.{row, one_of, any_of, is_longer, no_longer, longest}
use Rattle.rust_grammar.specs.Meaning.{read, sees, look_of, begins_below}
use Rattle.rust_grammar.specs.Paths.{paths}
use Rattle.rust_grammar.specs.Types.{types}
use Rattle.rust_grammar.specs.Patterns.{patterns}
use Rattle.rust_grammar.specs.Expressions.{expressions}
use Rattle.rust_grammar.specs.Statements.{statements}
use Rattle.rust_grammar.specs.Items.{items}
use Rattle.rust_grammar.specs.Whole.{rule, rank, whole}
use Rattle.rust_grammar.specs.Parts.{repeated, nearby}
use Rattle.rust_grammar.specs.Laws.{reads, IsReadTurnByTurn, RepetitionsAreReadTurnByTurn, LooksAhead, PartsLookAhead, CallsHaveGivenNothing, NodesHaveGivenNothing, CallsBeginFromStart}
use Rattle.rust_grammar.proofs.Plain.{and_l, and_r}
use Rattle.rust_grammar.proofs.Elsewhere.{from_start-seen}
use Rattle.rust_grammar.proofs.Parts.{every, at_end, seen-at-end, all-from, turn-by-turn, asks_tokens, shifted, is_sure, ignores_given, given-ignored}

-- what is repeated does not begin where no token is left
unfoldable fails_at_end : Rule → Bool
fails_at_end a = at_end false (begins (look_of whole) a)

unfoldable asks_tokens_alone : Rule → Bool
asks_tokens_alone a = asks_tokens (begins (look_of whole) a)

unfoldable passes_tests : Production → Bool
passes_tests x = every fails_at_end (repeated (rule x)) && every asks_tokens_alone (nearby (rule x)) && ignores_given (look_of whole x)

all_pass : (x : Production) → passes_tests x ≡ true
unfolding passes_tests every fails_at_end asks_tokens_alone at_end asks_tokens is_sure ignores_given repeated nearby look_of begins_below begins passes is_silent shift in_mode from_start there_at rule rank whole row one_of any_of is_longer no_longer longest paths types patterns expressions statements items
all_pass source_file = refl
all_pass macro_items = refl
all_pass macro_statements = refl
all_pass item = refl
all_pass body = refl
all_pass assoc_items = refl
all_pass variants = refl
all_pass record_fields = refl
all_pass tuple_fields = refl
all_pass visibility = refl
all_pass attribute = refl
all_pass meta = refl
all_pass token_tree = refl
all_pass use_tree = refl
all_pass use_list = refl
all_pass params = refl
all_pass param = refl
all_pass name = refl
all_pass lifetime = refl
all_pass name_ref = refl
all_pass path = refl
all_pass type_path = refl
all_pass expr_path = refl
all_pass generic_args = refl
all_pass generic_arg = refl
all_pass generic_params = refl
all_pass generic_param = refl
all_pass bounds = refl
all_pass bound = refl
all_pass where_clause = refl
all_pass where_pred = refl
all_pass any_type = refl
all_pass ret_type = refl
all_pass pattern = refl
all_pass single_pattern = refl
all_pass pattern_fields = refl
all_pass pattern_field = refl
all_pass literal = refl
all_pass statement_list = refl
all_pass block = refl
all_pass statement = refl
all_pass macro_statement = refl
all_pass statement_end = refl
all_pass macro_statement_end = refl
all_pass expression = refl
all_pass operation = refl
all_pass operation_tail = refl
all_pass pipe_tail = refl
all_pass disjunction = refl
all_pass conjunction = refl
all_pass comparison = refl
all_pass bit_or = refl
all_pass bit_xor = refl
all_pass bit_and = refl
all_pass bit_shift = refl
all_pass sum = refl
all_pass product = refl
all_pass cast = refl
all_pass prefixed = refl
all_pass postfix = refl
all_pass after_dot = refl
all_pass arguments = refl
all_pass atom = refl
all_pass field_values = refl
all_pass field_value = refl
all_pass block_like = refl
all_pass if_expr = refl
all_pass match_arms = refl
all_pass match_arm = refl
all_pass type_no_bounds = refl
all_pass pattern_atom = refl
all_pass arm_body = refl

turns-read : (a : Rule) → fails_at_end a ≡ true → IsReadTurnByTurn a
unfolding read fails_at_end
turns-read a e in_condition s =
    turn-by-turn (λ t. sees in_condition t (begins (look_of whole) a)) (reads in_condition a)
    (λ t none. seen-at-end false (begins (look_of whole) a) in_condition t none e) s

pub repetitions-read : RepetitionsAreReadTurnByTurn
unfolding passes_tests
repetitions-read x =
    all-from fails_at_end IsReadTurnByTurn turns-read (repeated (rule x))
    (and_l (every fails_at_end (repeated (rule x))) (every asks_tokens_alone (nearby (rule x))) (and_l (every fails_at_end (repeated (rule x)) && every asks_tokens_alone (nearby (rule x))) (ignores_given (look_of whole x)) (all_pass x)))

looks-ahead : (a : Rule) → asks_tokens_alone a ≡ true → LooksAhead a
unfolding asks_tokens_alone
looks-ahead a e count in_condition s = shifted in_condition count (begins (look_of whole) a) s e

pub parts-look-ahead : PartsLookAhead
unfolding passes_tests
parts-look-ahead x =
    all-from asks_tokens_alone LooksAhead looks-ahead (nearby (rule x))
    (and_r (every fails_at_end (repeated (rule x))) (every asks_tokens_alone (nearby (rule x))) (and_l (every fails_at_end (repeated (rule x)) && every asks_tokens_alone (nearby (rule x))) (ignores_given (look_of whole x)) (all_pass x)))

pub calls-have-given-nothing : CallsHaveGivenNothing
unfolding begins
calls-have-given-nothing looks x in_condition s = from_start-seen in_condition s (looks x)

pub nodes-have-given-nothing : NodesHaveGivenNothing
unfolding begins
nodes-have-given-nothing looks kind inside in_condition s = from_start-seen in_condition s (begins looks inside)

pub calls-begin-from-start : CallsBeginFromStart
unfolding passes_tests
calls-begin-from-start x in_condition s some =
    given-ignored in_condition s some (look_of whole x)
    (and_r (every fails_at_end (repeated (rule x)) && every asks_tokens_alone (nearby (rule x))) (ignores_given (look_of whole x)) (all_pass x))

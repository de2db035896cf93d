-- The rules of the whole grammar pass the test of spellings.
use Rattle.std.proofs.Common.{◌≡◌, None, Bool, true, false, [], ◌∷◌, refl, if◌then◌else◌}
use Rattle.parser_input.specs.Kinds.{COLON, BANG, IDENT}
use Rattle.rust_grammar.specs.Rule.{Production, source_file, macro_items, macro_statements, item, body, assoc_items, variants, record_fields, tuple_fields, visibility, attribute, meta, token_tree, use_tree, use_list, params, param, name, lifetime, name_ref, path, type_path, expr_path, generic_args, generic_arg, generic_params, generic_param, bounds, bound, where_clause, where_pred, any_type, ret_type, pattern, single_pattern, pattern_fields, pattern_field, literal, statement_list, block, statement, macro_statement, statement_end, macro_statement_end, expression, operation, operation_tail, pipe_tail, disjunction, conjunction, comparison, bit_or, bit_xor, bit_and, bit_shift, sum, product, cast, prefixed, postfix, after_dot, arguments, atom, field_values, field_value, block_like, if_expr, match_arms, match_arm, type_no_bounds, Look, Always, Never, Kind, Both, Either, Not, begins, passes, is_silent, shift, in_mode, from_start, there_at, pattern_atom, arm_body}
use Rattle.rust_grammar.specs.Notation.{row, one_of, any_of, is_longer, no_longer, longest}
use Rattle.rust_grammar.specs.Shared.{colons_before_more}
use Rattle.rust_grammar.specs.Spelled.{marks}
use Rattle.rust_grammar.specs.Meaning.{look_of, begins_below}
use Rattle.rust_grammar.specs.Paths.{paths}
use Rattle.rust_grammar.specs.Types.{types}
use Rattle.rust_grammar.specs.Patterns.{patterns}
use Rattle.rust_grammar.specs.Expressions.{expressions}
use Rattle.rust_grammar.specs.Statements.{statements}
use Rattle.rust_grammar.specs.Items.{items}
use Rattle.rust_grammar.specs.Whole.{rule, rank, whole}
use Rattle.rust_grammar.specs.Begun.{asks_nothing}
use Rattle.rust_grammar.proofs.Parts.{asks_tokens}
use Rattle.rust_grammar.proofs.Known.{same_look, is_left, is_first, is_never, tells, weakens, implies, cut, sift}
use Rattle.rust_grammar.proofs.Elsewhere.{asks, without, down, all_down, back, asked}
use Rattle.rust_grammar.proofs.Spelling.{first_width, Claims, counts, denies, denies_first, decided, past, after_call, after_calls, after_option, after_other, look_after, at, no_end, no_end_there, same_contextual, same_parts, is_among, is_word, is_mark, safe}

-- the productions that give something before a visibility or a body
unfoldable pub gives_something : Production → Bool
gives_something visibility = true
gives_something attribute = true
gives_something x = false

-- a path of one word, before a `!`
unfoldable pub is_one_word : Production → Look
is_one_word expr_path = Both (Kind 0 IDENT) (Kind 1 BANG)
is_one_word x = Never

-- A path ends where no `::` is next, or where one is before a `*` or a list of uses.
unfoldable pub ends_before : Production → Look
ends_before path = Either (Not (there_at 0 (COLON ∷ COLON ∷ []))) colons_before_more
ends_before x = Always

unfoldable pub claims : Claims
claims = record { looks = look_of whole; free = asks_nothing; gives = gives_something; one = is_one_word; ends = ends_before }

-- what is known where a production is read
unfoldable pub known : Production → Look
known x = if asks_nothing x then Always else look_of whole x

pub all_safe : (x : Production) → safe claims None (known x) (rule x) ≡ true
unfolding known claims asks_nothing gives_something is_one_word ends_before safe counts denies denies_first decided past after_call after_calls after_option after_other look_after at no_end no_end_there same_contextual same_parts is_among is_word is_mark marks same_look is_left is_first is_never tells weakens implies cut sift from_start asks without down all_down back asked asks_tokens look_of begins_below begins passes is_silent first_width shift in_mode there_at rule rank whole row one_of any_of is_longer no_longer longest paths types patterns expressions statements items
all_safe source_file = refl
all_safe macro_items = refl
all_safe macro_statements = refl
all_safe item = refl
all_safe body = refl
all_safe assoc_items = refl
all_safe variants = refl
all_safe record_fields = refl
all_safe tuple_fields = refl
all_safe visibility = refl
all_safe attribute = refl
all_safe meta = refl
all_safe token_tree = refl
all_safe use_tree = refl
all_safe use_list = refl
all_safe params = refl
all_safe param = refl
all_safe name = refl
all_safe lifetime = refl
all_safe name_ref = refl
all_safe path = refl
all_safe type_path = refl
all_safe expr_path = refl
all_safe generic_args = refl
all_safe generic_arg = refl
all_safe generic_params = refl
all_safe generic_param = refl
all_safe bounds = refl
all_safe bound = refl
all_safe where_clause = refl
all_safe where_pred = refl
all_safe any_type = refl
all_safe ret_type = refl
all_safe pattern = refl
all_safe single_pattern = refl
all_safe pattern_fields = refl
all_safe pattern_field = refl
all_safe literal = refl
all_safe statement_list = refl
all_safe block = refl
all_safe statement = refl
all_safe macro_statement = refl
all_safe statement_end = refl
all_safe macro_statement_end = refl
all_safe expression = refl
all_safe operation = refl
all_safe operation_tail = refl
all_safe pipe_tail = refl
all_safe disjunction = refl
all_safe conjunction = refl
all_safe comparison = refl
all_safe bit_or = refl
all_safe bit_xor = refl
all_safe bit_and = refl
all_safe bit_shift = refl
all_safe sum = refl
all_safe product = refl
all_safe cast = refl
all_safe prefixed = refl
all_safe postfix = refl
all_safe after_dot = refl
all_safe arguments = refl
all_safe atom = refl
all_safe field_values = refl
all_safe field_value = refl
all_safe block_like = refl
all_safe if_expr = refl
all_safe match_arms = refl
all_safe match_arm = refl
all_safe type_no_bounds = refl
all_safe pattern_atom = refl
all_safe arm_body = refl

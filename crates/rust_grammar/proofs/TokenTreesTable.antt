-- The token trees of the whole grammar are bracketed.
use Rattle.std.proofs.Common.{◌≡◌, Bool, true, false, List, [], ◌∷◌, refl, sym, ap, ◌∙◌, if◌then◌else◌}
use Rattle.parser_input.specs.Input.{Token}
use Rattle.parser_input.specs.Kinds.{ERROR}
use Rattle.parser_events.specs.Forest as forest
use Rattle.parser_events.specs.Forest.{Forest, UnexpectedTokens}
use Rattle.rust_grammar.specs.Rule.{Production, source_file, macro_items, macro_statements, item, body, assoc_items, variants, record_fields, tuple_fields, visibility, attribute, meta, token_tree, use_tree, use_list, params, param, name, lifetime, name_ref, path, type_path, expr_path, generic_args, generic_arg, generic_params, generic_param, bounds, bound, where_clause, where_pred, any_type, ret_type, pattern, single_pattern, pattern_fields, pattern_field, literal, statement_list, block, statement, macro_statement, statement_end, macro_statement_end, expression, operation, operation_tail, pipe_tail, disjunction, conjunction, comparison, bit_or, bit_xor, bit_and, bit_shift, sum, product, cast, prefixed, postfix, after_dot, arguments, atom, field_values, field_value, block_like, if_expr, match_arms, match_arm, type_no_bounds, pattern_atom, arm_body}
use Rattle.rust_grammar.specs.Notation.{wanted}
use Rattle.rust_grammar.specs.Meaning.{Reading, Calls, meaning, sees, look_of}
use Rattle.rust_grammar.specs.Paths.{paths}
use Rattle.rust_grammar.specs.Types.{types}
use Rattle.rust_grammar.specs.Patterns.{patterns}
use Rattle.rust_grammar.specs.Expressions.{expressions}
use Rattle.rust_grammar.specs.Statements.{statements}
use Rattle.rust_grammar.specs.Items.{items}
use Rattle.rust_grammar.specs.Whole.{rule, whole}
use Rattle.rust_grammar.specs.Entry.{leaves, is_used_up, takes_all, entry}
use Rattle.rust_grammar.specs.TokenTrees.{partner, is_opening, is_missing, are_token_trees_bracketed}
use Rattle.rust_grammar.specs.Laws.{TokenTreesAreBracketed}
use Rattle.rust_grammar.proofs.TokenTrees.{adds, ends_in, is_tree, is_free, clears, brackets, then-bracketed, KeepsFree, cleared, KeepsBrackets, bracketed}
use Rattle.rust_grammar.proofs.EntriesInOrder.{chosen-forest, with-message}
use Rattle.rust_grammar.proofs.Induction.{HoldOf, meaning-holds}

all_bracketed : (x : Production) → brackets (rule x) ≡ true
unfolding brackets clears is_free is_tree ends_in adds partner is_opening is_missing rule paths types patterns expressions statements items
all_bracketed source_file = refl
all_bracketed macro_items = refl
all_bracketed macro_statements = refl
all_bracketed item = refl
all_bracketed body = refl
all_bracketed assoc_items = refl
all_bracketed variants = refl
all_bracketed record_fields = refl
all_bracketed tuple_fields = refl
all_bracketed visibility = refl
all_bracketed attribute = refl
all_bracketed meta = refl
all_bracketed token_tree = refl
all_bracketed use_tree = refl
all_bracketed use_list = refl
all_bracketed params = refl
all_bracketed param = refl
all_bracketed name = refl
all_bracketed lifetime = refl
all_bracketed name_ref = refl
all_bracketed path = refl
all_bracketed type_path = refl
all_bracketed expr_path = refl
all_bracketed generic_args = refl
all_bracketed generic_arg = refl
all_bracketed generic_params = refl
all_bracketed generic_param = refl
all_bracketed bounds = refl
all_bracketed bound = refl
all_bracketed where_clause = refl
all_bracketed where_pred = refl
all_bracketed any_type = refl
all_bracketed ret_type = refl
all_bracketed pattern = refl
all_bracketed single_pattern = refl
all_bracketed pattern_fields = refl
all_bracketed pattern_field = refl
all_bracketed literal = refl
all_bracketed statement_list = refl
all_bracketed block = refl
all_bracketed statement = refl
all_bracketed macro_statement = refl
all_bracketed statement_end = refl
all_bracketed macro_statement_end = refl
all_bracketed expression = refl
all_bracketed operation = refl
all_bracketed operation_tail = refl
all_bracketed pipe_tail = refl
all_bracketed disjunction = refl
all_bracketed conjunction = refl
all_bracketed comparison = refl
all_bracketed bit_or = refl
all_bracketed bit_xor = refl
all_bracketed bit_and = refl
all_bracketed bit_shift = refl
all_bracketed sum = refl
all_bracketed product = refl
all_bracketed cast = refl
all_bracketed prefixed = refl
all_bracketed postfix = refl
all_bracketed after_dot = refl
all_bracketed arguments = refl
all_bracketed atom = refl
all_bracketed field_values = refl
all_bracketed field_value = refl
all_bracketed block_like = refl
all_bracketed if_expr = refl
all_bracketed match_arms = refl
all_bracketed match_arm = refl
all_bracketed type_no_bounds = refl
all_bracketed pattern_atom = refl
all_bracketed arm_body = refl

all_clear : (x : Production) → (if is_free x then clears true (rule x) else true) ≡ true
unfolding clears is_free rule paths types patterns expressions statements items
all_clear source_file = refl
all_clear macro_items = refl
all_clear macro_statements = refl
all_clear item = refl
all_clear body = refl
all_clear assoc_items = refl
all_clear variants = refl
all_clear record_fields = refl
all_clear tuple_fields = refl
all_clear visibility = refl
all_clear attribute = refl
all_clear meta = refl
all_clear token_tree = refl
all_clear use_tree = refl
all_clear use_list = refl
all_clear params = refl
all_clear param = refl
all_clear name = refl
all_clear lifetime = refl
all_clear name_ref = refl
all_clear path = refl
all_clear type_path = refl
all_clear expr_path = refl
all_clear generic_args = refl
all_clear generic_arg = refl
all_clear generic_params = refl
all_clear generic_param = refl
all_clear bounds = refl
all_clear bound = refl
all_clear where_clause = refl
all_clear where_pred = refl
all_clear any_type = refl
all_clear ret_type = refl
all_clear pattern = refl
all_clear single_pattern = refl
all_clear pattern_fields = refl
all_clear pattern_field = refl
all_clear literal = refl
all_clear statement_list = refl
all_clear block = refl
all_clear statement = refl
all_clear macro_statement = refl
all_clear statement_end = refl
all_clear macro_statement_end = refl
all_clear expression = refl
all_clear operation = refl
all_clear operation_tail = refl
all_clear pipe_tail = refl
all_clear disjunction = refl
all_clear conjunction = refl
all_clear comparison = refl
all_clear bit_or = refl
all_clear bit_xor = refl
all_clear bit_and = refl
all_clear bit_shift = refl
all_clear sum = refl
all_clear product = refl
all_clear cast = refl
all_clear prefixed = refl
all_clear postfix = refl
all_clear after_dot = refl
all_clear arguments = refl
all_clear atom = refl
all_clear field_values = refl
all_clear field_value = refl
all_clear block_like = refl
all_clear if_expr = refl
all_clear match_arms = refl
all_clear match_arm = refl
all_clear type_no_bounds = refl
all_clear pattern_atom = refl
all_clear arm_body = refl

abbrev Anything : Production → Bool → Reading → Reading → Type 0
Anything y d t u = Unit {0}

-- What is taken for calls that are not made: nothing.
unfoldable unmade : Calls
unmade y d t = t

unmade-keeps : HoldOf KeepsBrackets unmade
unfolding unmade
unmade-keeps y d t h = h

unmade-free : HoldOf KeepsFree unmade
unfolding unmade
unmade-free y d t e h = h

is-clear : (x : Production) → is_free x ≡ true → clears true (rule x) ≡ true
is-clear x e = ap (λ (b : Bool). if b then clears true (rule x) else true) (sym e) ∙ all_clear x

productions-free : HoldOf KeepsFree (meaning whole)
productions-free =
    meaning-holds KeepsFree Anything unmade unmade-free (λ y d t. tt) (λ y d t. tt)
    (λ call p q x c s e h. cleared (look_of whole) call p (rule x) true c s (λ i. h) (is-clear x e))

productions-keep : HoldOf KeepsBrackets (meaning whole)
productions-keep =
    meaning-holds KeepsBrackets KeepsFree unmade unmade-keeps unmade-free productions-free
    (λ call p q x c s h. bracketed (look_of whole) call p q (rule x) c s (all_bracketed x) h)

leaves-bracketed : (ts : List Token) → are_token_trees_bracketed (leaves ts) ≡ true
unfolding leaves are_token_trees_bracketed
leaves-bracketed [] = refl
leaves-bracketed (t ∷ ts) = leaves-bracketed ts

pub token-trees-bracketed : TokenTreesAreBracketed
unfolding entry are_token_trees_bracketed
token-trees-bracketed x ts =
    let start : Reading = record { given = forest.End; rest = ts } in
    let s = meaning whole x false start in
    let own : are_token_trees_bracketed s.given ≡ true = productions-keep x false start refl in
    chosen-forest (λ (f : Forest). are_token_trees_bracketed f ≡ true) (takes_all x) _ _ (λ i. own)
    (λ i. chosen-forest (λ (f : Forest). are_token_trees_bracketed f ≡ true) (sees false start (look_of whole x)) _ _
    (λ j. chosen-forest (λ (f : Forest). are_token_trees_bracketed f ≡ true) (is_used_up s.rest) _ _ (λ k. own)
    (λ k. rw (then-bracketed s.given (forest.Said UnexpectedTokens (leaves s.rest)) own (leaves-bracketed s.rest)) refl))
    (λ j. with-message (λ (f : Forest). are_token_trees_bracketed (forest.Node ERROR f forest.End) ≡ true) (wanted x) (leaves ts) (rw (leaves-bracketed ts) refl) (λ m. rw (leaves-bracketed ts) refl)))

-- The operators of the whole grammar bind by their powers.
use Rattle.std.proofs.Common.{◌≡◌, Bool, true, false, List, [], ◌∷◌, refl}
use Rattle.parser_input.specs.Input.{Token}
use Rattle.parser_input.specs.Kinds.{ERROR}
use Rattle.parser_events.specs.Forest as forest
use Rattle.parser_events.specs.Forest.{Forest, UnexpectedTokens}
use Rattle.rust_grammar.specs.Rule.{Production, source_file, macro_items, macro_statements, item, body, assoc_items, variants, record_fields, tuple_fields, visibility, attribute, meta, token_tree, use_tree, use_list, params, param, name, lifetime, name_ref, path, type_path, expr_path, generic_args, generic_arg, generic_params, generic_param, bounds, bound, where_clause, where_pred, any_type, ret_type, pattern, single_pattern, pattern_fields, pattern_field, literal, statement_list, block, statement, macro_statement, statement_end, macro_statement_end, expression, operation, operation_tail, pipe_tail, disjunction, conjunction, comparison, bit_or, bit_xor, bit_and, bit_shift, sum, product, cast, prefixed, postfix, after_dot, arguments, atom, field_values, field_value, block_like, if_expr, match_arms, match_arm, type_no_bounds, pattern_atom, arm_body}
use Rattle.rust_grammar.specs.Notation.{wanted}
use Rattle.rust_grammar.specs.Meaning.{Reading, Calls, meaning, sees, look_of, wrapped}
use Rattle.rust_grammar.specs.Paths.{paths}
use Rattle.rust_grammar.specs.Types.{types}
use Rattle.rust_grammar.specs.Patterns.{patterns}
use Rattle.rust_grammar.specs.Expressions.{expressions}
use Rattle.rust_grammar.specs.Statements.{statements}
use Rattle.rust_grammar.specs.Items.{items}
use Rattle.rust_grammar.specs.Whole.{rule, whole}
use Rattle.rust_grammar.specs.Entry.{leaves, is_used_up, takes_all, entry}
use Rattle.rust_grammar.specs.Powers.{is_among, power, are_operators_placed}
use Rattle.rust_grammar.specs.Laws.{OperatorsOfProductionsBindByPower, OperatorsOfEntriesBindByPower}
use Rattle.rust_grammar.proofs.Powers.{Standing, Operand, Placed, is_of, is_within, placed, join, beside, inside, weaken, empty-is, then-placed, of-node}
use Rattle.rust_grammar.proofs.Operators.{fits_between}
use Rattle.rust_grammar.proofs.Binding.{starts, ends, has_power, first_power, binary, operated, gives, KeepsPowers, placed-so}
use Rattle.rust_grammar.proofs.EntriesInOrder.{chosen-forest, with-message}
use Rattle.rust_grammar.proofs.Induction.{HoldOf, meaning-holds}

-- the test, of each row
all_placed : (x : Production) → is_within (gives (starts x) (rule x)) (ends x) ≡ true
unfolding gives starts ends join beside inside placed operated binary has_power first_power fits_between power is_among is_within rule paths types patterns expressions statements items
all_placed source_file = refl
all_placed macro_items = refl
all_placed macro_statements = refl
all_placed item = refl
all_placed body = refl
all_placed assoc_items = refl
all_placed variants = refl
all_placed record_fields = refl
all_placed tuple_fields = refl
all_placed visibility = refl
all_placed attribute = refl
all_placed meta = refl
all_placed token_tree = refl
all_placed use_tree = refl
all_placed use_list = refl
all_placed params = refl
all_placed param = refl
all_placed name = refl
all_placed lifetime = refl
all_placed name_ref = refl
all_placed path = refl
all_placed type_path = refl
all_placed expr_path = refl
all_placed generic_args = refl
all_placed generic_arg = refl
all_placed generic_params = refl
all_placed generic_param = refl
all_placed bounds = refl
all_placed bound = refl
all_placed where_clause = refl
all_placed where_pred = refl
all_placed any_type = refl
all_placed ret_type = refl
all_placed pattern = refl
all_placed single_pattern = refl
all_placed pattern_fields = refl
all_placed pattern_field = refl
all_placed literal = refl
all_placed statement_list = refl
all_placed block = refl
all_placed statement = refl
all_placed macro_statement = refl
all_placed statement_end = refl
all_placed macro_statement_end = refl
all_placed expression = refl
all_placed operation = refl
all_placed operation_tail = refl
all_placed pipe_tail = refl
all_placed disjunction = refl
all_placed conjunction = refl
all_placed comparison = refl
all_placed bit_or = refl
all_placed bit_xor = refl
all_placed bit_and = refl
all_placed bit_shift = refl
all_placed sum = refl
all_placed product = refl
all_placed cast = refl
all_placed prefixed = refl
all_placed postfix = refl
all_placed after_dot = refl
all_placed arguments = refl
all_placed atom = refl
all_placed field_values = refl
all_placed field_value = refl
all_placed block_like = refl
all_placed if_expr = refl
all_placed match_arms = refl
all_placed match_arm = refl
all_placed type_no_bounds = refl
all_placed pattern_atom = refl
all_placed arm_body = refl

-- operators are placed in what each production begins and ends with
known-start : (x : Production) → is_within (starts x) Placed ≡ true
unfolding starts is_within
known-start body = refl
known-start x = refl

known-end : (x : Production) → is_within (ends x) Placed ≡ true
unfolding ends is_within
known-end expression = refl
known-end x = refl

-- a node that is no binary expression is enough for each
enough : (x : Production) → is_within (Operand 13) (ends x) ≡ true
unfolding ends is_within
enough expression = refl
enough x = refl

-- so they are in trees of which that is known, or more
any-placed : (p : Standing) (f : Forest) → is_within p Placed ≡ true → is_of p f ≡ true → are_operators_placed f ≡ true
unfolding is_of
any-placed p f e h = weaken p Placed f e h

-- trees in a node of their own
of-placed-node : (f : Forest) → are_operators_placed f ≡ true → is_of (Operand 13) (forest.Node ERROR f forest.End) ≡ true
unfolding is_of inside
of-placed-node f h = of-node Placed ERROR f refl h

abbrev Anything : Production → Bool → Reading → Reading → Type 0
Anything y d t u = Unit {0}

-- What is taken for calls that are not made: all that was given, in a node.
unfoldable unmade : Calls
unmade y d t = wrapped ERROR t

unmade-keeps : HoldOf KeepsPowers unmade
unfolding unmade wrapped
unmade-keeps y d t h = weaken (Operand 13) (ends y) _ (enough y) (of-placed-node t.given (any-placed (starts y) t.given (known-start y) h))

productions-keep : HoldOf KeepsPowers (meaning whole)
productions-keep =
    meaning-holds KeepsPowers Anything unmade unmade-keeps (λ y d t. tt) (λ y d t. tt)
    (λ call p q x c s h. weaken (gives (starts x) (rule x)) (ends x) _ (all_placed x) (placed-so (look_of whole) call p (rule x) (starts x) c s h))

-- THE law of productions.
pub productions-bind : OperatorsOfProductionsBindByPower
productions-bind x c ts =
    let start : Reading = record { given = forest.End; rest = ts } in
    any-placed (ends x) _ (known-end x) (productions-keep x c start (empty-is (starts x)))

leaves-placed : (ts : List Token) → are_operators_placed (leaves ts) ≡ true
unfolding leaves are_operators_placed
leaves-placed [] = refl
leaves-placed (t ∷ ts) = leaves-placed ts

-- THE law of entries.
pub entries-bind : OperatorsOfEntriesBindByPower
unfolding entry are_operators_placed
entries-bind x ts =
    let start : Reading = record { given = forest.End; rest = ts } in
    let s = meaning whole x false start in
    let own : are_operators_placed s.given ≡ true = productions-bind x false ts in
    chosen-forest (λ (f : Forest). are_operators_placed f ≡ true) (takes_all x) _ _ (λ i. own)
    (λ i. chosen-forest (λ (f : Forest). are_operators_placed f ≡ true) (sees false start (look_of whole x)) _ _
    (λ j. chosen-forest (λ (f : Forest). are_operators_placed f ≡ true) (is_used_up s.rest) _ _ (λ k. own)
    (λ k. rw (then-placed s.given (forest.Said UnexpectedTokens (leaves s.rest)) own (leaves-placed s.rest)) refl))
    (λ j. with-message (λ (f : Forest). are_operators_placed (forest.Node ERROR f forest.End) ≡ true) (wanted x) (leaves ts) (rw (leaves-placed ts) refl) (λ m. rw (leaves-placed ts) refl)))

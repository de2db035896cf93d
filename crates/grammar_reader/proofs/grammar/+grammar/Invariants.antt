-- What is left shrinks from call to call: the tokens, or else how many calls there can be before one is taken.
use Rattle.std.specs.Prelude.{ℕ, ◌+◌, ◌-◌, ◌*◌, ◌≤◌}
use Rattle.parser_events.specs.Stack.{IsInnermost}
use Rattle.rust_productions.specs.Looks.{tokens, spent}
use Rattle.rust_productions.specs.Layers.{turns_from}
use Rattle.rust_productions.specs.Operators.{IsMark, IsNext}
use Rattle.rust_productions.specs.Turns.{GoesFrom, TurnsFrom}
use Rattle.rust_productions.specs.declared.condition.Condition.{Condition}
use Rattle.rust_productions.specs.declared.condition.Condition.TheVariants.{Off}
use Rattle.rust_productions.proofs.Powers.{LayersFrom}
use Rattle.grammar_reader.specs.Told.{args_of, element_of, ends_of, item_or_attribute, list_turn, listing_of}
use Rattle.parser_input.specs.Kind.{raw_of}
use Rattle.parser_input.specs.Kinds.{PATH, PATH_SEGMENT}
use Rattle.parser_events.specs.Forest.{ExpectedMatchArm}
use Rattle.rust_grammar.specs.Expressions.{arm_turn}
use Rattle.rust_grammar.specs.Calls.{Attribute, MatchArm, Ref, SinglePattern, Bound, WherePred}
use Rattle.rust_grammar.specs.Notation.{◌or◌, ◌▸◌, ◌!, ◌⟨◌⟩, ◌<⟨◌⟩, more, next, until, wide, ⁅◌⁆}
use Rattle.rust_grammar.specs.Rule as rules
use Rattle.rust_grammar.specs.Rule.{Call, One, Skip, Unless, When}
use Rattle.rust_grammar.specs.Shared.{colons_before_more}
use Rattle.rust_grammar.specs.Words.{'::', '|', 'r_curly', '+', 'comma', '#'}
use Rattle.grammar_reader.proofs.grammar.+grammar.Given as goal

abbrev pub decreases-paths::path_with_args : goal.decreases-paths::path_with_args
decreases-paths::path_with_args l = 512 * tokens l.p.now + 8

abbrev pub decreases-paths::first_segment : goal.decreases-paths::first_segment
decreases-paths::first_segment l = 512 * tokens l.p.now + 7

abbrev pub decreases-paths::next_segments : goal.decreases-paths::next_segments
decreases-paths::next_segments l = 512 * tokens l.p.now + 7

abbrev pub decreases-paths::next_segment : goal.decreases-paths::next_segment
decreases-paths::next_segment l = 512 * tokens l.p.now + 6

abbrev pub decreases-paths::expect_segment : goal.decreases-paths::expect_segment
decreases-paths::expect_segment l = 512 * tokens l.p.now + 5

abbrev pub decreases-paths::opt_args : goal.decreases-paths::opt_args
decreases-paths::opt_args l = 512 * tokens l.p.now + 4

abbrev pub decreases-paths::generic_args : goal.decreases-paths::generic_args
decreases-paths::generic_args l = 512 * tokens l.p.now + 2

abbrev pub decreases-lists::rest_of_list : goal.decreases-lists::rest_of_list
decreases-lists::rest_of_list l = 512 * tokens l.p.now + 104

abbrev pub decreases-lists::tuple_tail : goal.decreases-lists::tuple_tail
decreases-lists::tuple_tail l = 512 * tokens l.p.now + 1

abbrev pub decreases-lists::elements : goal.decreases-lists::elements
decreases-lists::elements l = 512 * tokens l.p.now + 103

abbrev pub decreases-lists::turn : goal.decreases-lists::turn
decreases-lists::turn l = 512 * tokens l.p.now + 102

abbrev pub invariant-lists::elements-turns : goal.invariant-lists::elements-turns
invariant-lists::elements-turns l = record {
  innermost : (n : ℕ) → IsInnermost n l.initial.p.nodes → IsInnermost n l.p.nodes;
  goes : TurnsFrom Off (list_turn (raw_of l.list) (element_of l.element) (raw_of l.closing)) l.initial.p l.p;
  left : tokens l.p ≤ tokens l.initial.p;
  looks : spent l.p ≤ spent l.initial.p;
}

abbrev pub decreases-lists::elements-turns : goal.decreases-lists::elements-turns
decreases-lists::elements-turns l = tokens l.p

abbrev pub invariant-paths::next_segments-turns : goal.invariant-paths::next_segments-turns
invariant-paths::next_segments-turns l = record {
  marker : IsInnermost l.path l.p.nodes;
  goes : (c : Condition) → TurnsFrom c (Unless colons_before_more (PATH <⟨ One '::' ▸ (PATH_SEGMENT ⟨ Ref ▸ args_of l.mode ⟩) ! ⟩)) l.initial.p l.p;
  left : tokens l.p ≤ tokens l.initial.p;
  looks : spent l.p ≤ spent l.initial.p;
}

abbrev pub decreases-paths::next_segments-turns : goal.decreases-paths::next_segments-turns
decreases-paths::next_segments-turns l = tokens l.p

abbrev pub decreases-attributes::attribute : goal.decreases-attributes::attribute
decreases-attributes::attribute l = 512 * tokens l.p.now

abbrev pub decreases-attributes::expect_meta : goal.decreases-attributes::expect_meta
decreases-attributes::expect_meta l = 512 * tokens l.p.now + 14

abbrev pub decreases-attributes::meta : goal.decreases-attributes::meta
decreases-attributes::meta l = 512 * tokens l.p.now + 13

abbrev pub decreases-attributes::opt_value : goal.decreases-attributes::opt_value
decreases-attributes::opt_value l = 512 * tokens l.p.now + 12

abbrev pub decreases-expressions::blocks::block : goal.decreases-expressions::blocks::block
decreases-expressions::blocks::block l = 512 * tokens l.p.now + 1

abbrev pub decreases-expressions::blocks::statement_list : goal.decreases-expressions::blocks::statement_list
decreases-expressions::blocks::statement_list l = 512 * tokens l.p.now

abbrev pub decreases-expressions::blocks::statements : goal.decreases-expressions::blocks::statements
decreases-expressions::blocks::statements l = 512 * tokens l.p.now + 107

abbrev pub decreases-expressions::blocks::statement_turn : goal.decreases-expressions::blocks::statement_turn
decreases-expressions::blocks::statement_turn l = 512 * tokens l.p.now + 106

abbrev pub invariant-expressions::blocks::statements-turns : goal.invariant-expressions::blocks::statements-turns
invariant-expressions::blocks::statements-turns l = record {
  innermost : (n : ℕ) → IsInnermost n l.initial.p.nodes → IsInnermost n l.p.nodes;
  goes : TurnsFrom Off (Unless (ends_of l.end) (Call (listing_of l.end).one)) l.initial.p l.p;
  left : tokens l.p ≤ tokens l.initial.p;
  looks : spent l.p ≤ spent l.initial.p;
}

abbrev pub decreases-expressions::blocks::statements-turns : goal.decreases-expressions::blocks::statements-turns
decreases-expressions::blocks::statements-turns l = tokens l.p

abbrev pub decreases-types::any_type : goal.decreases-types::any_type
decreases-types::any_type l = 512 * tokens l.p.now + 18

abbrev pub decreases-types::inside : goal.decreases-types::inside
decreases-types::inside l = 512 * tokens l.p.now + 17

abbrev pub decreases-types::bounded_type : goal.decreases-types::bounded_type
decreases-types::bounded_type l = 512 * tokens l.p.now

abbrev pub decreases-types::path_type : goal.decreases-types::path_type
decreases-types::path_type l = 512 * tokens l.p.now + 16

abbrev pub decreases-paths::paren_args : goal.decreases-paths::paren_args
decreases-paths::paren_args l = 512 * tokens l.p.now + 1

abbrev pub decreases-paths::fn_args : goal.decreases-paths::fn_args
decreases-paths::fn_args l = 512 * tokens l.p.now + 2

abbrev pub decreases-paths::opt_type_args : goal.decreases-paths::opt_type_args
decreases-paths::opt_type_args l = 512 * tokens l.p.now + 3

abbrev pub decreases-paths::opt_expr_args : goal.decreases-paths::opt_expr_args
decreases-paths::opt_expr_args l = 512 * tokens l.p.now + 3

abbrev pub decreases-paths::anchor : goal.decreases-paths::anchor
decreases-paths::anchor l = 512 * tokens l.p.now

abbrev pub decreases-paths::qualifier : goal.decreases-paths::qualifier
decreases-paths::qualifier l = 512 * tokens l.p.now + 1

abbrev pub decreases-paths::qualified_path : goal.decreases-paths::qualified_path
decreases-paths::qualified_path l = 512 * tokens l.p.now + 2

abbrev pub decreases-paths::opt_as_trait : goal.decreases-paths::opt_as_trait
decreases-paths::opt_as_trait l = 512 * tokens l.p.now

abbrev pub decreases-types::front_path : goal.decreases-types::front_path
decreases-types::front_path l = 512 * tokens l.p.now + 9

abbrev pub decreases-types::for_type : goal.decreases-types::for_type
decreases-types::for_type l = 512 * tokens l.p.now + 9

abbrev pub decreases-types::for_or_path : goal.decreases-types::for_or_path
decreases-types::for_or_path l = 512 * tokens l.p.now + 10

abbrev pub decreases-types::new_type : goal.decreases-types::new_type
decreases-types::new_type l = 512 * tokens l.p.now + 11

abbrev pub decreases-types::lifetime_bounds : goal.decreases-types::lifetime_bounds
decreases-types::lifetime_bounds l = 512 * tokens l.p.now

abbrev pub decreases-types::opt_plus_bounds : goal.decreases-types::opt_plus_bounds
decreases-types::opt_plus_bounds l = 512 * tokens l.p.now + 1

abbrev pub decreases-types::bounds_after_plus : goal.decreases-types::bounds_after_plus
decreases-types::bounds_after_plus l = 512 * tokens l.p.now

abbrev pub decreases-types::bare_or_any : goal.decreases-types::bare_or_any
decreases-types::bare_or_any l = 512 * tokens l.p.now + 18

abbrev pub decreases-types::type_no_bounds : goal.decreases-types::type_no_bounds
decreases-types::type_no_bounds l = 512 * tokens l.p.now + 19

abbrev pub decreases-generic_args::new_arg : goal.decreases-generic_args::new_arg
decreases-generic_args::new_arg l = 512 * tokens l.p.now + 24

abbrev pub decreases-generic_args::block_arg : goal.decreases-generic_args::block_arg
decreases-generic_args::block_arg l = 512 * tokens l.p.now + 3

abbrev pub decreases-generic_args::named_arg : goal.decreases-generic_args::named_arg
decreases-generic_args::named_arg l = 512 * tokens l.p.now + 10

abbrev pub decreases-generic_args::const_or_type : goal.decreases-generic_args::const_or_type
decreases-generic_args::const_or_type l = 512 * tokens l.p.now + 35

abbrev pub decreases-generic_args::front_of_type : goal.decreases-generic_args::front_of_type
decreases-generic_args::front_of_type l = 512 * tokens l.p.now + 9

abbrev pub decreases-types::ptr_type : goal.decreases-types::ptr_type
decreases-types::ptr_type l = 512 * tokens l.p.now

abbrev pub decreases-types::ref_type : goal.decreases-types::ref_type
decreases-types::ref_type l = 512 * tokens l.p.now

abbrev pub decreases-types::paren_type : goal.decreases-types::paren_type
decreases-types::paren_type l = 512 * tokens l.p.now

abbrev pub decreases-types::after_paren : goal.decreases-types::after_paren
decreases-types::after_paren l = 512 * tokens l.p.now + 35

abbrev pub decreases-types::bracket_type : goal.decreases-types::bracket_type
decreases-types::bracket_type l = 512 * tokens l.p.now

abbrev pub decreases-types::after_element : goal.decreases-types::after_element
decreases-types::after_element l = 512 * tokens l.p.now + 1

abbrev pub decreases-types::array_length : goal.decreases-types::array_length
decreases-types::array_length l = 512 * tokens l.p.now + 107

abbrev pub decreases-patterns::single_pattern : goal.decreases-patterns::single_pattern
decreases-patterns::single_pattern l = 512 * tokens l.p.now + 22

abbrev pub decreases-patterns::inside : goal.decreases-patterns::inside
decreases-patterns::inside l = 512 * tokens l.p.now + 20

abbrev pub decreases-patterns::ref_pat : goal.decreases-patterns::ref_pat
decreases-patterns::ref_pat l = 512 * tokens l.p.now

abbrev pub decreases-patterns::opt_at : goal.decreases-patterns::opt_at
decreases-patterns::opt_at l = 512 * tokens l.p.now

abbrev pub decreases-patterns::ident_pat : goal.decreases-patterns::ident_pat
decreases-patterns::ident_pat l = 512 * tokens l.p.now + 1

abbrev pub decreases-patterns::ident_after_mut : goal.decreases-patterns::ident_after_mut
decreases-patterns::ident_after_mut l = 512 * tokens l.p.now

abbrev pub decreases-patterns::ident_after_ref : goal.decreases-patterns::ident_after_ref
decreases-patterns::ident_after_ref l = 512 * tokens l.p.now

abbrev pub decreases-patterns::paren_pat : goal.decreases-patterns::paren_pat
decreases-patterns::paren_pat l = 512 * tokens l.p.now

abbrev pub decreases-patterns::after_paren : goal.decreases-patterns::after_paren
decreases-patterns::after_paren l = 512 * tokens l.p.now + 35

abbrev pub decreases-patterns::path_pat : goal.decreases-patterns::path_pat
decreases-patterns::path_pat l = 512 * tokens l.p.now + 17

abbrev pub decreases-patterns::after_path : goal.decreases-patterns::after_path
decreases-patterns::after_path l = 512 * tokens l.p.now + 9

abbrev pub decreases-or_patterns::pattern : goal.decreases-or_patterns::pattern
decreases-or_patterns::pattern l = 512 * tokens l.p.now + 24

abbrev pub decreases-or_patterns::alternatives : goal.decreases-or_patterns::alternatives
decreases-or_patterns::alternatives l = 512 * tokens l.p.now + 23

abbrev pub decreases-or_patterns::one_further : goal.decreases-or_patterns::one_further
decreases-or_patterns::one_further l = 512 * tokens l.p.now

abbrev pub decreases-or_patterns::further : goal.decreases-or_patterns::further
decreases-or_patterns::further l = 512 * tokens l.p.now + 1

abbrev pub decreases-or_patterns::opt_further : goal.decreases-or_patterns::opt_further
decreases-or_patterns::opt_further l = 512 * tokens l.p.now + 2

abbrev pub invariant-or_patterns::further-turns : goal.invariant-or_patterns::further-turns
invariant-or_patterns::further-turns l = record {
  goes : (c : Condition) → TurnsFrom c (One '|' ▸ SinglePattern !) l.initial.p l.p;
  left : tokens l.p ≤ tokens l.initial.p;
  looks : spent l.p ≤ spent l.initial.p;
}

abbrev pub decreases-or_patterns::further-turns : goal.decreases-or_patterns::further-turns
decreases-or_patterns::further-turns l = tokens l.p

-- expressions by hand
abbrev pub decreases-expressions::control::unsafe_block : goal.decreases-expressions::control::unsafe_block
decreases-expressions::control::unsafe_block l = 512 * tokens l.p.now

abbrev pub decreases-expressions::control::if_expr : goal.decreases-expressions::control::if_expr
decreases-expressions::control::if_expr l = 512 * tokens l.p.now

abbrev pub decreases-expressions::control::while_expr : goal.decreases-expressions::control::while_expr
decreases-expressions::control::while_expr l = 512 * tokens l.p.now + 1

abbrev pub decreases-expressions::control::loop_expr : goal.decreases-expressions::control::loop_expr
decreases-expressions::control::loop_expr l = 512 * tokens l.p.now + 1

abbrev pub decreases-expressions::control::for_expr : goal.decreases-expressions::control::for_expr
decreases-expressions::control::for_expr l = 512 * tokens l.p.now + 1

abbrev pub decreases-expressions::control::match_expr : goal.decreases-expressions::control::match_expr
decreases-expressions::control::match_expr l = 512 * tokens l.p.now

abbrev pub decreases-expressions::control::match_arms : goal.decreases-expressions::control::match_arms
decreases-expressions::control::match_arms l = 512 * tokens l.p.now

abbrev pub decreases-expressions::atom::paren_expr : goal.decreases-expressions::atom::paren_expr
decreases-expressions::atom::paren_expr l = 512 * tokens l.p.now

abbrev pub decreases-expressions::atom::array_expr : goal.decreases-expressions::atom::array_expr
decreases-expressions::atom::array_expr l = 512 * tokens l.p.now

abbrev pub decreases-expressions::atom::let_expr : goal.decreases-expressions::atom::let_expr
decreases-expressions::atom::let_expr l = 512 * tokens l.p.now

abbrev pub decreases-expressions::operand::prefix_expr : goal.decreases-expressions::operand::prefix_expr
decreases-expressions::operand::prefix_expr l = 512 * tokens l.p.now

abbrev pub decreases-expressions::operand::ref_expr : goal.decreases-expressions::operand::ref_expr
decreases-expressions::operand::ref_expr l = 512 * tokens l.p.now

abbrev pub decreases-expressions::operand::index : goal.decreases-expressions::operand::index
decreases-expressions::operand::index l = 512 * tokens l.p.now

abbrev pub decreases-expressions::operand::method_call : goal.decreases-expressions::operand::method_call
decreases-expressions::operand::method_call l = 512 * tokens l.p.now

abbrev pub decreases-expressions::closures::opt_type : goal.decreases-expressions::closures::opt_type
decreases-expressions::closures::opt_type l = 512 * tokens l.p.now

abbrev pub decreases-types::ret_type : goal.decreases-types::ret_type
decreases-types::ret_type l = 512 * tokens l.p.now

abbrev pub decreases-expressions::operand::float : goal.decreases-expressions::operand::float
decreases-expressions::operand::float l = 512 * tokens l.p.now

abbrev pub decreases-expressions::control::opt_else : goal.decreases-expressions::control::opt_else
decreases-expressions::control::opt_else l = 512 * tokens l.p.now + 1

abbrev pub decreases-expressions::control::after_else : goal.decreases-expressions::control::after_else
decreases-expressions::control::after_else l = 512 * tokens l.p.now + 35

abbrev pub decreases-expressions::control::block_like : goal.decreases-expressions::control::block_like
decreases-expressions::control::block_like l = 512 * tokens l.p.now + 5

abbrev pub decreases-expressions::closures::move_closure : goal.decreases-expressions::closures::move_closure
decreases-expressions::closures::move_closure l = 512 * tokens l.p.now + 3

abbrev pub decreases-expressions::closures::closure_expr : goal.decreases-expressions::closures::closure_expr
decreases-expressions::closures::closure_expr l = 512 * tokens l.p.now + 3

abbrev pub decreases-expressions::atom::after_element : goal.decreases-expressions::atom::after_element
decreases-expressions::atom::after_element l = 512 * tokens l.p.now + 1

abbrev pub decreases-expressions::atom::after_path : goal.decreases-expressions::atom::after_path
decreases-expressions::atom::after_path l = 512 * tokens l.p.now + 2

abbrev pub decreases-expressions::atom::path_expr : goal.decreases-expressions::atom::path_expr
decreases-expressions::atom::path_expr l = 512 * tokens l.p.now + 12

abbrev pub decreases-expressions::atom::inside : goal.decreases-expressions::atom::inside
decreases-expressions::atom::inside l = 512 * tokens l.p.now + 30

abbrev pub decreases-expressions::operand::operand : goal.decreases-expressions::operand::operand
decreases-expressions::operand::operand l = 512 * tokens l.p.now + 32

abbrev pub decreases-expressions::operand::framed_operand : goal.decreases-expressions::operand::framed_operand
decreases-expressions::operand::framed_operand l = 512 * tokens l.p.now + 31

abbrev pub decreases-expressions::operand::prefixed : goal.decreases-expressions::operand::prefixed
decreases-expressions::operand::prefixed l = 512 * tokens l.p.now + 33

abbrev pub decreases-expressions::operand::postfix : goal.decreases-expressions::operand::postfix
decreases-expressions::operand::postfix l = 512 * tokens l.p.now + 1

abbrev pub decreases-expressions::operand::postfixes : goal.decreases-expressions::operand::postfixes
decreases-expressions::operand::postfixes l = 512 * tokens l.p.now + 2

abbrev pub decreases-expressions::operand::after_dot : goal.decreases-expressions::operand::after_dot
decreases-expressions::operand::after_dot l = 512 * tokens l.p.now + 3

abbrev pub decreases-expressions::closures::closure_param : goal.decreases-expressions::closures::closure_param
decreases-expressions::closures::closure_param l = 512 * tokens l.p.now + 40

abbrev pub decreases-expressions::expect_expression : goal.decreases-expressions::expect_expression
decreases-expressions::expect_expression l = 512 * tokens l.p.now + 40

abbrev pub decreases-expressions::expect_condition : goal.decreases-expressions::expect_condition
decreases-expressions::expect_condition l = 512 * tokens l.p.now + 104

abbrev pub decreases-expressions::control::arms : goal.decreases-expressions::control::arms
decreases-expressions::control::arms l = 512 * tokens l.p.now + 105

abbrev pub decreases-expressions::control::arm_turn : goal.decreases-expressions::control::arm_turn
decreases-expressions::control::arm_turn l = 512 * tokens l.p.now + 104

abbrev pub decreases-expressions::atom::after_paren : goal.decreases-expressions::atom::after_paren
decreases-expressions::atom::after_paren l = 512 * tokens l.p.now + 105

abbrev pub decreases-expressions::atom::array_elements : goal.decreases-expressions::atom::array_elements
decreases-expressions::atom::array_elements l = 512 * tokens l.p.now + 105

abbrev pub decreases-expressions::atom::opt_value : goal.decreases-expressions::atom::opt_value
decreases-expressions::atom::opt_value l = 512 * tokens l.p.now + 105

abbrev pub decreases-expressions::closures::closure_body : goal.decreases-expressions::closures::closure_body
decreases-expressions::closures::closure_body l = 512 * tokens l.p.now + 105

abbrev pub decreases-lists::read_element : goal.decreases-lists::read_element
decreases-lists::read_element l = 512 * tokens l.p.now + 101

abbrev pub decreases-statements::let_stmt : goal.decreases-statements::let_stmt
decreases-statements::let_stmt l = 512 * tokens l.p.now + 1

abbrev pub decreases-statements::defer_stmt : goal.decreases-statements::defer_stmt
decreases-statements::defer_stmt l = 512 * tokens l.p.now

abbrev pub decreases-statements::let_else : goal.decreases-statements::let_else
decreases-statements::let_else l = 512 * tokens l.p.now

abbrev pub decreases-statements::opt_else : goal.decreases-statements::opt_else
decreases-statements::opt_else l = 512 * tokens l.p.now + 1

abbrev pub decreases-statements::after_block : goal.decreases-statements::after_block
decreases-statements::after_block l = 512 * tokens l.p.now + 3

abbrev pub decreases-statements::block_statement : goal.decreases-statements::block_statement
decreases-statements::block_statement l = 512 * tokens l.p.now + 10

abbrev pub decreases-statements::ended_expression : goal.decreases-statements::ended_expression
decreases-statements::ended_expression l = 512 * tokens l.p.now + 101

abbrev pub decreases-statements::expression_statement : goal.decreases-statements::expression_statement
decreases-statements::expression_statement l = 512 * tokens l.p.now + 102

abbrev pub decreases-statements::statement : goal.decreases-statements::statement
decreases-statements::statement l = 512 * tokens l.p.now + 103

abbrev pub invariant-expressions::control::arms-turns : goal.invariant-expressions::control::arms-turns
invariant-expressions::control::arms-turns l = record {
  innermost : (n : ℕ) → IsInnermost n l.initial.p.nodes → IsInnermost n l.p.nodes;
  goes : TurnsFrom Off arm_turn l.initial.p l.p;
  left : tokens l.p ≤ tokens l.initial.p;
  looks : spent l.p ≤ spent l.initial.p;
}

abbrev pub decreases-expressions::control::arms-turns : goal.decreases-expressions::control::arms-turns
decreases-expressions::control::arms-turns l = tokens l.p

abbrev pub invariant-expressions::operand::postfixes-turns : goal.invariant-expressions::operand::postfixes-turns
invariant-expressions::operand::postfixes-turns l = record {
  marker : IsInnermost l.frame l.p.nodes;
  goes : (c : Condition) → TurnsFrom c (more rules.postfix) l.initial.p l.p;
  left : tokens l.p ≤ tokens l.initial.p;
  looks : spent l.p ≤ spent l.initial.p;
}

abbrev pub decreases-expressions::operand::postfixes-turns : goal.decreases-expressions::operand::postfixes-turns
decreases-expressions::operand::postfixes-turns l = tokens l.p

-- items by hand
abbrev pub decreases-items::item : goal.decreases-items::item
decreases-items::item l = 512 * tokens l.p.now + 5

abbrev pub decreases-items::attributed_item : goal.decreases-items::attributed_item
decreases-items::attributed_item l = 512 * tokens l.p.now + 2

abbrev pub decreases-items::visible_item : goal.decreases-items::visible_item
decreases-items::visible_item l = 512 * tokens l.p.now

abbrev pub decreases-items::bare_item : goal.decreases-items::bare_item
decreases-items::bare_item l = 512 * tokens l.p.now + 4

abbrev pub decreases-items::attributes : goal.decreases-items::attributes
decreases-items::attributes l = 512 * tokens l.p.now + 1

abbrev pub decreases-items::body : goal.decreases-items::body
decreases-items::body l = 512 * tokens l.p.now + 3

abbrev pub decreases-items::module : goal.decreases-items::module
decreases-items::module l = 512 * tokens l.p.now

abbrev pub decreases-items::module_items : goal.decreases-items::module_items
decreases-items::module_items l = 512 * tokens l.p.now + 1

abbrev pub decreases-items::item_list : goal.decreases-items::item_list
decreases-items::item_list l = 512 * tokens l.p.now

abbrev pub decreases-items::item_turn : goal.decreases-items::item_turn
decreases-items::item_turn l = 512 * tokens l.p.now + 6

abbrev pub decreases-items::items : goal.decreases-items::items
decreases-items::items l = 512 * tokens l.p.now + 7

abbrev pub decreases-items::adt::struct_item : goal.decreases-items::adt::struct_item
decreases-items::adt::struct_item l = 512 * tokens l.p.now

abbrev pub decreases-items::adt::fields : goal.decreases-items::adt::fields
decreases-items::adt::fields l = 512 * tokens l.p.now + 35

abbrev pub decreases-items::adt::named_fields : goal.decreases-items::adt::named_fields
decreases-items::adt::named_fields l = 512 * tokens l.p.now + 1

abbrev pub decreases-items::adt::enum_item : goal.decreases-items::adt::enum_item
decreases-items::adt::enum_item l = 512 * tokens l.p.now

abbrev pub decreases-items::consts::const_item : goal.decreases-items::consts::const_item
decreases-items::consts::const_item l = 512 * tokens l.p.now

abbrev pub decreases-items::consts::static_item : goal.decreases-items::consts::static_item
decreases-items::consts::static_item l = 512 * tokens l.p.now

abbrev pub decreases-items::consts::typed_value : goal.decreases-items::consts::typed_value
decreases-items::consts::typed_value l = 512 * tokens l.p.now + 35

abbrev pub decreases-items::consts::opt_value : goal.decreases-items::consts::opt_value
decreases-items::consts::opt_value l = 512 * tokens l.p.now

abbrev pub decreases-items::consts::type_alias : goal.decreases-items::consts::type_alias
decreases-items::consts::type_alias l = 512 * tokens l.p.now

abbrev pub decreases-items::functions::fn_item : goal.decreases-items::functions::fn_item
decreases-items::functions::fn_item l = 512 * tokens l.p.now

abbrev pub decreases-types::opt_ret_type : goal.decreases-types::opt_ret_type
decreases-types::opt_ret_type l = 512 * tokens l.p.now + 1

abbrev pub decreases-items::functions::fn_body : goal.decreases-items::functions::fn_body
decreases-items::functions::fn_body l = 512 * tokens l.p.now + 2

abbrev pub decreases-items::traits::impl_item : goal.decreases-items::traits::impl_item
decreases-items::traits::impl_item l = 512 * tokens l.p.now

abbrev pub decreases-items::traits::trait_item : goal.decreases-items::traits::trait_item
decreases-items::traits::trait_item l = 512 * tokens l.p.now

abbrev pub decreases-types::opt_type_after : goal.decreases-types::opt_type_after
decreases-types::opt_type_after l = 512 * tokens l.p.now

abbrev pub invariant-items::attributes-turns : goal.invariant-items::attributes-turns
invariant-items::attributes-turns l = record {
  innermost : (n : ℕ) → IsInnermost n l.initial.p.nodes → IsInnermost n l.p.nodes;
  goes : (c : Condition) → TurnsFrom c (Call rules.attribute) l.initial.p l.p;
  left : tokens l.p ≤ tokens l.initial.p;
  looks : spent l.p ≤ spent l.initial.p;
}

abbrev pub decreases-items::attributes-turns : goal.decreases-items::attributes-turns
decreases-items::attributes-turns l = tokens l.p

abbrev pub invariant-items::items-turns : goal.invariant-items::items-turns
invariant-items::items-turns l = record {
  innermost : (n : ℕ) → IsInnermost n l.initial.p.nodes → IsInnermost n l.p.nodes;
  goes : TurnsFrom Off (Unless (ends_of l.end) item_or_attribute) l.initial.p l.p;
  left : tokens l.p ≤ tokens l.initial.p;
  looks : spent l.p ≤ spent l.initial.p;
}

abbrev pub decreases-items::items-turns : goal.decreases-items::items-turns
decreases-items::items-turns l = tokens l.p

-- generics, fields, arms and parameters by hand
abbrev pub decreases-generic_params::bound : goal.decreases-generic_params::bound
decreases-generic_params::bound l = 512 * tokens l.p.now + 39

abbrev pub decreases-generic_params::lifetime_or_path : goal.decreases-generic_params::lifetime_or_path
decreases-generic_params::lifetime_or_path l = 512 * tokens l.p.now + 17

abbrev pub decreases-generic_params::path_after_question : goal.decreases-generic_params::path_after_question
decreases-generic_params::path_after_question l = 512 * tokens l.p.now

abbrev pub decreases-generic_params::bounds : goal.decreases-generic_params::bounds
decreases-generic_params::bounds l = 512 * tokens l.p.now + 41

abbrev pub decreases-generic_params::opt_bounds : goal.decreases-generic_params::opt_bounds
decreases-generic_params::opt_bounds l = 512 * tokens l.p.now + 40

abbrev pub decreases-generic_params::further_bounds : goal.decreases-generic_params::further_bounds
decreases-generic_params::further_bounds l = 512 * tokens l.p.now + 1

abbrev pub decreases-generic_params::further_bound : goal.decreases-generic_params::further_bound
decreases-generic_params::further_bound l = 512 * tokens l.p.now

abbrev pub decreases-generic_params::opt_bound : goal.decreases-generic_params::opt_bound
decreases-generic_params::opt_bound l = 512 * tokens l.p.now + 40

abbrev pub decreases-generic_params::bounds_after_colon : goal.decreases-generic_params::bounds_after_colon
decreases-generic_params::bounds_after_colon l = 512 * tokens l.p.now

abbrev pub decreases-generic_params::lifetime_param : goal.decreases-generic_params::lifetime_param
decreases-generic_params::lifetime_param l = 512 * tokens l.p.now + 1

abbrev pub decreases-generic_params::type_param : goal.decreases-generic_params::type_param
decreases-generic_params::type_param l = 512 * tokens l.p.now

abbrev pub decreases-generic_params::generic_param : goal.decreases-generic_params::generic_param
decreases-generic_params::generic_param l = 512 * tokens l.p.now + 4

abbrev pub decreases-generic_params::lifetime_or_type : goal.decreases-generic_params::lifetime_or_type
decreases-generic_params::lifetime_or_type l = 512 * tokens l.p.now + 30

abbrev pub decreases-generic_params::where_pred : goal.decreases-generic_params::where_pred
decreases-generic_params::where_pred l = 512 * tokens l.p.now + 32

abbrev pub decreases-generic_params::where_clause : goal.decreases-generic_params::where_clause
decreases-generic_params::where_clause l = 512 * tokens l.p.now

abbrev pub decreases-generic_params::opt_preds : goal.decreases-generic_params::opt_preds
decreases-generic_params::opt_preds l = 512 * tokens l.p.now + 33

abbrev pub decreases-generic_params::further_preds : goal.decreases-generic_params::further_preds
decreases-generic_params::further_preds l = 512 * tokens l.p.now + 1

abbrev pub decreases-generic_params::further_pred : goal.decreases-generic_params::further_pred
decreases-generic_params::further_pred l = 512 * tokens l.p.now

abbrev pub decreases-generic_params::plain_bound : goal.decreases-generic_params::plain_bound
decreases-generic_params::plain_bound l = 512 * tokens l.p.now + 18

abbrev pub decreases-generic_params::for_binder : goal.decreases-generic_params::for_binder
decreases-generic_params::for_binder l = 512 * tokens l.p.now

abbrev pub decreases-generic_params::lifetime_and_bounds : goal.decreases-generic_params::lifetime_and_bounds
decreases-generic_params::lifetime_and_bounds l = 512 * tokens l.p.now

abbrev pub decreases-generic_params::plain_pred : goal.decreases-generic_params::plain_pred
decreases-generic_params::plain_pred l = 512 * tokens l.p.now + 31

abbrev pub decreases-generic_params::binder_pred : goal.decreases-generic_params::binder_pred
decreases-generic_params::binder_pred l = 512 * tokens l.p.now + 1

abbrev pub decreases-generic_params::pred_bounds : goal.decreases-generic_params::pred_bounds
decreases-generic_params::pred_bounds l = 512 * tokens l.p.now + 42

abbrev pub decreases-new_bounds::new_bound : goal.decreases-new_bounds::new_bound
decreases-new_bounds::new_bound l = 512 * tokens l.p.now + 38

abbrev pub decreases-new_bounds::maybe_in_parens : goal.decreases-new_bounds::maybe_in_parens
decreases-new_bounds::maybe_in_parens l = 512 * tokens l.p.now + 37

abbrev pub decreases-new_bounds::in_parens : goal.decreases-new_bounds::in_parens
decreases-new_bounds::in_parens l = 512 * tokens l.p.now

abbrev pub decreases-new_bounds::bound_inside : goal.decreases-new_bounds::bound_inside
decreases-new_bounds::bound_inside l = 512 * tokens l.p.now + 36

abbrev pub decreases-new_bounds::use_captures : goal.decreases-new_bounds::use_captures
decreases-new_bounds::use_captures l = 512 * tokens l.p.now

abbrev pub decreases-new_bounds::words_and_path : goal.decreases-new_bounds::words_and_path
decreases-new_bounds::words_and_path l = 512 * tokens l.p.now + 35

abbrev pub decreases-new_bounds::opt_binder : goal.decreases-new_bounds::opt_binder
decreases-new_bounds::opt_binder l = 512 * tokens l.p.now + 1

abbrev pub decreases-new_params::new_param : goal.decreases-new_params::new_param
decreases-new_params::new_param l = 512 * tokens l.p.now + 3

abbrev pub decreases-new_params::const_param : goal.decreases-new_params::const_param
decreases-new_params::const_param l = 512 * tokens l.p.now + 1

abbrev pub decreases-new_params::inside_const_param : goal.decreases-new_params::inside_const_param
decreases-new_params::inside_const_param l = 512 * tokens l.p.now

abbrev pub decreases-new_params::const_default : goal.decreases-new_params::const_default
decreases-new_params::const_default l = 512 * tokens l.p.now

abbrev pub decreases-new_params::attributed_param : goal.decreases-new_params::attributed_param
decreases-new_params::attributed_param l = 512 * tokens l.p.now + 2

abbrev pub decreases-new_params::after_attributes : goal.decreases-new_params::after_attributes
decreases-new_params::after_attributes l = 512 * tokens l.p.now + 3

abbrev pub decreases-new_params::inside_type_param : goal.decreases-new_params::inside_type_param
decreases-new_params::inside_type_param l = 512 * tokens l.p.now + 1

abbrev pub decreases-const_args::expect_const_arg : goal.decreases-const_args::expect_const_arg
decreases-const_args::expect_const_arg l = 512 * tokens l.p.now + 14

abbrev pub decreases-const_args::const_arg : goal.decreases-const_args::const_arg
decreases-const_args::const_arg l = 512 * tokens l.p.now + 13

abbrev pub decreases-const_args::const_value : goal.decreases-const_args::const_value
decreases-const_args::const_value l = 512 * tokens l.p.now + 12

abbrev pub decreases-const_args::const_path : goal.decreases-const_args::const_path
decreases-const_args::const_path l = 512 * tokens l.p.now + 11

abbrev pub decreases-const_args::expr_path : goal.decreases-const_args::expr_path
decreases-const_args::expr_path l = 512 * tokens l.p.now + 10

abbrev pub decreases-generic_args::generic_arg : goal.decreases-generic_args::generic_arg
decreases-generic_args::generic_arg l = 512 * tokens l.p.now + 25

abbrev pub decreases-generic_args::word_arg : goal.decreases-generic_args::word_arg
decreases-generic_args::word_arg l = 512 * tokens l.p.now + 20

abbrev pub decreases-generic_args::assoc_type_arg : goal.decreases-generic_args::assoc_type_arg
decreases-generic_args::assoc_type_arg l = 512 * tokens l.p.now

abbrev pub decreases-generic_args::type_arg : goal.decreases-generic_args::type_arg
decreases-generic_args::type_arg l = 512 * tokens l.p.now + 19

abbrev pub decreases-fields::field_value : goal.decreases-fields::field_value
decreases-fields::field_value l = 512 * tokens l.p.now + 10

abbrev pub decreases-fields::named_value : goal.decreases-fields::named_value
decreases-fields::named_value l = 512 * tokens l.p.now

abbrev pub decreases-fields::other_fields : goal.decreases-fields::other_fields
decreases-fields::other_fields l = 512 * tokens l.p.now

abbrev pub decreases-fields::opt_expression : goal.decreases-fields::opt_expression
decreases-fields::opt_expression l = 512 * tokens l.p.now + 101

abbrev pub decreases-fields::path_value : goal.decreases-fields::path_value
decreases-fields::path_value l = 512 * tokens l.p.now + 9

abbrev pub decreases-fields::pattern_field : goal.decreases-fields::pattern_field
decreases-fields::pattern_field l = 512 * tokens l.p.now + 2

abbrev pub decreases-fields::named_pattern : goal.decreases-fields::named_pattern
decreases-fields::named_pattern l = 512 * tokens l.p.now

abbrev pub decreases-expressions::match_arm::match_arm : goal.decreases-expressions::match_arm::match_arm
decreases-expressions::match_arm::match_arm l = 512 * tokens l.p.now + 103

abbrev pub decreases-expressions::match_arm::opt_guard : goal.decreases-expressions::match_arm::opt_guard
decreases-expressions::match_arm::opt_guard l = 512 * tokens l.p.now

abbrev pub decreases-expressions::match_arm::arm_value : goal.decreases-expressions::match_arm::arm_value
decreases-expressions::match_arm::arm_value l = 512 * tokens l.p.now + 102

abbrev pub decreases-params::param : goal.decreases-params::param
decreases-params::param l = 512 * tokens l.p.now + 26

abbrev pub decreases-params::pattern_param : goal.decreases-params::pattern_param
decreases-params::pattern_param l = 512 * tokens l.p.now + 25

abbrev pub decreases-params::self_param : goal.decreases-params::self_param
decreases-params::self_param l = 512 * tokens l.p.now + 1

abbrev pub decreases-params::self_after_ref : goal.decreases-params::self_after_ref
decreases-params::self_after_ref l = 512 * tokens l.p.now

abbrev pub decreases-params::self_after_mut : goal.decreases-params::self_after_mut
decreases-params::self_after_mut l = 512 * tokens l.p.now

abbrev pub decreases-params::self_alone : goal.decreases-params::self_alone
decreases-params::self_alone l = 512 * tokens l.p.now

abbrev pub invariant-generic_params::further_bounds-turns : goal.invariant-generic_params::further_bounds-turns
invariant-generic_params::further_bounds-turns l = record {
  goes : (c : Condition) → TurnsFrom c (One '+' ▸ ⁅ Bound ⁆) l.initial.p l.p;
  left : tokens l.p ≤ tokens l.initial.p;
  looks : spent l.p ≤ spent l.initial.p;
}

abbrev pub decreases-generic_params::further_bounds-turns : goal.decreases-generic_params::further_bounds-turns
decreases-generic_params::further_bounds-turns l = tokens l.p

abbrev pub invariant-generic_params::further_preds-turns : goal.invariant-generic_params::further_preds-turns
invariant-generic_params::further_preds-turns l = record {
  goes : (c : Condition) → TurnsFrom c (One 'comma' ▸ ⁅ WherePred ⁆) l.initial.p l.p;
  left : tokens l.p ≤ tokens l.initial.p;
  looks : spent l.p ≤ spent l.initial.p;
}

abbrev pub decreases-generic_params::further_preds-turns : goal.decreases-generic_params::further_preds-turns
decreases-generic_params::further_preds-turns l = tokens l.p

-- operations by hand
abbrev pub decreases-expressions::layers::layers : goal.decreases-expressions::layers::layers
decreases-expressions::layers::layers l = 512 * tokens l.p.now + 34

abbrev pub decreases-expressions::layers::expect_layer : goal.decreases-expressions::layers::expect_layer
decreases-expressions::layers::expect_layer l = 512 * tokens l.p.now + 35

abbrev pub decreases-expressions::layers::climb : goal.decreases-expressions::layers::climb
decreases-expressions::layers::climb l = 512 * tokens l.p.now + 1

abbrev pub decreases-expressions::layers::turn : goal.decreases-expressions::layers::turn
decreases-expressions::layers::turn l = 512 * tokens l.p.now

abbrev pub decreases-expressions::expect_any : goal.decreases-expressions::expect_any
decreases-expressions::expect_any l = 512 * tokens l.p.now + 39

abbrev pub decreases-expressions::expect_operation : goal.decreases-expressions::expect_operation
decreases-expressions::expect_operation l = 512 * tokens l.p.now + 38

abbrev pub decreases-expressions::expression : goal.decreases-expressions::expression
decreases-expressions::expression l = 512 * tokens l.p.now + 38

abbrev pub decreases-expressions::operation : goal.decreases-expressions::operation
decreases-expressions::operation l = 512 * tokens l.p.now + 37

abbrev pub decreases-expressions::operands : goal.decreases-expressions::operands
decreases-expressions::operands l = 512 * tokens l.p.now + 36

abbrev pub decreases-expressions::range : goal.decreases-expressions::range
decreases-expressions::range l = 512 * tokens l.p.now + 3

abbrev pub decreases-expressions::operation_tail : goal.decreases-expressions::operation_tail
decreases-expressions::operation_tail l = 512 * tokens l.p.now + 2

abbrev pub decreases-expressions::range_end : goal.decreases-expressions::range_end
decreases-expressions::range_end l = 512 * tokens l.p.now

abbrev pub decreases-expressions::pipe_tail : goal.decreases-expressions::pipe_tail
decreases-expressions::pipe_tail l = 512 * tokens l.p.now + 1

abbrev pub decreases-expressions::opt_assignment : goal.decreases-expressions::opt_assignment
decreases-expressions::opt_assignment l = 512 * tokens l.p.now

abbrev pub invariant-expressions::layers::climb-turns : goal.invariant-expressions::layers::climb-turns
invariant-expressions::layers::climb-turns l = record {
  marker : IsInnermost l.frame l.p.nodes;
  next : IsNext l.next l.p;
  goes : LayersFrom l.condition (turns_from l.top 1) (turns_from (l.top + 1 - l.lowest) l.lowest) l.initial.p l.p;
  some : 1 ≤ l.lowest;
  low : l.lowest ≤ l.top + 1;
  left : tokens l.p ≤ tokens l.initial.p;
  looks : spent l.p ≤ spent l.initial.p;
}

abbrev pub decreases-expressions::layers::climb-turns : goal.decreases-expressions::layers::climb-turns
decreases-expressions::layers::climb-turns l = tokens l.p

abbrev pub invariant-expressions::operation_tail-ranges-2 : goal.invariant-expressions::operation_tail-ranges-2
invariant-expressions::operation_tail-ranges-2 l = record {
  marker : IsInnermost l.frame l.p.nodes;
  mark : IsMark l.mark l.p;
  goes : GoesFrom rules.operation_tail l.condition l.initial.p l.p;
  left : tokens l.p ≤ tokens l.initial.p;
  looks : spent l.p ≤ spent l.initial.p;
}

abbrev pub decreases-expressions::operation_tail-ranges-2 : goal.decreases-expressions::operation_tail-ranges-2
decreases-expressions::operation_tail-ranges-2 l = tokens l.p

abbrev pub invariant-expressions::pipe_tail-pipes : goal.invariant-expressions::pipe_tail-pipes
invariant-expressions::pipe_tail-pipes l = record {
  marker : IsInnermost l.frame l.p.nodes;
  next : IsNext l.operator l.p;
  goes : GoesFrom rules.pipe_tail l.condition l.initial.p l.p;
  left : tokens l.p ≤ tokens l.initial.p;
  looks : spent l.p ≤ spent l.initial.p;
}

abbrev pub decreases-expressions::pipe_tail-pipes : goal.decreases-expressions::pipe_tail-pipes
decreases-expressions::pipe_tail-pipes l = tokens l.p

-- variants and fields by hand
abbrev pub decreases-items::attributes_and_visibility : goal.decreases-items::attributes_and_visibility
decreases-items::attributes_and_visibility l = 512 * tokens l.p.now + 1

abbrev pub decreases-items::members::named : goal.decreases-items::members::named
decreases-items::members::named l = 512 * tokens l.p.now + 2

abbrev pub decreases-items::members::typed : goal.decreases-items::members::typed
decreases-items::members::typed l = 512 * tokens l.p.now + 20

abbrev pub decreases-items::members::opt_fields : goal.decreases-items::members::opt_fields
decreases-items::members::opt_fields l = 512 * tokens l.p.now + 1

abbrev pub decreases-items::members::variant : goal.decreases-items::members::variant
decreases-items::members::variant l = 512 * tokens l.p.now + 3

abbrev pub decreases-items::members::record_field : goal.decreases-items::members::record_field
decreases-items::members::record_field l = 512 * tokens l.p.now + 3

abbrev pub decreases-items::members::tuple_field : goal.decreases-items::members::tuple_field
decreases-items::members::tuple_field l = 512 * tokens l.p.now + 21

abbrev pub decreases-fields::attributed_pattern_field : goal.decreases-fields::attributed_pattern_field
decreases-fields::attributed_pattern_field l = 512 * tokens l.p.now + 1

abbrev pub decreases-fields::after_attributes : goal.decreases-fields::after_attributes
decreases-fields::after_attributes l = 512 * tokens l.p.now

abbrev pub decreases-fn_pointers::fn_ptr_type : goal.decreases-fn_pointers::fn_ptr_type
decreases-fn_pointers::fn_ptr_type l = 512 * tokens l.p.now

abbrev pub decreases-fn_pointers::fn_ptr_param : goal.decreases-fn_pointers::fn_ptr_param
decreases-fn_pointers::fn_ptr_param l = 512 * tokens l.p.now + 27

abbrev pub decreases-fn_pointers::dots_name_or_type : goal.decreases-fn_pointers::dots_name_or_type
decreases-fn_pointers::dots_name_or_type l = 512 * tokens l.p.now + 24

abbrev pub decreases-fn_pointers::missing_type : goal.decreases-fn_pointers::missing_type
decreases-fn_pointers::missing_type l = 512 * tokens l.p.now + 9

abbrev pub decreases-fn_pointers::missing_path : goal.decreases-fn_pointers::missing_path
decreases-fn_pointers::missing_path l = 512 * tokens l.p.now + 8

abbrev pub decreases-fn_pointers::missing_segment : goal.decreases-fn_pointers::missing_segment
decreases-fn_pointers::missing_segment l = 512 * tokens l.p.now + 4

abbrev pub decreases-fn_pointers::named_param : goal.decreases-fn_pointers::named_param
decreases-fn_pointers::named_param l = 512 * tokens l.p.now + 23

abbrev pub decreases-fn_pointers::dots_or_type : goal.decreases-fn_pointers::dots_or_type
decreases-fn_pointers::dots_or_type l = 512 * tokens l.p.now + 35

abbrev pub decreases-pattern_ranges::range_or_atom : goal.decreases-pattern_ranges::range_or_atom
decreases-pattern_ranges::range_or_atom l = 512 * tokens l.p.now + 21

abbrev pub decreases-pattern_ranges::open_range : goal.decreases-pattern_ranges::open_range
decreases-pattern_ranges::open_range l = 512 * tokens l.p.now

abbrev pub decreases-pattern_ranges::opt_range_end : goal.decreases-pattern_ranges::opt_range_end
decreases-pattern_ranges::opt_range_end l = 512 * tokens l.p.now + 22

abbrev pub decreases-pattern_ranges::pattern_atom : goal.decreases-pattern_ranges::pattern_atom
decreases-pattern_ranges::pattern_atom l = 512 * tokens l.p.now + 21

abbrev pub decreases-pattern_ranges::opt_range : goal.decreases-pattern_ranges::opt_range
decreases-pattern_ranges::opt_range l = 512 * tokens l.p.now

abbrev pub decreases-params::new_param : goal.decreases-params::new_param
decreases-params::new_param l = 512 * tokens l.p.now + 2

abbrev pub decreases-params::attributed_param : goal.decreases-params::attributed_param
decreases-params::attributed_param l = 512 * tokens l.p.now + 1

abbrev pub decreases-params::after_attributes : goal.decreases-params::after_attributes
decreases-params::after_attributes l = 512 * tokens l.p.now + 38

abbrev pub decreases-params::self_rest : goal.decreases-params::self_rest
decreases-params::self_rest l = 512 * tokens l.p.now + 1

abbrev pub decreases-params::dots_or_param : goal.decreases-params::dots_or_param
decreases-params::dots_or_param l = 512 * tokens l.p.now + 37

abbrev pub decreases-params::param_type : goal.decreases-params::param_type
decreases-params::param_type l = 512 * tokens l.p.now + 36

abbrev pub decreases-params::dots_or_type : goal.decreases-params::dots_or_type
decreases-params::dots_or_type l = 512 * tokens l.p.now + 35

abbrev pub decreases-patterns::qualified_pat : goal.decreases-patterns::qualified_pat
decreases-patterns::qualified_pat l = 512 * tokens l.p.now + 3

abbrev pub decreases-attributes::outer_attributes : goal.decreases-attributes::outer_attributes
decreases-attributes::outer_attributes l = 512 * tokens l.p.now + 1

abbrev pub decreases-attributes::path_meta : goal.decreases-attributes::path_meta
decreases-attributes::path_meta l = 512 * tokens l.p.now

abbrev pub decreases-attributes::unsafe_meta : goal.decreases-attributes::unsafe_meta
decreases-attributes::unsafe_meta l = 512 * tokens l.p.now

abbrev pub decreases-items::new_items::new_item : goal.decreases-items::new_items::new_item
decreases-items::new_items::new_item l = 512 * tokens l.p.now + 2

abbrev pub decreases-items::new_items::union_item : goal.decreases-items::new_items::union_item
decreases-items::new_items::union_item l = 512 * tokens l.p.now

abbrev pub decreases-items::new_items::item_words : goal.decreases-items::new_items::item_words
decreases-items::new_items::item_words l = 512 * tokens l.p.now + 1

abbrev pub decreases-items::new_items::contextual_words : goal.decreases-items::new_items::contextual_words
decreases-items::new_items::contextual_words l = 512 * tokens l.p.now

abbrev pub decreases-items::new_items::words_from_async : goal.decreases-items::new_items::words_from_async
decreases-items::new_items::words_from_async l = 512 * tokens l.p.now + 6

abbrev pub decreases-items::new_items::words_from_gen : goal.decreases-items::new_items::words_from_gen
decreases-items::new_items::words_from_gen l = 512 * tokens l.p.now + 5

abbrev pub decreases-items::new_items::words_from_unsafe : goal.decreases-items::new_items::words_from_unsafe
decreases-items::new_items::words_from_unsafe l = 512 * tokens l.p.now + 4

abbrev pub decreases-items::new_items::safe_or_abi : goal.decreases-items::new_items::safe_or_abi
decreases-items::new_items::safe_or_abi l = 512 * tokens l.p.now + 3

abbrev pub decreases-items::new_items::abi_or_words : goal.decreases-items::new_items::abi_or_words
decreases-items::new_items::abi_or_words l = 512 * tokens l.p.now + 2

abbrev pub decreases-items::new_items::after_abi : goal.decreases-items::new_items::after_abi
decreases-items::new_items::after_abi l = 512 * tokens l.p.now + 2

abbrev pub decreases-items::new_items::item_word : goal.decreases-items::new_items::item_word
decreases-items::new_items::item_word l = 512 * tokens l.p.now + 1

abbrev pub decreases-items::members::field_front : goal.decreases-items::members::field_front
decreases-items::members::field_front l = 512 * tokens l.p.now + 2

abbrev pub decreases-items::members::opt_discriminant : goal.decreases-items::members::opt_discriminant
decreases-items::members::opt_discriminant l = 512 * tokens l.p.now

abbrev pub decreases-items::members::const_value : goal.decreases-items::members::const_value
decreases-items::members::const_value l = 512 * tokens l.p.now + 41

abbrev pub decreases-items::functions::plain_fn : goal.decreases-items::functions::plain_fn
decreases-items::functions::plain_fn l = 512 * tokens l.p.now

abbrev pub decreases-items::functions::after_fn : goal.decreases-items::functions::after_fn
decreases-items::functions::after_fn l = 512 * tokens l.p.now + 35

abbrev pub decreases-items::consts::const_typed : goal.decreases-items::consts::const_typed
decreases-items::consts::const_typed l = 512 * tokens l.p.now + 35

abbrev pub decreases-items::consts::alias_value : goal.decreases-items::consts::alias_value
decreases-items::consts::alias_value l = 512 * tokens l.p.now + 35

abbrev pub decreases-items::traits::plain_impl : goal.decreases-items::traits::plain_impl
decreases-items::traits::plain_impl l = 512 * tokens l.p.now

abbrev pub decreases-items::traits::after_impl : goal.decreases-items::traits::after_impl
decreases-items::traits::after_impl l = 512 * tokens l.p.now + 35

abbrev pub decreases-items::traits::opt_impl_params : goal.decreases-items::traits::opt_impl_params
decreases-items::traits::opt_impl_params l = 512 * tokens l.p.now + 1

abbrev pub decreases-items::traits::plain_trait : goal.decreases-items::traits::plain_trait
decreases-items::traits::plain_trait l = 512 * tokens l.p.now

abbrev pub decreases-items::traits::after_trait : goal.decreases-items::traits::after_trait
decreases-items::traits::after_trait l = 512 * tokens l.p.now + 37

abbrev pub decreases-items::traits::trait_body : goal.decreases-items::traits::trait_body
decreases-items::traits::trait_body l = 512 * tokens l.p.now + 36

abbrev pub decreases-items::traits::alias_bounds : goal.decreases-items::traits::alias_bounds
decreases-items::traits::alias_bounds l = 512 * tokens l.p.now

abbrev pub decreases-items::traits::trait_items : goal.decreases-items::traits::trait_items
decreases-items::traits::trait_items l = 512 * tokens l.p.now + 35

abbrev pub invariant-attributes::outer_attributes-turns : goal.invariant-attributes::outer_attributes-turns
invariant-attributes::outer_attributes-turns l = record {
  innermost : (n : ℕ) → IsInnermost n l.initial.p.nodes → IsInnermost n l.p.nodes;
  goes : (c : Condition) → TurnsFrom c (When (wide (next '#')) Attribute) l.initial.p l.p;
  left : tokens l.p ≤ tokens l.initial.p;
  looks : spent l.p ≤ spent l.initial.p;
}

abbrev pub decreases-attributes::outer_attributes-turns : goal.decreases-attributes::outer_attributes-turns
decreases-attributes::outer_attributes-turns l = tokens l.p

abbrev pub decreases-items::plain_body : goal.decreases-items::plain_body
decreases-items::plain_body l = 512 * tokens l.p.now + 1

abbrev pub decreases-fn_pointers::attributed_or_bare : goal.decreases-fn_pointers::attributed_or_bare
decreases-fn_pointers::attributed_or_bare l = 512 * tokens l.p.now + 26

abbrev pub decreases-fn_pointers::bare_param : goal.decreases-fn_pointers::bare_param
decreases-fn_pointers::bare_param l = 512 * tokens l.p.now + 25

abbrev pub decreases-lists::list : goal.decreases-lists::list
decreases-lists::list l = 512 * tokens l.p.now

abbrev pub decreases-parts::read_part : goal.decreases-parts::read_part
decreases-parts::read_part l = 512 * tokens l.p.now + 33

abbrev pub decreases-parts::expect_part : goal.decreases-parts::expect_part
decreases-parts::expect_part l = 512 * tokens l.p.now + 34

abbrev pub decreases-parts::opt_part : goal.decreases-parts::opt_part
decreases-parts::opt_part l = 512 * tokens l.p.now + 34

abbrev pub decreases-fields::attributed_value : goal.decreases-fields::attributed_value
decreases-fields::attributed_value l = 512 * tokens l.p.now + 1

abbrev pub decreases-fields::value_after_attributes : goal.decreases-fields::value_after_attributes
decreases-fields::value_after_attributes l = 512 * tokens l.p.now + 12

abbrev pub decreases-or_patterns::pattern_or_missing : goal.decreases-or_patterns::pattern_or_missing
decreases-or_patterns::pattern_or_missing l = 512 * tokens l.p.now + 25

abbrev pub decreases-expressions::open_range : goal.decreases-expressions::open_range
decreases-expressions::open_range l = 512 * tokens l.p.now + 1

abbrev pub decreases-patterns::single_or_missing : goal.decreases-patterns::single_or_missing
decreases-patterns::single_or_missing l = 512 * tokens l.p.now + 23

abbrev pub decreases-patterns::missing_single : goal.decreases-patterns::missing_single
decreases-patterns::missing_single l = 512 * tokens l.p.now + 10

abbrev pub decreases-expressions::atom::return_expr : goal.decreases-expressions::atom::return_expr
decreases-expressions::atom::return_expr l = 512 * tokens l.p.now

abbrev pub decreases-expressions::atom::break_expr : goal.decreases-expressions::atom::break_expr
decreases-expressions::atom::break_expr l = 512 * tokens l.p.now

abbrev pub decreases-expressions::atom::new_atom : goal.decreases-expressions::atom::new_atom
decreases-expressions::atom::new_atom l = 512 * tokens l.p.now + 3

abbrev pub decreases-expressions::control::while_rest : goal.decreases-expressions::control::while_rest
decreases-expressions::control::while_rest l = 512 * tokens l.p.now

abbrev pub decreases-expressions::control::loop_rest : goal.decreases-expressions::control::loop_rest
decreases-expressions::control::loop_rest l = 512 * tokens l.p.now

abbrev pub decreases-expressions::control::for_rest : goal.decreases-expressions::control::for_rest
decreases-expressions::control::for_rest l = 512 * tokens l.p.now

abbrev pub decreases-expressions::control::new_block : goal.decreases-expressions::control::new_block
decreases-expressions::control::new_block l = 512 * tokens l.p.now + 1

abbrev pub decreases-expressions::control::labelled : goal.decreases-expressions::control::labelled
decreases-expressions::control::labelled l = 512 * tokens l.p.now

abbrev pub decreases-expressions::control::after_label : goal.decreases-expressions::control::after_label
decreases-expressions::control::after_label l = 512 * tokens l.p.now + 35

abbrev pub decreases-expressions::control::block_with_words : goal.decreases-expressions::control::block_with_words
decreases-expressions::control::block_with_words l = 512 * tokens l.p.now

abbrev pub decreases-expressions::match_arm::guard_value : goal.decreases-expressions::match_arm::guard_value
decreases-expressions::match_arm::guard_value l = 512 * tokens l.p.now + 105

abbrev pub decreases-expressions::match_arm::profile_value : goal.decreases-expressions::match_arm::profile_value
decreases-expressions::match_arm::profile_value l = 512 * tokens l.p.now + 41

abbrev pub decreases-expressions::match_arm::arm_body : goal.decreases-expressions::match_arm::arm_body
decreases-expressions::match_arm::arm_body l = 512 * tokens l.p.now + 42

abbrev pub decreases-expressions::match_arm::inside_arm : goal.decreases-expressions::match_arm::inside_arm
decreases-expressions::match_arm::inside_arm l = 512 * tokens l.p.now + 41

abbrev pub decreases-expressions::match_arm::after_long_path : goal.decreases-expressions::match_arm::after_long_path
decreases-expressions::match_arm::after_long_path l = 512 * tokens l.p.now + 5

abbrev pub decreases-expressions::match_arm::arm_tail : goal.decreases-expressions::match_arm::arm_tail
decreases-expressions::match_arm::arm_tail l = 512 * tokens l.p.now + 4

abbrev pub decreases-expressions::match_arm::further_operators : goal.decreases-expressions::match_arm::further_operators
decreases-expressions::match_arm::further_operators l = 512 * tokens l.p.now + 4

abbrev pub decreases-expressions::operand::new_operand : goal.decreases-expressions::operand::new_operand
decreases-expressions::operand::new_operand l = 512 * tokens l.p.now + 2

abbrev pub decreases-expressions::operand::raw_ref_expr : goal.decreases-expressions::operand::raw_ref_expr
decreases-expressions::operand::raw_ref_expr l = 512 * tokens l.p.now

abbrev pub decreases-expressions::closures::closure_with_words : goal.decreases-expressions::closures::closure_with_words
decreases-expressions::closures::closure_with_words l = 512 * tokens l.p.now + 2

abbrev pub decreases-expressions::closures::closure_words : goal.decreases-expressions::closures::closure_words
decreases-expressions::closures::closure_words l = 512 * tokens l.p.now + 1

abbrev pub decreases-expressions::match_arm::attributed_pattern : goal.decreases-expressions::match_arm::attributed_pattern
decreases-expressions::match_arm::attributed_pattern l = 512 * tokens l.p.now + 25

abbrev pub decreases-expressions::closures::attributed_single : goal.decreases-expressions::closures::attributed_single
decreases-expressions::closures::attributed_single l = 512 * tokens l.p.now + 23

abbrev pub decreases-expressions::after_operand : goal.decreases-expressions::after_operand
decreases-expressions::after_operand l = 512 * tokens l.p.now + 3

abbrev pub decreases-statements::new_statement : goal.decreases-statements::new_statement
decreases-statements::new_statement l = 512 * tokens l.p.now + 102

abbrev pub decreases-statements::long_path_statement : goal.decreases-statements::long_path_statement
decreases-statements::long_path_statement l = 512 * tokens l.p.now + 41

abbrev pub decreases-statements::path_tail : goal.decreases-statements::path_tail
decreases-statements::path_tail l = 512 * tokens l.p.now + 5

abbrev pub decreases-statements::super_let : goal.decreases-statements::super_let
decreases-statements::super_let l = 512 * tokens l.p.now + 1

abbrev pub decreases-statements::let_rest : goal.decreases-statements::let_rest
decreases-statements::let_rest l = 512 * tokens l.p.now

abbrev pub decreases-statements::opt_operators : goal.decreases-statements::opt_operators
decreases-statements::opt_operators l = 512 * tokens l.p.now + 4

abbrev pub decreases-expressions::operand::attributed_operand : goal.decreases-expressions::operand::attributed_operand
decreases-expressions::operand::attributed_operand l = 512 * tokens l.p.now + 1

abbrev pub decreases-expressions::operand::operand_after_attributes : goal.decreases-expressions::operand::operand_after_attributes
decreases-expressions::operand::operand_after_attributes l = 512 * tokens l.p.now + 35

abbrev pub decreases-expressions::operand::extended_operand : goal.decreases-expressions::operand::extended_operand
decreases-expressions::operand::extended_operand l = 512 * tokens l.p.now + 34

abbrev pub decreases-statements::attributed_statement : goal.decreases-statements::attributed_statement
decreases-statements::attributed_statement l = 512 * tokens l.p.now + 2

abbrev pub decreases-statements::after_attributes : goal.decreases-statements::after_attributes
decreases-statements::after_attributes l = 512 * tokens l.p.now + 35

abbrev pub decreases-statements::extended_block : goal.decreases-statements::extended_block
decreases-statements::extended_block l = 512 * tokens l.p.now + 6

abbrev pub decreases-statements::operators_and_end : goal.decreases-statements::operators_and_end
decreases-statements::operators_and_end l = 512 * tokens l.p.now + 4

-- Function by function.
mod Adt
mod Atom
mod Attributes
mod Blocks
mod ConstArgs
mod Consts
mod Control
mod Expressions
mod Fields
mod FnPointers
mod Functions
mod GenericArgs
mod GenericParams
mod Items
mod Layers
mod Lists
mod MatchArm
mod Members
mod NewBounds
mod NewItems
mod NewParams
mod Operand
mod Params
mod Parts
mod Paths
mod PatternRanges
mod Patterns
mod Statements
mod Traits
mod Types
use Rattle.std.proofs.Common.{◌-◌}
use Rattle.grammar_reader.proofs.grammar.+grammar.Goals as goal
use Rattle.grammar_reader.proofs.grammar.+grammar.Answers.Adt as adt
use Rattle.grammar_reader.proofs.grammar.+grammar.Answers.Atom as atom
use Rattle.grammar_reader.proofs.grammar.+grammar.Answers.Attributes as attributes
use Rattle.grammar_reader.proofs.grammar.+grammar.Answers.Blocks as blocks
use Rattle.grammar_reader.proofs.grammar.+grammar.Answers.ConstArgs as const_args
use Rattle.grammar_reader.proofs.grammar.+grammar.Answers.Consts as consts
use Rattle.grammar_reader.proofs.grammar.+grammar.Answers.Control as control
use Rattle.grammar_reader.proofs.grammar.+grammar.Answers.Expressions as expressions
use Rattle.grammar_reader.proofs.grammar.+grammar.Answers.Fields as fields
use Rattle.grammar_reader.proofs.grammar.+grammar.Answers.Functions as functions
use Rattle.grammar_reader.proofs.grammar.+grammar.Answers.GenericArgs as generic_args
use Rattle.grammar_reader.proofs.grammar.+grammar.Answers.GenericParams as generic_params
use Rattle.grammar_reader.proofs.grammar.+grammar.Answers.Items as items
use Rattle.grammar_reader.proofs.grammar.+grammar.Answers.Layers as layers
use Rattle.grammar_reader.proofs.grammar.+grammar.Answers.Lists as lists
use Rattle.grammar_reader.proofs.grammar.+grammar.Answers.MatchArm as match_arm
use Rattle.grammar_reader.proofs.grammar.+grammar.Answers.Members as members
use Rattle.grammar_reader.proofs.grammar.+grammar.Answers.NewBounds as new_bounds
use Rattle.grammar_reader.proofs.grammar.+grammar.Answers.NewParams as new_params
use Rattle.grammar_reader.proofs.grammar.+grammar.Answers.Operand as operand
use Rattle.grammar_reader.proofs.grammar.+grammar.Answers.Params as params
use Rattle.grammar_reader.proofs.grammar.+grammar.Answers.Parts as parts
use Rattle.grammar_reader.proofs.grammar.+grammar.Answers.Paths as paths
use Rattle.grammar_reader.proofs.grammar.+grammar.Answers.Patterns as patterns
use Rattle.grammar_reader.proofs.grammar.+grammar.Answers.Statements as statements
use Rattle.grammar_reader.proofs.grammar.+grammar.Answers.Traits as traits
use Rattle.grammar_reader.proofs.grammar.+grammar.Answers.Types as types
use Rattle.grammar_reader.proofs.grammar.+grammar.Answers.FnPointers as fn_pointers
use Rattle.grammar_reader.proofs.grammar.+grammar.Answers.PatternRanges as pattern_ranges
use Rattle.grammar_reader.proofs.grammar.+grammar.Answers.NewItems as new_items

pub items::adt::struct_item-complete-requires : goal.items::adt::struct_item-complete-requires
items::adt::struct_item-complete-requires = adt.items::adt::struct_item-complete-requires

pub items::adt::struct_item-returns-clause-completes : goal.items::adt::struct_item-returns-clause-completes
items::adt::struct_item-returns-clause-completes = adt.items::adt::struct_item-returns-clause-completes

pub items::adt::fields-returns-then-at-clause-reads : goal.items::adt::fields-returns-then-at-clause-reads
items::adt::fields-returns-then-at-clause-reads = adt.items::adt::fields-returns-then-at-clause-reads

pub items::adt::fields-returns-clause-reads : goal.items::adt::fields-returns-clause-reads
items::adt::fields-returns-clause-reads = adt.items::adt::fields-returns-clause-reads

pub items::adt::enum_item-complete-requires : goal.items::adt::enum_item-complete-requires
items::adt::enum_item-complete-requires = adt.items::adt::enum_item-complete-requires

pub items::adt::enum_item-returns-clause-completes : goal.items::adt::enum_item-returns-clause-completes
items::adt::enum_item-returns-clause-completes = adt.items::adt::enum_item-returns-clause-completes

pub items::adt::named_fields-list-requires : goal.items::adt::named_fields-list-requires
items::adt::named_fields-list-requires = adt.items::adt::named_fields-list-requires

pub items::adt::named_fields-returns-then-at-clause-reads : goal.items::adt::named_fields-returns-then-at-clause-reads
items::adt::named_fields-returns-then-at-clause-reads = adt.items::adt::named_fields-returns-then-at-clause-reads

pub items::adt::named_fields-returns-clause-reads : goal.items::adt::named_fields-returns-clause-reads
items::adt::named_fields-returns-clause-reads = adt.items::adt::named_fields-returns-clause-reads

pub items::adt::fields-list-requires : goal.items::adt::fields-list-requires
items::adt::fields-list-requires = adt.items::adt::fields-list-requires

pub expressions::atom::inside-paren_expr-requires : goal.expressions::atom::inside-paren_expr-requires
expressions::atom::inside-paren_expr-requires = atom.expressions::atom::inside-paren_expr-requires

pub expressions::atom::inside-returns-in-L_PAREN-clause-reads : goal.expressions::atom::inside-returns-in-L_PAREN-clause-reads
expressions::atom::inside-returns-in-L_PAREN-clause-reads = atom.expressions::atom::inside-returns-in-L_PAREN-clause-reads

pub expressions::atom::inside-returns-in-L_BRACK-clause-reads : goal.expressions::atom::inside-returns-in-L_BRACK-clause-reads
expressions::atom::inside-returns-in-L_BRACK-clause-reads = atom.expressions::atom::inside-returns-in-L_BRACK-clause-reads

pub expressions::atom::inside-returns-in-L_BRACK-clause-takes : goal.expressions::atom::inside-returns-in-L_BRACK-clause-takes
expressions::atom::inside-returns-in-L_BRACK-clause-takes = atom.expressions::atom::inside-returns-in-L_BRACK-clause-takes

pub expressions::atom::inside-returns-in-RETURN_KW-clause-takes : goal.expressions::atom::inside-returns-in-RETURN_KW-clause-takes
expressions::atom::inside-returns-in-RETURN_KW-clause-takes = atom.expressions::atom::inside-returns-in-RETURN_KW-clause-takes

pub expressions::atom::inside-returns-in-BREAK_KW-clause-takes : goal.expressions::atom::inside-returns-in-BREAK_KW-clause-takes
expressions::atom::inside-returns-in-BREAK_KW-clause-takes = atom.expressions::atom::inside-returns-in-BREAK_KW-clause-takes

pub expressions::atom::inside-returns-in-CONTINUE_KW-clause-takes : goal.expressions::atom::inside-returns-in-CONTINUE_KW-clause-takes
expressions::atom::inside-returns-in-CONTINUE_KW-clause-takes = atom.expressions::atom::inside-returns-in-CONTINUE_KW-clause-takes

pub expressions::atom::inside-returns-in-PIPE-clause-reads : goal.expressions::atom::inside-returns-in-PIPE-clause-reads
expressions::atom::inside-returns-in-PIPE-clause-reads = atom.expressions::atom::inside-returns-in-PIPE-clause-reads

pub expressions::atom::inside-returns-in-PIPE-clause-takes : goal.expressions::atom::inside-returns-in-PIPE-clause-takes
expressions::atom::inside-returns-in-PIPE-clause-takes = atom.expressions::atom::inside-returns-in-PIPE-clause-takes

pub expressions::atom::inside-returns-in-MOVE_KW-clause-reads : goal.expressions::atom::inside-returns-in-MOVE_KW-clause-reads
expressions::atom::inside-returns-in-MOVE_KW-clause-reads = atom.expressions::atom::inside-returns-in-MOVE_KW-clause-reads

pub expressions::atom::inside-returns-in-MOVE_KW-clause-takes : goal.expressions::atom::inside-returns-in-MOVE_KW-clause-takes
expressions::atom::inside-returns-in-MOVE_KW-clause-takes = atom.expressions::atom::inside-returns-in-MOVE_KW-clause-takes

pub expressions::atom::inside-returns-in-LET_KW-clause-takes : goal.expressions::atom::inside-returns-in-LET_KW-clause-takes
expressions::atom::inside-returns-in-LET_KW-clause-takes = atom.expressions::atom::inside-returns-in-LET_KW-clause-takes

pub expressions::atom::inside-returns-then-at_literal : goal.expressions::atom::inside-returns-then-at_literal
expressions::atom::inside-returns-then-at_literal = atom.expressions::atom::inside-returns-then-at_literal

pub expressions::atom::inside-block_like-requires : goal.expressions::atom::inside-block_like-requires
expressions::atom::inside-block_like-requires = atom.expressions::atom::inside-block_like-requires

pub expressions::atom::inside-returns-then-at_block_like : goal.expressions::atom::inside-returns-then-at_block_like
expressions::atom::inside-returns-then-at_block_like = atom.expressions::atom::inside-returns-then-at_block_like

pub expressions::atom::path_expr-path_with_args-requires : goal.expressions::atom::path_expr-path_with_args-requires
expressions::atom::path_expr-path_with_args-requires = atom.expressions::atom::path_expr-path_with_args-requires

pub expressions::atom::path_expr-after_path-requires : goal.expressions::atom::path_expr-after_path-requires
expressions::atom::path_expr-after_path-requires = atom.expressions::atom::path_expr-after_path-requires

pub expressions::atom::path_expr-returns-clause-reads : goal.expressions::atom::path_expr-returns-clause-reads
expressions::atom::path_expr-returns-clause-reads = atom.expressions::atom::path_expr-returns-clause-reads

pub expressions::atom::after_path-wrap-requires : goal.expressions::atom::after_path-wrap-requires
expressions::atom::after_path-wrap-requires = atom.expressions::atom::after_path-wrap-requires

pub expressions::atom::after_path-wrap-frame-requires : goal.expressions::atom::after_path-wrap-frame-requires
expressions::atom::after_path-wrap-frame-requires = atom.expressions::atom::after_path-wrap-frame-requires

pub expressions::atom::after_path-wrap-requires-in-On : goal.expressions::atom::after_path-wrap-requires-in-On
expressions::atom::after_path-wrap-requires-in-On = atom.expressions::atom::after_path-wrap-requires-in-On

pub expressions::atom::after_path-wrap-requires-then-at-2 : goal.expressions::atom::after_path-wrap-requires-then-at-2
expressions::atom::after_path-wrap-requires-then-at-2 = atom.expressions::atom::after_path-wrap-requires-then-at-2

pub expressions::atom::after_path-wrap-requires-in-Off : goal.expressions::atom::after_path-wrap-requires-in-Off
expressions::atom::after_path-wrap-requires-in-Off = atom.expressions::atom::after_path-wrap-requires-in-Off

pub expressions::atom::after_path-returns-then-at_pair-clause-reads : goal.expressions::atom::after_path-returns-then-at_pair-clause-reads
expressions::atom::after_path-returns-then-at_pair-clause-reads = atom.expressions::atom::after_path-returns-then-at_pair-clause-reads

pub expressions::atom::after_path-returns-then-at-clause-reads : goal.expressions::atom::after_path-returns-then-at-clause-reads
expressions::atom::after_path-returns-then-at-clause-reads = atom.expressions::atom::after_path-returns-then-at-clause-reads

pub expressions::atom::after_path-returns-in-On-clause-reads : goal.expressions::atom::after_path-returns-in-On-clause-reads
expressions::atom::after_path-returns-in-On-clause-reads = atom.expressions::atom::after_path-returns-in-On-clause-reads

pub expressions::atom::after_path-returns-then-at-2-clause-reads : goal.expressions::atom::after_path-returns-then-at-2-clause-reads
expressions::atom::after_path-returns-then-at-2-clause-reads = atom.expressions::atom::after_path-returns-then-at-2-clause-reads

pub expressions::atom::after_path-returns-else-at-2-clause-reads : goal.expressions::atom::after_path-returns-else-at-2-clause-reads
expressions::atom::after_path-returns-else-at-2-clause-reads = atom.expressions::atom::after_path-returns-else-at-2-clause-reads

pub expressions::atom::paren_expr-after_paren-requires : goal.expressions::atom::paren_expr-after_paren-requires
expressions::atom::paren_expr-after_paren-requires = atom.expressions::atom::paren_expr-after_paren-requires

pub expressions::atom::paren_expr-returns-clause-reads : goal.expressions::atom::paren_expr-returns-clause-reads
expressions::atom::paren_expr-returns-clause-reads = atom.expressions::atom::paren_expr-returns-clause-reads

pub expressions::atom::after_paren-wrap-requires : goal.expressions::atom::after_paren-wrap-requires
expressions::atom::after_paren-wrap-requires = atom.expressions::atom::after_paren-wrap-requires

pub expressions::atom::after_paren-tuple_tail-requires : goal.expressions::atom::after_paren-tuple_tail-requires
expressions::atom::after_paren-tuple_tail-requires = atom.expressions::atom::after_paren-tuple_tail-requires

pub expressions::atom::after_paren-returns-then-at-clause-reads : goal.expressions::atom::after_paren-returns-then-at-clause-reads
expressions::atom::after_paren-returns-then-at-clause-reads = atom.expressions::atom::after_paren-returns-then-at-clause-reads

pub expressions::atom::after_paren-returns-clause-reads : goal.expressions::atom::after_paren-returns-clause-reads
expressions::atom::after_paren-returns-clause-reads = atom.expressions::atom::after_paren-returns-clause-reads

pub expressions::atom::array_expr-complete-requires : goal.expressions::atom::array_expr-complete-requires
expressions::atom::array_expr-complete-requires = atom.expressions::atom::array_expr-complete-requires

pub expressions::atom::array_expr-returns-clause-reads : goal.expressions::atom::array_expr-returns-clause-reads
expressions::atom::array_expr-returns-clause-reads = atom.expressions::atom::array_expr-returns-clause-reads

pub expressions::atom::array_elements-expression-requires : goal.expressions::atom::array_elements-expression-requires
expressions::atom::array_elements-expression-requires = atom.expressions::atom::array_elements-expression-requires

pub expressions::atom::array_elements-returns-then-at_expression-clause-reads : goal.expressions::atom::array_elements-returns-then-at_expression-clause-reads
expressions::atom::array_elements-returns-then-at_expression-clause-reads = atom.expressions::atom::array_elements-returns-then-at_expression-clause-reads

pub expressions::atom::array_elements-returns-clause-reads : goal.expressions::atom::array_elements-returns-clause-reads
expressions::atom::array_elements-returns-clause-reads = atom.expressions::atom::array_elements-returns-clause-reads

pub expressions::atom::after_element-returns-then-at-clause-reads : goal.expressions::atom::after_element-returns-then-at-clause-reads
expressions::atom::after_element-returns-then-at-clause-reads = atom.expressions::atom::after_element-returns-then-at-clause-reads

pub expressions::atom::after_element-returns-then-at-2-clause-reads : goal.expressions::atom::after_element-returns-then-at-2-clause-reads
expressions::atom::after_element-returns-then-at-2-clause-reads = atom.expressions::atom::after_element-returns-then-at-2-clause-reads

pub expressions::atom::after_element-returns-clause-reads : goal.expressions::atom::after_element-returns-clause-reads
expressions::atom::after_element-returns-clause-reads = atom.expressions::atom::after_element-returns-clause-reads

pub expressions::atom::opt_value-operation-requires : goal.expressions::atom::opt_value-operation-requires
expressions::atom::opt_value-operation-requires = atom.expressions::atom::opt_value-operation-requires

pub expressions::atom::opt_value-returns-then-at_body-clause-reads : goal.expressions::atom::opt_value-returns-then-at_body-clause-reads
expressions::atom::opt_value-returns-then-at_body-clause-reads = atom.expressions::atom::opt_value-returns-then-at_body-clause-reads

pub expressions::atom::opt_value-returns-then-at_operation-clause-reads : goal.expressions::atom::opt_value-returns-then-at_operation-clause-reads
expressions::atom::opt_value-returns-then-at_operation-clause-reads = atom.expressions::atom::opt_value-returns-then-at_operation-clause-reads

pub expressions::atom::opt_value-returns-else-at_operation-clause-reads : goal.expressions::atom::opt_value-returns-else-at_operation-clause-reads
expressions::atom::opt_value-returns-else-at_operation-clause-reads = atom.expressions::atom::opt_value-returns-else-at_operation-clause-reads

pub expressions::closures::closure_expr-complete-requires : goal.expressions::closures::closure_expr-complete-requires
expressions::closures::closure_expr-complete-requires = atom.expressions::closures::closure_expr-complete-requires

pub expressions::closures::closure_expr-returns-clause-reads : goal.expressions::closures::closure_expr-returns-clause-reads
expressions::closures::closure_expr-returns-clause-reads = atom.expressions::closures::closure_expr-returns-clause-reads

pub expressions::closures::move_closure-complete-requires : goal.expressions::closures::move_closure-complete-requires
expressions::closures::move_closure-complete-requires = atom.expressions::closures::move_closure-complete-requires

pub expressions::closures::move_closure-returns-clause-reads : goal.expressions::closures::move_closure-returns-clause-reads
expressions::closures::move_closure-returns-clause-reads = atom.expressions::closures::move_closure-returns-clause-reads

pub expressions::closures::opt_type-returns-then-at-clause-reads : goal.expressions::closures::opt_type-returns-then-at-clause-reads
expressions::closures::opt_type-returns-then-at-clause-reads = atom.expressions::closures::opt_type-returns-then-at-clause-reads

pub expressions::closures::opt_type-returns-else-at-clause-reads : goal.expressions::closures::opt_type-returns-else-at-clause-reads
expressions::closures::opt_type-returns-else-at-clause-reads = atom.expressions::closures::opt_type-returns-else-at-clause-reads

pub expressions::closures::closure_body-returns-then-at_pair-clause-reads : goal.expressions::closures::closure_body-returns-then-at_pair-clause-reads
expressions::closures::closure_body-returns-then-at_pair-clause-reads = atom.expressions::closures::closure_body-returns-then-at_pair-clause-reads

pub expressions::closures::closure_body-returns-clause-reads : goal.expressions::closures::closure_body-returns-clause-reads
expressions::closures::closure_body-returns-clause-reads = atom.expressions::closures::closure_body-returns-clause-reads

pub attributes::attribute-complete-requires : goal.attributes::attribute-complete-requires
attributes::attribute-complete-requires = attributes.attributes::attribute-complete-requires

pub attributes::attribute-returns-clause-gives : goal.attributes::attribute-returns-clause-gives
attributes::attribute-returns-clause-gives = attributes.attributes::attribute-returns-clause-gives

pub attributes::opt_value-returns-then-at-clause-reads : goal.attributes::opt_value-returns-then-at-clause-reads
attributes::opt_value-returns-then-at-clause-reads = attributes.attributes::opt_value-returns-then-at-clause-reads

pub attributes::opt_value-returns-then-at_token_tree-clause-reads : goal.attributes::opt_value-returns-then-at_token_tree-clause-reads
attributes::opt_value-returns-then-at_token_tree-clause-reads = attributes.attributes::opt_value-returns-then-at_token_tree-clause-reads

pub attributes::opt_value-returns-else-at_token_tree-clause-reads : goal.attributes::opt_value-returns-else-at_token_tree-clause-reads
attributes::opt_value-returns-else-at_token_tree-clause-reads = attributes.attributes::opt_value-returns-else-at_token_tree-clause-reads

pub expressions::blocks::statement_turn-returns-then-at_end_of-clause-ends : goal.expressions::blocks::statement_turn-returns-then-at_end_of-clause-ends
expressions::blocks::statement_turn-returns-then-at_end_of-clause-ends = blocks.expressions::blocks::statement_turn-returns-then-at_end_of-clause-ends

pub expressions::blocks::statement_turn-statement-requires : goal.expressions::blocks::statement_turn-statement-requires
expressions::blocks::statement_turn-statement-requires = blocks.expressions::blocks::statement_turn-statement-requires

pub expressions::blocks::statement_turn-returns-clause-goes : goal.expressions::blocks::statement_turn-returns-clause-goes
expressions::blocks::statement_turn-returns-clause-goes = blocks.expressions::blocks::statement_turn-returns-clause-goes

pub expressions::blocks::statement_turn-returns-clause-ends : goal.expressions::blocks::statement_turn-returns-clause-ends
expressions::blocks::statement_turn-returns-clause-ends = blocks.expressions::blocks::statement_turn-returns-clause-ends

pub expressions::blocks::statements-turns-preserved : goal.expressions::blocks::statements-turns-preserved
expressions::blocks::statements-turns-preserved = blocks.expressions::blocks::statements-turns-preserved

pub expressions::blocks::statements-returns-clause-reads : goal.expressions::blocks::statements-returns-clause-reads
expressions::blocks::statements-returns-clause-reads = blocks.expressions::blocks::statements-returns-clause-reads

pub expressions::blocks::statement_list-complete-requires : goal.expressions::blocks::statement_list-complete-requires
expressions::blocks::statement_list-complete-requires = blocks.expressions::blocks::statement_list-complete-requires

pub expressions::blocks::statement_list-returns-clause-gives : goal.expressions::blocks::statement_list-returns-clause-gives
expressions::blocks::statement_list-returns-clause-gives = blocks.expressions::blocks::statement_list-returns-clause-gives

pub expressions::blocks::block-complete-requires : goal.expressions::blocks::block-complete-requires
expressions::blocks::block-complete-requires = blocks.expressions::blocks::block-complete-requires

pub expressions::blocks::block-returns-clause-gives : goal.expressions::blocks::block-returns-clause-gives
expressions::blocks::block-returns-clause-gives = blocks.expressions::blocks::block-returns-clause-gives

pub items::consts::static_item-complete-requires : goal.items::consts::static_item-complete-requires
items::consts::static_item-complete-requires = consts.items::consts::static_item-complete-requires

pub items::consts::static_item-returns-clause-completes : goal.items::consts::static_item-returns-clause-completes
items::consts::static_item-returns-clause-completes = consts.items::consts::static_item-returns-clause-completes

pub items::consts::typed_value-returns-clause-reads : goal.items::consts::typed_value-returns-clause-reads
items::consts::typed_value-returns-clause-reads = consts.items::consts::typed_value-returns-clause-reads

pub items::consts::opt_value-returns-then-at-clause-reads : goal.items::consts::opt_value-returns-then-at-clause-reads
items::consts::opt_value-returns-then-at-clause-reads = consts.items::consts::opt_value-returns-then-at-clause-reads

pub items::consts::opt_value-returns-else-at-clause-reads : goal.items::consts::opt_value-returns-else-at-clause-reads
items::consts::opt_value-returns-else-at-clause-reads = consts.items::consts::opt_value-returns-else-at-clause-reads

pub expressions::control::unsafe_block-complete-requires : goal.expressions::control::unsafe_block-complete-requires
expressions::control::unsafe_block-complete-requires = control.expressions::control::unsafe_block-complete-requires

pub expressions::control::unsafe_block-returns-clause-reads : goal.expressions::control::unsafe_block-returns-clause-reads
expressions::control::unsafe_block-returns-clause-reads = control.expressions::control::unsafe_block-returns-clause-reads

pub expressions::control::match_expr-complete-requires : goal.expressions::control::match_expr-complete-requires
expressions::control::match_expr-complete-requires = control.expressions::control::match_expr-complete-requires

pub expressions::control::match_expr-returns-clause-reads : goal.expressions::control::match_expr-returns-clause-reads
expressions::control::match_expr-returns-clause-reads = control.expressions::control::match_expr-returns-clause-reads

pub expressions::control::if_expr-complete-requires : goal.expressions::control::if_expr-complete-requires
expressions::control::if_expr-complete-requires = control.expressions::control::if_expr-complete-requires

pub expressions::control::if_expr-returns-clause-gives : goal.expressions::control::if_expr-returns-clause-gives
expressions::control::if_expr-returns-clause-gives = control.expressions::control::if_expr-returns-clause-gives

pub expressions::control::opt_else-returns-then-at-clause-reads : goal.expressions::control::opt_else-returns-then-at-clause-reads
expressions::control::opt_else-returns-then-at-clause-reads = control.expressions::control::opt_else-returns-then-at-clause-reads

pub expressions::control::opt_else-returns-else-at-clause-reads : goal.expressions::control::opt_else-returns-else-at-clause-reads
expressions::control::opt_else-returns-else-at-clause-reads = control.expressions::control::opt_else-returns-else-at-clause-reads

pub expressions::control::after_else-returns-then-at-clause-reads : goal.expressions::control::after_else-returns-then-at-clause-reads
expressions::control::after_else-returns-then-at-clause-reads = control.expressions::control::after_else-returns-then-at-clause-reads

pub expressions::control::after_else-returns-clause-reads : goal.expressions::control::after_else-returns-clause-reads
expressions::control::after_else-returns-clause-reads = control.expressions::control::after_else-returns-clause-reads

pub expressions::control::match_arms-complete-requires : goal.expressions::control::match_arms-complete-requires
expressions::control::match_arms-complete-requires = control.expressions::control::match_arms-complete-requires

pub expressions::control::match_arms-returns-clause-gives : goal.expressions::control::match_arms-returns-clause-gives
expressions::control::match_arms-returns-clause-gives = control.expressions::control::match_arms-returns-clause-gives

pub expressions::control::arms-turns-preserved : goal.expressions::control::arms-turns-preserved
expressions::control::arms-turns-preserved = control.expressions::control::arms-turns-preserved

pub expressions::control::arms-returns-clause-reads : goal.expressions::control::arms-returns-clause-reads
expressions::control::arms-returns-clause-reads = control.expressions::control::arms-returns-clause-reads

pub expressions::expect_expression-returns-in-Comparison-clause-reads : goal.expressions::expect_expression-returns-in-Comparison-clause-reads
expressions::expect_expression-returns-in-Comparison-clause-reads = expressions.expressions::expect_expression-returns-in-Comparison-clause-reads

pub expressions::expect_expression-returns-in-Disjunction-clause-reads : goal.expressions::expect_expression-returns-in-Disjunction-clause-reads
expressions::expect_expression-returns-in-Disjunction-clause-reads = expressions.expressions::expect_expression-returns-in-Disjunction-clause-reads

pub expressions::expect_expression-returns-in-Expression-clause-reads : goal.expressions::expect_expression-returns-in-Expression-clause-reads
expressions::expect_expression-returns-in-Expression-clause-reads = expressions.expressions::expect_expression-returns-in-Expression-clause-reads

pub expressions::expect_expression-returns-in-Operation-clause-reads : goal.expressions::expect_expression-returns-in-Operation-clause-reads
expressions::expect_expression-returns-in-Operation-clause-reads = expressions.expressions::expect_expression-returns-in-Operation-clause-reads

pub expressions::expect_expression-returns-in-Prefixed-clause-reads : goal.expressions::expect_expression-returns-in-Prefixed-clause-reads
expressions::expect_expression-returns-in-Prefixed-clause-reads = expressions.expressions::expect_expression-returns-in-Prefixed-clause-reads

pub expressions::expect_any-expression-requires : goal.expressions::expect_any-expression-requires
expressions::expect_any-expression-requires = expressions.expressions::expect_any-expression-requires

pub expressions::expect_any-returns-then-at_expression-clause-reads : goal.expressions::expect_any-returns-then-at_expression-clause-reads
expressions::expect_any-returns-then-at_expression-clause-reads = expressions.expressions::expect_any-returns-then-at_expression-clause-reads

pub expressions::expect_any-returns-clause-reads : goal.expressions::expect_any-returns-clause-reads
expressions::expect_any-returns-clause-reads = expressions.expressions::expect_any-returns-clause-reads

pub expressions::expect_operation-operation-requires : goal.expressions::expect_operation-operation-requires
expressions::expect_operation-operation-requires = expressions.expressions::expect_operation-operation-requires

pub expressions::expect_operation-returns-then-at_operation-clause-reads : goal.expressions::expect_operation-returns-then-at_operation-clause-reads
expressions::expect_operation-returns-then-at_operation-clause-reads = expressions.expressions::expect_operation-returns-then-at_operation-clause-reads

pub expressions::expect_operation-returns-clause-reads : goal.expressions::expect_operation-returns-clause-reads
expressions::expect_operation-returns-clause-reads = expressions.expressions::expect_operation-returns-clause-reads

pub expressions::expect_condition-returns-clause-reads : goal.expressions::expect_condition-returns-clause-reads
expressions::expect_condition-returns-clause-reads = expressions.expressions::expect_condition-returns-clause-reads

pub expressions::expression-operation-requires : goal.expressions::expression-operation-requires
expressions::expression-operation-requires = expressions.expressions::expression-operation-requires

pub expressions::expression-returns-clause-gives : goal.expressions::expression-returns-clause-gives
expressions::expression-returns-clause-gives = expressions.expressions::expression-returns-clause-gives

pub expressions::operation-range-requires : goal.expressions::operation-range-requires
expressions::operation-range-requires = expressions.expressions::operation-range-requires

pub expressions::operation-returns-in-Some-clause-gives : goal.expressions::operation-returns-in-Some-clause-gives
expressions::operation-returns-in-Some-clause-gives = expressions.expressions::operation-returns-in-Some-clause-gives

pub expressions::operation-operands-requires : goal.expressions::operation-operands-requires
expressions::operation-operands-requires = expressions.expressions::operation-operands-requires

pub expressions::operation-returns-in-None-clause-gives : goal.expressions::operation-returns-in-None-clause-gives
expressions::operation-returns-in-None-clause-gives = expressions.expressions::operation-returns-in-None-clause-gives

pub expressions::operands-prefixed-requires : goal.expressions::operands-prefixed-requires
expressions::operands-prefixed-requires = expressions.expressions::operands-prefixed-requires

pub expressions::operands-climb-frame-requires : goal.expressions::operands-climb-frame-requires
expressions::operands-climb-frame-requires = expressions.expressions::operands-climb-frame-requires

pub expressions::operands-operation_tail-frame-requires : goal.expressions::operands-operation_tail-frame-requires
expressions::operands-operation_tail-frame-requires = expressions.expressions::operands-operation_tail-frame-requires

pub expressions::operands-returns-clause-gives : goal.expressions::operands-returns-clause-gives
expressions::operands-returns-clause-gives = expressions.expressions::operands-returns-clause-gives

pub expressions::range-range_end-more-requires : goal.expressions::range-range_end-more-requires
expressions::range-range_end-more-requires = expressions.expressions::range-range_end-more-requires

pub expressions::range-complete-requires : goal.expressions::range-complete-requires
expressions::range-complete-requires = expressions.expressions::range-complete-requires

pub expressions::range-abandon-requires : goal.expressions::range-abandon-requires
expressions::range-abandon-requires = expressions.expressions::range-abandon-requires

pub expressions::range-operation_tail-frame-requires : goal.expressions::range-operation_tail-frame-requires
expressions::range-operation_tail-frame-requires = expressions.expressions::range-operation_tail-frame-requires

pub expressions::range-returns-then-not-more-clause-gives : goal.expressions::range-returns-then-not-more-clause-gives
expressions::range-returns-then-not-more-clause-gives = expressions.expressions::range-returns-then-not-more-clause-gives

pub expressions::range-returns-clause-gives : goal.expressions::range-returns-clause-gives
expressions::range-returns-clause-gives = expressions.expressions::range-returns-clause-gives

pub expressions::range_end-layers-requires : goal.expressions::range_end-layers-requires
expressions::range_end-layers-requires = expressions.expressions::range_end-layers-requires

pub expressions::opt_assignment-wrap-requires : goal.expressions::opt_assignment-wrap-requires
expressions::opt_assignment-wrap-requires = expressions.expressions::opt_assignment-wrap-requires

pub expressions::opt_assignment-returns-then-operator-ne12-clause-reads : goal.expressions::opt_assignment-returns-then-operator-ne12-clause-reads
expressions::opt_assignment-returns-then-operator-ne12-clause-reads = expressions.expressions::opt_assignment-returns-then-operator-ne12-clause-reads

pub expressions::opt_assignment-returns-clause-reads : goal.expressions::opt_assignment-returns-clause-reads
expressions::opt_assignment-returns-clause-reads = expressions.expressions::opt_assignment-returns-clause-reads

pub expressions::pipe_tail-expect_expression-requires : goal.expressions::pipe_tail-expect_expression-requires
expressions::pipe_tail-expect_expression-requires = expressions.expressions::pipe_tail-expect_expression-requires

pub expressions::pipe_tail-wrap-frame-requires : goal.expressions::pipe_tail-wrap-frame-requires
expressions::pipe_tail-wrap-frame-requires = expressions.expressions::pipe_tail-wrap-frame-requires

pub expressions::pipe_tail-opt_assignment-requires : goal.expressions::pipe_tail-opt_assignment-requires
expressions::pipe_tail-opt_assignment-requires = expressions.expressions::pipe_tail-opt_assignment-requires

pub expressions::pipe_tail-pipes-init : goal.expressions::pipe_tail-pipes-init
expressions::pipe_tail-pipes-init = expressions.expressions::pipe_tail-pipes-init

pub expressions::pipe_tail-pipes-preserved : goal.expressions::pipe_tail-pipes-preserved
expressions::pipe_tail-pipes-preserved = expressions.expressions::pipe_tail-pipes-preserved

pub expressions::pipe_tail-returns-clause-reads : goal.expressions::pipe_tail-returns-clause-reads
expressions::pipe_tail-returns-clause-reads = expressions.expressions::pipe_tail-returns-clause-reads

pub expressions::pipe_tail-returns-clause-asks : goal.expressions::pipe_tail-returns-clause-asks
expressions::pipe_tail-returns-clause-asks = expressions.expressions::pipe_tail-returns-clause-asks

pub expressions::operation_tail-ranges-2-init : goal.expressions::operation_tail-ranges-2-init
expressions::operation_tail-ranges-2-init = expressions.expressions::operation_tail-ranges-2-init

pub expressions::operation_tail-ranges-2-preserved : goal.expressions::operation_tail-ranges-2-preserved
expressions::operation_tail-ranges-2-preserved = expressions.expressions::operation_tail-ranges-2-preserved

pub expressions::operation_tail-returns-then-not-more-clause-reads : goal.expressions::operation_tail-returns-then-not-more-clause-reads
expressions::operation_tail-returns-then-not-more-clause-reads = expressions.expressions::operation_tail-returns-then-not-more-clause-reads

pub expressions::operation_tail-returns-clause-reads : goal.expressions::operation_tail-returns-clause-reads
expressions::operation_tail-returns-clause-reads = expressions.expressions::operation_tail-returns-clause-reads

pub expressions::operation_tail-returns-clause-asks : goal.expressions::operation_tail-returns-clause-asks
expressions::operation_tail-returns-clause-asks = expressions.expressions::operation_tail-returns-clause-asks

pub fields::field_value-named_value-requires : goal.fields::field_value-named_value-requires
fields::field_value-named_value-requires = fields.fields::field_value-named_value-requires

pub fields::field_value-other_fields-requires : goal.fields::field_value-other_fields-requires
fields::field_value-other_fields-requires = fields.fields::field_value-other_fields-requires

pub fields::named_value-complete-requires : goal.fields::named_value-complete-requires
fields::named_value-complete-requires = fields.fields::named_value-complete-requires

pub fields::named_value-returns-clause-reads : goal.fields::named_value-returns-clause-reads
fields::named_value-returns-clause-reads = fields.fields::named_value-returns-clause-reads

pub fields::other_fields-returns-clause-reads : goal.fields::other_fields-returns-clause-reads
fields::other_fields-returns-clause-reads = fields.fields::other_fields-returns-clause-reads

pub fields::opt_expression-expression-requires : goal.fields::opt_expression-expression-requires
fields::opt_expression-expression-requires = fields.fields::opt_expression-expression-requires

pub fields::opt_expression-returns-then-at_expression-clause-reads : goal.fields::opt_expression-returns-then-at_expression-clause-reads
fields::opt_expression-returns-then-at_expression-clause-reads = fields.fields::opt_expression-returns-then-at_expression-clause-reads

pub fields::opt_expression-returns-else-at_expression-clause-reads : goal.fields::opt_expression-returns-else-at_expression-clause-reads
fields::opt_expression-returns-else-at_expression-clause-reads = fields.fields::opt_expression-returns-else-at_expression-clause-reads

pub fields::path_value-path_with_args-requires : goal.fields::path_value-path_with_args-requires
fields::path_value-path_with_args-requires = fields.fields::path_value-path_with_args-requires

pub fields::path_value-complete-requires : goal.fields::path_value-complete-requires
fields::path_value-complete-requires = fields.fields::path_value-complete-requires

pub fields::path_value-complete-requires-2 : goal.fields::path_value-complete-requires-2
fields::path_value-complete-requires-2 = fields.fields::path_value-complete-requires-2

pub fields::path_value-returns-clause-reads : goal.fields::path_value-returns-clause-reads
fields::path_value-returns-clause-reads = fields.fields::path_value-returns-clause-reads

pub fields::named_pattern-complete-requires : goal.fields::named_pattern-complete-requires
fields::named_pattern-complete-requires = fields.fields::named_pattern-complete-requires

pub fields::named_pattern-returns-clause-reads : goal.fields::named_pattern-returns-clause-reads
fields::named_pattern-returns-clause-reads = fields.fields::named_pattern-returns-clause-reads

pub items::functions::fn_item-fn_words-requires : goal.items::functions::fn_item-fn_words-requires
items::functions::fn_item-fn_words-requires = functions.items::functions::fn_item-fn_words-requires

pub items::functions::fn_body-returns-then-at-clause-reads : goal.items::functions::fn_body-returns-then-at-clause-reads
items::functions::fn_body-returns-then-at-clause-reads = functions.items::functions::fn_body-returns-then-at-clause-reads

pub items::functions::fn_body-returns-clause-reads : goal.items::functions::fn_body-returns-clause-reads
items::functions::fn_body-returns-clause-reads = functions.items::functions::fn_body-returns-clause-reads

pub generic_args::word_arg-assoc_type_arg-requires : goal.generic_args::word_arg-assoc_type_arg-requires
generic_args::word_arg-assoc_type_arg-requires = generic_args.generic_args::word_arg-assoc_type_arg-requires

pub generic_args::assoc_type_arg-complete-requires : goal.generic_args::assoc_type_arg-complete-requires
generic_args::assoc_type_arg-complete-requires = generic_args.generic_args::assoc_type_arg-complete-requires

pub generic_args::assoc_type_arg-returns-clause-reads : goal.generic_args::assoc_type_arg-returns-clause-reads
generic_args::assoc_type_arg-returns-clause-reads = generic_args.generic_args::assoc_type_arg-returns-clause-reads

pub generic_args::type_arg-complete-requires : goal.generic_args::type_arg-complete-requires
generic_args::type_arg-complete-requires = generic_args.generic_args::type_arg-complete-requires

pub generic_args::type_arg-returns-clause-reads : goal.generic_args::type_arg-returns-clause-reads
generic_args::type_arg-returns-clause-reads = generic_args.generic_args::type_arg-returns-clause-reads

pub const_args::expect_const_arg-returns-then-at_const_arg-clause-reads : goal.const_args::expect_const_arg-returns-then-at_const_arg-clause-reads
const_args::expect_const_arg-returns-then-at_const_arg-clause-reads = const_args.const_args::expect_const_arg-returns-then-at_const_arg-clause-reads

pub const_args::expect_const_arg-returns-clause-reads : goal.const_args::expect_const_arg-returns-clause-reads
const_args::expect_const_arg-returns-clause-reads = const_args.const_args::expect_const_arg-returns-clause-reads

pub const_args::const_arg-complete-requires : goal.const_args::const_arg-complete-requires
const_args::const_arg-complete-requires = const_args.const_args::const_arg-complete-requires

pub const_args::const_arg-returns-clause-reads : goal.const_args::const_arg-returns-clause-reads
const_args::const_arg-returns-clause-reads = const_args.const_args::const_arg-returns-clause-reads

pub const_args::const_value-returns-then-at-clause-reads : goal.const_args::const_value-returns-then-at-clause-reads
const_args::const_value-returns-then-at-clause-reads = const_args.const_args::const_value-returns-then-at-clause-reads

pub const_args::const_value-returns-then-at_literal-clause-reads : goal.const_args::const_value-returns-then-at_literal-clause-reads
const_args::const_value-returns-then-at_literal-clause-reads = const_args.const_args::const_value-returns-then-at_literal-clause-reads

pub const_args::const_value-returns-then-at_negated-clause-reads : goal.const_args::const_value-returns-then-at_negated-clause-reads
const_args::const_value-returns-then-at_negated-clause-reads = const_args.const_args::const_value-returns-then-at_negated-clause-reads

pub const_args::const_value-returns-clause-reads : goal.const_args::const_value-returns-clause-reads
const_args::const_value-returns-clause-reads = const_args.const_args::const_value-returns-clause-reads

pub const_args::const_path-complete-requires : goal.const_args::const_path-complete-requires
const_args::const_path-complete-requires = const_args.const_args::const_path-complete-requires

pub const_args::const_path-returns-clause-reads : goal.const_args::const_path-returns-clause-reads
const_args::const_path-returns-clause-reads = const_args.const_args::const_path-returns-clause-reads

pub const_args::expr_path-path_with_args-requires : goal.const_args::expr_path-path_with_args-requires
const_args::expr_path-path_with_args-requires = const_args.const_args::expr_path-path_with_args-requires

pub const_args::expr_path-returns-then-at_path-clause-gives : goal.const_args::expr_path-returns-then-at_path-clause-gives
const_args::expr_path-returns-then-at_path-clause-gives = const_args.const_args::expr_path-returns-then-at_path-clause-gives

pub const_args::expr_path-missing_expr_path-requires : goal.const_args::expr_path-missing_expr_path-requires
const_args::expr_path-missing_expr_path-requires = const_args.const_args::expr_path-missing_expr_path-requires

pub const_args::expr_path-returns-clause-gives : goal.const_args::expr_path-returns-clause-gives
const_args::expr_path-returns-clause-gives = const_args.const_args::expr_path-returns-clause-gives

pub generic_params::bound-plain_bound-requires : goal.generic_params::bound-plain_bound-requires
generic_params::bound-plain_bound-requires = generic_params.generic_params::bound-plain_bound-requires

pub generic_params::bound-returns-then-at_new_bound-clause-gives : goal.generic_params::bound-returns-then-at_new_bound-clause-gives
generic_params::bound-returns-then-at_new_bound-clause-gives = generic_params.generic_params::bound-returns-then-at_new_bound-clause-gives

pub generic_params::bound-returns-clause-gives : goal.generic_params::bound-returns-clause-gives
generic_params::bound-returns-clause-gives = generic_params.generic_params::bound-returns-clause-gives

pub generic_params::plain_bound-lifetime_or_path-requires : goal.generic_params::plain_bound-lifetime_or_path-requires
generic_params::plain_bound-lifetime_or_path-requires = generic_params.generic_params::plain_bound-lifetime_or_path-requires

pub generic_params::plain_bound-complete-requires : goal.generic_params::plain_bound-complete-requires
generic_params::plain_bound-complete-requires = generic_params.generic_params::plain_bound-complete-requires

pub generic_params::plain_bound-returns-clause-reads : goal.generic_params::plain_bound-returns-clause-reads
generic_params::plain_bound-returns-clause-reads = generic_params.generic_params::plain_bound-returns-clause-reads

pub generic_params::lifetime_or_path-returns-in-LIFETIME_IDENT-clause-reads : goal.generic_params::lifetime_or_path-returns-in-LIFETIME_IDENT-clause-reads
generic_params::lifetime_or_path-returns-in-LIFETIME_IDENT-clause-reads = generic_params.generic_params::lifetime_or_path-returns-in-LIFETIME_IDENT-clause-reads

pub generic_params::lifetime_or_path-returns-in-QUESTION-clause-reads : goal.generic_params::lifetime_or_path-returns-in-QUESTION-clause-reads
generic_params::lifetime_or_path-returns-in-QUESTION-clause-reads = generic_params.generic_params::lifetime_or_path-returns-in-QUESTION-clause-reads

pub generic_params::lifetime_or_path-lifetime-requires : goal.generic_params::lifetime_or_path-lifetime-requires
generic_params::lifetime_or_path-lifetime-requires = generic_params.generic_params::lifetime_or_path-lifetime-requires

pub generic_params::lifetime_or_path-path_after_question-requires : goal.generic_params::lifetime_or_path-path_after_question-requires
generic_params::lifetime_or_path-path_after_question-requires = generic_params.generic_params::lifetime_or_path-path_after_question-requires

pub generic_params::lifetime_or_path-path_type-requires : goal.generic_params::lifetime_or_path-path_type-requires
generic_params::lifetime_or_path-path_type-requires = generic_params.generic_params::lifetime_or_path-path_type-requires

pub generic_params::lifetime_or_path-returns-in_default-clause-reads : goal.generic_params::lifetime_or_path-returns-in_default-clause-reads
generic_params::lifetime_or_path-returns-in_default-clause-reads = generic_params.generic_params::lifetime_or_path-returns-in_default-clause-reads

pub generic_params::path_after_question-returns-clause-reads : goal.generic_params::path_after_question-returns-clause-reads
generic_params::path_after_question-returns-clause-reads = generic_params.generic_params::path_after_question-returns-clause-reads

pub generic_params::bounds-complete-requires : goal.generic_params::bounds-complete-requires
generic_params::bounds-complete-requires = generic_params.generic_params::bounds-complete-requires

pub generic_params::bounds-returns-clause-gives : goal.generic_params::bounds-returns-clause-gives
generic_params::bounds-returns-clause-gives = generic_params.generic_params::bounds-returns-clause-gives

pub generic_params::opt_bounds-bound-requires : goal.generic_params::opt_bounds-bound-requires
generic_params::opt_bounds-bound-requires = generic_params.generic_params::opt_bounds-bound-requires

pub generic_params::opt_bounds-returns-then-at_bound-clause-reads : goal.generic_params::opt_bounds-returns-then-at_bound-clause-reads
generic_params::opt_bounds-returns-then-at_bound-clause-reads = generic_params.generic_params::opt_bounds-returns-then-at_bound-clause-reads

pub generic_params::opt_bounds-returns-else-at_bound-clause-reads : goal.generic_params::opt_bounds-returns-else-at_bound-clause-reads
generic_params::opt_bounds-returns-else-at_bound-clause-reads = generic_params.generic_params::opt_bounds-returns-else-at_bound-clause-reads

pub generic_params::further_bounds-turns-preserved : goal.generic_params::further_bounds-turns-preserved
generic_params::further_bounds-turns-preserved = generic_params.generic_params::further_bounds-turns-preserved

pub generic_params::further_bounds-returns-clause-reads : goal.generic_params::further_bounds-returns-clause-reads
generic_params::further_bounds-returns-clause-reads = generic_params.generic_params::further_bounds-returns-clause-reads

pub generic_params::further_bound-returns-clause-reads : goal.generic_params::further_bound-returns-clause-reads
generic_params::further_bound-returns-clause-reads = generic_params.generic_params::further_bound-returns-clause-reads

pub generic_params::opt_bound-bound-requires : goal.generic_params::opt_bound-bound-requires
generic_params::opt_bound-bound-requires = generic_params.generic_params::opt_bound-bound-requires

pub generic_params::opt_bound-returns-then-at_bound-clause-reads : goal.generic_params::opt_bound-returns-then-at_bound-clause-reads
generic_params::opt_bound-returns-then-at_bound-clause-reads = generic_params.generic_params::opt_bound-returns-then-at_bound-clause-reads

pub generic_params::opt_bound-returns-else-at_bound-clause-reads : goal.generic_params::opt_bound-returns-else-at_bound-clause-reads
generic_params::opt_bound-returns-else-at_bound-clause-reads = generic_params.generic_params::opt_bound-returns-else-at_bound-clause-reads

pub generic_params::bounds_after_colon-returns-then-at-clause-reads : goal.generic_params::bounds_after_colon-returns-then-at-clause-reads
generic_params::bounds_after_colon-returns-then-at-clause-reads = generic_params.generic_params::bounds_after_colon-returns-then-at-clause-reads

pub generic_params::bounds_after_colon-returns-else-at-clause-reads : goal.generic_params::bounds_after_colon-returns-else-at-clause-reads
generic_params::bounds_after_colon-returns-else-at-clause-reads = generic_params.generic_params::bounds_after_colon-returns-else-at-clause-reads

pub generic_params::for_binder-returns-clause-reads : goal.generic_params::for_binder-returns-clause-reads
generic_params::for_binder-returns-clause-reads = generic_params.generic_params::for_binder-returns-clause-reads

pub generic_params::lifetime_and_bounds-returns-clause-reads : goal.generic_params::lifetime_and_bounds-returns-clause-reads
generic_params::lifetime_and_bounds-returns-clause-reads = generic_params.generic_params::lifetime_and_bounds-returns-clause-reads

pub generic_params::lifetime_param-complete-requires : goal.generic_params::lifetime_param-complete-requires
generic_params::lifetime_param-complete-requires = generic_params.generic_params::lifetime_param-complete-requires

pub generic_params::lifetime_param-returns-clause-reads : goal.generic_params::lifetime_param-returns-clause-reads
generic_params::lifetime_param-returns-clause-reads = generic_params.generic_params::lifetime_param-returns-clause-reads

pub generic_params::type_param-complete-requires : goal.generic_params::type_param-complete-requires
generic_params::type_param-complete-requires = generic_params.generic_params::type_param-complete-requires

pub generic_params::type_param-returns-clause-reads : goal.generic_params::type_param-returns-clause-reads
generic_params::type_param-returns-clause-reads = generic_params.generic_params::type_param-returns-clause-reads

pub generic_params::generic_param-returns-then-at_new_param-clause-gives : goal.generic_params::generic_param-returns-then-at_new_param-clause-gives
generic_params::generic_param-returns-then-at_new_param-clause-gives = generic_params.generic_params::generic_param-returns-then-at_new_param-clause-gives

pub generic_params::generic_param-returns-then-at-clause-gives : goal.generic_params::generic_param-returns-then-at-clause-gives
generic_params::generic_param-returns-then-at-clause-gives = generic_params.generic_params::generic_param-returns-then-at-clause-gives

pub generic_params::generic_param-returns-clause-gives : goal.generic_params::generic_param-returns-clause-gives
generic_params::generic_param-returns-clause-gives = generic_params.generic_params::generic_param-returns-clause-gives

pub generic_params::lifetime_or_type-lifetime-requires : goal.generic_params::lifetime_or_type-lifetime-requires
generic_params::lifetime_or_type-lifetime-requires = generic_params.generic_params::lifetime_or_type-lifetime-requires

pub generic_params::lifetime_or_type-any_type-requires : goal.generic_params::lifetime_or_type-any_type-requires
generic_params::lifetime_or_type-any_type-requires = generic_params.generic_params::lifetime_or_type-any_type-requires

pub generic_params::lifetime_or_type-returns-then-at-clause-reads : goal.generic_params::lifetime_or_type-returns-then-at-clause-reads
generic_params::lifetime_or_type-returns-then-at-clause-reads = generic_params.generic_params::lifetime_or_type-returns-then-at-clause-reads

pub generic_params::lifetime_or_type-returns-clause-reads : goal.generic_params::lifetime_or_type-returns-clause-reads
generic_params::lifetime_or_type-returns-clause-reads = generic_params.generic_params::lifetime_or_type-returns-clause-reads

pub generic_params::pred_bounds-returns-clause-reads : goal.generic_params::pred_bounds-returns-clause-reads
generic_params::pred_bounds-returns-clause-reads = generic_params.generic_params::pred_bounds-returns-clause-reads

pub generic_params::where_pred-binder_pred-requires : goal.generic_params::where_pred-binder_pred-requires
generic_params::where_pred-binder_pred-requires = generic_params.generic_params::where_pred-binder_pred-requires

pub generic_params::where_pred-plain_pred-requires : goal.generic_params::where_pred-plain_pred-requires
generic_params::where_pred-plain_pred-requires = generic_params.generic_params::where_pred-plain_pred-requires

pub generic_params::where_pred-returns-then-at_new_pred-clause-gives : goal.generic_params::where_pred-returns-then-at_new_pred-clause-gives
generic_params::where_pred-returns-then-at_new_pred-clause-gives = generic_params.generic_params::where_pred-returns-then-at_new_pred-clause-gives

pub generic_params::where_pred-returns-clause-gives : goal.generic_params::where_pred-returns-clause-gives
generic_params::where_pred-returns-clause-gives = generic_params.generic_params::where_pred-returns-clause-gives

pub generic_params::binder_pred-complete-requires : goal.generic_params::binder_pred-complete-requires
generic_params::binder_pred-complete-requires = generic_params.generic_params::binder_pred-complete-requires

pub generic_params::binder_pred-returns-clause-reads : goal.generic_params::binder_pred-returns-clause-reads
generic_params::binder_pred-returns-clause-reads = generic_params.generic_params::binder_pred-returns-clause-reads

pub generic_params::plain_pred-lifetime_or_type-requires : goal.generic_params::plain_pred-lifetime_or_type-requires
generic_params::plain_pred-lifetime_or_type-requires = generic_params.generic_params::plain_pred-lifetime_or_type-requires

pub generic_params::plain_pred-complete-requires : goal.generic_params::plain_pred-complete-requires
generic_params::plain_pred-complete-requires = generic_params.generic_params::plain_pred-complete-requires

pub generic_params::plain_pred-returns-clause-reads : goal.generic_params::plain_pred-returns-clause-reads
generic_params::plain_pred-returns-clause-reads = generic_params.generic_params::plain_pred-returns-clause-reads

pub generic_params::where_clause-complete-requires : goal.generic_params::where_clause-complete-requires
generic_params::where_clause-complete-requires = generic_params.generic_params::where_clause-complete-requires

pub generic_params::where_clause-returns-clause-gives : goal.generic_params::where_clause-returns-clause-gives
generic_params::where_clause-returns-clause-gives = generic_params.generic_params::where_clause-returns-clause-gives

pub generic_params::opt_preds-where_pred-requires : goal.generic_params::opt_preds-where_pred-requires
generic_params::opt_preds-where_pred-requires = generic_params.generic_params::opt_preds-where_pred-requires

pub generic_params::opt_preds-returns-then-at_where_pred-clause-reads : goal.generic_params::opt_preds-returns-then-at_where_pred-clause-reads
generic_params::opt_preds-returns-then-at_where_pred-clause-reads = generic_params.generic_params::opt_preds-returns-then-at_where_pred-clause-reads

pub generic_params::opt_preds-returns-else-at_where_pred-clause-reads : goal.generic_params::opt_preds-returns-else-at_where_pred-clause-reads
generic_params::opt_preds-returns-else-at_where_pred-clause-reads = generic_params.generic_params::opt_preds-returns-else-at_where_pred-clause-reads

pub generic_params::further_preds-turns-preserved : goal.generic_params::further_preds-turns-preserved
generic_params::further_preds-turns-preserved = generic_params.generic_params::further_preds-turns-preserved

pub generic_params::further_preds-returns-clause-reads : goal.generic_params::further_preds-returns-clause-reads
generic_params::further_preds-returns-clause-reads = generic_params.generic_params::further_preds-returns-clause-reads

pub generic_params::further_pred-returns-clause-reads : goal.generic_params::further_pred-returns-clause-reads
generic_params::further_pred-returns-clause-reads = generic_params.generic_params::further_pred-returns-clause-reads

pub new_bounds::new_bound-complete-requires : goal.new_bounds::new_bound-complete-requires
new_bounds::new_bound-complete-requires = new_bounds.new_bounds::new_bound-complete-requires

pub new_bounds::new_bound-returns-clause-reads : goal.new_bounds::new_bound-returns-clause-reads
new_bounds::new_bound-returns-clause-reads = new_bounds.new_bounds::new_bound-returns-clause-reads

pub new_bounds::maybe_in_parens-returns-then-at-clause-reads : goal.new_bounds::maybe_in_parens-returns-then-at-clause-reads
new_bounds::maybe_in_parens-returns-then-at-clause-reads = new_bounds.new_bounds::maybe_in_parens-returns-then-at-clause-reads

pub new_bounds::maybe_in_parens-returns-clause-reads : goal.new_bounds::maybe_in_parens-returns-clause-reads
new_bounds::maybe_in_parens-returns-clause-reads = new_bounds.new_bounds::maybe_in_parens-returns-clause-reads

pub new_bounds::in_parens-returns-clause-reads : goal.new_bounds::in_parens-returns-clause-reads
new_bounds::in_parens-returns-clause-reads = new_bounds.new_bounds::in_parens-returns-clause-reads

pub new_bounds::bound_inside-returns-then-at-clause-reads : goal.new_bounds::bound_inside-returns-then-at-clause-reads
new_bounds::bound_inside-returns-then-at-clause-reads = new_bounds.new_bounds::bound_inside-returns-then-at-clause-reads

pub new_bounds::bound_inside-returns-then-at_captures-clause-reads : goal.new_bounds::bound_inside-returns-then-at_captures-clause-reads
new_bounds::bound_inside-returns-then-at_captures-clause-reads = new_bounds.new_bounds::bound_inside-returns-then-at_captures-clause-reads

pub new_bounds::bound_inside-returns-clause-reads : goal.new_bounds::bound_inside-returns-clause-reads
new_bounds::bound_inside-returns-clause-reads = new_bounds.new_bounds::bound_inside-returns-clause-reads

pub new_bounds::use_captures-returns-clause-reads : goal.new_bounds::use_captures-returns-clause-reads
new_bounds::use_captures-returns-clause-reads = new_bounds.new_bounds::use_captures-returns-clause-reads

pub new_bounds::words_and_path-returns-clause-reads : goal.new_bounds::words_and_path-returns-clause-reads
new_bounds::words_and_path-returns-clause-reads = new_bounds.new_bounds::words_and_path-returns-clause-reads

pub new_bounds::opt_binder-returns-then-at_binder-clause-reads : goal.new_bounds::opt_binder-returns-then-at_binder-clause-reads
new_bounds::opt_binder-returns-then-at_binder-clause-reads = new_bounds.new_bounds::opt_binder-returns-then-at_binder-clause-reads

pub new_bounds::opt_binder-returns-else-at_binder-clause-reads : goal.new_bounds::opt_binder-returns-else-at_binder-clause-reads
new_bounds::opt_binder-returns-else-at_binder-clause-reads = new_bounds.new_bounds::opt_binder-returns-else-at_binder-clause-reads

pub new_params::new_param-returns-then-at-clause-from_start : goal.new_params::new_param-returns-then-at-clause-from_start
new_params::new_param-returns-then-at-clause-from_start = new_params.new_params::new_param-returns-then-at-clause-from_start

pub new_params::new_param-returns-clause-from_start : goal.new_params::new_param-returns-clause-from_start
new_params::new_param-returns-clause-from_start = new_params.new_params::new_param-returns-clause-from_start

pub new_params::const_param-complete-requires : goal.new_params::const_param-complete-requires
new_params::const_param-complete-requires = new_params.new_params::const_param-complete-requires

pub new_params::const_param-returns-clause-reads : goal.new_params::const_param-returns-clause-reads
new_params::const_param-returns-clause-reads = new_params.new_params::const_param-returns-clause-reads

pub new_params::inside_const_param-returns-clause-reads : goal.new_params::inside_const_param-returns-clause-reads
new_params::inside_const_param-returns-clause-reads = new_params.new_params::inside_const_param-returns-clause-reads

pub new_params::const_default-returns-then-at-clause-reads : goal.new_params::const_default-returns-then-at-clause-reads
new_params::const_default-returns-then-at-clause-reads = new_params.new_params::const_default-returns-then-at-clause-reads

pub new_params::const_default-returns-else-at-clause-reads : goal.new_params::const_default-returns-else-at-clause-reads
new_params::const_default-returns-else-at-clause-reads = new_params.new_params::const_default-returns-else-at-clause-reads

pub new_params::attributed_param-after_attributes-requires : goal.new_params::attributed_param-after_attributes-requires
new_params::attributed_param-after_attributes-requires = new_params.new_params::attributed_param-after_attributes-requires

pub new_params::attributed_param-returns-clause-from_start : goal.new_params::attributed_param-returns-clause-from_start
new_params::attributed_param-returns-clause-from_start = new_params.new_params::attributed_param-returns-clause-from_start

pub new_params::after_attributes-complete-requires : goal.new_params::after_attributes-complete-requires
new_params::after_attributes-complete-requires = new_params.new_params::after_attributes-complete-requires

pub new_params::after_attributes-complete-requires-in-CONST_KW : goal.new_params::after_attributes-complete-requires-in-CONST_KW
new_params::after_attributes-complete-requires-in-CONST_KW = new_params.new_params::after_attributes-complete-requires-in-CONST_KW

pub new_params::after_attributes-complete-requires-in_default : goal.new_params::after_attributes-complete-requires-in_default
new_params::after_attributes-complete-requires-in_default = new_params.new_params::after_attributes-complete-requires-in_default

pub new_params::after_attributes-returns-in-LIFETIME_IDENT-clause-completes : goal.new_params::after_attributes-returns-in-LIFETIME_IDENT-clause-completes
new_params::after_attributes-returns-in-LIFETIME_IDENT-clause-completes = new_params.new_params::after_attributes-returns-in-LIFETIME_IDENT-clause-completes

pub new_params::after_attributes-returns-in-CONST_KW-clause-completes : goal.new_params::after_attributes-returns-in-CONST_KW-clause-completes
new_params::after_attributes-returns-in-CONST_KW-clause-completes = new_params.new_params::after_attributes-returns-in-CONST_KW-clause-completes

pub new_params::after_attributes-returns-in_default-clause-completes : goal.new_params::after_attributes-returns-in_default-clause-completes
new_params::after_attributes-returns-in_default-clause-completes = new_params.new_params::after_attributes-returns-in_default-clause-completes

pub new_params::inside_type_param-returns-clause-reads : goal.new_params::inside_type_param-returns-clause-reads
new_params::inside_type_param-returns-clause-reads = new_params.new_params::inside_type_param-returns-clause-reads

pub items::item-attributed_item-requires : goal.items::item-attributed_item-requires
items::item-attributed_item-requires = items.items::item-attributed_item-requires

pub items::item-visible_item-requires : goal.items::item-visible_item-requires
items::item-visible_item-requires = items.items::item-visible_item-requires

pub items::item-bare_item-requires : goal.items::item-bare_item-requires
items::item-bare_item-requires = items.items::item-bare_item-requires

pub items::item-returns-in-POUND-clause-gives : goal.items::item-returns-in-POUND-clause-gives
items::item-returns-in-POUND-clause-gives = items.items::item-returns-in-POUND-clause-gives

pub items::item-returns-in-PUB_KW-clause-gives : goal.items::item-returns-in-PUB_KW-clause-gives
items::item-returns-in-PUB_KW-clause-gives = items.items::item-returns-in-PUB_KW-clause-gives

pub items::item-returns-in_default-clause-gives : goal.items::item-returns-in_default-clause-gives
items::item-returns-in_default-clause-gives = items.items::item-returns-in_default-clause-gives

pub items::attributed_item-attributes_and_visibility-requires : goal.items::attributed_item-attributes_and_visibility-requires
items::attributed_item-attributes_and_visibility-requires = items.items::attributed_item-attributes_and_visibility-requires

pub items::attributed_item-body-requires : goal.items::attributed_item-body-requires
items::attributed_item-body-requires = items.items::attributed_item-body-requires

pub items::attributed_item-returns-clause-from_start : goal.items::attributed_item-returns-clause-from_start
items::attributed_item-returns-clause-from_start = items.items::attributed_item-returns-clause-from_start

pub items::attributes_and_visibility-returns-clause-reads : goal.items::attributes_and_visibility-returns-clause-reads
items::attributes_and_visibility-returns-clause-reads = items.items::attributes_and_visibility-returns-clause-reads

pub items::visible_item-body-requires : goal.items::visible_item-body-requires
items::visible_item-body-requires = items.items::visible_item-body-requires

pub items::visible_item-returns-clause-from_start : goal.items::visible_item-returns-clause-from_start
items::visible_item-returns-clause-from_start = items.items::visible_item-returns-clause-from_start

pub items::bare_item-body-requires : goal.items::bare_item-body-requires
items::bare_item-body-requires = items.items::bare_item-body-requires

pub items::bare_item-returns-clause-from_start : goal.items::bare_item-returns-clause-from_start
items::bare_item-returns-clause-from_start = items.items::bare_item-returns-clause-from_start

pub items::bare_item-returns-clause-takes : goal.items::bare_item-returns-clause-takes
items::bare_item-returns-clause-takes = items.items::bare_item-returns-clause-takes

pub items::attributes-turns-preserved : goal.items::attributes-turns-preserved
items::attributes-turns-preserved = items.items::attributes-turns-preserved

pub items::attributes-returns-clause-reads : goal.items::attributes-returns-clause-reads
items::attributes-returns-clause-reads = items.items::attributes-returns-clause-reads

pub items::plain_body-module-requires : goal.items::plain_body-module-requires
items::plain_body-module-requires = items.items::plain_body-module-requires

pub items::plain_body-returns-in-MOD_KW-clause-completes : goal.items::plain_body-returns-in-MOD_KW-clause-completes
items::plain_body-returns-in-MOD_KW-clause-completes = items.items::plain_body-returns-in-MOD_KW-clause-completes

pub items::plain_body-use_item-requires : goal.items::plain_body-use_item-requires
items::plain_body-use_item-requires = items.items::plain_body-use_item-requires

pub items::plain_body-returns-in-USE_KW-clause-completes : goal.items::plain_body-returns-in-USE_KW-clause-completes
items::plain_body-returns-in-USE_KW-clause-completes = items.items::plain_body-returns-in-USE_KW-clause-completes

pub items::plain_body-struct_item-requires : goal.items::plain_body-struct_item-requires
items::plain_body-struct_item-requires = items.items::plain_body-struct_item-requires

pub items::plain_body-returns-in-STRUCT_KW-clause-completes : goal.items::plain_body-returns-in-STRUCT_KW-clause-completes
items::plain_body-returns-in-STRUCT_KW-clause-completes = items.items::plain_body-returns-in-STRUCT_KW-clause-completes

pub items::plain_body-enum_item-requires : goal.items::plain_body-enum_item-requires
items::plain_body-enum_item-requires = items.items::plain_body-enum_item-requires

pub items::plain_body-returns-in-ENUM_KW-clause-completes : goal.items::plain_body-returns-in-ENUM_KW-clause-completes
items::plain_body-returns-in-ENUM_KW-clause-completes = items.items::plain_body-returns-in-ENUM_KW-clause-completes

pub items::plain_body-static_item-requires : goal.items::plain_body-static_item-requires
items::plain_body-static_item-requires = items.items::plain_body-static_item-requires

pub items::plain_body-returns-in-STATIC_KW-clause-completes : goal.items::plain_body-returns-in-STATIC_KW-clause-completes
items::plain_body-returns-in-STATIC_KW-clause-completes = items.items::plain_body-returns-in-STATIC_KW-clause-completes

pub items::plain_body-type_alias-requires : goal.items::plain_body-type_alias-requires
items::plain_body-type_alias-requires = items.items::plain_body-type_alias-requires

pub items::plain_body-returns-in-TYPE_KW-clause-completes : goal.items::plain_body-returns-in-TYPE_KW-clause-completes
items::plain_body-returns-in-TYPE_KW-clause-completes = items.items::plain_body-returns-in-TYPE_KW-clause-completes

pub items::plain_body-returns-then-at_fn-clause-completes : goal.items::plain_body-returns-then-at_fn-clause-completes
items::plain_body-returns-then-at_fn-clause-completes = items.items::plain_body-returns-then-at_fn-clause-completes

pub items::plain_body-fn_item-requires : goal.items::plain_body-fn_item-requires
items::plain_body-fn_item-requires = items.items::plain_body-fn_item-requires

pub items::plain_body-returns-then-at-clause-completes : goal.items::plain_body-returns-then-at-clause-completes
items::plain_body-returns-then-at-clause-completes = items.items::plain_body-returns-then-at-clause-completes

pub items::plain_body-const_item-requires : goal.items::plain_body-const_item-requires
items::plain_body-const_item-requires = items.items::plain_body-const_item-requires

pub items::plain_body-returns-then-at_unsafe-clause-completes : goal.items::plain_body-returns-then-at_unsafe-clause-completes
items::plain_body-returns-then-at_unsafe-clause-completes = items.items::plain_body-returns-then-at_unsafe-clause-completes

pub items::plain_body-impl_item-requires : goal.items::plain_body-impl_item-requires
items::plain_body-impl_item-requires = items.items::plain_body-impl_item-requires

pub items::plain_body-returns-then-at_unsafe-2-clause-completes : goal.items::plain_body-returns-then-at_unsafe-2-clause-completes
items::plain_body-returns-then-at_unsafe-2-clause-completes = items.items::plain_body-returns-then-at_unsafe-2-clause-completes

pub items::plain_body-trait_item-requires : goal.items::plain_body-trait_item-requires
items::plain_body-trait_item-requires = items.items::plain_body-trait_item-requires

pub items::plain_body-returns-then-at_path-clause-completes : goal.items::plain_body-returns-then-at_path-clause-completes
items::plain_body-returns-then-at_path-clause-completes = items.items::plain_body-returns-then-at_path-clause-completes

pub items::plain_body-path_item-requires : goal.items::plain_body-path_item-requires
items::plain_body-path_item-requires = items.items::plain_body-path_item-requires

pub items::plain_body-returns-else-at_path-clause-completes : goal.items::plain_body-returns-else-at_path-clause-completes
items::plain_body-returns-else-at_path-clause-completes = items.items::plain_body-returns-else-at_path-clause-completes

pub items::plain_body-no_item-requires : goal.items::plain_body-no_item-requires
items::plain_body-no_item-requires = items.items::plain_body-no_item-requires

pub items::plain_body-returns-else-at_path-clause-takes : goal.items::plain_body-returns-else-at_path-clause-takes
items::plain_body-returns-else-at_path-clause-takes = items.items::plain_body-returns-else-at_path-clause-takes

pub items::module-complete-requires : goal.items::module-complete-requires
items::module-complete-requires = items.items::module-complete-requires

pub items::module-returns-clause-completes : goal.items::module-returns-clause-completes
items::module-returns-clause-completes = items.items::module-returns-clause-completes

pub items::module_items-returns-then-at-clause-reads : goal.items::module_items-returns-then-at-clause-reads
items::module_items-returns-then-at-clause-reads = items.items::module_items-returns-then-at-clause-reads

pub items::module_items-returns-clause-reads : goal.items::module_items-returns-clause-reads
items::module_items-returns-clause-reads = items.items::module_items-returns-clause-reads

pub items::item_list-complete-requires : goal.items::item_list-complete-requires
items::item_list-complete-requires = items.items::item_list-complete-requires

pub items::item_list-returns-clause-reads : goal.items::item_list-returns-clause-reads
items::item_list-returns-clause-reads = items.items::item_list-returns-clause-reads

pub items::item_turn-returns-then-at_end_of-clause-ends : goal.items::item_turn-returns-then-at_end_of-clause-ends
items::item_turn-returns-then-at_end_of-clause-ends = items.items::item_turn-returns-then-at_end_of-clause-ends

pub items::item_turn-attribute-requires : goal.items::item_turn-attribute-requires
items::item_turn-attribute-requires = items.items::item_turn-attribute-requires

pub items::item_turn-returns-then-at_inner_attribute-clause-goes : goal.items::item_turn-returns-then-at_inner_attribute-clause-goes
items::item_turn-returns-then-at_inner_attribute-clause-goes = items.items::item_turn-returns-then-at_inner_attribute-clause-goes

pub items::item_turn-item-requires : goal.items::item_turn-item-requires
items::item_turn-item-requires = items.items::item_turn-item-requires

pub items::item_turn-returns-clause-goes : goal.items::item_turn-returns-clause-goes
items::item_turn-returns-clause-goes = items.items::item_turn-returns-clause-goes

pub items::items-turns-preserved : goal.items::items-turns-preserved
items::items-turns-preserved = items.items::items-turns-preserved

pub items::items-returns-clause-reads : goal.items::items-returns-clause-reads
items::items-returns-clause-reads = items.items::items-returns-clause-reads

pub expressions::layers::layers-prefixed-requires : goal.expressions::layers::layers-prefixed-requires
expressions::layers::layers-prefixed-requires = layers.expressions::layers::layers-prefixed-requires

pub expressions::layers::layers-climb-frame-requires : goal.expressions::layers::layers-climb-frame-requires
expressions::layers::layers-climb-frame-requires = layers.expressions::layers::layers-climb-frame-requires

pub expressions::layers::layers-returns-clause-gives : goal.expressions::layers::layers-returns-clause-gives
expressions::layers::layers-returns-clause-gives = layers.expressions::layers::layers-returns-clause-gives

pub expressions::layers::turn-expect_layer-requires : goal.expressions::layers::turn-expect_layer-requires
expressions::layers::turn-expect_layer-requires = layers.expressions::layers::turn-expect_layer-requires

pub expressions::layers::turn-wrap-requires : goal.expressions::layers::turn-wrap-requires
expressions::layers::turn-wrap-requires = layers.expressions::layers::turn-wrap-requires

pub expressions::layers::turn-wrap-requires-2 : goal.expressions::layers::turn-wrap-requires-2
expressions::layers::turn-wrap-requires-2 = layers.expressions::layers::turn-wrap-requires-2

pub expressions::layers::expect_layer-layers-requires : goal.expressions::layers::expect_layer-layers-requires
expressions::layers::expect_layer-layers-requires = layers.expressions::layers::expect_layer-layers-requires

pub expressions::layers::expect_layer-returns-then-at_operand-clause-reads : goal.expressions::layers::expect_layer-returns-then-at_operand-clause-reads
expressions::layers::expect_layer-returns-then-at_operand-clause-reads = layers.expressions::layers::expect_layer-returns-then-at_operand-clause-reads

pub expressions::layers::expect_layer-returns-clause-reads : goal.expressions::layers::expect_layer-returns-clause-reads
expressions::layers::expect_layer-returns-clause-reads = layers.expressions::layers::expect_layer-returns-clause-reads

pub expressions::layers::climb-turns-init : goal.expressions::layers::climb-turns-init
expressions::layers::climb-turns-init = layers.expressions::layers::climb-turns-init

pub expressions::layers::climb-turns-preserved : goal.expressions::layers::climb-turns-preserved
expressions::layers::climb-turns-preserved = layers.expressions::layers::climb-turns-preserved

pub expressions::layers::climb-returns-after-turns-clause-reads : goal.expressions::layers::climb-returns-after-turns-clause-reads
expressions::layers::climb-returns-after-turns-clause-reads = layers.expressions::layers::climb-returns-after-turns-clause-reads

pub expressions::layers::climb-returns-after-turns-clause-asks : goal.expressions::layers::climb-returns-after-turns-clause-asks
expressions::layers::climb-returns-after-turns-clause-asks = layers.expressions::layers::climb-returns-after-turns-clause-asks

pub expressions::layers::climb-returns-else-next-top-clause-reads : goal.expressions::layers::climb-returns-else-next-top-clause-reads
expressions::layers::climb-returns-else-next-top-clause-reads = layers.expressions::layers::climb-returns-else-next-top-clause-reads

pub expressions::layers::climb-returns-else-next-top-clause-asks : goal.expressions::layers::climb-returns-else-next-top-clause-asks
expressions::layers::climb-returns-else-next-top-clause-asks = layers.expressions::layers::climb-returns-else-next-top-clause-asks

pub expressions::layers::turn-returns-then-operator-eq1-clause-reads : goal.expressions::layers::turn-returns-then-operator-eq1-clause-reads
expressions::layers::turn-returns-then-operator-eq1-clause-reads = layers.expressions::layers::turn-returns-then-operator-eq1-clause-reads

pub expressions::layers::turn-returns-clause-reads : goal.expressions::layers::turn-returns-clause-reads
expressions::layers::turn-returns-clause-reads = layers.expressions::layers::turn-returns-clause-reads

pub lists::turn-returns-then-at_list_end-clause-ends : goal.lists::turn-returns-then-at_list_end-clause-ends
lists::turn-returns-then-at_list_end-clause-ends = lists.lists::turn-returns-then-at_list_end-clause-ends

pub lists::turn-read_element-requires : goal.lists::turn-read_element-requires
lists::turn-read_element-requires = lists.lists::turn-read_element-requires

pub lists::turn-returns-then-at_element-clause-goes : goal.lists::turn-returns-then-at_element-clause-goes
lists::turn-returns-then-at_element-clause-goes = lists.lists::turn-returns-then-at_element-clause-goes

pub lists::turn-returns-then-at_element-clause-ends : goal.lists::turn-returns-then-at_element-clause-ends
lists::turn-returns-then-at_element-clause-ends = lists.lists::turn-returns-then-at_element-clause-ends

pub lists::turn-returns-then-at_unexpected-clause-goes : goal.lists::turn-returns-then-at_unexpected-clause-goes
lists::turn-returns-then-at_unexpected-clause-goes = lists.lists::turn-returns-then-at_unexpected-clause-goes

pub lists::turn-returns-clause-ends : goal.lists::turn-returns-clause-ends
lists::turn-returns-clause-ends = lists.lists::turn-returns-clause-ends

pub lists::read_element-captured-requires : goal.lists::read_element-captured-requires
lists::read_element-captured-requires = lists.lists::read_element-captured-requires

pub lists::read_element-returns-in-Captured-clause-reads : goal.lists::read_element-returns-in-Captured-clause-reads
lists::read_element-returns-in-Captured-clause-reads = lists.lists::read_element-returns-in-Captured-clause-reads

pub lists::read_element-closure_param-requires : goal.lists::read_element-closure_param-requires
lists::read_element-closure_param-requires = lists.lists::read_element-closure_param-requires

pub lists::read_element-expression-requires : goal.lists::read_element-expression-requires
lists::read_element-expression-requires = lists.lists::read_element-expression-requires

pub lists::read_element-returns-in-Expression-clause-reads : goal.lists::read_element-returns-in-Expression-clause-reads
lists::read_element-returns-in-Expression-clause-reads = lists.lists::read_element-returns-in-Expression-clause-reads

pub lists::read_element-field_value-requires : goal.lists::read_element-field_value-requires
lists::read_element-field_value-requires = lists.lists::read_element-field_value-requires

pub lists::read_element-returns-in-FieldValue-clause-reads : goal.lists::read_element-returns-in-FieldValue-clause-reads
lists::read_element-returns-in-FieldValue-clause-reads = lists.lists::read_element-returns-in-FieldValue-clause-reads

pub lists::read_element-generic_arg-requires : goal.lists::read_element-generic_arg-requires
lists::read_element-generic_arg-requires = lists.lists::read_element-generic_arg-requires

pub lists::read_element-returns-in-GenericArg-clause-reads : goal.lists::read_element-returns-in-GenericArg-clause-reads
lists::read_element-returns-in-GenericArg-clause-reads = lists.lists::read_element-returns-in-GenericArg-clause-reads

pub lists::read_element-generic_param-requires : goal.lists::read_element-generic_param-requires
lists::read_element-generic_param-requires = lists.lists::read_element-generic_param-requires

pub lists::read_element-returns-in-GenericParam-clause-reads : goal.lists::read_element-returns-in-GenericParam-clause-reads
lists::read_element-returns-in-GenericParam-clause-reads = lists.lists::read_element-returns-in-GenericParam-clause-reads

pub lists::read_element-param-requires : goal.lists::read_element-param-requires
lists::read_element-param-requires = lists.lists::read_element-param-requires

pub lists::read_element-returns-in-Param-clause-reads : goal.lists::read_element-returns-in-Param-clause-reads
lists::read_element-returns-in-Param-clause-reads = lists.lists::read_element-returns-in-Param-clause-reads

pub lists::read_element-pattern-requires : goal.lists::read_element-pattern-requires
lists::read_element-pattern-requires = lists.lists::read_element-pattern-requires

pub lists::read_element-returns-in-Pattern-clause-reads : goal.lists::read_element-returns-in-Pattern-clause-reads
lists::read_element-returns-in-Pattern-clause-reads = lists.lists::read_element-returns-in-Pattern-clause-reads

pub lists::read_element-pattern_field-requires : goal.lists::read_element-pattern_field-requires
lists::read_element-pattern_field-requires = lists.lists::read_element-pattern_field-requires

pub lists::read_element-returns-in-PatternField-clause-reads : goal.lists::read_element-returns-in-PatternField-clause-reads
lists::read_element-returns-in-PatternField-clause-reads = lists.lists::read_element-returns-in-PatternField-clause-reads

pub lists::read_element-any_type-requires : goal.lists::read_element-any_type-requires
lists::read_element-any_type-requires = lists.lists::read_element-any_type-requires

pub lists::read_element-returns-in-Type-clause-reads : goal.lists::read_element-returns-in-Type-clause-reads
lists::read_element-returns-in-Type-clause-reads = lists.lists::read_element-returns-in-Type-clause-reads

pub lists::elements-turns-preserved : goal.lists::elements-turns-preserved
lists::elements-turns-preserved = lists.lists::elements-turns-preserved

pub lists::elements-returns-clause-reads : goal.lists::elements-returns-clause-reads
lists::elements-returns-clause-reads = lists.lists::elements-returns-clause-reads

pub lists::rest_of_list-returns-clause-reads : goal.lists::rest_of_list-returns-clause-reads
lists::rest_of_list-returns-clause-reads = lists.lists::rest_of_list-returns-clause-reads

pub lists::tuple_tail-wrap-requires : goal.lists::tuple_tail-wrap-requires
lists::tuple_tail-wrap-requires = lists.lists::tuple_tail-wrap-requires

pub lists::tuple_tail-wrap-requires-2 : goal.lists::tuple_tail-wrap-requires-2
lists::tuple_tail-wrap-requires-2 = lists.lists::tuple_tail-wrap-requires-2

pub lists::tuple_tail-returns-then-at-clause-reads : goal.lists::tuple_tail-returns-then-at-clause-reads
lists::tuple_tail-returns-then-at-clause-reads = lists.lists::tuple_tail-returns-then-at-clause-reads

pub lists::tuple_tail-returns-clause-reads : goal.lists::tuple_tail-returns-clause-reads
lists::tuple_tail-returns-clause-reads = lists.lists::tuple_tail-returns-clause-reads

pub lists::read_element-record_field-requires : goal.lists::read_element-record_field-requires
lists::read_element-record_field-requires = lists.lists::read_element-record_field-requires

pub lists::read_element-returns-in-RecordField-clause-reads : goal.lists::read_element-returns-in-RecordField-clause-reads
lists::read_element-returns-in-RecordField-clause-reads = lists.lists::read_element-returns-in-RecordField-clause-reads

pub lists::read_element-tuple_field-requires : goal.lists::read_element-tuple_field-requires
lists::read_element-tuple_field-requires = lists.lists::read_element-tuple_field-requires

pub lists::read_element-returns-in-TupleField-clause-reads : goal.lists::read_element-returns-in-TupleField-clause-reads
lists::read_element-returns-in-TupleField-clause-reads = lists.lists::read_element-returns-in-TupleField-clause-reads

pub lists::read_element-variant-requires : goal.lists::read_element-variant-requires
lists::read_element-variant-requires = lists.lists::read_element-variant-requires

pub lists::read_element-returns-in-Variant-clause-reads : goal.lists::read_element-returns-in-Variant-clause-reads
lists::read_element-returns-in-Variant-clause-reads = lists.lists::read_element-returns-in-Variant-clause-reads

pub items::members::tuple_field-typed-requires : goal.items::members::tuple_field-typed-requires
items::members::tuple_field-typed-requires = members.items::members::tuple_field-typed-requires

pub items::members::tuple_field-complete-requires : goal.items::members::tuple_field-complete-requires
items::members::tuple_field-complete-requires = members.items::members::tuple_field-complete-requires

pub items::members::tuple_field-returns-clause-reads : goal.items::members::tuple_field-returns-clause-reads
items::members::tuple_field-returns-clause-reads = members.items::members::tuple_field-returns-clause-reads

pub items::members::named-attributes_and_visibility-requires : goal.items::members::named-attributes_and_visibility-requires
items::members::named-attributes_and_visibility-requires = members.items::members::named-attributes_and_visibility-requires

pub items::members::named-returns-in-POUND-clause-reads : goal.items::members::named-returns-in-POUND-clause-reads
items::members::named-returns-in-POUND-clause-reads = members.items::members::named-returns-in-POUND-clause-reads

pub items::members::named-returns-in-PUB_KW-clause-reads : goal.items::members::named-returns-in-PUB_KW-clause-reads
items::members::named-returns-in-PUB_KW-clause-reads = members.items::members::named-returns-in-PUB_KW-clause-reads

pub items::members::named-returns-in_default-clause-reads : goal.items::members::named-returns-in_default-clause-reads
items::members::named-returns-in_default-clause-reads = members.items::members::named-returns-in_default-clause-reads

pub items::members::typed-attributes_and_visibility-requires : goal.items::members::typed-attributes_and_visibility-requires
items::members::typed-attributes_and_visibility-requires = members.items::members::typed-attributes_and_visibility-requires

pub items::members::typed-returns-in-POUND-clause-reads : goal.items::members::typed-returns-in-POUND-clause-reads
items::members::typed-returns-in-POUND-clause-reads = members.items::members::typed-returns-in-POUND-clause-reads

pub items::members::typed-returns-in-PUB_KW-clause-reads : goal.items::members::typed-returns-in-PUB_KW-clause-reads
items::members::typed-returns-in-PUB_KW-clause-reads = members.items::members::typed-returns-in-PUB_KW-clause-reads

pub items::members::typed-any_type-requires : goal.items::members::typed-any_type-requires
items::members::typed-any_type-requires = members.items::members::typed-any_type-requires

pub items::members::typed-returns-in_default-clause-reads : goal.items::members::typed-returns-in_default-clause-reads
items::members::typed-returns-in_default-clause-reads = members.items::members::typed-returns-in_default-clause-reads

pub items::members::opt_fields-list-requires : goal.items::members::opt_fields-list-requires
items::members::opt_fields-list-requires = members.items::members::opt_fields-list-requires

pub items::members::opt_fields-returns-in-L_CURLY-clause-reads : goal.items::members::opt_fields-returns-in-L_CURLY-clause-reads
items::members::opt_fields-returns-in-L_CURLY-clause-reads = members.items::members::opt_fields-returns-in-L_CURLY-clause-reads

pub items::members::opt_fields-list-requires-in-L_PAREN : goal.items::members::opt_fields-list-requires-in-L_PAREN
items::members::opt_fields-list-requires-in-L_PAREN = members.items::members::opt_fields-list-requires-in-L_PAREN

pub items::members::opt_fields-returns-in-L_PAREN-clause-reads : goal.items::members::opt_fields-returns-in-L_PAREN-clause-reads
items::members::opt_fields-returns-in-L_PAREN-clause-reads = members.items::members::opt_fields-returns-in-L_PAREN-clause-reads

pub items::members::opt_fields-returns-in_default-clause-reads : goal.items::members::opt_fields-returns-in_default-clause-reads
items::members::opt_fields-returns-in_default-clause-reads = members.items::members::opt_fields-returns-in_default-clause-reads

pub expressions::operand::prefix_expr-complete-requires : goal.expressions::operand::prefix_expr-complete-requires
expressions::operand::prefix_expr-complete-requires = operand.expressions::operand::prefix_expr-complete-requires

pub expressions::operand::prefix_expr-returns-clause-reads : goal.expressions::operand::prefix_expr-returns-clause-reads
expressions::operand::prefix_expr-returns-clause-reads = operand.expressions::operand::prefix_expr-returns-clause-reads

pub expressions::operand::ref_expr-complete-requires : goal.expressions::operand::ref_expr-complete-requires
expressions::operand::ref_expr-complete-requires = operand.expressions::operand::ref_expr-complete-requires

pub expressions::operand::ref_expr-returns-clause-reads : goal.expressions::operand::ref_expr-returns-clause-reads
expressions::operand::ref_expr-returns-clause-reads = operand.expressions::operand::ref_expr-returns-clause-reads

pub expressions::operand::operand-framed_operand-requires : goal.expressions::operand::operand-framed_operand-requires
expressions::operand::operand-framed_operand-requires = operand.expressions::operand::operand-framed_operand-requires

pub expressions::operand::framed_operand-inside-frame-requires : goal.expressions::operand::framed_operand-inside-frame-requires
expressions::operand::framed_operand-inside-frame-requires = operand.expressions::operand::framed_operand-inside-frame-requires

pub expressions::operand::framed_operand-postfixes-frame-requires : goal.expressions::operand::framed_operand-postfixes-frame-requires
expressions::operand::framed_operand-postfixes-frame-requires = operand.expressions::operand::framed_operand-postfixes-frame-requires

pub expressions::operand::framed_operand-returns-clause-completes : goal.expressions::operand::framed_operand-returns-clause-completes
expressions::operand::framed_operand-returns-clause-completes = operand.expressions::operand::framed_operand-returns-clause-completes

pub expressions::operand::operand-returns-clause-from_start : goal.expressions::operand::operand-returns-clause-from_start
expressions::operand::operand-returns-clause-from_start = operand.expressions::operand::operand-returns-clause-from_start

pub expressions::operand::postfixes-turns-preserved : goal.expressions::operand::postfixes-turns-preserved
expressions::operand::postfixes-turns-preserved = operand.expressions::operand::postfixes-turns-preserved

pub expressions::operand::postfixes-returns-clause-reads : goal.expressions::operand::postfixes-returns-clause-reads
expressions::operand::postfixes-returns-clause-reads = operand.expressions::operand::postfixes-returns-clause-reads

pub expressions::operand::postfix-wrap-requires : goal.expressions::operand::postfix-wrap-requires
expressions::operand::postfix-wrap-requires = operand.expressions::operand::postfix-wrap-requires

pub expressions::operand::postfix-returns-in-L_PAREN-clause-reads : goal.expressions::operand::postfix-returns-in-L_PAREN-clause-reads
expressions::operand::postfix-returns-in-L_PAREN-clause-reads = operand.expressions::operand::postfix-returns-in-L_PAREN-clause-reads

pub expressions::operand::postfix-wrap-requires-in-L_BRACK : goal.expressions::operand::postfix-wrap-requires-in-L_BRACK
expressions::operand::postfix-wrap-requires-in-L_BRACK = operand.expressions::operand::postfix-wrap-requires-in-L_BRACK

pub expressions::operand::postfix-returns-in-L_BRACK-clause-reads : goal.expressions::operand::postfix-returns-in-L_BRACK-clause-reads
expressions::operand::postfix-returns-in-L_BRACK-clause-reads = operand.expressions::operand::postfix-returns-in-L_BRACK-clause-reads

pub expressions::operand::postfix-wrap-requires-in-QUESTION : goal.expressions::operand::postfix-wrap-requires-in-QUESTION
expressions::operand::postfix-wrap-requires-in-QUESTION = operand.expressions::operand::postfix-wrap-requires-in-QUESTION

pub expressions::operand::postfix-returns-in-QUESTION-clause-reads : goal.expressions::operand::postfix-returns-in-QUESTION-clause-reads
expressions::operand::postfix-returns-in-QUESTION-clause-reads = operand.expressions::operand::postfix-returns-in-QUESTION-clause-reads

pub expressions::operand::postfix-after_dot-requires : goal.expressions::operand::postfix-after_dot-requires
expressions::operand::postfix-after_dot-requires = operand.expressions::operand::postfix-after_dot-requires

pub expressions::operand::postfix-returns-in_default-clause-reads : goal.expressions::operand::postfix-returns-in_default-clause-reads
expressions::operand::postfix-returns-in_default-clause-reads = operand.expressions::operand::postfix-returns-in_default-clause-reads

pub expressions::operand::index-returns-clause-reads : goal.expressions::operand::index-returns-clause-reads
expressions::operand::index-returns-clause-reads = operand.expressions::operand::index-returns-clause-reads

pub expressions::operand::method_call-returns-clause-reads : goal.expressions::operand::method_call-returns-clause-reads
expressions::operand::method_call-returns-clause-reads = operand.expressions::operand::method_call-returns-clause-reads

pub expressions::operand::float-split-frame-requires : goal.expressions::operand::float-split-frame-requires
expressions::operand::float-split-frame-requires = operand.expressions::operand::float-split-frame-requires

pub expressions::operand::float-after_dot-requires : goal.expressions::operand::float-after_dot-requires
expressions::operand::float-after_dot-requires = operand.expressions::operand::float-after_dot-requires

pub expressions::operand::float-returns-then-joint-clause-reads : goal.expressions::operand::float-returns-then-joint-clause-reads
expressions::operand::float-returns-then-joint-clause-reads = operand.expressions::operand::float-returns-then-joint-clause-reads

pub expressions::operand::float-returns-clause-reads : goal.expressions::operand::float-returns-clause-reads
expressions::operand::float-returns-clause-reads = operand.expressions::operand::float-returns-clause-reads

pub params::self_param-returns-in-AMP-clause-gives : goal.params::self_param-returns-in-AMP-clause-gives
params::self_param-returns-in-AMP-clause-gives = params.params::self_param-returns-in-AMP-clause-gives

pub params::self_param-returns-in-MUT_KW-clause-gives : goal.params::self_param-returns-in-MUT_KW-clause-gives
params::self_param-returns-in-MUT_KW-clause-gives = params.params::self_param-returns-in-MUT_KW-clause-gives

pub params::self_param-returns-in_default-clause-gives : goal.params::self_param-returns-in_default-clause-gives
params::self_param-returns-in_default-clause-gives = params.params::self_param-returns-in_default-clause-gives

pub params::self_after_ref-complete-requires : goal.params::self_after_ref-complete-requires
params::self_after_ref-complete-requires = params.params::self_after_ref-complete-requires

pub params::self_after_ref-returns-clause-reads : goal.params::self_after_ref-returns-clause-reads
params::self_after_ref-returns-clause-reads = params.params::self_after_ref-returns-clause-reads

pub params::self_after_mut-complete-requires : goal.params::self_after_mut-complete-requires
params::self_after_mut-complete-requires = params.params::self_after_mut-complete-requires

pub params::self_after_mut-returns-clause-reads : goal.params::self_after_mut-returns-clause-reads
params::self_after_mut-returns-clause-reads = params.params::self_after_mut-returns-clause-reads

pub params::self_alone-complete-requires : goal.params::self_alone-complete-requires
params::self_alone-complete-requires = params.params::self_alone-complete-requires

pub params::self_alone-returns-clause-reads : goal.params::self_alone-returns-clause-reads
params::self_alone-returns-clause-reads = params.params::self_alone-returns-clause-reads

pub paths::generic_args-complete-requires : goal.paths::generic_args-complete-requires
paths::generic_args-complete-requires = paths.paths::generic_args-complete-requires

pub paths::generic_args-returns-clause-gives : goal.paths::generic_args-returns-clause-gives
paths::generic_args-returns-clause-gives = paths.paths::generic_args-returns-clause-gives

pub paths::first_segment-first_word-requires-clause-begins : goal.paths::first_segment-first_word-requires-clause-begins
paths::first_segment-first_word-requires-clause-begins = paths.paths::first_segment-first_word-requires-clause-begins

pub paths::first_segment-complete-requires : goal.paths::first_segment-complete-requires
paths::first_segment-complete-requires = paths.paths::first_segment-complete-requires

pub paths::first_segment-complete-requires-2 : goal.paths::first_segment-complete-requires-2
paths::first_segment-complete-requires-2 = paths.paths::first_segment-complete-requires-2

pub paths::first_segment-returns-clause-reads : goal.paths::first_segment-returns-clause-reads
paths::first_segment-returns-clause-reads = paths.paths::first_segment-returns-clause-reads

pub paths::expect_segment-complete-requires : goal.paths::expect_segment-complete-requires
paths::expect_segment-complete-requires = paths.paths::expect_segment-complete-requires

pub paths::expect_segment-returns-then-at_name_ref-clause-reads : goal.paths::expect_segment-returns-then-at_name_ref-clause-reads
paths::expect_segment-returns-then-at_name_ref-clause-reads = paths.paths::expect_segment-returns-then-at_name_ref-clause-reads

pub paths::expect_segment-returns-clause-reads : goal.paths::expect_segment-returns-clause-reads
paths::expect_segment-returns-clause-reads = paths.paths::expect_segment-returns-clause-reads

pub paths::next_segment-wrap-requires : goal.paths::next_segment-wrap-requires
paths::next_segment-wrap-requires = paths.paths::next_segment-wrap-requires

pub paths::next_segment-returns-clause-reads : goal.paths::next_segment-returns-clause-reads
paths::next_segment-returns-clause-reads = paths.paths::next_segment-returns-clause-reads

pub paths::next_segments-turns-preserved : goal.paths::next_segments-turns-preserved
paths::next_segments-turns-preserved = paths.paths::next_segments-turns-preserved

pub paths::next_segments-returns-clause-reads : goal.paths::next_segments-returns-clause-reads
paths::next_segments-returns-clause-reads = paths.paths::next_segments-returns-clause-reads

pub paths::path_with_args-first_segment-requires : goal.paths::path_with_args-first_segment-requires
paths::path_with_args-first_segment-requires = paths.paths::path_with_args-first_segment-requires

pub paths::path_with_args-next_segments-frame-requires : goal.paths::path_with_args-next_segments-frame-requires
paths::path_with_args-next_segments-frame-requires = paths.paths::path_with_args-next_segments-frame-requires

pub paths::path_with_args-returns-clause-gives : goal.paths::path_with_args-returns-clause-gives
paths::path_with_args-returns-clause-gives = paths.paths::path_with_args-returns-clause-gives

pub patterns::inside-returns-in-MINUS-clause-reads : goal.patterns::inside-returns-in-MINUS-clause-reads
patterns::inside-returns-in-MINUS-clause-reads = patterns.patterns::inside-returns-in-MINUS-clause-reads

pub patterns::inside-returns-in-MINUS-clause-takes : goal.patterns::inside-returns-in-MINUS-clause-takes
patterns::inside-returns-in-MINUS-clause-takes = patterns.patterns::inside-returns-in-MINUS-clause-takes

pub patterns::inside-returns-in-UNDERSCORE-clause-reads : goal.patterns::inside-returns-in-UNDERSCORE-clause-reads
patterns::inside-returns-in-UNDERSCORE-clause-reads = patterns.patterns::inside-returns-in-UNDERSCORE-clause-reads

pub patterns::inside-returns-in-UNDERSCORE-clause-takes : goal.patterns::inside-returns-in-UNDERSCORE-clause-takes
patterns::inside-returns-in-UNDERSCORE-clause-takes = patterns.patterns::inside-returns-in-UNDERSCORE-clause-takes

pub patterns::inside-returns-in-AMP-clause-reads : goal.patterns::inside-returns-in-AMP-clause-reads
patterns::inside-returns-in-AMP-clause-reads = patterns.patterns::inside-returns-in-AMP-clause-reads

pub patterns::inside-returns-in-AMP-clause-takes : goal.patterns::inside-returns-in-AMP-clause-takes
patterns::inside-returns-in-AMP-clause-takes = patterns.patterns::inside-returns-in-AMP-clause-takes

pub patterns::inside-returns-in-L_BRACK-clause-reads : goal.patterns::inside-returns-in-L_BRACK-clause-reads
patterns::inside-returns-in-L_BRACK-clause-reads = patterns.patterns::inside-returns-in-L_BRACK-clause-reads

pub patterns::inside-returns-in-L_BRACK-clause-takes : goal.patterns::inside-returns-in-L_BRACK-clause-takes
patterns::inside-returns-in-L_BRACK-clause-takes = patterns.patterns::inside-returns-in-L_BRACK-clause-takes

pub patterns::inside-returns-in-REF_KW-clause-reads : goal.patterns::inside-returns-in-REF_KW-clause-reads
patterns::inside-returns-in-REF_KW-clause-reads = patterns.patterns::inside-returns-in-REF_KW-clause-reads

pub patterns::inside-returns-in-REF_KW-clause-takes : goal.patterns::inside-returns-in-REF_KW-clause-takes
patterns::inside-returns-in-REF_KW-clause-takes = patterns.patterns::inside-returns-in-REF_KW-clause-takes

pub patterns::inside-returns-in-MUT_KW-clause-reads : goal.patterns::inside-returns-in-MUT_KW-clause-reads
patterns::inside-returns-in-MUT_KW-clause-reads = patterns.patterns::inside-returns-in-MUT_KW-clause-reads

pub patterns::inside-returns-in-MUT_KW-clause-takes : goal.patterns::inside-returns-in-MUT_KW-clause-takes
patterns::inside-returns-in-MUT_KW-clause-takes = patterns.patterns::inside-returns-in-MUT_KW-clause-takes

pub patterns::inside-returns-then-at_paren_before_dots : goal.patterns::inside-returns-then-at_paren_before_dots
patterns::inside-returns-then-at_paren_before_dots = patterns.patterns::inside-returns-then-at_paren_before_dots

pub patterns::inside-returns-else-at_paren_before_dots : goal.patterns::inside-returns-else-at_paren_before_dots
patterns::inside-returns-else-at_paren_before_dots = patterns.patterns::inside-returns-else-at_paren_before_dots

pub patterns::inside-returns-then-at_ident_pat : goal.patterns::inside-returns-then-at_ident_pat
patterns::inside-returns-then-at_ident_pat = patterns.patterns::inside-returns-then-at_ident_pat

pub patterns::inside-returns-then-at_pair : goal.patterns::inside-returns-then-at_pair
patterns::inside-returns-then-at_pair = patterns.patterns::inside-returns-then-at_pair

pub patterns::inside-returns-then-at_literal : goal.patterns::inside-returns-then-at_literal
patterns::inside-returns-then-at_literal = patterns.patterns::inside-returns-then-at_literal

pub patterns::inside-returns-else-at_literal : goal.patterns::inside-returns-else-at_literal
patterns::inside-returns-else-at_literal = patterns.patterns::inside-returns-else-at_literal

pub patterns::inside-path_pat-requires : goal.patterns::inside-path_pat-requires
patterns::inside-path_pat-requires = patterns.patterns::inside-path_pat-requires

pub patterns::ref_pat-complete-requires : goal.patterns::ref_pat-complete-requires
patterns::ref_pat-complete-requires = patterns.patterns::ref_pat-complete-requires

pub patterns::ref_pat-returns-clause-reads : goal.patterns::ref_pat-returns-clause-reads
patterns::ref_pat-returns-clause-reads = patterns.patterns::ref_pat-returns-clause-reads

pub patterns::ident_pat-complete-requires : goal.patterns::ident_pat-complete-requires
patterns::ident_pat-complete-requires = patterns.patterns::ident_pat-complete-requires

pub patterns::ident_pat-returns-clause-reads : goal.patterns::ident_pat-returns-clause-reads
patterns::ident_pat-returns-clause-reads = patterns.patterns::ident_pat-returns-clause-reads

pub patterns::ident_after_mut-complete-requires : goal.patterns::ident_after_mut-complete-requires
patterns::ident_after_mut-complete-requires = patterns.patterns::ident_after_mut-complete-requires

pub patterns::ident_after_mut-returns-clause-reads : goal.patterns::ident_after_mut-returns-clause-reads
patterns::ident_after_mut-returns-clause-reads = patterns.patterns::ident_after_mut-returns-clause-reads

pub patterns::ident_after_ref-complete-requires : goal.patterns::ident_after_ref-complete-requires
patterns::ident_after_ref-complete-requires = patterns.patterns::ident_after_ref-complete-requires

pub patterns::ident_after_ref-returns-clause-reads : goal.patterns::ident_after_ref-returns-clause-reads
patterns::ident_after_ref-returns-clause-reads = patterns.patterns::ident_after_ref-returns-clause-reads

pub patterns::opt_at-returns-then-at-clause-reads : goal.patterns::opt_at-returns-then-at-clause-reads
patterns::opt_at-returns-then-at-clause-reads = patterns.patterns::opt_at-returns-then-at-clause-reads

pub patterns::opt_at-returns-else-at-clause-reads : goal.patterns::opt_at-returns-else-at-clause-reads
patterns::opt_at-returns-else-at-clause-reads = patterns.patterns::opt_at-returns-else-at-clause-reads

pub patterns::paren_pat-after_paren-requires : goal.patterns::paren_pat-after_paren-requires
patterns::paren_pat-after_paren-requires = patterns.patterns::paren_pat-after_paren-requires

pub patterns::paren_pat-returns-clause-reads : goal.patterns::paren_pat-returns-clause-reads
patterns::paren_pat-returns-clause-reads = patterns.patterns::paren_pat-returns-clause-reads

pub patterns::after_paren-wrap-requires : goal.patterns::after_paren-wrap-requires
patterns::after_paren-wrap-requires = patterns.patterns::after_paren-wrap-requires

pub patterns::after_paren-tuple_tail-requires : goal.patterns::after_paren-tuple_tail-requires
patterns::after_paren-tuple_tail-requires = patterns.patterns::after_paren-tuple_tail-requires

pub patterns::after_paren-returns-then-at-clause-reads : goal.patterns::after_paren-returns-then-at-clause-reads
patterns::after_paren-returns-then-at-clause-reads = patterns.patterns::after_paren-returns-then-at-clause-reads

pub patterns::after_paren-returns-clause-reads : goal.patterns::after_paren-returns-clause-reads
patterns::after_paren-returns-clause-reads = patterns.patterns::after_paren-returns-clause-reads

pub patterns::path_pat-path_with_args-requires : goal.patterns::path_pat-path_with_args-requires
patterns::path_pat-path_with_args-requires = patterns.patterns::path_pat-path_with_args-requires

pub patterns::path_pat-after_path-requires : goal.patterns::path_pat-after_path-requires
patterns::path_pat-after_path-requires = patterns.patterns::path_pat-after_path-requires

pub patterns::path_pat-returns-clause-reads : goal.patterns::path_pat-returns-clause-reads
patterns::path_pat-returns-clause-reads = patterns.patterns::path_pat-returns-clause-reads

pub or_patterns::pattern-alternatives-frame-requires : goal.or_patterns::pattern-alternatives-frame-requires
or_patterns::pattern-alternatives-frame-requires = patterns.or_patterns::pattern-alternatives-frame-requires

pub or_patterns::pattern-returns-clause-gives : goal.or_patterns::pattern-returns-clause-gives
or_patterns::pattern-returns-clause-gives = patterns.or_patterns::pattern-returns-clause-gives

pub or_patterns::alternatives-wrap-requires : goal.or_patterns::alternatives-wrap-requires
or_patterns::alternatives-wrap-requires = patterns.or_patterns::alternatives-wrap-requires

pub or_patterns::alternatives-single_pattern-requires : goal.or_patterns::alternatives-single_pattern-requires
or_patterns::alternatives-single_pattern-requires = patterns.or_patterns::alternatives-single_pattern-requires

pub or_patterns::alternatives-opt_further-requires : goal.or_patterns::alternatives-opt_further-requires
or_patterns::alternatives-opt_further-requires = patterns.or_patterns::alternatives-opt_further-requires

pub or_patterns::alternatives-returns-then-at-clause-reads : goal.or_patterns::alternatives-returns-then-at-clause-reads
or_patterns::alternatives-returns-then-at-clause-reads = patterns.or_patterns::alternatives-returns-then-at-clause-reads

pub or_patterns::alternatives-returns-clause-reads : goal.or_patterns::alternatives-returns-clause-reads
or_patterns::alternatives-returns-clause-reads = patterns.or_patterns::alternatives-returns-clause-reads

pub or_patterns::one_further-returns-clause-reads : goal.or_patterns::one_further-returns-clause-reads
or_patterns::one_further-returns-clause-reads = patterns.or_patterns::one_further-returns-clause-reads

pub or_patterns::further-turns-preserved : goal.or_patterns::further-turns-preserved
or_patterns::further-turns-preserved = patterns.or_patterns::further-turns-preserved

pub or_patterns::further-returns-clause-reads : goal.or_patterns::further-returns-clause-reads
or_patterns::further-returns-clause-reads = patterns.or_patterns::further-returns-clause-reads

pub or_patterns::opt_further-wrap-requires : goal.or_patterns::opt_further-wrap-requires
or_patterns::opt_further-wrap-requires = patterns.or_patterns::opt_further-wrap-requires

pub or_patterns::opt_further-returns-then-at-clause-reads : goal.or_patterns::opt_further-returns-then-at-clause-reads
or_patterns::opt_further-returns-then-at-clause-reads = patterns.or_patterns::opt_further-returns-then-at-clause-reads

pub or_patterns::opt_further-returns-clause-reads : goal.or_patterns::opt_further-returns-clause-reads
or_patterns::opt_further-returns-clause-reads = patterns.or_patterns::opt_further-returns-clause-reads

pub statements::statement-returns-in-SEMICOLON-clause-gives : goal.statements::statement-returns-in-SEMICOLON-clause-gives
statements::statement-returns-in-SEMICOLON-clause-gives = statements.statements::statement-returns-in-SEMICOLON-clause-gives

pub statements::statement-returns-in-DEFER_KW-clause-gives : goal.statements::statement-returns-in-DEFER_KW-clause-gives
statements::statement-returns-in-DEFER_KW-clause-gives = statements.statements::statement-returns-in-DEFER_KW-clause-gives

pub statements::statement-returns-in-LET_KW-clause-gives : goal.statements::statement-returns-in-LET_KW-clause-gives
statements::statement-returns-in-LET_KW-clause-gives = statements.statements::statement-returns-in-LET_KW-clause-gives

pub statements::statement-returns-then-at_inner_attribute-clause-gives : goal.statements::statement-returns-then-at_inner_attribute-clause-gives
statements::statement-returns-then-at_inner_attribute-clause-gives = statements.statements::statement-returns-then-at_inner_attribute-clause-gives

pub statements::opt_else-returns-then-at-clause-reads : goal.statements::opt_else-returns-then-at-clause-reads
statements::opt_else-returns-then-at-clause-reads = statements.statements::opt_else-returns-then-at-clause-reads

pub statements::opt_else-returns-else-at-clause-reads : goal.statements::opt_else-returns-else-at-clause-reads
statements::opt_else-returns-else-at-clause-reads = statements.statements::opt_else-returns-else-at-clause-reads

pub statements::defer_stmt-complete-requires : goal.statements::defer_stmt-complete-requires
statements::defer_stmt-complete-requires = statements.statements::defer_stmt-complete-requires

pub statements::defer_stmt-returns-clause-reads : goal.statements::defer_stmt-returns-clause-reads
statements::defer_stmt-returns-clause-reads = statements.statements::defer_stmt-returns-clause-reads

pub statements::let_else-complete-requires : goal.statements::let_else-complete-requires
statements::let_else-complete-requires = statements.statements::let_else-complete-requires

pub statements::let_else-returns-clause-reads : goal.statements::let_else-returns-clause-reads
statements::let_else-returns-clause-reads = statements.statements::let_else-returns-clause-reads

pub statements::expression_statement-block_statement-requires : goal.statements::expression_statement-block_statement-requires
statements::expression_statement-block_statement-requires = statements.statements::expression_statement-block_statement-requires

pub statements::expression_statement-ended_expression-requires : goal.statements::expression_statement-ended_expression-requires
statements::expression_statement-ended_expression-requires = statements.statements::expression_statement-ended_expression-requires

pub statements::expression_statement-returns-then-at_expression-clause-from_start : goal.statements::expression_statement-returns-then-at_expression-clause-from_start
statements::expression_statement-returns-then-at_expression-clause-from_start = statements.statements::expression_statement-returns-then-at_expression-clause-from_start

pub statements::expression_statement-returns-clause-from_start : goal.statements::expression_statement-returns-clause-from_start
statements::expression_statement-returns-clause-from_start = statements.statements::expression_statement-returns-clause-from_start

pub statements::block_statement-block_like-requires : goal.statements::block_statement-block_like-requires
statements::block_statement-block_like-requires = statements.statements::block_statement-block_like-requires

pub statements::block_statement-after_block-frame-requires : goal.statements::block_statement-after_block-frame-requires
statements::block_statement-after_block-frame-requires = statements.statements::block_statement-after_block-frame-requires

pub statements::after_block-postfix-frame-requires : goal.statements::after_block-postfix-frame-requires
statements::after_block-postfix-frame-requires = statements.statements::after_block-postfix-frame-requires

pub statements::after_block-postfixes-frame-requires : goal.statements::after_block-postfixes-frame-requires
statements::after_block-postfixes-frame-requires = statements.statements::after_block-postfixes-frame-requires

pub statements::after_block-wrap-requires : goal.statements::after_block-wrap-requires
statements::after_block-wrap-requires = statements.statements::after_block-wrap-requires

pub statements::after_block-returns-then-at_end_of-clause-asks : goal.statements::after_block-returns-then-at_end_of-clause-asks
statements::after_block-returns-then-at_end_of-clause-asks = statements.statements::after_block-returns-then-at_end_of-clause-asks

pub statements::after_block-wrap-requires-2 : goal.statements::after_block-wrap-requires-2
statements::after_block-wrap-requires-2 = statements.statements::after_block-wrap-requires-2

pub statements::ended_expression-expression-requires : goal.statements::ended_expression-expression-requires
statements::ended_expression-expression-requires = statements.statements::ended_expression-expression-requires

pub statements::ended_expression-statement_end-frame-requires : goal.statements::ended_expression-statement_end-frame-requires
statements::ended_expression-statement_end-frame-requires = statements.statements::ended_expression-statement_end-frame-requires

pub statements::ended_expression-returns-clause-from_start : goal.statements::ended_expression-returns-clause-from_start
statements::ended_expression-returns-clause-from_start = statements.statements::ended_expression-returns-clause-from_start

pub items::traits::impl_item-unsafe_word-requires : goal.items::traits::impl_item-unsafe_word-requires
items::traits::impl_item-unsafe_word-requires = traits.items::traits::impl_item-unsafe_word-requires

pub items::traits::trait_item-unsafe_word-requires : goal.items::traits::trait_item-unsafe_word-requires
items::traits::trait_item-unsafe_word-requires = traits.items::traits::trait_item-unsafe_word-requires

pub types::any_type-returns-clause-gives : goal.types::any_type-returns-clause-gives
types::any_type-returns-clause-gives = types.types::any_type-returns-clause-gives

pub types::inside-returns-in-L_PAREN-clause-reads : goal.types::inside-returns-in-L_PAREN-clause-reads
types::inside-returns-in-L_PAREN-clause-reads = types.types::inside-returns-in-L_PAREN-clause-reads

pub types::inside-returns-in-L_BRACK-clause-reads : goal.types::inside-returns-in-L_BRACK-clause-reads
types::inside-returns-in-L_BRACK-clause-reads = types.types::inside-returns-in-L_BRACK-clause-reads

pub types::inside-returns-in-BANG-clause-reads : goal.types::inside-returns-in-BANG-clause-reads
types::inside-returns-in-BANG-clause-reads = types.types::inside-returns-in-BANG-clause-reads

pub types::inside-returns-in-UNDERSCORE-clause-reads : goal.types::inside-returns-in-UNDERSCORE-clause-reads
types::inside-returns-in-UNDERSCORE-clause-reads = types.types::inside-returns-in-UNDERSCORE-clause-reads

pub types::inside-returns-in-STAR-clause-reads : goal.types::inside-returns-in-STAR-clause-reads
types::inside-returns-in-STAR-clause-reads = types.types::inside-returns-in-STAR-clause-reads

pub types::inside-returns-in-AMP-clause-reads : goal.types::inside-returns-in-AMP-clause-reads
types::inside-returns-in-AMP-clause-reads = types.types::inside-returns-in-AMP-clause-reads

pub types::inside-returns-in-IMPL_KW-clause-reads : goal.types::inside-returns-in-IMPL_KW-clause-reads
types::inside-returns-in-IMPL_KW-clause-reads = types.types::inside-returns-in-IMPL_KW-clause-reads

pub types::inside-returns-in-DYN_KW-clause-reads : goal.types::inside-returns-in-DYN_KW-clause-reads
types::inside-returns-in-DYN_KW-clause-reads = types.types::inside-returns-in-DYN_KW-clause-reads

pub types::inside-returns-in-BANG-clause-takes : goal.types::inside-returns-in-BANG-clause-takes
types::inside-returns-in-BANG-clause-takes = types.types::inside-returns-in-BANG-clause-takes

pub types::inside-returns-in-UNDERSCORE-clause-takes : goal.types::inside-returns-in-UNDERSCORE-clause-takes
types::inside-returns-in-UNDERSCORE-clause-takes = types.types::inside-returns-in-UNDERSCORE-clause-takes

pub types::inside-returns-then-at_dyn_word : goal.types::inside-returns-then-at_dyn_word
types::inside-returns-then-at_dyn_word = types.types::inside-returns-then-at_dyn_word

pub types::bounded_type-complete-requires : goal.types::bounded_type-complete-requires
types::bounded_type-complete-requires = types.types::bounded_type-complete-requires

pub types::bounded_type-returns-clause-reads : goal.types::bounded_type-returns-clause-reads
types::bounded_type-returns-clause-reads = types.types::bounded_type-returns-clause-reads

pub types::inside-returns-in-IMPL_KW-clause-takes : goal.types::inside-returns-in-IMPL_KW-clause-takes
types::inside-returns-in-IMPL_KW-clause-takes = types.types::inside-returns-in-IMPL_KW-clause-takes

pub types::inside-returns-in-DYN_KW-clause-takes : goal.types::inside-returns-in-DYN_KW-clause-takes
types::inside-returns-in-DYN_KW-clause-takes = types.types::inside-returns-in-DYN_KW-clause-takes

pub types::path_type-path_with_args-requires : goal.types::path_type-path_with_args-requires
types::path_type-path_with_args-requires = types.types::path_type-path_with_args-requires

pub types::path_type-complete-requires : goal.types::path_type-complete-requires
types::path_type-complete-requires = types.types::path_type-complete-requires

pub types::path_type-returns-clause-reads : goal.types::path_type-returns-clause-reads
types::path_type-returns-clause-reads = types.types::path_type-returns-clause-reads

pub types::ptr_type-complete-requires : goal.types::ptr_type-complete-requires
types::ptr_type-complete-requires = types.types::ptr_type-complete-requires

pub types::ptr_type-returns-clause-reads : goal.types::ptr_type-returns-clause-reads
types::ptr_type-returns-clause-reads = types.types::ptr_type-returns-clause-reads

pub types::ref_type-complete-requires : goal.types::ref_type-complete-requires
types::ref_type-complete-requires = types.types::ref_type-complete-requires

pub types::ref_type-returns-clause-reads : goal.types::ref_type-returns-clause-reads
types::ref_type-returns-clause-reads = types.types::ref_type-returns-clause-reads

pub types::paren_type-after_paren-requires : goal.types::paren_type-after_paren-requires
types::paren_type-after_paren-requires = types.types::paren_type-after_paren-requires

pub types::paren_type-returns-clause-reads : goal.types::paren_type-returns-clause-reads
types::paren_type-returns-clause-reads = types.types::paren_type-returns-clause-reads

pub types::after_paren-wrap-requires : goal.types::after_paren-wrap-requires
types::after_paren-wrap-requires = types.types::after_paren-wrap-requires

pub types::after_paren-returns-then-at-clause-reads : goal.types::after_paren-returns-then-at-clause-reads
types::after_paren-returns-then-at-clause-reads = types.types::after_paren-returns-then-at-clause-reads

pub types::after_paren-returns-clause-reads : goal.types::after_paren-returns-clause-reads
types::after_paren-returns-clause-reads = types.types::after_paren-returns-clause-reads

pub types::bracket_type-after_element-requires : goal.types::bracket_type-after_element-requires
types::bracket_type-after_element-requires = types.types::bracket_type-after_element-requires

pub types::bracket_type-returns-clause-reads : goal.types::bracket_type-returns-clause-reads
types::bracket_type-returns-clause-reads = types.types::bracket_type-returns-clause-reads

pub types::after_element-wrap-requires : goal.types::after_element-wrap-requires
types::after_element-wrap-requires = types.types::after_element-wrap-requires

pub types::after_element-wrap-requires-2 : goal.types::after_element-wrap-requires-2
types::after_element-wrap-requires-2 = types.types::after_element-wrap-requires-2

pub types::after_element-returns-then-at-clause-reads : goal.types::after_element-returns-then-at-clause-reads
types::after_element-returns-then-at-clause-reads = types.types::after_element-returns-then-at-clause-reads

pub types::after_element-returns-clause-reads : goal.types::after_element-returns-clause-reads
types::after_element-returns-clause-reads = types.types::after_element-returns-clause-reads

pub types::array_length-returns-clause-reads : goal.types::array_length-returns-clause-reads
types::array_length-returns-clause-reads = types.types::array_length-returns-clause-reads

pub types::ret_type-complete-requires : goal.types::ret_type-complete-requires
types::ret_type-complete-requires = types.types::ret_type-complete-requires

pub types::ret_type-returns-clause-gives : goal.types::ret_type-returns-clause-gives
types::ret_type-returns-clause-gives = types.types::ret_type-returns-clause-gives

pub types::opt_type_after-returns-then-at-clause-reads : goal.types::opt_type_after-returns-then-at-clause-reads
types::opt_type_after-returns-then-at-clause-reads = types.types::opt_type_after-returns-then-at-clause-reads

pub types::opt_type_after-returns-else-at-clause-reads : goal.types::opt_type_after-returns-else-at-clause-reads
types::opt_type_after-returns-else-at-clause-reads = types.types::opt_type_after-returns-else-at-clause-reads

pub expressions::range_end-returns-then-at_range_operand-clause-ends : goal.expressions::range_end-returns-then-at_range_operand-clause-ends
expressions::range_end-returns-then-at_range_operand-clause-ends = expressions.expressions::range_end-returns-then-at_range_operand-clause-ends

pub expressions::range_end-returns-clause-ends : goal.expressions::range_end-returns-clause-ends
expressions::range_end-returns-clause-ends = expressions.expressions::range_end-returns-clause-ends

pub expressions::range_end-returns-then-at_range_operand-clause-keeps : goal.expressions::range_end-returns-then-at_range_operand-clause-keeps
expressions::range_end-returns-then-at_range_operand-clause-keeps = expressions.expressions::range_end-returns-then-at_range_operand-clause-keeps

pub expressions::range_end-returns-clause-keeps : goal.expressions::range_end-returns-clause-keeps
expressions::range_end-returns-clause-keeps = expressions.expressions::range_end-returns-clause-keeps

pub items::item_turn-returns-then-at_inner_attribute-clause-keeps : goal.items::item_turn-returns-then-at_inner_attribute-clause-keeps
items::item_turn-returns-then-at_inner_attribute-clause-keeps = items.items::item_turn-returns-then-at_inner_attribute-clause-keeps

pub items::item_turn-returns-clause-keeps : goal.items::item_turn-returns-clause-keeps
items::item_turn-returns-clause-keeps = items.items::item_turn-returns-clause-keeps

pub lists::turn-returns-then-at_element-clause-keeps : goal.lists::turn-returns-then-at_element-clause-keeps
lists::turn-returns-then-at_element-clause-keeps = lists.lists::turn-returns-then-at_element-clause-keeps

pub lists::turn-returns-then-at_element-clause-asks : goal.lists::turn-returns-then-at_element-clause-asks
lists::turn-returns-then-at_element-clause-asks = lists.lists::turn-returns-then-at_element-clause-asks

pub lists::turn-returns-then-at_unexpected-clause-keeps : goal.lists::turn-returns-then-at_unexpected-clause-keeps
lists::turn-returns-then-at_unexpected-clause-keeps = lists.lists::turn-returns-then-at_unexpected-clause-keeps

pub lists::turn-returns-then-at_unexpected-clause-asks : goal.lists::turn-returns-then-at_unexpected-clause-asks
lists::turn-returns-then-at_unexpected-clause-asks = lists.lists::turn-returns-then-at_unexpected-clause-asks

pub lists::turn-returns-clause-asks : goal.lists::turn-returns-clause-asks
lists::turn-returns-clause-asks = lists.lists::turn-returns-clause-asks

pub paths::generic_args-opt_colons-requires : goal.paths::generic_args-opt_colons-requires
paths::generic_args-opt_colons-requires = paths.paths::generic_args-opt_colons-requires

pub types::opt_ret_type-returns-then-at_pair-clause-reads : goal.types::opt_ret_type-returns-then-at_pair-clause-reads
types::opt_ret_type-returns-then-at_pair-clause-reads = types.types::opt_ret_type-returns-then-at_pair-clause-reads

pub types::opt_ret_type-returns-else-at_pair-clause-reads : goal.types::opt_ret_type-returns-else-at_pair-clause-reads
types::opt_ret_type-returns-else-at_pair-clause-reads = types.types::opt_ret_type-returns-else-at_pair-clause-reads

pub types::type_no_bounds-bare_or_any-frame-requires : goal.types::type_no_bounds-bare_or_any-frame-requires
types::type_no_bounds-bare_or_any-frame-requires = types.types::type_no_bounds-bare_or_any-frame-requires

pub types::type_no_bounds-returns-clause-gives : goal.types::type_no_bounds-returns-clause-gives
types::type_no_bounds-returns-clause-gives = types.types::type_no_bounds-returns-clause-gives

pub types::bare_or_any-for_or_path-requires : goal.types::bare_or_any-for_or_path-requires
types::bare_or_any-for_or_path-requires = types.types::bare_or_any-for_or_path-requires

pub types::bare_or_any-inside-requires : goal.types::bare_or_any-inside-requires
types::bare_or_any-inside-requires = types.types::bare_or_any-inside-requires

pub types::bare_or_any-returns-then-at_bare_type-clause-reads : goal.types::bare_or_any-returns-then-at_bare_type-clause-reads
types::bare_or_any-returns-then-at_bare_type-clause-reads = types.types::bare_or_any-returns-then-at_bare_type-clause-reads

pub types::bare_or_any-returns-clause-reads : goal.types::bare_or_any-returns-clause-reads
types::bare_or_any-returns-clause-reads = types.types::bare_or_any-returns-clause-reads

pub types::for_or_path-returns-then-at-clause-reads : goal.types::for_or_path-returns-then-at-clause-reads
types::for_or_path-returns-then-at-clause-reads = types.types::for_or_path-returns-then-at-clause-reads

pub types::for_or_path-returns-then-at-clause-takes : goal.types::for_or_path-returns-then-at-clause-takes
types::for_or_path-returns-then-at-clause-takes = types.types::for_or_path-returns-then-at-clause-takes

pub types::for_or_path-front_path-frame-requires : goal.types::for_or_path-front_path-frame-requires
types::for_or_path-front_path-frame-requires = types.types::for_or_path-front_path-frame-requires

pub types::for_or_path-returns-clause-reads : goal.types::for_or_path-returns-clause-reads
types::for_or_path-returns-clause-reads = types.types::for_or_path-returns-clause-reads

pub types::front_path-qualified_path-requires : goal.types::front_path-qualified_path-requires
types::front_path-qualified_path-requires = types.types::front_path-qualified_path-requires

pub types::front_path-returns-then-at-clause-reads : goal.types::front_path-returns-then-at-clause-reads
types::front_path-returns-then-at-clause-reads = types.types::front_path-returns-then-at-clause-reads

pub types::front_path-path_with_args-requires : goal.types::front_path-path_with_args-requires
types::front_path-path_with_args-requires = types.types::front_path-path_with_args-requires

pub types::front_path-returns-clause-reads : goal.types::front_path-returns-clause-reads
types::front_path-returns-clause-reads = types.types::front_path-returns-clause-reads

pub types::front_path-returns-clause-takes : goal.types::front_path-returns-clause-takes
types::front_path-returns-clause-takes = types.types::front_path-returns-clause-takes

pub types::for_type-complete-requires : goal.types::for_type-complete-requires
types::for_type-complete-requires = types.types::for_type-complete-requires

pub types::for_type-returns-clause-reads : goal.types::for_type-returns-clause-reads
types::for_type-returns-clause-reads = types.types::for_type-returns-clause-reads

pub types::opt_plus_bounds-wrap-frame-requires-then-at : goal.types::opt_plus_bounds-wrap-frame-requires-then-at
types::opt_plus_bounds-wrap-frame-requires-then-at = types.types::opt_plus_bounds-wrap-frame-requires-then-at

pub types::opt_plus_bounds-returns-then-at-clause-reads : goal.types::opt_plus_bounds-returns-then-at-clause-reads
types::opt_plus_bounds-returns-then-at-clause-reads = types.types::opt_plus_bounds-returns-then-at-clause-reads

pub types::opt_plus_bounds-returns-clause-reads : goal.types::opt_plus_bounds-returns-clause-reads
types::opt_plus_bounds-returns-clause-reads = types.types::opt_plus_bounds-returns-clause-reads

pub types::bounds_after_plus-returns-clause-reads : goal.types::bounds_after_plus-returns-clause-reads
types::bounds_after_plus-returns-clause-reads = types.types::bounds_after_plus-returns-clause-reads

pub types::lifetime_bounds-complete-requires : goal.types::lifetime_bounds-complete-requires
types::lifetime_bounds-complete-requires = types.types::lifetime_bounds-complete-requires

pub types::lifetime_bounds-complete-requires-2 : goal.types::lifetime_bounds-complete-requires-2
types::lifetime_bounds-complete-requires-2 = types.types::lifetime_bounds-complete-requires-2

pub types::lifetime_bounds-returns-clause-reads : goal.types::lifetime_bounds-returns-clause-reads
types::lifetime_bounds-returns-clause-reads = types.types::lifetime_bounds-returns-clause-reads

pub types::inside-new_type-requires : goal.types::inside-new_type-requires
types::inside-new_type-requires = types.types::inside-new_type-requires

pub types::inside-returns-then-at_new_type : goal.types::inside-returns-then-at_new_type
types::inside-returns-then-at_new_type = types.types::inside-returns-then-at_new_type

pub types::inside-path_type-requires : goal.types::inside-path_type-requires
types::inside-path_type-requires = types.types::inside-path_type-requires

pub types::inside-returns-else-at_new_type : goal.types::inside-returns-else-at_new_type
types::inside-returns-else-at_new_type = types.types::inside-returns-else-at_new_type

pub paths::paren_args-opt_colons_before_paren-requires : goal.paths::paren_args-opt_colons_before_paren-requires
paths::paren_args-opt_colons_before_paren-requires = paths.paths::paren_args-opt_colons_before_paren-requires

pub paths::paren_args-complete-requires : goal.paths::paren_args-complete-requires
paths::paren_args-complete-requires = paths.paths::paren_args-complete-requires

pub paths::paren_args-returns-clause-reads : goal.paths::paren_args-returns-clause-reads
paths::paren_args-returns-clause-reads = paths.paths::paren_args-returns-clause-reads

pub paths::opt_type_args-fn_args-requires : goal.paths::opt_type_args-fn_args-requires
paths::opt_type_args-fn_args-requires = paths.paths::opt_type_args-fn_args-requires

pub paths::opt_type_args-returns-then-at_fn_args-clause-reads : goal.paths::opt_type_args-returns-then-at_fn_args-clause-reads
paths::opt_type_args-returns-then-at_fn_args-clause-reads = paths.paths::opt_type_args-returns-then-at_fn_args-clause-reads

pub paths::opt_type_args-generic_args-requires : goal.paths::opt_type_args-generic_args-requires
paths::opt_type_args-generic_args-requires = paths.paths::opt_type_args-generic_args-requires

pub paths::opt_type_args-returns-then-at_args-clause-reads : goal.paths::opt_type_args-returns-then-at_args-clause-reads
paths::opt_type_args-returns-then-at_args-clause-reads = paths.paths::opt_type_args-returns-then-at_args-clause-reads

pub paths::opt_type_args-returns-else-at_args-clause-reads : goal.paths::opt_type_args-returns-else-at_args-clause-reads
paths::opt_type_args-returns-else-at_args-clause-reads = paths.paths::opt_type_args-returns-else-at_args-clause-reads

pub paths::opt_args-returns-in-Expr-clause-reads : goal.paths::opt_args-returns-in-Expr-clause-reads
paths::opt_args-returns-in-Expr-clause-reads = paths.paths::opt_args-returns-in-Expr-clause-reads

pub paths::opt_args-returns-in-Type-clause-reads : goal.paths::opt_args-returns-in-Type-clause-reads
paths::opt_args-returns-in-Type-clause-reads = paths.paths::opt_args-returns-in-Type-clause-reads

pub paths::opt_expr_args-generic_args-requires : goal.paths::opt_expr_args-generic_args-requires
paths::opt_expr_args-generic_args-requires = paths.paths::opt_expr_args-generic_args-requires

pub paths::opt_expr_args-returns-then-at_args-clause-reads : goal.paths::opt_expr_args-returns-then-at_args-clause-reads
paths::opt_expr_args-returns-then-at_args-clause-reads = paths.paths::opt_expr_args-returns-then-at_args-clause-reads

pub paths::opt_expr_args-returns-else-at_args-clause-reads : goal.paths::opt_expr_args-returns-else-at_args-clause-reads
paths::opt_expr_args-returns-else-at_args-clause-reads = paths.paths::opt_expr_args-returns-else-at_args-clause-reads

pub paths::qualified_path-next_segments-requires : goal.paths::qualified_path-next_segments-requires
paths::qualified_path-next_segments-requires = paths.paths::qualified_path-next_segments-requires

pub paths::qualified_path-returns-clause-reads : goal.paths::qualified_path-returns-clause-reads
paths::qualified_path-returns-clause-reads = paths.paths::qualified_path-returns-clause-reads

pub paths::qualifier-complete-requires : goal.paths::qualifier-complete-requires
paths::qualifier-complete-requires = paths.paths::qualifier-complete-requires

pub paths::qualifier-complete-requires-2 : goal.paths::qualifier-complete-requires-2
paths::qualifier-complete-requires-2 = paths.paths::qualifier-complete-requires-2

pub paths::qualifier-returns-clause-reads : goal.paths::qualifier-returns-clause-reads
paths::qualifier-returns-clause-reads = paths.paths::qualifier-returns-clause-reads

pub paths::anchor-complete-requires : goal.paths::anchor-complete-requires
paths::anchor-complete-requires = paths.paths::anchor-complete-requires

pub paths::anchor-returns-clause-reads : goal.paths::anchor-returns-clause-reads
paths::anchor-returns-clause-reads = paths.paths::anchor-returns-clause-reads

pub paths::opt_as_trait-returns-then-at-clause-reads : goal.paths::opt_as_trait-returns-then-at-clause-reads
paths::opt_as_trait-returns-then-at-clause-reads = paths.paths::opt_as_trait-returns-then-at-clause-reads

pub paths::opt_as_trait-returns-else-at-clause-reads : goal.paths::opt_as_trait-returns-else-at-clause-reads
paths::opt_as_trait-returns-else-at-clause-reads = paths.paths::opt_as_trait-returns-else-at-clause-reads

pub generic_args::generic_arg-new_arg-frame-requires : goal.generic_args::generic_arg-new_arg-frame-requires
generic_args::generic_arg-new_arg-frame-requires = generic_args.generic_args::generic_arg-new_arg-frame-requires

pub generic_args::generic_arg-returns-then-at_new_arg-clause-gives : goal.generic_args::generic_arg-returns-then-at_new_arg-clause-gives
generic_args::generic_arg-returns-then-at_new_arg-clause-gives = generic_args.generic_args::generic_arg-returns-then-at_new_arg-clause-gives

pub generic_args::generic_arg-returns-in-LIFETIME_IDENT-clause-gives : goal.generic_args::generic_arg-returns-in-LIFETIME_IDENT-clause-gives
generic_args::generic_arg-returns-in-LIFETIME_IDENT-clause-gives = generic_args.generic_args::generic_arg-returns-in-LIFETIME_IDENT-clause-gives

pub generic_args::generic_arg-returns-in-MINUS-clause-gives : goal.generic_args::generic_arg-returns-in-MINUS-clause-gives
generic_args::generic_arg-returns-in-MINUS-clause-gives = generic_args.generic_args::generic_arg-returns-in-MINUS-clause-gives

pub generic_args::generic_arg-word_arg-requires : goal.generic_args::generic_arg-word_arg-requires
generic_args::generic_arg-word_arg-requires = generic_args.generic_args::generic_arg-word_arg-requires

pub generic_args::generic_arg-returns-in-IDENT-clause-gives : goal.generic_args::generic_arg-returns-in-IDENT-clause-gives
generic_args::generic_arg-returns-in-IDENT-clause-gives = generic_args.generic_args::generic_arg-returns-in-IDENT-clause-gives

pub generic_args::generic_arg-returns-then-at_literal-clause-gives : goal.generic_args::generic_arg-returns-then-at_literal-clause-gives
generic_args::generic_arg-returns-then-at_literal-clause-gives = generic_args.generic_args::generic_arg-returns-then-at_literal-clause-gives

pub generic_args::generic_arg-type_arg-requires : goal.generic_args::generic_arg-type_arg-requires
generic_args::generic_arg-type_arg-requires = generic_args.generic_args::generic_arg-type_arg-requires

pub generic_args::generic_arg-returns-else-at_literal-clause-gives : goal.generic_args::generic_arg-returns-else-at_literal-clause-gives
generic_args::generic_arg-returns-else-at_literal-clause-gives = generic_args.generic_args::generic_arg-returns-else-at_literal-clause-gives

pub generic_args::word_arg-returns-then-at_second-clause-from_start : goal.generic_args::word_arg-returns-then-at_second-clause-from_start
generic_args::word_arg-returns-then-at_second-clause-from_start = generic_args.generic_args::word_arg-returns-then-at_second-clause-from_start

pub generic_args::word_arg-type_arg-requires : goal.generic_args::word_arg-type_arg-requires
generic_args::word_arg-type_arg-requires = generic_args.generic_args::word_arg-type_arg-requires

pub generic_args::word_arg-returns-clause-from_start : goal.generic_args::word_arg-returns-clause-from_start
generic_args::word_arg-returns-clause-from_start = generic_args.generic_args::word_arg-returns-clause-from_start

pub generic_args::type_arg-any_type-requires : goal.generic_args::type_arg-any_type-requires
generic_args::type_arg-any_type-requires = generic_args.generic_args::type_arg-any_type-requires

pub generic_args::new_arg-type_arg-requires : goal.generic_args::new_arg-type_arg-requires
generic_args::new_arg-type_arg-requires = generic_args.generic_args::new_arg-type_arg-requires

pub generic_args::new_arg-returns-then-at-clause-reads : goal.generic_args::new_arg-returns-then-at-clause-reads
generic_args::new_arg-returns-then-at-clause-reads = generic_args.generic_args::new_arg-returns-then-at-clause-reads

pub generic_args::new_arg-returns-then-at-clause-takes : goal.generic_args::new_arg-returns-then-at-clause-takes
generic_args::new_arg-returns-then-at-clause-takes = generic_args.generic_args::new_arg-returns-then-at-clause-takes

pub generic_args::new_arg-returns-then-at-2-clause-reads : goal.generic_args::new_arg-returns-then-at-2-clause-reads
generic_args::new_arg-returns-then-at-2-clause-reads = generic_args.generic_args::new_arg-returns-then-at-2-clause-reads

pub generic_args::new_arg-returns-then-at-2-clause-takes : goal.generic_args::new_arg-returns-then-at-2-clause-takes
generic_args::new_arg-returns-then-at-2-clause-takes = generic_args.generic_args::new_arg-returns-then-at-2-clause-takes

pub generic_args::new_arg-named_arg-requires : goal.generic_args::new_arg-named_arg-requires
generic_args::new_arg-named_arg-requires = generic_args.generic_args::new_arg-named_arg-requires

pub generic_args::new_arg-returns-clause-reads : goal.generic_args::new_arg-returns-clause-reads
generic_args::new_arg-returns-clause-reads = generic_args.generic_args::new_arg-returns-clause-reads

pub generic_args::block_arg-complete-requires : goal.generic_args::block_arg-complete-requires
generic_args::block_arg-complete-requires = generic_args.generic_args::block_arg-complete-requires

pub generic_args::block_arg-returns-clause-reads : goal.generic_args::block_arg-returns-clause-reads
generic_args::block_arg-returns-clause-reads = generic_args.generic_args::block_arg-returns-clause-reads

pub generic_args::named_arg-wrap-requires : goal.generic_args::named_arg-wrap-requires
generic_args::named_arg-wrap-requires = generic_args.generic_args::named_arg-wrap-requires

pub generic_args::named_arg-wrap-requires-then-at_single_colon : goal.generic_args::named_arg-wrap-requires-then-at_single_colon
generic_args::named_arg-wrap-requires-then-at_single_colon = generic_args.generic_args::named_arg-wrap-requires-then-at_single_colon

pub generic_args::named_arg-front_of_type-requires : goal.generic_args::named_arg-front_of_type-requires
generic_args::named_arg-front_of_type-requires = generic_args.generic_args::named_arg-front_of_type-requires

pub generic_args::named_arg-returns-then-at-clause-reads : goal.generic_args::named_arg-returns-then-at-clause-reads
generic_args::named_arg-returns-then-at-clause-reads = generic_args.generic_args::named_arg-returns-then-at-clause-reads

pub generic_args::named_arg-returns-then-at_single_colon-clause-reads : goal.generic_args::named_arg-returns-then-at_single_colon-clause-reads
generic_args::named_arg-returns-then-at_single_colon-clause-reads = generic_args.generic_args::named_arg-returns-then-at_single_colon-clause-reads

pub generic_args::named_arg-returns-clause-reads : goal.generic_args::named_arg-returns-clause-reads
generic_args::named_arg-returns-clause-reads = generic_args.generic_args::named_arg-returns-clause-reads

pub generic_args::const_or_type-returns-then-at_const_value-clause-reads : goal.generic_args::const_or_type-returns-then-at_const_value-clause-reads
generic_args::const_or_type-returns-then-at_const_value-clause-reads = generic_args.generic_args::const_or_type-returns-then-at_const_value-clause-reads

pub generic_args::const_or_type-returns-clause-reads : goal.generic_args::const_or_type-returns-clause-reads
generic_args::const_or_type-returns-clause-reads = generic_args.generic_args::const_or_type-returns-clause-reads

pub generic_args::front_of_type-next_segments-frame-requires : goal.generic_args::front_of_type-next_segments-frame-requires
generic_args::front_of_type-next_segments-frame-requires = generic_args.generic_args::front_of_type-next_segments-frame-requires

pub generic_args::front_of_type-returns-clause-reads : goal.generic_args::front_of_type-returns-clause-reads
generic_args::front_of_type-returns-clause-reads = generic_args.generic_args::front_of_type-returns-clause-reads

pub types::any_type-inside-frame-requires : goal.types::any_type-inside-frame-requires
types::any_type-inside-frame-requires = types.types::any_type-inside-frame-requires

pub types::after_paren-tuple_tail-requires : goal.types::after_paren-tuple_tail-requires
types::after_paren-tuple_tail-requires = types.types::after_paren-tuple_tail-requires

pub types::inside-returns-in-STAR-clause-takes : goal.types::inside-returns-in-STAR-clause-takes
types::inside-returns-in-STAR-clause-takes = types.types::inside-returns-in-STAR-clause-takes

pub types::inside-returns-in-AMP-clause-takes : goal.types::inside-returns-in-AMP-clause-takes
types::inside-returns-in-AMP-clause-takes = types.types::inside-returns-in-AMP-clause-takes

pub lists::read_element-type_arg-requires : goal.lists::read_element-type_arg-requires
lists::read_element-type_arg-requires = lists.lists::read_element-type_arg-requires

pub lists::read_element-returns-in-TypeArg-clause-reads : goal.lists::read_element-returns-in-TypeArg-clause-reads
lists::read_element-returns-in-TypeArg-clause-reads = lists.lists::read_element-returns-in-TypeArg-clause-reads

pub types::new_type-returns-then-at-clause-reads : goal.types::new_type-returns-then-at-clause-reads
types::new_type-returns-then-at-clause-reads = types.types::new_type-returns-then-at-clause-reads

pub types::new_type-returns-then-at_fn_ptr-clause-reads : goal.types::new_type-returns-then-at_fn_ptr-clause-reads
types::new_type-returns-then-at_fn_ptr-clause-reads = types.types::new_type-returns-then-at_fn_ptr-clause-reads

pub types::new_type-returns-clause-reads : goal.types::new_type-returns-clause-reads
types::new_type-returns-clause-reads = types.types::new_type-returns-clause-reads

pub types::new_type-fn_ptr_type-requires : goal.types::new_type-fn_ptr_type-requires
types::new_type-fn_ptr_type-requires = types.types::new_type-fn_ptr_type-requires

pub types::new_type-for_or_path-frame-requires : goal.types::new_type-for_or_path-frame-requires
types::new_type-for_or_path-frame-requires = types.types::new_type-for_or_path-frame-requires

pub types::new_type-opt_plus_bounds-requires : goal.types::new_type-opt_plus_bounds-requires
types::new_type-opt_plus_bounds-requires = types.types::new_type-opt_plus_bounds-requires

pub types::new_type-returns-then-at_fn_ptr-clause-takes : goal.types::new_type-returns-then-at_fn_ptr-clause-takes
types::new_type-returns-then-at_fn_ptr-clause-takes = types.types::new_type-returns-then-at_fn_ptr-clause-takes

pub types::new_type-returns-then-at-clause-takes : goal.types::new_type-returns-then-at-clause-takes
types::new_type-returns-then-at-clause-takes = types.types::new_type-returns-then-at-clause-takes

pub paths::fn_args-returns-then-at_dots_args-clause-reads : goal.paths::fn_args-returns-then-at_dots_args-clause-reads
paths::fn_args-returns-then-at_dots_args-clause-reads = paths.paths::fn_args-returns-then-at_dots_args-clause-reads

pub paths::fn_args-returns-then-at_colons_dots_args-clause-reads : goal.paths::fn_args-returns-then-at_colons_dots_args-clause-reads
paths::fn_args-returns-then-at_colons_dots_args-clause-reads = paths.paths::fn_args-returns-then-at_colons_dots_args-clause-reads

pub paths::fn_args-returns-clause-reads : goal.paths::fn_args-returns-clause-reads
paths::fn_args-returns-clause-reads = paths.paths::fn_args-returns-clause-reads

pub paths::fn_args-paren_args-requires : goal.paths::fn_args-paren_args-requires
paths::fn_args-paren_args-requires = paths.paths::fn_args-paren_args-requires

pub fn_pointers::fn_ptr_type-returns-clause-reads : goal.fn_pointers::fn_ptr_type-returns-clause-reads
fn_pointers::fn_ptr_type-returns-clause-reads = fn_pointers.fn_pointers::fn_ptr_type-returns-clause-reads

pub fn_pointers::fn_ptr_type-complete-requires : goal.fn_pointers::fn_ptr_type-complete-requires
fn_pointers::fn_ptr_type-complete-requires = fn_pointers.fn_pointers::fn_ptr_type-complete-requires

pub fn_pointers::fn_ptr_type-fn_ptr_words-requires : goal.fn_pointers::fn_ptr_type-fn_ptr_words-requires
fn_pointers::fn_ptr_type-fn_ptr_words-requires = fn_pointers.fn_pointers::fn_ptr_type-fn_ptr_words-requires

pub fn_pointers::dots_or_type-returns-then-at_dots_dot-clause-reads : goal.fn_pointers::dots_or_type-returns-then-at_dots_dot-clause-reads
fn_pointers::dots_or_type-returns-then-at_dots_dot-clause-reads = fn_pointers.fn_pointers::dots_or_type-returns-then-at_dots_dot-clause-reads

pub fn_pointers::dots_or_type-returns-clause-reads : goal.fn_pointers::dots_or_type-returns-clause-reads
fn_pointers::dots_or_type-returns-clause-reads = fn_pointers.fn_pointers::dots_or_type-returns-clause-reads

pub fn_pointers::missing_type-complete-requires : goal.fn_pointers::missing_type-complete-requires
fn_pointers::missing_type-complete-requires = fn_pointers.fn_pointers::missing_type-complete-requires

pub fn_pointers::dots_name_or_type-returns-then-at_dots_dot-clause-reads : goal.fn_pointers::dots_name_or_type-returns-then-at_dots_dot-clause-reads
fn_pointers::dots_name_or_type-returns-then-at_dots_dot-clause-reads = fn_pointers.fn_pointers::dots_name_or_type-returns-then-at_dots_dot-clause-reads

pub fn_pointers::dots_name_or_type-returns-then-at_named_param-clause-reads : goal.fn_pointers::dots_name_or_type-returns-then-at_named_param-clause-reads
fn_pointers::dots_name_or_type-returns-then-at_named_param-clause-reads = fn_pointers.fn_pointers::dots_name_or_type-returns-then-at_named_param-clause-reads

pub fn_pointers::dots_name_or_type-returns-then-at_type-clause-reads : goal.fn_pointers::dots_name_or_type-returns-then-at_type-clause-reads
fn_pointers::dots_name_or_type-returns-then-at_type-clause-reads = fn_pointers.fn_pointers::dots_name_or_type-returns-then-at_type-clause-reads

pub fn_pointers::dots_name_or_type-returns-clause-reads : goal.fn_pointers::dots_name_or_type-returns-clause-reads
fn_pointers::dots_name_or_type-returns-clause-reads = fn_pointers.fn_pointers::dots_name_or_type-returns-clause-reads

pub fn_pointers::dots_name_or_type-named_param-requires : goal.fn_pointers::dots_name_or_type-named_param-requires
fn_pointers::dots_name_or_type-named_param-requires = fn_pointers.fn_pointers::dots_name_or_type-named_param-requires

pub fn_pointers::dots_name_or_type-any_type-requires : goal.fn_pointers::dots_name_or_type-any_type-requires
fn_pointers::dots_name_or_type-any_type-requires = fn_pointers.fn_pointers::dots_name_or_type-any_type-requires

pub fn_pointers::dots_name_or_type-missing_type-requires : goal.fn_pointers::dots_name_or_type-missing_type-requires
fn_pointers::dots_name_or_type-missing_type-requires = fn_pointers.fn_pointers::dots_name_or_type-missing_type-requires

pub fn_pointers::missing_type-missing_path-requires : goal.fn_pointers::missing_type-missing_path-requires
fn_pointers::missing_type-missing_path-requires = fn_pointers.fn_pointers::missing_type-missing_path-requires

pub fn_pointers::missing_type-returns-clause-gives : goal.fn_pointers::missing_type-returns-clause-gives
fn_pointers::missing_type-returns-clause-gives = fn_pointers.fn_pointers::missing_type-returns-clause-gives

pub fn_pointers::named_param-returns-clause-reads : goal.fn_pointers::named_param-returns-clause-reads
fn_pointers::named_param-returns-clause-reads = fn_pointers.fn_pointers::named_param-returns-clause-reads

pub fn_pointers::named_param-single_pattern-requires : goal.fn_pointers::named_param-single_pattern-requires
fn_pointers::named_param-single_pattern-requires = fn_pointers.fn_pointers::named_param-single_pattern-requires

pub fn_pointers::missing_path-missing_segment-requires : goal.fn_pointers::missing_path-missing_segment-requires
fn_pointers::missing_path-missing_segment-requires = fn_pointers.fn_pointers::missing_path-missing_segment-requires

pub fn_pointers::missing_path-next_segments-frame-requires : goal.fn_pointers::missing_path-next_segments-frame-requires
fn_pointers::missing_path-next_segments-frame-requires = fn_pointers.fn_pointers::missing_path-next_segments-frame-requires

pub fn_pointers::missing_path-returns-clause-gives : goal.fn_pointers::missing_path-returns-clause-gives
fn_pointers::missing_path-returns-clause-gives = fn_pointers.fn_pointers::missing_path-returns-clause-gives

pub fn_pointers::missing_segment-returns-clause-reads : goal.fn_pointers::missing_segment-returns-clause-reads
fn_pointers::missing_segment-returns-clause-reads = fn_pointers.fn_pointers::missing_segment-returns-clause-reads

pub fn_pointers::missing_segment-complete-requires : goal.fn_pointers::missing_segment-complete-requires
fn_pointers::missing_segment-complete-requires = fn_pointers.fn_pointers::missing_segment-complete-requires

pub fn_pointers::missing_segment-complete-requires-2 : goal.fn_pointers::missing_segment-complete-requires-2
fn_pointers::missing_segment-complete-requires-2 = fn_pointers.fn_pointers::missing_segment-complete-requires-2

pub fn_pointers::fn_ptr_param-returns-clause-reads : goal.fn_pointers::fn_ptr_param-returns-clause-reads
fn_pointers::fn_ptr_param-returns-clause-reads = fn_pointers.fn_pointers::fn_ptr_param-returns-clause-reads

pub fn_pointers::fn_ptr_param-complete-requires : goal.fn_pointers::fn_ptr_param-complete-requires
fn_pointers::fn_ptr_param-complete-requires = fn_pointers.fn_pointers::fn_ptr_param-complete-requires

pub fn_pointers::fn_ptr_param-attributed_or_bare-requires : goal.fn_pointers::fn_ptr_param-attributed_or_bare-requires
fn_pointers::fn_ptr_param-attributed_or_bare-requires = fn_pointers.fn_pointers::fn_ptr_param-attributed_or_bare-requires

pub fn_pointers::attributed_or_bare-returns-then-at_new-clause-reads : goal.fn_pointers::attributed_or_bare-returns-then-at_new-clause-reads
fn_pointers::attributed_or_bare-returns-then-at_new-clause-reads = fn_pointers.fn_pointers::attributed_or_bare-returns-then-at_new-clause-reads

pub fn_pointers::attributed_or_bare-bare_param-requires : goal.fn_pointers::attributed_or_bare-bare_param-requires
fn_pointers::attributed_or_bare-bare_param-requires = fn_pointers.fn_pointers::attributed_or_bare-bare_param-requires

pub fn_pointers::attributed_or_bare-returns-clause-reads : goal.fn_pointers::attributed_or_bare-returns-clause-reads
fn_pointers::attributed_or_bare-returns-clause-reads = fn_pointers.fn_pointers::attributed_or_bare-returns-clause-reads

pub fn_pointers::bare_param-returns-then-at_dots_dot-clause-reads : goal.fn_pointers::bare_param-returns-then-at_dots_dot-clause-reads
fn_pointers::bare_param-returns-then-at_dots_dot-clause-reads = fn_pointers.fn_pointers::bare_param-returns-then-at_dots_dot-clause-reads

pub fn_pointers::bare_param-returns-then-at_named_param-clause-reads : goal.fn_pointers::bare_param-returns-then-at_named_param-clause-reads
fn_pointers::bare_param-returns-then-at_named_param-clause-reads = fn_pointers.fn_pointers::bare_param-returns-then-at_named_param-clause-reads

pub fn_pointers::bare_param-returns-clause-reads : goal.fn_pointers::bare_param-returns-clause-reads
fn_pointers::bare_param-returns-clause-reads = fn_pointers.fn_pointers::bare_param-returns-clause-reads

pub fn_pointers::bare_param-named_param-requires : goal.fn_pointers::bare_param-named_param-requires
fn_pointers::bare_param-named_param-requires = fn_pointers.fn_pointers::bare_param-named_param-requires

pub fn_pointers::bare_param-any_type-requires : goal.fn_pointers::bare_param-any_type-requires
fn_pointers::bare_param-any_type-requires = fn_pointers.fn_pointers::bare_param-any_type-requires

pub patterns::single_pattern-range_or_atom-frame-requires : goal.patterns::single_pattern-range_or_atom-frame-requires
patterns::single_pattern-range_or_atom-frame-requires = patterns.patterns::single_pattern-range_or_atom-frame-requires

pub patterns::single_pattern-returns-clause-gives : goal.patterns::single_pattern-returns-clause-gives
patterns::single_pattern-returns-clause-gives = patterns.patterns::single_pattern-returns-clause-gives

pub patterns::inside-qualified_pat-requires : goal.patterns::inside-qualified_pat-requires
patterns::inside-qualified_pat-requires = patterns.patterns::inside-qualified_pat-requires

pub patterns::inside-returns-in-L_ANGLE-clause-reads : goal.patterns::inside-returns-in-L_ANGLE-clause-reads
patterns::inside-returns-in-L_ANGLE-clause-reads = patterns.patterns::inside-returns-in-L_ANGLE-clause-reads

pub patterns::inside-returns-in-L_ANGLE-clause-takes : goal.patterns::inside-returns-in-L_ANGLE-clause-takes
patterns::inside-returns-in-L_ANGLE-clause-takes = patterns.patterns::inside-returns-in-L_ANGLE-clause-takes

pub patterns::qualified_pat-returns-clause-reads : goal.patterns::qualified_pat-returns-clause-reads
patterns::qualified_pat-returns-clause-reads = patterns.patterns::qualified_pat-returns-clause-reads

pub patterns::qualified_pat-qualified_path-frame-requires : goal.patterns::qualified_pat-qualified_path-frame-requires
patterns::qualified_pat-qualified_path-frame-requires = patterns.patterns::qualified_pat-qualified_path-frame-requires

pub patterns::qualified_pat-after_path-requires : goal.patterns::qualified_pat-after_path-requires
patterns::qualified_pat-after_path-requires = patterns.patterns::qualified_pat-after_path-requires

pub patterns::after_path-returns-then-at-clause-reads : goal.patterns::after_path-returns-then-at-clause-reads
patterns::after_path-returns-then-at-clause-reads = patterns.patterns::after_path-returns-then-at-clause-reads

pub patterns::after_path-returns-then-at-2-clause-reads : goal.patterns::after_path-returns-then-at-2-clause-reads
patterns::after_path-returns-then-at-2-clause-reads = patterns.patterns::after_path-returns-then-at-2-clause-reads

pub patterns::after_path-returns-then-at_new-clause-reads : goal.patterns::after_path-returns-then-at_new-clause-reads
patterns::after_path-returns-then-at_new-clause-reads = patterns.patterns::after_path-returns-then-at_new-clause-reads

pub patterns::after_path-returns-clause-reads : goal.patterns::after_path-returns-clause-reads
patterns::after_path-returns-clause-reads = patterns.patterns::after_path-returns-clause-reads

pub patterns::after_path-wrap-requires : goal.patterns::after_path-wrap-requires
patterns::after_path-wrap-requires = patterns.patterns::after_path-wrap-requires

pub patterns::after_path-wrap-requires-then-at-2 : goal.patterns::after_path-wrap-requires-then-at-2
patterns::after_path-wrap-requires-then-at-2 = patterns.patterns::after_path-wrap-requires-then-at-2

pub patterns::after_path-wrap-requires-then-at_new : goal.patterns::after_path-wrap-requires-then-at_new
patterns::after_path-wrap-requires-then-at_new = patterns.patterns::after_path-wrap-requires-then-at_new

pub patterns::after_path-wrap-requires-2 : goal.patterns::after_path-wrap-requires-2
patterns::after_path-wrap-requires-2 = patterns.patterns::after_path-wrap-requires-2

pub pattern_ranges::range_or_atom-returns-then-at_open_range-clause-reads : goal.pattern_ranges::range_or_atom-returns-then-at_open_range-clause-reads
pattern_ranges::range_or_atom-returns-then-at_open_range-clause-reads = pattern_ranges.pattern_ranges::range_or_atom-returns-then-at_open_range-clause-reads

pub pattern_ranges::range_or_atom-returns-clause-reads : goal.pattern_ranges::range_or_atom-returns-clause-reads
pattern_ranges::range_or_atom-returns-clause-reads = pattern_ranges.pattern_ranges::range_or_atom-returns-clause-reads

pub pattern_ranges::range_or_atom-open_range-requires : goal.pattern_ranges::range_or_atom-open_range-requires
pattern_ranges::range_or_atom-open_range-requires = pattern_ranges.pattern_ranges::range_or_atom-open_range-requires

pub pattern_ranges::range_or_atom-inside-frame-requires : goal.pattern_ranges::range_or_atom-inside-frame-requires
pattern_ranges::range_or_atom-inside-frame-requires = pattern_ranges.pattern_ranges::range_or_atom-inside-frame-requires

pub pattern_ranges::range_or_atom-opt_range-requires : goal.pattern_ranges::range_or_atom-opt_range-requires
pattern_ranges::range_or_atom-opt_range-requires = pattern_ranges.pattern_ranges::range_or_atom-opt_range-requires

pub pattern_ranges::range_or_atom-returns-then-at_open_range-clause-takes : goal.pattern_ranges::range_or_atom-returns-then-at_open_range-clause-takes
pattern_ranges::range_or_atom-returns-then-at_open_range-clause-takes = pattern_ranges.pattern_ranges::range_or_atom-returns-then-at_open_range-clause-takes

pub pattern_ranges::open_range-returns-clause-reads : goal.pattern_ranges::open_range-returns-clause-reads
pattern_ranges::open_range-returns-clause-reads = pattern_ranges.pattern_ranges::open_range-returns-clause-reads

pub pattern_ranges::open_range-complete-requires : goal.pattern_ranges::open_range-complete-requires
pattern_ranges::open_range-complete-requires = pattern_ranges.pattern_ranges::open_range-complete-requires

pub pattern_ranges::open_range-take_two_dots-requires : goal.pattern_ranges::open_range-take_two_dots-requires
pattern_ranges::open_range-take_two_dots-requires = pattern_ranges.pattern_ranges::open_range-take_two_dots-requires

pub pattern_ranges::opt_range_end-returns-then-at_range_end-clause-reads : goal.pattern_ranges::opt_range_end-returns-then-at_range_end-clause-reads
pattern_ranges::opt_range_end-returns-then-at_range_end-clause-reads = pattern_ranges.pattern_ranges::opt_range_end-returns-then-at_range_end-clause-reads

pub pattern_ranges::opt_range_end-returns-else-at_range_end-clause-reads : goal.pattern_ranges::opt_range_end-returns-else-at_range_end-clause-reads
pattern_ranges::opt_range_end-returns-else-at_range_end-clause-reads = pattern_ranges.pattern_ranges::opt_range_end-returns-else-at_range_end-clause-reads

pub pattern_ranges::opt_range_end-pattern_atom-requires : goal.pattern_ranges::opt_range_end-pattern_atom-requires
pattern_ranges::opt_range_end-pattern_atom-requires = pattern_ranges.pattern_ranges::opt_range_end-pattern_atom-requires

pub pattern_ranges::pattern_atom-inside-frame-requires : goal.pattern_ranges::pattern_atom-inside-frame-requires
pattern_ranges::pattern_atom-inside-frame-requires = pattern_ranges.pattern_ranges::pattern_atom-inside-frame-requires

pub pattern_ranges::pattern_atom-returns-clause-gives : goal.pattern_ranges::pattern_atom-returns-clause-gives
pattern_ranges::pattern_atom-returns-clause-gives = pattern_ranges.pattern_ranges::pattern_atom-returns-clause-gives

pub pattern_ranges::opt_range-returns-then-at_range_op-clause-reads : goal.pattern_ranges::opt_range-returns-then-at_range_op-clause-reads
pattern_ranges::opt_range-returns-then-at_range_op-clause-reads = pattern_ranges.pattern_ranges::opt_range-returns-then-at_range_op-clause-reads

pub pattern_ranges::opt_range-returns-clause-reads : goal.pattern_ranges::opt_range-returns-clause-reads
pattern_ranges::opt_range-returns-clause-reads = pattern_ranges.pattern_ranges::opt_range-returns-clause-reads

pub pattern_ranges::opt_range-take_range_op-requires : goal.pattern_ranges::opt_range-take_range_op-requires
pattern_ranges::opt_range-take_range_op-requires = pattern_ranges.pattern_ranges::opt_range-take_range_op-requires

pub pattern_ranges::opt_range-wrap-requires : goal.pattern_ranges::opt_range-wrap-requires
pattern_ranges::opt_range-wrap-requires = pattern_ranges.pattern_ranges::opt_range-wrap-requires

pub fields::pattern_field-returns-then-at_pair-clause-gives : goal.fields::pattern_field-returns-then-at_pair-clause-gives
fields::pattern_field-returns-then-at_pair-clause-gives = fields.fields::pattern_field-returns-then-at_pair-clause-gives

pub fields::pattern_field-returns-then-at_named_field-clause-gives : goal.fields::pattern_field-returns-then-at_named_field-clause-gives
fields::pattern_field-returns-then-at_named_field-clause-gives = fields.fields::pattern_field-returns-then-at_named_field-clause-gives

pub fields::pattern_field-returns-clause-gives : goal.fields::pattern_field-returns-clause-gives
fields::pattern_field-returns-clause-gives = fields.fields::pattern_field-returns-clause-gives

pub fields::pattern_field-returns-then-at_new-clause-gives : goal.fields::pattern_field-returns-then-at_new-clause-gives
fields::pattern_field-returns-then-at_new-clause-gives = fields.fields::pattern_field-returns-then-at_new-clause-gives

pub fields::pattern_field-named_pattern-requires : goal.fields::pattern_field-named_pattern-requires
fields::pattern_field-named_pattern-requires = fields.fields::pattern_field-named_pattern-requires

pub fields::pattern_field-shorthand-requires-clause-begins : goal.fields::pattern_field-shorthand-requires-clause-begins
fields::pattern_field-shorthand-requires-clause-begins = fields.fields::pattern_field-shorthand-requires-clause-begins

pub fields::attributed_pattern_field-after_attributes-requires : goal.fields::attributed_pattern_field-after_attributes-requires
fields::attributed_pattern_field-after_attributes-requires = fields.fields::attributed_pattern_field-after_attributes-requires

pub fields::attributed_pattern_field-returns-clause-from_start : goal.fields::attributed_pattern_field-returns-clause-from_start
fields::attributed_pattern_field-returns-clause-from_start = fields.fields::attributed_pattern_field-returns-clause-from_start

pub fields::after_attributes-returns-then-at_pair-clause-completes : goal.fields::after_attributes-returns-then-at_pair-clause-completes
fields::after_attributes-returns-then-at_pair-clause-completes = fields.fields::after_attributes-returns-then-at_pair-clause-completes

pub fields::after_attributes-returns-then-at_attributed_named_field-clause-completes : goal.fields::after_attributes-returns-then-at_attributed_named_field-clause-completes
fields::after_attributes-returns-then-at_attributed_named_field-clause-completes = fields.fields::after_attributes-returns-then-at_attributed_named_field-clause-completes

pub fields::after_attributes-returns-clause-completes : goal.fields::after_attributes-returns-clause-completes
fields::after_attributes-returns-clause-completes = fields.fields::after_attributes-returns-clause-completes

pub fields::after_attributes-complete-requires : goal.fields::after_attributes-complete-requires
fields::after_attributes-complete-requires = fields.fields::after_attributes-complete-requires

pub fields::after_attributes-complete-requires-then-at_attributed_named_field : goal.fields::after_attributes-complete-requires-then-at_attributed_named_field
fields::after_attributes-complete-requires-then-at_attributed_named_field = fields.fields::after_attributes-complete-requires-then-at_attributed_named_field

pub fields::after_attributes-complete-requires-2 : goal.fields::after_attributes-complete-requires-2
fields::after_attributes-complete-requires-2 = fields.fields::after_attributes-complete-requires-2

pub attributes::outer_attributes-attribute-requires : goal.attributes::outer_attributes-attribute-requires
attributes::outer_attributes-attribute-requires = attributes.attributes::outer_attributes-attribute-requires

pub attributes::outer_attributes-turns-preserved : goal.attributes::outer_attributes-turns-preserved
attributes::outer_attributes-turns-preserved = attributes.attributes::outer_attributes-turns-preserved

pub attributes::outer_attributes-returns-clause-reads : goal.attributes::outer_attributes-returns-clause-reads
attributes::outer_attributes-returns-clause-reads = attributes.attributes::outer_attributes-returns-clause-reads

pub attributes::expect_meta-meta-requires : goal.attributes::expect_meta-meta-requires
attributes::expect_meta-meta-requires = attributes.attributes::expect_meta-meta-requires

pub attributes::expect_meta-returns-then-at_meta-clause-reads : goal.attributes::expect_meta-returns-then-at_meta-clause-reads
attributes::expect_meta-returns-then-at_meta-clause-reads = attributes.attributes::expect_meta-returns-then-at_meta-clause-reads

pub attributes::expect_meta-returns-clause-reads : goal.attributes::expect_meta-returns-clause-reads
attributes::expect_meta-returns-clause-reads = attributes.attributes::expect_meta-returns-clause-reads

pub attributes::meta-returns-then-at_new-clause-gives : goal.attributes::meta-returns-then-at_new-clause-gives
attributes::meta-returns-then-at_new-clause-gives = attributes.attributes::meta-returns-then-at_new-clause-gives

pub attributes::meta-path_meta-requires : goal.attributes::meta-path_meta-requires
attributes::meta-path_meta-requires = attributes.attributes::meta-path_meta-requires

pub attributes::meta-returns-clause-gives : goal.attributes::meta-returns-clause-gives
attributes::meta-returns-clause-gives = attributes.attributes::meta-returns-clause-gives

pub attributes::path_meta-returns-clause-reads : goal.attributes::path_meta-returns-clause-reads
attributes::path_meta-returns-clause-reads = attributes.attributes::path_meta-returns-clause-reads

pub attributes::path_meta-complete-requires : goal.attributes::path_meta-complete-requires
attributes::path_meta-complete-requires = attributes.attributes::path_meta-complete-requires

pub attributes::path_meta-path-requires : goal.attributes::path_meta-path-requires
attributes::path_meta-path-requires = attributes.attributes::path_meta-path-requires

pub attributes::unsafe_meta-returns-clause-reads : goal.attributes::unsafe_meta-returns-clause-reads
attributes::unsafe_meta-returns-clause-reads = attributes.attributes::unsafe_meta-returns-clause-reads

pub attributes::unsafe_meta-complete-requires : goal.attributes::unsafe_meta-complete-requires
attributes::unsafe_meta-complete-requires = attributes.attributes::unsafe_meta-complete-requires

pub items::body-new_item-requires : goal.items::body-new_item-requires
items::body-new_item-requires = items.items::body-new_item-requires

pub items::body-returns-then-at_new_item-clause-completes : goal.items::body-returns-then-at_new_item-clause-completes
items::body-returns-then-at_new_item-clause-completes = items.items::body-returns-then-at_new_item-clause-completes

pub items::body-returns-then-at_new_item-clause-takes : goal.items::body-returns-then-at_new_item-clause-takes
items::body-returns-then-at_new_item-clause-takes = items.items::body-returns-then-at_new_item-clause-takes

pub items::body-plain_body-requires : goal.items::body-plain_body-requires
items::body-plain_body-requires = items.items::body-plain_body-requires

pub items::body-returns-clause-completes : goal.items::body-returns-clause-completes
items::body-returns-clause-completes = items.items::body-returns-clause-completes

pub items::body-returns-clause-takes : goal.items::body-returns-clause-takes
items::body-returns-clause-takes = items.items::body-returns-clause-takes

pub items::functions::fn_item-returns-clause-completes : goal.items::functions::fn_item-returns-clause-completes
items::functions::fn_item-returns-clause-completes = functions.items::functions::fn_item-returns-clause-completes

pub items::functions::fn_item-complete-requires : goal.items::functions::fn_item-complete-requires
items::functions::fn_item-complete-requires = functions.items::functions::fn_item-complete-requires

pub items::functions::plain_fn-returns-clause-completes : goal.items::functions::plain_fn-returns-clause-completes
items::functions::plain_fn-returns-clause-completes = functions.items::functions::plain_fn-returns-clause-completes

pub items::functions::plain_fn-complete-requires : goal.items::functions::plain_fn-complete-requires
items::functions::plain_fn-complete-requires = functions.items::functions::plain_fn-complete-requires

pub items::functions::after_fn-returns-clause-reads : goal.items::functions::after_fn-returns-clause-reads
items::functions::after_fn-returns-clause-reads = functions.items::functions::after_fn-returns-clause-reads

pub items::consts::const_item-returns-clause-completes : goal.items::consts::const_item-returns-clause-completes
items::consts::const_item-returns-clause-completes = consts.items::consts::const_item-returns-clause-completes

pub items::consts::const_item-complete-requires : goal.items::consts::const_item-complete-requires
items::consts::const_item-complete-requires = consts.items::consts::const_item-complete-requires

pub items::consts::const_typed-returns-clause-reads : goal.items::consts::const_typed-returns-clause-reads
items::consts::const_typed-returns-clause-reads = consts.items::consts::const_typed-returns-clause-reads

pub items::consts::type_alias-returns-clause-completes : goal.items::consts::type_alias-returns-clause-completes
items::consts::type_alias-returns-clause-completes = consts.items::consts::type_alias-returns-clause-completes

pub items::consts::type_alias-complete-requires : goal.items::consts::type_alias-complete-requires
items::consts::type_alias-complete-requires = consts.items::consts::type_alias-complete-requires

pub items::consts::alias_value-returns-clause-reads : goal.items::consts::alias_value-returns-clause-reads
items::consts::alias_value-returns-clause-reads = consts.items::consts::alias_value-returns-clause-reads

pub items::traits::impl_item-returns-clause-completes : goal.items::traits::impl_item-returns-clause-completes
items::traits::impl_item-returns-clause-completes = traits.items::traits::impl_item-returns-clause-completes

pub items::traits::impl_item-complete-requires : goal.items::traits::impl_item-complete-requires
items::traits::impl_item-complete-requires = traits.items::traits::impl_item-complete-requires

pub items::traits::trait_item-returns-clause-completes : goal.items::traits::trait_item-returns-clause-completes
items::traits::trait_item-returns-clause-completes = traits.items::traits::trait_item-returns-clause-completes

pub items::traits::trait_item-complete-requires : goal.items::traits::trait_item-complete-requires
items::traits::trait_item-complete-requires = traits.items::traits::trait_item-complete-requires

pub items::traits::plain_impl-returns-clause-completes : goal.items::traits::plain_impl-returns-clause-completes
items::traits::plain_impl-returns-clause-completes = traits.items::traits::plain_impl-returns-clause-completes

pub items::traits::plain_impl-complete-requires : goal.items::traits::plain_impl-complete-requires
items::traits::plain_impl-complete-requires = traits.items::traits::plain_impl-complete-requires

pub items::traits::after_impl-returns-clause-reads : goal.items::traits::after_impl-returns-clause-reads
items::traits::after_impl-returns-clause-reads = traits.items::traits::after_impl-returns-clause-reads

pub items::traits::plain_trait-returns-clause-completes : goal.items::traits::plain_trait-returns-clause-completes
items::traits::plain_trait-returns-clause-completes = traits.items::traits::plain_trait-returns-clause-completes

pub items::traits::plain_trait-complete-requires : goal.items::traits::plain_trait-complete-requires
items::traits::plain_trait-complete-requires = traits.items::traits::plain_trait-complete-requires

pub items::traits::after_trait-returns-clause-reads : goal.items::traits::after_trait-returns-clause-reads
items::traits::after_trait-returns-clause-reads = traits.items::traits::after_trait-returns-clause-reads

pub items::traits::trait_body-returns-then-at_new-clause-reads : goal.items::traits::trait_body-returns-then-at_new-clause-reads
items::traits::trait_body-returns-then-at_new-clause-reads = traits.items::traits::trait_body-returns-then-at_new-clause-reads

pub items::traits::trait_body-returns-clause-reads : goal.items::traits::trait_body-returns-clause-reads
items::traits::trait_body-returns-clause-reads = traits.items::traits::trait_body-returns-clause-reads

pub items::traits::alias_bounds-returns-clause-reads : goal.items::traits::alias_bounds-returns-clause-reads
items::traits::alias_bounds-returns-clause-reads = traits.items::traits::alias_bounds-returns-clause-reads

pub items::traits::trait_items-returns-clause-reads : goal.items::traits::trait_items-returns-clause-reads
items::traits::trait_items-returns-clause-reads = traits.items::traits::trait_items-returns-clause-reads

pub items::traits::opt_impl_params-returns-then-at_impl_params-clause-reads : goal.items::traits::opt_impl_params-returns-then-at_impl_params-clause-reads
items::traits::opt_impl_params-returns-then-at_impl_params-clause-reads = traits.items::traits::opt_impl_params-returns-then-at_impl_params-clause-reads

pub items::traits::opt_impl_params-returns-else-at_impl_params-clause-reads : goal.items::traits::opt_impl_params-returns-else-at_impl_params-clause-reads
items::traits::opt_impl_params-returns-else-at_impl_params-clause-reads = traits.items::traits::opt_impl_params-returns-else-at_impl_params-clause-reads

pub items::members::variant-returns-clause-reads : goal.items::members::variant-returns-clause-reads
items::members::variant-returns-clause-reads = members.items::members::variant-returns-clause-reads

pub items::members::variant-complete-requires : goal.items::members::variant-complete-requires
items::members::variant-complete-requires = members.items::members::variant-complete-requires

pub items::members::variant-named-requires : goal.items::members::variant-named-requires
items::members::variant-named-requires = members.items::members::variant-named-requires

pub items::members::record_field-returns-clause-reads : goal.items::members::record_field-returns-clause-reads
items::members::record_field-returns-clause-reads = members.items::members::record_field-returns-clause-reads

pub items::members::record_field-complete-requires : goal.items::members::record_field-complete-requires
items::members::record_field-complete-requires = members.items::members::record_field-complete-requires

pub items::members::record_field-field_front-requires : goal.items::members::record_field-field_front-requires
items::members::record_field-field_front-requires = members.items::members::record_field-field_front-requires

pub items::members::field_front-attributes_and_visibility-requires : goal.items::members::field_front-attributes_and_visibility-requires
items::members::field_front-attributes_and_visibility-requires = members.items::members::field_front-attributes_and_visibility-requires

pub items::members::field_front-returns-in-POUND-clause-reads : goal.items::members::field_front-returns-in-POUND-clause-reads
items::members::field_front-returns-in-POUND-clause-reads = members.items::members::field_front-returns-in-POUND-clause-reads

pub items::members::field_front-returns-in-PUB_KW-clause-reads : goal.items::members::field_front-returns-in-PUB_KW-clause-reads
items::members::field_front-returns-in-PUB_KW-clause-reads = members.items::members::field_front-returns-in-PUB_KW-clause-reads

pub items::members::field_front-returns-in-UNSAFE_KW-clause-reads : goal.items::members::field_front-returns-in-UNSAFE_KW-clause-reads
items::members::field_front-returns-in-UNSAFE_KW-clause-reads = members.items::members::field_front-returns-in-UNSAFE_KW-clause-reads

pub items::members::field_front-returns-in_default-clause-reads : goal.items::members::field_front-returns-in_default-clause-reads
items::members::field_front-returns-in_default-clause-reads = members.items::members::field_front-returns-in_default-clause-reads

pub items::members::opt_discriminant-returns-then-at_new-clause-reads : goal.items::members::opt_discriminant-returns-then-at_new-clause-reads
items::members::opt_discriminant-returns-then-at_new-clause-reads = members.items::members::opt_discriminant-returns-then-at_new-clause-reads

pub items::members::opt_discriminant-returns-else-at_new-clause-reads : goal.items::members::opt_discriminant-returns-else-at_new-clause-reads
items::members::opt_discriminant-returns-else-at_new-clause-reads = members.items::members::opt_discriminant-returns-else-at_new-clause-reads

pub items::members::const_value-returns-clause-reads : goal.items::members::const_value-returns-clause-reads
items::members::const_value-returns-clause-reads = members.items::members::const_value-returns-clause-reads

pub items::members::const_value-complete-requires : goal.items::members::const_value-complete-requires
items::members::const_value-complete-requires = members.items::members::const_value-complete-requires

pub params::param-new_param-requires : goal.params::param-new_param-requires
params::param-new_param-requires = params.params::param-new_param-requires

pub params::param-returns-then-at_new_param-clause-gives : goal.params::param-returns-then-at_new_param-clause-gives
params::param-returns-then-at_new_param-clause-gives = params.params::param-returns-then-at_new_param-clause-gives

pub params::param-self_param-requires : goal.params::param-self_param-requires
params::param-self_param-requires = params.params::param-self_param-requires

pub params::param-returns-then-at_self-clause-gives : goal.params::param-returns-then-at_self-clause-gives
params::param-returns-then-at_self-clause-gives = params.params::param-returns-then-at_self-clause-gives

pub params::param-pattern_param-requires : goal.params::param-pattern_param-requires
params::param-pattern_param-requires = params.params::param-pattern_param-requires

pub params::param-returns-clause-gives : goal.params::param-returns-clause-gives
params::param-returns-clause-gives = params.params::param-returns-clause-gives

pub params::new_param-dots_param-requires : goal.params::new_param-dots_param-requires
params::new_param-dots_param-requires = params.params::new_param-dots_param-requires

pub params::new_param-returns-then-at_dots_dot-clause-from_start : goal.params::new_param-returns-then-at_dots_dot-clause-from_start
params::new_param-returns-then-at_dots_dot-clause-from_start = params.params::new_param-returns-then-at_dots_dot-clause-from_start

pub params::new_param-attributed_param-requires : goal.params::new_param-attributed_param-requires
params::new_param-attributed_param-requires = params.params::new_param-attributed_param-requires

pub params::new_param-returns-clause-from_start : goal.params::new_param-returns-clause-from_start
params::new_param-returns-clause-from_start = params.params::new_param-returns-clause-from_start

pub params::attributed_param-after_attributes-requires : goal.params::attributed_param-after_attributes-requires
params::attributed_param-after_attributes-requires = params.params::attributed_param-after_attributes-requires

pub params::attributed_param-returns-clause-from_start : goal.params::attributed_param-returns-clause-from_start
params::attributed_param-returns-clause-from_start = params.params::attributed_param-returns-clause-from_start

pub params::pattern_param-returns-clause-reads : goal.params::pattern_param-returns-clause-reads
params::pattern_param-returns-clause-reads = params.params::pattern_param-returns-clause-reads

pub params::pattern_param-complete-requires : goal.params::pattern_param-complete-requires
params::pattern_param-complete-requires = params.params::pattern_param-complete-requires

pub params::pattern_param-pattern-requires : goal.params::pattern_param-pattern-requires
params::pattern_param-pattern-requires = params.params::pattern_param-pattern-requires

pub params::after_attributes-returns-then-at_self-clause-completes : goal.params::after_attributes-returns-then-at_self-clause-completes
params::after_attributes-returns-then-at_self-clause-completes = params.params::after_attributes-returns-then-at_self-clause-completes

pub params::after_attributes-returns-clause-completes : goal.params::after_attributes-returns-clause-completes
params::after_attributes-returns-clause-completes = params.params::after_attributes-returns-clause-completes

pub params::after_attributes-complete-requires : goal.params::after_attributes-complete-requires
params::after_attributes-complete-requires = params.params::after_attributes-complete-requires

pub params::after_attributes-complete-requires-2 : goal.params::after_attributes-complete-requires-2
params::after_attributes-complete-requires-2 = params.params::after_attributes-complete-requires-2

pub params::self_rest-returns-clause-reads : goal.params::self_rest-returns-clause-reads
params::self_rest-returns-clause-reads = params.params::self_rest-returns-clause-reads

pub params::dots_or_param-returns-then-at_dots_dot-clause-reads : goal.params::dots_or_param-returns-then-at_dots_dot-clause-reads
params::dots_or_param-returns-then-at_dots_dot-clause-reads = params.params::dots_or_param-returns-then-at_dots_dot-clause-reads

pub params::dots_or_param-returns-clause-reads : goal.params::dots_or_param-returns-clause-reads
params::dots_or_param-returns-clause-reads = params.params::dots_or_param-returns-clause-reads

pub params::param_type-returns-clause-reads : goal.params::param_type-returns-clause-reads
params::param_type-returns-clause-reads = params.params::param_type-returns-clause-reads

pub params::dots_or_type-returns-then-at_new_dots-clause-reads : goal.params::dots_or_type-returns-then-at_new_dots-clause-reads
params::dots_or_type-returns-then-at_new_dots-clause-reads = params.params::dots_or_type-returns-then-at_new_dots-clause-reads

pub params::dots_or_type-returns-clause-reads : goal.params::dots_or_type-returns-clause-reads
params::dots_or_type-returns-clause-reads = params.params::dots_or_type-returns-clause-reads

pub items::new_items::new_item-returns-then-at_extern_crate-clause-completes : goal.items::new_items::new_item-returns-then-at_extern_crate-clause-completes
items::new_items::new_item-returns-then-at_extern_crate-clause-completes = new_items.items::new_items::new_item-returns-then-at_extern_crate-clause-completes

pub items::new_items::new_item-returns-then-at_union-clause-completes : goal.items::new_items::new_item-returns-then-at_union-clause-completes
items::new_items::new_item-returns-then-at_union-clause-completes = new_items.items::new_items::new_item-returns-then-at_union-clause-completes

pub items::new_items::new_item-returns-then-at_macro_rules-clause-completes : goal.items::new_items::new_item-returns-then-at_macro_rules-clause-completes
items::new_items::new_item-returns-then-at_macro_rules-clause-completes = new_items.items::new_items::new_item-returns-then-at_macro_rules-clause-completes

pub items::new_items::new_item-returns-then-at-clause-completes : goal.items::new_items::new_item-returns-then-at-clause-completes
items::new_items::new_item-returns-then-at-clause-completes = new_items.items::new_items::new_item-returns-then-at-clause-completes

pub items::new_items::new_item-returns-clause-completes : goal.items::new_items::new_item-returns-clause-completes
items::new_items::new_item-returns-clause-completes = new_items.items::new_items::new_item-returns-clause-completes

pub items::new_items::new_item-extern_crate-requires : goal.items::new_items::new_item-extern_crate-requires
items::new_items::new_item-extern_crate-requires = new_items.items::new_items::new_item-extern_crate-requires

pub items::new_items::new_item-union_item-requires : goal.items::new_items::new_item-union_item-requires
items::new_items::new_item-union_item-requires = new_items.items::new_items::new_item-union_item-requires

pub items::new_items::new_item-macro_rules-requires : goal.items::new_items::new_item-macro_rules-requires
items::new_items::new_item-macro_rules-requires = new_items.items::new_items::new_item-macro_rules-requires

pub items::new_items::new_item-macro_def-requires : goal.items::new_items::new_item-macro_def-requires
items::new_items::new_item-macro_def-requires = new_items.items::new_items::new_item-macro_def-requires

pub items::new_items::new_item-item_words-requires : goal.items::new_items::new_item-item_words-requires
items::new_items::new_item-item_words-requires = new_items.items::new_items::new_item-item_words-requires

pub items::new_items::union_item-returns-clause-completes : goal.items::new_items::union_item-returns-clause-completes
items::new_items::union_item-returns-clause-completes = new_items.items::new_items::union_item-returns-clause-completes

pub items::new_items::union_item-complete-requires : goal.items::new_items::union_item-complete-requires
items::new_items::union_item-complete-requires = new_items.items::new_items::union_item-complete-requires

pub items::new_items::words_from_async-returns-clause-completes : goal.items::new_items::words_from_async-returns-clause-completes
items::new_items::words_from_async-returns-clause-completes = new_items.items::new_items::words_from_async-returns-clause-completes

pub items::new_items::words_from_async-words_from_gen-requires : goal.items::new_items::words_from_async-words_from_gen-requires
items::new_items::words_from_async-words_from_gen-requires = new_items.items::new_items::words_from_async-words_from_gen-requires

pub items::new_items::words_from_gen-returns-clause-completes : goal.items::new_items::words_from_gen-returns-clause-completes
items::new_items::words_from_gen-returns-clause-completes = new_items.items::new_items::words_from_gen-returns-clause-completes

pub items::new_items::words_from_gen-words_from_unsafe-requires : goal.items::new_items::words_from_gen-words_from_unsafe-requires
items::new_items::words_from_gen-words_from_unsafe-requires = new_items.items::new_items::words_from_gen-words_from_unsafe-requires

pub items::new_items::words_from_unsafe-returns-clause-completes : goal.items::new_items::words_from_unsafe-returns-clause-completes
items::new_items::words_from_unsafe-returns-clause-completes = new_items.items::new_items::words_from_unsafe-returns-clause-completes

pub items::new_items::words_from_unsafe-safe_or_abi-requires : goal.items::new_items::words_from_unsafe-safe_or_abi-requires
items::new_items::words_from_unsafe-safe_or_abi-requires = new_items.items::new_items::words_from_unsafe-safe_or_abi-requires

pub items::new_items::safe_or_abi-returns-clause-completes : goal.items::new_items::safe_or_abi-returns-clause-completes
items::new_items::safe_or_abi-returns-clause-completes = new_items.items::new_items::safe_or_abi-returns-clause-completes

pub items::new_items::safe_or_abi-abi_or_words-requires : goal.items::new_items::safe_or_abi-abi_or_words-requires
items::new_items::safe_or_abi-abi_or_words-requires = new_items.items::new_items::safe_or_abi-abi_or_words-requires

pub items::new_items::abi_or_words-returns-then-at-clause-completes : goal.items::new_items::abi_or_words-returns-then-at-clause-completes
items::new_items::abi_or_words-returns-then-at-clause-completes = new_items.items::new_items::abi_or_words-returns-then-at-clause-completes

pub items::new_items::abi_or_words-returns-clause-completes : goal.items::new_items::abi_or_words-returns-clause-completes
items::new_items::abi_or_words-returns-clause-completes = new_items.items::new_items::abi_or_words-returns-clause-completes

pub items::new_items::abi_or_words-after_abi-requires : goal.items::new_items::abi_or_words-after_abi-requires
items::new_items::abi_or_words-after_abi-requires = new_items.items::new_items::abi_or_words-after_abi-requires

pub items::new_items::abi_or_words-item_word-requires : goal.items::new_items::abi_or_words-item_word-requires
items::new_items::abi_or_words-item_word-requires = new_items.items::new_items::abi_or_words-item_word-requires

pub items::new_items::after_abi-returns-then-at-clause-completes : goal.items::new_items::after_abi-returns-then-at-clause-completes
items::new_items::after_abi-returns-then-at-clause-completes = new_items.items::new_items::after_abi-returns-then-at-clause-completes

pub items::new_items::after_abi-returns-clause-completes : goal.items::new_items::after_abi-returns-clause-completes
items::new_items::after_abi-returns-clause-completes = new_items.items::new_items::after_abi-returns-clause-completes

pub items::new_items::after_abi-complete-requires : goal.items::new_items::after_abi-complete-requires
items::new_items::after_abi-complete-requires = new_items.items::new_items::after_abi-complete-requires

pub items::new_items::after_abi-item_word-requires : goal.items::new_items::after_abi-item_word-requires
items::new_items::after_abi-item_word-requires = new_items.items::new_items::after_abi-item_word-requires

pub items::new_items::item_word-returns-in-FN_KW-clause-completes : goal.items::new_items::item_word-returns-in-FN_KW-clause-completes
items::new_items::item_word-returns-in-FN_KW-clause-completes = new_items.items::new_items::item_word-returns-in-FN_KW-clause-completes

pub items::new_items::item_word-returns-in-TRAIT_KW-clause-completes : goal.items::new_items::item_word-returns-in-TRAIT_KW-clause-completes
items::new_items::item_word-returns-in-TRAIT_KW-clause-completes = new_items.items::new_items::item_word-returns-in-TRAIT_KW-clause-completes

pub items::new_items::item_word-returns-in-IMPL_KW-clause-completes : goal.items::new_items::item_word-returns-in-IMPL_KW-clause-completes
items::new_items::item_word-returns-in-IMPL_KW-clause-completes = new_items.items::new_items::item_word-returns-in-IMPL_KW-clause-completes

pub items::new_items::item_word-returns-in-STATIC_KW-clause-completes : goal.items::new_items::item_word-returns-in-STATIC_KW-clause-completes
items::new_items::item_word-returns-in-STATIC_KW-clause-completes = new_items.items::new_items::item_word-returns-in-STATIC_KW-clause-completes

pub items::new_items::item_word-returns-in-CONST_KW-clause-completes : goal.items::new_items::item_word-returns-in-CONST_KW-clause-completes
items::new_items::item_word-returns-in-CONST_KW-clause-completes = new_items.items::new_items::item_word-returns-in-CONST_KW-clause-completes

pub items::new_items::item_word-returns-in-TYPE_KW-clause-completes : goal.items::new_items::item_word-returns-in-TYPE_KW-clause-completes
items::new_items::item_word-returns-in-TYPE_KW-clause-completes = new_items.items::new_items::item_word-returns-in-TYPE_KW-clause-completes

pub items::new_items::item_word-returns-in_default-clause-completes : goal.items::new_items::item_word-returns-in_default-clause-completes
items::new_items::item_word-returns-in_default-clause-completes = new_items.items::new_items::item_word-returns-in_default-clause-completes

pub items::new_items::item_word-complete-requires : goal.items::new_items::item_word-complete-requires
items::new_items::item_word-complete-requires = new_items.items::new_items::item_word-complete-requires

pub items::new_items::item_word-plain_fn-requires : goal.items::new_items::item_word-plain_fn-requires
items::new_items::item_word-plain_fn-requires = new_items.items::new_items::item_word-plain_fn-requires

pub items::new_items::item_word-plain_trait-requires : goal.items::new_items::item_word-plain_trait-requires
items::new_items::item_word-plain_trait-requires = new_items.items::new_items::item_word-plain_trait-requires

pub items::new_items::item_word-plain_impl-requires : goal.items::new_items::item_word-plain_impl-requires
items::new_items::item_word-plain_impl-requires = new_items.items::new_items::item_word-plain_impl-requires

pub items::new_items::item_word-static_item-requires : goal.items::new_items::item_word-static_item-requires
items::new_items::item_word-static_item-requires = new_items.items::new_items::item_word-static_item-requires

pub items::new_items::item_word-const_item-requires : goal.items::new_items::item_word-const_item-requires
items::new_items::item_word-const_item-requires = new_items.items::new_items::item_word-const_item-requires

pub items::new_items::item_word-type_alias-requires : goal.items::new_items::item_word-type_alias-requires
items::new_items::item_word-type_alias-requires = new_items.items::new_items::item_word-type_alias-requires

pub items::new_items::item_words-returns-then-at_const_word-clause-completes : goal.items::new_items::item_words-returns-then-at_const_word-clause-completes
items::new_items::item_words-returns-then-at_const_word-clause-completes = new_items.items::new_items::item_words-returns-then-at_const_word-clause-completes

pub items::new_items::item_words-returns-then-at_async_word-clause-completes : goal.items::new_items::item_words-returns-then-at_async_word-clause-completes
items::new_items::item_words-returns-then-at_async_word-clause-completes = new_items.items::new_items::item_words-returns-then-at_async_word-clause-completes

pub items::new_items::item_words-returns-then-at_gen_word-clause-completes : goal.items::new_items::item_words-returns-then-at_gen_word-clause-completes
items::new_items::item_words-returns-then-at_gen_word-clause-completes = new_items.items::new_items::item_words-returns-then-at_gen_word-clause-completes

pub items::new_items::item_words-returns-then-at_unsafe_word-clause-completes : goal.items::new_items::item_words-returns-then-at_unsafe_word-clause-completes
items::new_items::item_words-returns-then-at_unsafe_word-clause-completes = new_items.items::new_items::item_words-returns-then-at_unsafe_word-clause-completes

pub items::new_items::item_words-returns-clause-completes : goal.items::new_items::item_words-returns-clause-completes
items::new_items::item_words-returns-clause-completes = new_items.items::new_items::item_words-returns-clause-completes

pub items::new_items::item_words-words_from_async-requires : goal.items::new_items::item_words-words_from_async-requires
items::new_items::item_words-words_from_async-requires = new_items.items::new_items::item_words-words_from_async-requires

pub items::new_items::item_words-words_from_gen-requires : goal.items::new_items::item_words-words_from_gen-requires
items::new_items::item_words-words_from_gen-requires = new_items.items::new_items::item_words-words_from_gen-requires

pub items::new_items::item_words-words_from_unsafe-requires : goal.items::new_items::item_words-words_from_unsafe-requires
items::new_items::item_words-words_from_unsafe-requires = new_items.items::new_items::item_words-words_from_unsafe-requires

pub items::new_items::item_words-safe_or_abi-requires : goal.items::new_items::item_words-safe_or_abi-requires
items::new_items::item_words-safe_or_abi-requires = new_items.items::new_items::item_words-safe_or_abi-requires

pub items::new_items::item_words-contextual_words-requires : goal.items::new_items::item_words-contextual_words-requires
items::new_items::item_words-contextual_words-requires = new_items.items::new_items::item_words-contextual_words-requires

pub items::new_items::contextual_words-returns-then-at_safe_word-clause-completes : goal.items::new_items::contextual_words-returns-then-at_safe_word-clause-completes
items::new_items::contextual_words-returns-then-at_safe_word-clause-completes = new_items.items::new_items::contextual_words-returns-then-at_safe_word-clause-completes

pub items::new_items::contextual_words-returns-then-at-clause-completes : goal.items::new_items::contextual_words-returns-then-at-clause-completes
items::new_items::contextual_words-returns-then-at-clause-completes = new_items.items::new_items::contextual_words-returns-then-at-clause-completes

pub items::new_items::contextual_words-returns-then-at_auto_word-clause-completes : goal.items::new_items::contextual_words-returns-then-at_auto_word-clause-completes
items::new_items::contextual_words-returns-then-at_auto_word-clause-completes = new_items.items::new_items::contextual_words-returns-then-at_auto_word-clause-completes

pub items::new_items::contextual_words-returns-clause-completes : goal.items::new_items::contextual_words-returns-clause-completes
items::new_items::contextual_words-returns-clause-completes = new_items.items::new_items::contextual_words-returns-clause-completes

pub items::new_items::contextual_words-abi_or_words-requires : goal.items::new_items::contextual_words-abi_or_words-requires
items::new_items::contextual_words-abi_or_words-requires = new_items.items::new_items::contextual_words-abi_or_words-requires

pub items::new_items::contextual_words-after_abi-requires : goal.items::new_items::contextual_words-after_abi-requires
items::new_items::contextual_words-after_abi-requires = new_items.items::new_items::contextual_words-after_abi-requires

pub items::new_items::contextual_words-item_word-requires : goal.items::new_items::contextual_words-item_word-requires
items::new_items::contextual_words-item_word-requires = new_items.items::new_items::contextual_words-item_word-requires

pub items::new_items::contextual_words-item_word-requires-2 : goal.items::new_items::contextual_words-item_word-requires-2
items::new_items::contextual_words-item_word-requires-2 = new_items.items::new_items::contextual_words-item_word-requires-2

pub lists::read_element-fn_ptr_param-requires : goal.lists::read_element-fn_ptr_param-requires
lists::read_element-fn_ptr_param-requires = lists.lists::read_element-fn_ptr_param-requires

pub lists::read_element-returns-in-FnPtrParam-clause-reads : goal.lists::read_element-returns-in-FnPtrParam-clause-reads
lists::read_element-returns-in-FnPtrParam-clause-reads = lists.lists::read_element-returns-in-FnPtrParam-clause-reads

pub parts::read_part-list-requires : goal.parts::read_part-list-requires
parts::read_part-list-requires = parts.parts::read_part-list-requires

pub parts::read_part-returns-in-Arguments-clause-reads : goal.parts::read_part-returns-in-Arguments-clause-reads
parts::read_part-returns-in-Arguments-clause-reads = parts.parts::read_part-returns-in-Arguments-clause-reads

pub parts::read_part-item_list-requires : goal.parts::read_part-item_list-requires
parts::read_part-item_list-requires = parts.parts::read_part-item_list-requires

pub parts::read_part-returns-in-AssocItems-clause-reads : goal.parts::read_part-returns-in-AssocItems-clause-reads
parts::read_part-returns-in-AssocItems-clause-reads = parts.parts::read_part-returns-in-AssocItems-clause-reads

pub parts::read_part-block-requires : goal.parts::read_part-block-requires
parts::read_part-block-requires = parts.parts::read_part-block-requires

pub parts::read_part-returns-in-Block-clause-reads : goal.parts::read_part-returns-in-Block-clause-reads
parts::read_part-returns-in-Block-clause-reads = parts.parts::read_part-returns-in-Block-clause-reads

pub parts::read_part-list-requires-in-ClosureParams : goal.parts::read_part-list-requires-in-ClosureParams
parts::read_part-list-requires-in-ClosureParams = parts.parts::read_part-list-requires-in-ClosureParams

pub parts::read_part-returns-in-ClosureParams-clause-reads : goal.parts::read_part-returns-in-ClosureParams-clause-reads
parts::read_part-returns-in-ClosureParams-clause-reads = parts.parts::read_part-returns-in-ClosureParams-clause-reads

pub parts::read_part-list-requires-in-FnPtrParams : goal.parts::read_part-list-requires-in-FnPtrParams
parts::read_part-list-requires-in-FnPtrParams = parts.parts::read_part-list-requires-in-FnPtrParams

pub parts::read_part-returns-in-FnPtrParams-clause-reads : goal.parts::read_part-returns-in-FnPtrParams-clause-reads
parts::read_part-returns-in-FnPtrParams-clause-reads = parts.parts::read_part-returns-in-FnPtrParams-clause-reads

pub parts::read_part-generic_args-requires : goal.parts::read_part-generic_args-requires
parts::read_part-generic_args-requires = parts.parts::read_part-generic_args-requires

pub parts::read_part-returns-in-GenericArgs-clause-reads : goal.parts::read_part-returns-in-GenericArgs-clause-reads
parts::read_part-returns-in-GenericArgs-clause-reads = parts.parts::read_part-returns-in-GenericArgs-clause-reads

pub parts::read_part-list-requires-in-GenericParams : goal.parts::read_part-list-requires-in-GenericParams
parts::read_part-list-requires-in-GenericParams = parts.parts::read_part-list-requires-in-GenericParams

pub parts::read_part-returns-in-GenericParams-clause-reads : goal.parts::read_part-returns-in-GenericParams-clause-reads
parts::read_part-returns-in-GenericParams-clause-reads = parts.parts::read_part-returns-in-GenericParams-clause-reads

pub parts::read_part-match_arms-requires : goal.parts::read_part-match_arms-requires
parts::read_part-match_arms-requires = parts.parts::read_part-match_arms-requires

pub parts::read_part-returns-in-MatchArms-clause-reads : goal.parts::read_part-returns-in-MatchArms-clause-reads
parts::read_part-returns-in-MatchArms-clause-reads = parts.parts::read_part-returns-in-MatchArms-clause-reads

pub parts::read_part-where_clause-requires : goal.parts::read_part-where_clause-requires
parts::read_part-where_clause-requires = parts.parts::read_part-where_clause-requires

pub parts::read_part-returns-in-NewWhereClause-clause-reads : goal.parts::read_part-returns-in-NewWhereClause-clause-reads
parts::read_part-returns-in-NewWhereClause-clause-reads = parts.parts::read_part-returns-in-NewWhereClause-clause-reads

pub parts::read_part-list-requires-in-Params : goal.parts::read_part-list-requires-in-Params
parts::read_part-list-requires-in-Params = parts.parts::read_part-list-requires-in-Params

pub parts::read_part-returns-in-Params-clause-reads : goal.parts::read_part-returns-in-Params-clause-reads
parts::read_part-returns-in-Params-clause-reads = parts.parts::read_part-returns-in-Params-clause-reads

pub parts::read_part-path_type-requires : goal.parts::read_part-path_type-requires
parts::read_part-path_type-requires = parts.parts::read_part-path_type-requires

pub parts::read_part-returns-in-PathType-clause-reads : goal.parts::read_part-returns-in-PathType-clause-reads
parts::read_part-returns-in-PathType-clause-reads = parts.parts::read_part-returns-in-PathType-clause-reads

pub parts::read_part-pattern-requires : goal.parts::read_part-pattern-requires
parts::read_part-pattern-requires = parts.parts::read_part-pattern-requires

pub parts::read_part-returns-in-Pattern-clause-reads : goal.parts::read_part-returns-in-Pattern-clause-reads
parts::read_part-returns-in-Pattern-clause-reads = parts.parts::read_part-returns-in-Pattern-clause-reads

pub parts::read_part-list-requires-in-RecordFields : goal.parts::read_part-list-requires-in-RecordFields
parts::read_part-list-requires-in-RecordFields = parts.parts::read_part-list-requires-in-RecordFields

pub parts::read_part-returns-in-RecordFields-clause-reads : goal.parts::read_part-returns-in-RecordFields-clause-reads
parts::read_part-returns-in-RecordFields-clause-reads = parts.parts::read_part-returns-in-RecordFields-clause-reads

pub parts::read_part-single_pattern-requires : goal.parts::read_part-single_pattern-requires
parts::read_part-single_pattern-requires = parts.parts::read_part-single_pattern-requires

pub parts::read_part-returns-in-SinglePattern-clause-reads : goal.parts::read_part-returns-in-SinglePattern-clause-reads
parts::read_part-returns-in-SinglePattern-clause-reads = parts.parts::read_part-returns-in-SinglePattern-clause-reads

pub parts::read_part-statement_list-requires : goal.parts::read_part-statement_list-requires
parts::read_part-statement_list-requires = parts.parts::read_part-statement_list-requires

pub parts::read_part-returns-in-StatementList-clause-reads : goal.parts::read_part-returns-in-StatementList-clause-reads
parts::read_part-returns-in-StatementList-clause-reads = parts.parts::read_part-returns-in-StatementList-clause-reads

pub parts::read_part-any_type-requires : goal.parts::read_part-any_type-requires
parts::read_part-any_type-requires = parts.parts::read_part-any_type-requires

pub parts::read_part-returns-in-Type-clause-reads : goal.parts::read_part-returns-in-Type-clause-reads
parts::read_part-returns-in-Type-clause-reads = parts.parts::read_part-returns-in-Type-clause-reads

pub parts::read_part-type_no_bounds-requires : goal.parts::read_part-type_no_bounds-requires
parts::read_part-type_no_bounds-requires = parts.parts::read_part-type_no_bounds-requires

pub parts::read_part-returns-in-TypeNoBounds-clause-reads : goal.parts::read_part-returns-in-TypeNoBounds-clause-reads
parts::read_part-returns-in-TypeNoBounds-clause-reads = parts.parts::read_part-returns-in-TypeNoBounds-clause-reads

pub parts::read_part-list-requires-in-Variants : goal.parts::read_part-list-requires-in-Variants
parts::read_part-list-requires-in-Variants = parts.parts::read_part-list-requires-in-Variants

pub parts::read_part-returns-in-Variants-clause-reads : goal.parts::read_part-returns-in-Variants-clause-reads
parts::read_part-returns-in-Variants-clause-reads = parts.parts::read_part-returns-in-Variants-clause-reads

pub parts::read_part-where_pred-requires : goal.parts::read_part-where_pred-requires
parts::read_part-where_pred-requires = parts.parts::read_part-where_pred-requires

pub parts::read_part-returns-in-WherePred-clause-reads : goal.parts::read_part-returns-in-WherePred-clause-reads
parts::read_part-returns-in-WherePred-clause-reads = parts.parts::read_part-returns-in-WherePred-clause-reads

pub parts::expect_part-read_part-requires : goal.parts::expect_part-read_part-requires
parts::expect_part-read_part-requires = parts.parts::expect_part-read_part-requires

pub parts::expect_part-returns-then-at_part-clause-reads : goal.parts::expect_part-returns-then-at_part-clause-reads
parts::expect_part-returns-then-at_part-clause-reads = parts.parts::expect_part-returns-then-at_part-clause-reads

pub parts::expect_part-returns-clause-reads : goal.parts::expect_part-returns-clause-reads
parts::expect_part-returns-clause-reads = parts.parts::expect_part-returns-clause-reads

pub parts::opt_part-read_part-requires : goal.parts::opt_part-read_part-requires
parts::opt_part-read_part-requires = parts.parts::opt_part-read_part-requires

pub parts::opt_part-returns-then-at_part-clause-reads : goal.parts::opt_part-returns-then-at_part-clause-reads
parts::opt_part-returns-then-at_part-clause-reads = parts.parts::opt_part-returns-then-at_part-clause-reads

pub parts::opt_part-returns-else-at_part-clause-reads : goal.parts::opt_part-returns-else-at_part-clause-reads
parts::opt_part-returns-else-at_part-clause-reads = parts.parts::opt_part-returns-else-at_part-clause-reads

pub lists::list-rest_of_list-requires : goal.lists::list-rest_of_list-requires
lists::list-rest_of_list-requires = lists.lists::list-rest_of_list-requires

pub lists::list-complete-requires : goal.lists::list-complete-requires
lists::list-complete-requires = lists.lists::list-complete-requires

pub lists::list-returns-clause-reads : goal.lists::list-returns-clause-reads
lists::list-returns-clause-reads = lists.lists::list-returns-clause-reads

pub lists::list-returns-clause-takes : goal.lists::list-returns-clause-takes
lists::list-returns-clause-takes = lists.lists::list-returns-clause-takes

pub expressions::control::while_expr-returns-clause-reads : goal.expressions::control::while_expr-returns-clause-reads
expressions::control::while_expr-returns-clause-reads = control.expressions::control::while_expr-returns-clause-reads

pub expressions::control::while_expr-complete-requires : goal.expressions::control::while_expr-complete-requires
expressions::control::while_expr-complete-requires = control.expressions::control::while_expr-complete-requires

pub expressions::control::loop_expr-returns-clause-reads : goal.expressions::control::loop_expr-returns-clause-reads
expressions::control::loop_expr-returns-clause-reads = control.expressions::control::loop_expr-returns-clause-reads

pub expressions::control::loop_expr-complete-requires : goal.expressions::control::loop_expr-complete-requires
expressions::control::loop_expr-complete-requires = control.expressions::control::loop_expr-complete-requires

pub expressions::control::for_expr-returns-clause-reads : goal.expressions::control::for_expr-returns-clause-reads
expressions::control::for_expr-returns-clause-reads = control.expressions::control::for_expr-returns-clause-reads

pub expressions::control::for_expr-complete-requires : goal.expressions::control::for_expr-complete-requires
expressions::control::for_expr-complete-requires = control.expressions::control::for_expr-complete-requires

pub expressions::control::while_rest-returns-clause-reads : goal.expressions::control::while_rest-returns-clause-reads
expressions::control::while_rest-returns-clause-reads = control.expressions::control::while_rest-returns-clause-reads

pub expressions::control::loop_rest-returns-clause-reads : goal.expressions::control::loop_rest-returns-clause-reads
expressions::control::loop_rest-returns-clause-reads = control.expressions::control::loop_rest-returns-clause-reads

pub expressions::control::for_rest-returns-clause-reads : goal.expressions::control::for_rest-returns-clause-reads
expressions::control::for_rest-returns-clause-reads = control.expressions::control::for_rest-returns-clause-reads

pub expressions::control::after_label-returns-in-WHILE_KW-clause-completes : goal.expressions::control::after_label-returns-in-WHILE_KW-clause-completes
expressions::control::after_label-returns-in-WHILE_KW-clause-completes = control.expressions::control::after_label-returns-in-WHILE_KW-clause-completes

pub expressions::control::after_label-returns-in-LOOP_KW-clause-completes : goal.expressions::control::after_label-returns-in-LOOP_KW-clause-completes
expressions::control::after_label-returns-in-LOOP_KW-clause-completes = control.expressions::control::after_label-returns-in-LOOP_KW-clause-completes

pub expressions::control::after_label-returns-in-FOR_KW-clause-completes : goal.expressions::control::after_label-returns-in-FOR_KW-clause-completes
expressions::control::after_label-returns-in-FOR_KW-clause-completes = control.expressions::control::after_label-returns-in-FOR_KW-clause-completes

pub expressions::control::after_label-returns-in_default-clause-completes : goal.expressions::control::after_label-returns-in_default-clause-completes
expressions::control::after_label-returns-in_default-clause-completes = control.expressions::control::after_label-returns-in_default-clause-completes

pub expressions::control::after_label-complete-requires : goal.expressions::control::after_label-complete-requires
expressions::control::after_label-complete-requires = control.expressions::control::after_label-complete-requires

pub expressions::control::after_label-complete-requires-in-LOOP_KW : goal.expressions::control::after_label-complete-requires-in-LOOP_KW
expressions::control::after_label-complete-requires-in-LOOP_KW = control.expressions::control::after_label-complete-requires-in-LOOP_KW

pub expressions::control::after_label-complete-requires-in-FOR_KW : goal.expressions::control::after_label-complete-requires-in-FOR_KW
expressions::control::after_label-complete-requires-in-FOR_KW = control.expressions::control::after_label-complete-requires-in-FOR_KW

pub expressions::control::after_label-complete-requires-in_default : goal.expressions::control::after_label-complete-requires-in_default
expressions::control::after_label-complete-requires-in_default = control.expressions::control::after_label-complete-requires-in_default

pub expressions::control::block_with_words-returns-clause-reads : goal.expressions::control::block_with_words-returns-clause-reads
expressions::control::block_with_words-returns-clause-reads = control.expressions::control::block_with_words-returns-clause-reads

pub expressions::control::block_with_words-complete-requires : goal.expressions::control::block_with_words-complete-requires
expressions::control::block_with_words-complete-requires = control.expressions::control::block_with_words-complete-requires

pub expressions::control::new_block-returns-then-at-clause-from_start : goal.expressions::control::new_block-returns-then-at-clause-from_start
expressions::control::new_block-returns-then-at-clause-from_start = control.expressions::control::new_block-returns-then-at-clause-from_start

pub expressions::control::new_block-returns-clause-from_start : goal.expressions::control::new_block-returns-clause-from_start
expressions::control::new_block-returns-clause-from_start = control.expressions::control::new_block-returns-clause-from_start

pub expressions::control::labelled-after_label-requires : goal.expressions::control::labelled-after_label-requires
expressions::control::labelled-after_label-requires = control.expressions::control::labelled-after_label-requires

pub expressions::control::labelled-returns-clause-from_start : goal.expressions::control::labelled-returns-clause-from_start
expressions::control::labelled-returns-clause-from_start = control.expressions::control::labelled-returns-clause-from_start

pub expressions::control::block_like-returns-in-L_CURLY-clause-gives : goal.expressions::control::block_like-returns-in-L_CURLY-clause-gives
expressions::control::block_like-returns-in-L_CURLY-clause-gives = control.expressions::control::block_like-returns-in-L_CURLY-clause-gives

pub expressions::control::block_like-returns-in-UNSAFE_KW-clause-gives : goal.expressions::control::block_like-returns-in-UNSAFE_KW-clause-gives
expressions::control::block_like-returns-in-UNSAFE_KW-clause-gives = control.expressions::control::block_like-returns-in-UNSAFE_KW-clause-gives

pub expressions::control::block_like-returns-in-IF_KW-clause-gives : goal.expressions::control::block_like-returns-in-IF_KW-clause-gives
expressions::control::block_like-returns-in-IF_KW-clause-gives = control.expressions::control::block_like-returns-in-IF_KW-clause-gives

pub expressions::control::block_like-returns-in-WHILE_KW-clause-gives : goal.expressions::control::block_like-returns-in-WHILE_KW-clause-gives
expressions::control::block_like-returns-in-WHILE_KW-clause-gives = control.expressions::control::block_like-returns-in-WHILE_KW-clause-gives

pub expressions::control::block_like-returns-in-LOOP_KW-clause-gives : goal.expressions::control::block_like-returns-in-LOOP_KW-clause-gives
expressions::control::block_like-returns-in-LOOP_KW-clause-gives = control.expressions::control::block_like-returns-in-LOOP_KW-clause-gives

pub expressions::control::block_like-returns-in-FOR_KW-clause-gives : goal.expressions::control::block_like-returns-in-FOR_KW-clause-gives
expressions::control::block_like-returns-in-FOR_KW-clause-gives = control.expressions::control::block_like-returns-in-FOR_KW-clause-gives

pub expressions::control::block_like-returns-in-MATCH_KW-clause-gives : goal.expressions::control::block_like-returns-in-MATCH_KW-clause-gives
expressions::control::block_like-returns-in-MATCH_KW-clause-gives = control.expressions::control::block_like-returns-in-MATCH_KW-clause-gives

pub expressions::control::block_like-returns-then-at_new_block-clause-gives : goal.expressions::control::block_like-returns-then-at_new_block-clause-gives
expressions::control::block_like-returns-then-at_new_block-clause-gives = control.expressions::control::block_like-returns-then-at_new_block-clause-gives

pub expressions::control::block_like-new_block-requires : goal.expressions::control::block_like-new_block-requires
expressions::control::block_like-new_block-requires = control.expressions::control::block_like-new_block-requires

pub expressions::atom::return_expr-returns-clause-reads : goal.expressions::atom::return_expr-returns-clause-reads
expressions::atom::return_expr-returns-clause-reads = atom.expressions::atom::return_expr-returns-clause-reads

pub expressions::atom::return_expr-complete-requires : goal.expressions::atom::return_expr-complete-requires
expressions::atom::return_expr-complete-requires = atom.expressions::atom::return_expr-complete-requires

pub expressions::atom::break_expr-returns-clause-reads : goal.expressions::atom::break_expr-returns-clause-reads
expressions::atom::break_expr-returns-clause-reads = atom.expressions::atom::break_expr-returns-clause-reads

pub expressions::atom::break_expr-complete-requires : goal.expressions::atom::break_expr-complete-requires
expressions::atom::break_expr-complete-requires = atom.expressions::atom::break_expr-complete-requires

pub expressions::atom::let_expr-complete-requires : goal.expressions::atom::let_expr-complete-requires
expressions::atom::let_expr-complete-requires = atom.expressions::atom::let_expr-complete-requires

pub expressions::atom::new_atom-returns-in-UNDERSCORE-clause-reads : goal.expressions::atom::new_atom-returns-in-UNDERSCORE-clause-reads
expressions::atom::new_atom-returns-in-UNDERSCORE-clause-reads = atom.expressions::atom::new_atom-returns-in-UNDERSCORE-clause-reads

pub expressions::atom::new_atom-qualified_path-frame-requires : goal.expressions::atom::new_atom-qualified_path-frame-requires
expressions::atom::new_atom-qualified_path-frame-requires = atom.expressions::atom::new_atom-qualified_path-frame-requires

pub expressions::atom::new_atom-after_path-requires : goal.expressions::atom::new_atom-after_path-requires
expressions::atom::new_atom-after_path-requires = atom.expressions::atom::new_atom-after_path-requires

pub expressions::closures::closure_with_words-returns-clause-reads : goal.expressions::closures::closure_with_words-returns-clause-reads
expressions::closures::closure_with_words-returns-clause-reads = atom.expressions::closures::closure_with_words-returns-clause-reads

pub expressions::closures::closure_with_words-complete-requires : goal.expressions::closures::closure_with_words-complete-requires
expressions::closures::closure_with_words-complete-requires = atom.expressions::closures::closure_with_words-complete-requires

pub expressions::closures::closure_words-returns-in-CONST_KW-clause-reads : goal.expressions::closures::closure_words-returns-in-CONST_KW-clause-reads
expressions::closures::closure_words-returns-in-CONST_KW-clause-reads = atom.expressions::closures::closure_words-returns-in-CONST_KW-clause-reads

pub expressions::closures::closure_words-returns-in-STATIC_KW-clause-reads : goal.expressions::closures::closure_words-returns-in-STATIC_KW-clause-reads
expressions::closures::closure_words-returns-in-STATIC_KW-clause-reads = atom.expressions::closures::closure_words-returns-in-STATIC_KW-clause-reads

pub expressions::closures::closure_words-returns-in_default-clause-reads : goal.expressions::closures::closure_words-returns-in_default-clause-reads
expressions::closures::closure_words-returns-in_default-clause-reads = atom.expressions::closures::closure_words-returns-in_default-clause-reads

pub patterns::single_or_missing-returns-then-at_single_pattern-clause-gives : goal.patterns::single_or_missing-returns-then-at_single_pattern-clause-gives
patterns::single_or_missing-returns-then-at_single_pattern-clause-gives = patterns.patterns::single_or_missing-returns-then-at_single_pattern-clause-gives

pub patterns::single_or_missing-returns-clause-gives : goal.patterns::single_or_missing-returns-clause-gives
patterns::single_or_missing-returns-clause-gives = patterns.patterns::single_or_missing-returns-clause-gives

pub patterns::single_or_missing-single_pattern-requires : goal.patterns::single_or_missing-single_pattern-requires
patterns::single_or_missing-single_pattern-requires = patterns.patterns::single_or_missing-single_pattern-requires

pub patterns::single_or_missing-missing_single-requires : goal.patterns::single_or_missing-missing_single-requires
patterns::single_or_missing-missing_single-requires = patterns.patterns::single_or_missing-missing_single-requires

pub expressions::operand::raw_ref_expr-returns-clause-reads : goal.expressions::operand::raw_ref_expr-returns-clause-reads
expressions::operand::raw_ref_expr-returns-clause-reads = operand.expressions::operand::raw_ref_expr-returns-clause-reads

pub expressions::operand::raw_ref_expr-complete-requires : goal.expressions::operand::raw_ref_expr-complete-requires
expressions::operand::raw_ref_expr-complete-requires = operand.expressions::operand::raw_ref_expr-complete-requires

pub fields::attributed_value-value_after_attributes-requires : goal.fields::attributed_value-value_after_attributes-requires
fields::attributed_value-value_after_attributes-requires = fields.fields::attributed_value-value_after_attributes-requires

pub fields::attributed_value-returns-clause-from_start : goal.fields::attributed_value-returns-clause-from_start
fields::attributed_value-returns-clause-from_start = fields.fields::attributed_value-returns-clause-from_start

pub fields::value_after_attributes-returns-then-at_attributed_named_field-clause-completes : goal.fields::value_after_attributes-returns-then-at_attributed_named_field-clause-completes
fields::value_after_attributes-returns-then-at_attributed_named_field-clause-completes = fields.fields::value_after_attributes-returns-then-at_attributed_named_field-clause-completes

pub fields::value_after_attributes-returns-clause-completes : goal.fields::value_after_attributes-returns-clause-completes
fields::value_after_attributes-returns-clause-completes = fields.fields::value_after_attributes-returns-clause-completes

pub fields::value_after_attributes-complete-requires : goal.fields::value_after_attributes-complete-requires
fields::value_after_attributes-complete-requires = fields.fields::value_after_attributes-complete-requires

pub fields::value_after_attributes-complete-requires-2 : goal.fields::value_after_attributes-complete-requires-2
fields::value_after_attributes-complete-requires-2 = fields.fields::value_after_attributes-complete-requires-2

pub fields::field_value-returns-then-at_new-clause-gives : goal.fields::field_value-returns-then-at_new-clause-gives
fields::field_value-returns-then-at_new-clause-gives = fields.fields::field_value-returns-then-at_new-clause-gives

pub fields::field_value-returns-then-at_named_field-clause-gives : goal.fields::field_value-returns-then-at_named_field-clause-gives
fields::field_value-returns-then-at_named_field-clause-gives = fields.fields::field_value-returns-then-at_named_field-clause-gives

pub expressions::match_arm::opt_guard-returns-then-at-clause-reads : goal.expressions::match_arm::opt_guard-returns-then-at-clause-reads
expressions::match_arm::opt_guard-returns-then-at-clause-reads = match_arm.expressions::match_arm::opt_guard-returns-then-at-clause-reads

pub expressions::match_arm::opt_guard-returns-else-at-clause-reads : goal.expressions::match_arm::opt_guard-returns-else-at-clause-reads
expressions::match_arm::opt_guard-returns-else-at-clause-reads = match_arm.expressions::match_arm::opt_guard-returns-else-at-clause-reads

pub expressions::match_arm::opt_guard-complete-requires : goal.expressions::match_arm::opt_guard-complete-requires
expressions::match_arm::opt_guard-complete-requires = match_arm.expressions::match_arm::opt_guard-complete-requires

pub expressions::match_arm::arm_value-returns-then-at_whole-clause-reads : goal.expressions::match_arm::arm_value-returns-then-at_whole-clause-reads
expressions::match_arm::arm_value-returns-then-at_whole-clause-reads = match_arm.expressions::match_arm::arm_value-returns-then-at_whole-clause-reads

pub expressions::match_arm::arm_value-returns-clause-reads : goal.expressions::match_arm::arm_value-returns-clause-reads
expressions::match_arm::arm_value-returns-clause-reads = match_arm.expressions::match_arm::arm_value-returns-clause-reads

pub expressions::match_arm::profile_value-returns-then-at_block_like-clause-reads : goal.expressions::match_arm::profile_value-returns-then-at_block_like-clause-reads
expressions::match_arm::profile_value-returns-then-at_block_like-clause-reads = match_arm.expressions::match_arm::profile_value-returns-then-at_block_like-clause-reads

pub expressions::match_arm::profile_value-returns-clause-reads : goal.expressions::match_arm::profile_value-returns-clause-reads
expressions::match_arm::profile_value-returns-clause-reads = match_arm.expressions::match_arm::profile_value-returns-clause-reads

pub expressions::match_arm::profile_value-block_like-requires : goal.expressions::match_arm::profile_value-block_like-requires
expressions::match_arm::profile_value-block_like-requires = match_arm.expressions::match_arm::profile_value-block_like-requires

pub expressions::match_arm::inside_arm-returns-then-at_block_like-clause-reads : goal.expressions::match_arm::inside_arm-returns-then-at_block_like-clause-reads
expressions::match_arm::inside_arm-returns-then-at_block_like-clause-reads = match_arm.expressions::match_arm::inside_arm-returns-then-at_block_like-clause-reads

pub expressions::match_arm::inside_arm-returns-then-at_long_path-clause-reads : goal.expressions::match_arm::inside_arm-returns-then-at_long_path-clause-reads
expressions::match_arm::inside_arm-returns-then-at_long_path-clause-reads = match_arm.expressions::match_arm::inside_arm-returns-then-at_long_path-clause-reads

pub expressions::match_arm::inside_arm-returns-clause-reads : goal.expressions::match_arm::inside_arm-returns-clause-reads
expressions::match_arm::inside_arm-returns-clause-reads = match_arm.expressions::match_arm::inside_arm-returns-clause-reads

pub expressions::match_arm::inside_arm-block_like-requires : goal.expressions::match_arm::inside_arm-block_like-requires
expressions::match_arm::inside_arm-block_like-requires = match_arm.expressions::match_arm::inside_arm-block_like-requires

pub expressions::match_arm::inside_arm-arm_tail-requires : goal.expressions::match_arm::inside_arm-arm_tail-requires
expressions::match_arm::inside_arm-arm_tail-requires = match_arm.expressions::match_arm::inside_arm-arm_tail-requires

pub expressions::match_arm::inside_arm-after_long_path-requires : goal.expressions::match_arm::inside_arm-after_long_path-requires
expressions::match_arm::inside_arm-after_long_path-requires = match_arm.expressions::match_arm::inside_arm-after_long_path-requires

pub expressions::match_arm::arm_tail-returns-clause-reads : goal.expressions::match_arm::arm_tail-returns-clause-reads
expressions::match_arm::arm_tail-returns-clause-reads = match_arm.expressions::match_arm::arm_tail-returns-clause-reads

pub expressions::match_arm::further_operators-postfixes-frame-requires : goal.expressions::match_arm::further_operators-postfixes-frame-requires
expressions::match_arm::further_operators-postfixes-frame-requires = match_arm.expressions::match_arm::further_operators-postfixes-frame-requires

pub expressions::match_arm::after_long_path-wrap-frame-requires : goal.expressions::match_arm::after_long_path-wrap-frame-requires
expressions::match_arm::after_long_path-wrap-frame-requires = match_arm.expressions::match_arm::after_long_path-wrap-frame-requires

pub expressions::match_arm::after_long_path-wrap-frame-requires-then-at_braced_macro : goal.expressions::match_arm::after_long_path-wrap-frame-requires-then-at_braced_macro
expressions::match_arm::after_long_path-wrap-frame-requires-then-at_braced_macro = match_arm.expressions::match_arm::after_long_path-wrap-frame-requires-then-at_braced_macro

pub expressions::match_arm::after_long_path-arm_tail-requires : goal.expressions::match_arm::after_long_path-arm_tail-requires
expressions::match_arm::after_long_path-arm_tail-requires = match_arm.expressions::match_arm::after_long_path-arm_tail-requires

pub expressions::match_arm::after_long_path-further_operators-requires : goal.expressions::match_arm::after_long_path-further_operators-requires
expressions::match_arm::after_long_path-further_operators-requires = match_arm.expressions::match_arm::after_long_path-further_operators-requires

pub expressions::match_arm::guard_value-returns-then-at_whole-clause-reads : goal.expressions::match_arm::guard_value-returns-then-at_whole-clause-reads
expressions::match_arm::guard_value-returns-then-at_whole-clause-reads = match_arm.expressions::match_arm::guard_value-returns-then-at_whole-clause-reads

pub expressions::match_arm::guard_value-returns-clause-reads : goal.expressions::match_arm::guard_value-returns-clause-reads
expressions::match_arm::guard_value-returns-clause-reads = match_arm.expressions::match_arm::guard_value-returns-clause-reads

pub expressions::match_arm::arm_body-inside_arm-frame-requires : goal.expressions::match_arm::arm_body-inside_arm-frame-requires
expressions::match_arm::arm_body-inside_arm-frame-requires = match_arm.expressions::match_arm::arm_body-inside_arm-frame-requires

pub expressions::match_arm::arm_body-returns-clause-gives : goal.expressions::match_arm::arm_body-returns-clause-gives
expressions::match_arm::arm_body-returns-clause-gives = match_arm.expressions::match_arm::arm_body-returns-clause-gives

pub expressions::match_arm::match_arm-complete-requires : goal.expressions::match_arm::match_arm-complete-requires
expressions::match_arm::match_arm-complete-requires = match_arm.expressions::match_arm::match_arm-complete-requires

pub expressions::match_arm::match_arm-attributed_pattern-requires : goal.expressions::match_arm::match_arm-attributed_pattern-requires
expressions::match_arm::match_arm-attributed_pattern-requires = match_arm.expressions::match_arm::match_arm-attributed_pattern-requires

pub expressions::closures::closure_param-complete-requires : goal.expressions::closures::closure_param-complete-requires
expressions::closures::closure_param-complete-requires = atom.expressions::closures::closure_param-complete-requires

pub expressions::closures::closure_param-attributed_single-requires : goal.expressions::closures::closure_param-attributed_single-requires
expressions::closures::closure_param-attributed_single-requires = atom.expressions::closures::closure_param-attributed_single-requires

pub expressions::match_arm::attributed_pattern-returns-then-at_new-clause-reads : goal.expressions::match_arm::attributed_pattern-returns-then-at_new-clause-reads
expressions::match_arm::attributed_pattern-returns-then-at_new-clause-reads = match_arm.expressions::match_arm::attributed_pattern-returns-then-at_new-clause-reads

pub expressions::match_arm::attributed_pattern-returns-clause-reads : goal.expressions::match_arm::attributed_pattern-returns-clause-reads
expressions::match_arm::attributed_pattern-returns-clause-reads = match_arm.expressions::match_arm::attributed_pattern-returns-clause-reads

pub expressions::match_arm::attributed_pattern-pattern-requires : goal.expressions::match_arm::attributed_pattern-pattern-requires
expressions::match_arm::attributed_pattern-pattern-requires = match_arm.expressions::match_arm::attributed_pattern-pattern-requires

pub expressions::closures::attributed_single-returns-then-at_new-clause-reads : goal.expressions::closures::attributed_single-returns-then-at_new-clause-reads
expressions::closures::attributed_single-returns-then-at_new-clause-reads = atom.expressions::closures::attributed_single-returns-then-at_new-clause-reads

pub expressions::closures::attributed_single-returns-clause-reads : goal.expressions::closures::attributed_single-returns-clause-reads
expressions::closures::attributed_single-returns-clause-reads = atom.expressions::closures::attributed_single-returns-clause-reads

pub expressions::closures::attributed_single-single_pattern-requires : goal.expressions::closures::attributed_single-single_pattern-requires
expressions::closures::attributed_single-single_pattern-requires = atom.expressions::closures::attributed_single-single_pattern-requires

pub patterns::missing_single-after_path-frame-requires : goal.patterns::missing_single-after_path-frame-requires
patterns::missing_single-after_path-frame-requires = patterns.patterns::missing_single-after_path-frame-requires

pub patterns::missing_single-opt_range-frame-requires : goal.patterns::missing_single-opt_range-frame-requires
patterns::missing_single-opt_range-frame-requires = patterns.patterns::missing_single-opt_range-frame-requires

pub or_patterns::pattern_or_missing-returns-then-at_pattern-clause-gives : goal.or_patterns::pattern_or_missing-returns-then-at_pattern-clause-gives
or_patterns::pattern_or_missing-returns-then-at_pattern-clause-gives = patterns.or_patterns::pattern_or_missing-returns-then-at_pattern-clause-gives

pub or_patterns::pattern_or_missing-pattern-requires : goal.or_patterns::pattern_or_missing-pattern-requires
or_patterns::pattern_or_missing-pattern-requires = patterns.or_patterns::pattern_or_missing-pattern-requires

pub or_patterns::pattern_or_missing-opt_further-frame-requires : goal.or_patterns::pattern_or_missing-opt_further-frame-requires
or_patterns::pattern_or_missing-opt_further-frame-requires = patterns.or_patterns::pattern_or_missing-opt_further-frame-requires

pub expressions::operand::after_dot-returns-then-at_method-clause-reads : goal.expressions::operand::after_dot-returns-then-at_method-clause-reads
expressions::operand::after_dot-returns-then-at_method-clause-reads = operand.expressions::operand::after_dot-returns-then-at_method-clause-reads

pub expressions::operand::after_dot-returns-then-at_new-clause-reads : goal.expressions::operand::after_dot-returns-then-at_new-clause-reads
expressions::operand::after_dot-returns-then-at_new-clause-reads = operand.expressions::operand::after_dot-returns-then-at_new-clause-reads

pub expressions::operand::after_dot-returns-in-IDENT-clause-reads : goal.expressions::operand::after_dot-returns-in-IDENT-clause-reads
expressions::operand::after_dot-returns-in-IDENT-clause-reads = operand.expressions::operand::after_dot-returns-in-IDENT-clause-reads

pub expressions::operand::after_dot-returns-in-INT_NUMBER-clause-reads : goal.expressions::operand::after_dot-returns-in-INT_NUMBER-clause-reads
expressions::operand::after_dot-returns-in-INT_NUMBER-clause-reads = operand.expressions::operand::after_dot-returns-in-INT_NUMBER-clause-reads

pub expressions::operand::after_dot-returns-in-FLOAT_NUMBER-clause-reads : goal.expressions::operand::after_dot-returns-in-FLOAT_NUMBER-clause-reads
expressions::operand::after_dot-returns-in-FLOAT_NUMBER-clause-reads = operand.expressions::operand::after_dot-returns-in-FLOAT_NUMBER-clause-reads

pub expressions::operand::after_dot-returns-in_default-clause-reads : goal.expressions::operand::after_dot-returns-in_default-clause-reads
expressions::operand::after_dot-returns-in_default-clause-reads = operand.expressions::operand::after_dot-returns-in_default-clause-reads

pub expressions::operand::after_dot-wrap-requires : goal.expressions::operand::after_dot-wrap-requires
expressions::operand::after_dot-wrap-requires = operand.expressions::operand::after_dot-wrap-requires

pub expressions::operand::after_dot-wrap-requires-then-at_new : goal.expressions::operand::after_dot-wrap-requires-then-at_new
expressions::operand::after_dot-wrap-requires-then-at_new = operand.expressions::operand::after_dot-wrap-requires-then-at_new

pub expressions::operand::after_dot-wrap-requires-in-IDENT : goal.expressions::operand::after_dot-wrap-requires-in-IDENT
expressions::operand::after_dot-wrap-requires-in-IDENT = operand.expressions::operand::after_dot-wrap-requires-in-IDENT

pub expressions::operand::after_dot-wrap-requires-in-INT_NUMBER : goal.expressions::operand::after_dot-wrap-requires-in-INT_NUMBER
expressions::operand::after_dot-wrap-requires-in-INT_NUMBER = operand.expressions::operand::after_dot-wrap-requires-in-INT_NUMBER

pub expressions::operand::after_dot-wrap-requires-in_default : goal.expressions::operand::after_dot-wrap-requires-in_default
expressions::operand::after_dot-wrap-requires-in_default = operand.expressions::operand::after_dot-wrap-requires-in_default

pub expressions::operand::prefixed-new_operand-requires : goal.expressions::operand::prefixed-new_operand-requires
expressions::operand::prefixed-new_operand-requires = operand.expressions::operand::prefixed-new_operand-requires

pub expressions::atom::inside-returns-in-RETURN_KW-clause-reads : goal.expressions::atom::inside-returns-in-RETURN_KW-clause-reads
expressions::atom::inside-returns-in-RETURN_KW-clause-reads = atom.expressions::atom::inside-returns-in-RETURN_KW-clause-reads

pub expressions::atom::inside-returns-in-BREAK_KW-clause-reads : goal.expressions::atom::inside-returns-in-BREAK_KW-clause-reads
expressions::atom::inside-returns-in-BREAK_KW-clause-reads = atom.expressions::atom::inside-returns-in-BREAK_KW-clause-reads

pub expressions::atom::inside-returns-in-CONTINUE_KW-clause-reads : goal.expressions::atom::inside-returns-in-CONTINUE_KW-clause-reads
expressions::atom::inside-returns-in-CONTINUE_KW-clause-reads = atom.expressions::atom::inside-returns-in-CONTINUE_KW-clause-reads

pub expressions::operand::prefixed-returns-in-MINUS-clause-gives : goal.expressions::operand::prefixed-returns-in-MINUS-clause-gives
expressions::operand::prefixed-returns-in-MINUS-clause-gives = operand.expressions::operand::prefixed-returns-in-MINUS-clause-gives

pub expressions::operand::prefixed-returns-in-BANG-clause-gives : goal.expressions::operand::prefixed-returns-in-BANG-clause-gives
expressions::operand::prefixed-returns-in-BANG-clause-gives = operand.expressions::operand::prefixed-returns-in-BANG-clause-gives

pub expressions::operand::prefixed-returns-in-STAR-clause-gives : goal.expressions::operand::prefixed-returns-in-STAR-clause-gives
expressions::operand::prefixed-returns-in-STAR-clause-gives = operand.expressions::operand::prefixed-returns-in-STAR-clause-gives

pub expressions::operand::prefixed-returns-then-at_new_operand-clause-gives : goal.expressions::operand::prefixed-returns-then-at_new_operand-clause-gives
expressions::operand::prefixed-returns-then-at_new_operand-clause-gives = operand.expressions::operand::prefixed-returns-then-at_new_operand-clause-gives

pub expressions::operand::prefixed-returns-then-at-clause-gives : goal.expressions::operand::prefixed-returns-then-at-clause-gives
expressions::operand::prefixed-returns-then-at-clause-gives = operand.expressions::operand::prefixed-returns-then-at-clause-gives

pub expressions::operand::prefixed-operand-requires : goal.expressions::operand::prefixed-operand-requires
expressions::operand::prefixed-operand-requires = operand.expressions::operand::prefixed-operand-requires

pub expressions::operand::after_dot-float-requires : goal.expressions::operand::after_dot-float-requires
expressions::operand::after_dot-float-requires = operand.expressions::operand::after_dot-float-requires

pub expressions::control::arm_turn-returns-then-at_list_end-clause-ends : goal.expressions::control::arm_turn-returns-then-at_list_end-clause-ends
expressions::control::arm_turn-returns-then-at_list_end-clause-ends = control.expressions::control::arm_turn-returns-then-at_list_end-clause-ends

pub expressions::control::arm_turn-match_arm-requires : goal.expressions::control::arm_turn-match_arm-requires
expressions::control::arm_turn-match_arm-requires = control.expressions::control::arm_turn-match_arm-requires

pub expressions::control::arm_turn-returns-then-at_match_arm-clause-goes : goal.expressions::control::arm_turn-returns-then-at_match_arm-clause-goes
expressions::control::arm_turn-returns-then-at_match_arm-clause-goes = control.expressions::control::arm_turn-returns-then-at_match_arm-clause-goes

pub expressions::control::arm_turn-returns-then-at_match_arm-clause-keeps : goal.expressions::control::arm_turn-returns-then-at_match_arm-clause-keeps
expressions::control::arm_turn-returns-then-at_match_arm-clause-keeps = control.expressions::control::arm_turn-returns-then-at_match_arm-clause-keeps

pub expressions::control::arm_turn-returns-then-at_match_arm-clause-asks : goal.expressions::control::arm_turn-returns-then-at_match_arm-clause-asks
expressions::control::arm_turn-returns-then-at_match_arm-clause-asks = control.expressions::control::arm_turn-returns-then-at_match_arm-clause-asks

pub expressions::control::arm_turn-skip-requires : goal.expressions::control::arm_turn-skip-requires
expressions::control::arm_turn-skip-requires = control.expressions::control::arm_turn-skip-requires

pub expressions::control::arm_turn-returns-clause-goes : goal.expressions::control::arm_turn-returns-clause-goes
expressions::control::arm_turn-returns-clause-goes = control.expressions::control::arm_turn-returns-clause-goes

pub expressions::control::arm_turn-returns-clause-keeps : goal.expressions::control::arm_turn-returns-clause-keeps
expressions::control::arm_turn-returns-clause-keeps = control.expressions::control::arm_turn-returns-clause-keeps

pub expressions::control::arm_turn-returns-clause-asks : goal.expressions::control::arm_turn-returns-clause-asks
expressions::control::arm_turn-returns-clause-asks = control.expressions::control::arm_turn-returns-clause-asks

pub expressions::control::arm_turn-returns-then-at_match_attribute-clause-goes : goal.expressions::control::arm_turn-returns-then-at_match_attribute-clause-goes
expressions::control::arm_turn-returns-then-at_match_attribute-clause-goes = control.expressions::control::arm_turn-returns-then-at_match_attribute-clause-goes

pub expressions::control::arm_turn-returns-then-at_match_attribute-clause-keeps : goal.expressions::control::arm_turn-returns-then-at_match_attribute-clause-keeps
expressions::control::arm_turn-returns-then-at_match_attribute-clause-keeps = control.expressions::control::arm_turn-returns-then-at_match_attribute-clause-keeps

pub expressions::control::arm_turn-returns-then-at_match_attribute-clause-asks : goal.expressions::control::arm_turn-returns-then-at_match_attribute-clause-asks
expressions::control::arm_turn-returns-then-at_match_attribute-clause-asks = control.expressions::control::arm_turn-returns-then-at_match_attribute-clause-asks

pub expressions::open_range-present_mark-mark-requires : goal.expressions::open_range-present_mark-mark-requires
expressions::open_range-present_mark-mark-requires = expressions.expressions::open_range-present_mark-mark-requires

pub expressions::open_range-range_end-requires : goal.expressions::open_range-range_end-requires
expressions::open_range-range_end-requires = expressions.expressions::open_range-range_end-requires

pub expressions::open_range-complete-requires : goal.expressions::open_range-complete-requires
expressions::open_range-complete-requires = expressions.expressions::open_range-complete-requires

pub expressions::open_range-returns-clause-reads : goal.expressions::open_range-returns-clause-reads
expressions::open_range-returns-clause-reads = expressions.expressions::open_range-returns-clause-reads

pub expressions::operand::new_operand-open_range-requires : goal.expressions::operand::new_operand-open_range-requires
expressions::operand::new_operand-open_range-requires = operand.expressions::operand::new_operand-open_range-requires

pub fields::value_after_attributes-returns-then-at_pair-clause-completes : goal.fields::value_after_attributes-returns-then-at_pair-clause-completes
fields::value_after_attributes-returns-then-at_pair-clause-completes = fields.fields::value_after_attributes-returns-then-at_pair-clause-completes

pub fields::value_after_attributes-abandon-requires : goal.fields::value_after_attributes-abandon-requires
fields::value_after_attributes-abandon-requires = fields.fields::value_after_attributes-abandon-requires

pub fields::value_after_attributes-other_fields-requires : goal.fields::value_after_attributes-other_fields-requires
fields::value_after_attributes-other_fields-requires = fields.fields::value_after_attributes-other_fields-requires

pub expressions::match_arm::arm_tail-postfix-frame-requires : goal.expressions::match_arm::arm_tail-postfix-frame-requires
expressions::match_arm::arm_tail-postfix-frame-requires = match_arm.expressions::match_arm::arm_tail-postfix-frame-requires

pub expressions::match_arm::arm_tail-further_operators-requires : goal.expressions::match_arm::arm_tail-further_operators-requires
expressions::match_arm::arm_tail-further_operators-requires = match_arm.expressions::match_arm::arm_tail-further_operators-requires

pub expressions::match_arm::after_long_path-returns-clause-reads : goal.expressions::match_arm::after_long_path-returns-clause-reads
expressions::match_arm::after_long_path-returns-clause-reads = match_arm.expressions::match_arm::after_long_path-returns-clause-reads

pub expressions::match_arm::after_long_path-after_path-frame-requires : goal.expressions::match_arm::after_long_path-after_path-frame-requires
expressions::match_arm::after_long_path-after_path-frame-requires = match_arm.expressions::match_arm::after_long_path-after_path-frame-requires

pub patterns::missing_single-returns-clause-gives : goal.patterns::missing_single-returns-clause-gives
patterns::missing_single-returns-clause-gives = patterns.patterns::missing_single-returns-clause-gives

pub or_patterns::pattern_or_missing-returns-clause-gives : goal.or_patterns::pattern_or_missing-returns-clause-gives
or_patterns::pattern_or_missing-returns-clause-gives = patterns.or_patterns::pattern_or_missing-returns-clause-gives

pub expressions::control::block_like-macro_block-requires : goal.expressions::control::block_like-macro_block-requires
expressions::control::block_like-macro_block-requires = control.expressions::control::block_like-macro_block-requires

pub fields::field_value-path_value-requires : goal.fields::field_value-path_value-requires
fields::field_value-path_value-requires = fields.fields::field_value-path_value-requires

pub expressions::atom::inside-path_expr-requires : goal.expressions::atom::inside-path_expr-requires
expressions::atom::inside-path_expr-requires = atom.expressions::atom::inside-path_expr-requires

pub expressions::atom::inside-returns-else-at_new_atom : goal.expressions::atom::inside-returns-else-at_new_atom
expressions::atom::inside-returns-else-at_new_atom = atom.expressions::atom::inside-returns-else-at_new_atom

pub expressions::atom::new_atom-returns-in-UNDERSCORE-clause-takes : goal.expressions::atom::new_atom-returns-in-UNDERSCORE-clause-takes
expressions::atom::new_atom-returns-in-UNDERSCORE-clause-takes = atom.expressions::atom::new_atom-returns-in-UNDERSCORE-clause-takes

pub expressions::atom::new_atom-returns-in_default-clause-takes : goal.expressions::atom::new_atom-returns-in_default-clause-takes
expressions::atom::new_atom-returns-in_default-clause-takes = atom.expressions::atom::new_atom-returns-in_default-clause-takes

pub expressions::match_arm::arm_tail-returns-clause-asks : goal.expressions::match_arm::arm_tail-returns-clause-asks
expressions::match_arm::arm_tail-returns-clause-asks = match_arm.expressions::match_arm::arm_tail-returns-clause-asks

pub expressions::match_arm::inside_arm-returns-clause-asks : goal.expressions::match_arm::inside_arm-returns-clause-asks
expressions::match_arm::inside_arm-returns-clause-asks = match_arm.expressions::match_arm::inside_arm-returns-clause-asks

pub expressions::atom::let_expr-returns-clause-reads : goal.expressions::atom::let_expr-returns-clause-reads
expressions::atom::let_expr-returns-clause-reads = atom.expressions::atom::let_expr-returns-clause-reads

pub expressions::atom::inside-returns-in-LET_KW-clause-reads : goal.expressions::atom::inside-returns-in-LET_KW-clause-reads
expressions::atom::inside-returns-in-LET_KW-clause-reads = atom.expressions::atom::inside-returns-in-LET_KW-clause-reads

pub expressions::closures::closure_param-returns-clause-reads : goal.expressions::closures::closure_param-returns-clause-reads
expressions::closures::closure_param-returns-clause-reads = atom.expressions::closures::closure_param-returns-clause-reads

pub expressions::match_arm::match_arm-returns-clause-gives : goal.expressions::match_arm::match_arm-returns-clause-gives
expressions::match_arm::match_arm-returns-clause-gives = match_arm.expressions::match_arm::match_arm-returns-clause-gives

pub fields::field_value-returns-then-at_pair-clause-gives : goal.fields::field_value-returns-then-at_pair-clause-gives
fields::field_value-returns-then-at_pair-clause-gives = fields.fields::field_value-returns-then-at_pair-clause-gives

pub fields::field_value-returns-clause-gives : goal.fields::field_value-returns-clause-gives
fields::field_value-returns-clause-gives = fields.fields::field_value-returns-clause-gives

pub expressions::match_arm::inside_arm-path_with_args-requires : goal.expressions::match_arm::inside_arm-path_with_args-requires
expressions::match_arm::inside_arm-path_with_args-requires = match_arm.expressions::match_arm::inside_arm-path_with_args-requires

pub expressions::atom::new_atom-returns-in_default-clause-reads : goal.expressions::atom::new_atom-returns-in_default-clause-reads
expressions::atom::new_atom-returns-in_default-clause-reads = atom.expressions::atom::new_atom-returns-in_default-clause-reads

pub expressions::atom::inside-new_atom-requires : goal.expressions::atom::inside-new_atom-requires
expressions::atom::inside-new_atom-requires = atom.expressions::atom::inside-new_atom-requires

pub patterns::missing_single-missing_expr_path-requires : goal.patterns::missing_single-missing_expr_path-requires
patterns::missing_single-missing_expr_path-requires = patterns.patterns::missing_single-missing_expr_path-requires

pub expressions::atom::new_atom-returns-in-L_ANGLE-clause-reads : goal.expressions::atom::new_atom-returns-in-L_ANGLE-clause-reads
expressions::atom::new_atom-returns-in-L_ANGLE-clause-reads = atom.expressions::atom::new_atom-returns-in-L_ANGLE-clause-reads

pub expressions::closures::closure_words-returns-in-FOR_KW-clause-reads : goal.expressions::closures::closure_words-returns-in-FOR_KW-clause-reads
expressions::closures::closure_words-returns-in-FOR_KW-clause-reads = atom.expressions::closures::closure_words-returns-in-FOR_KW-clause-reads

pub expressions::match_arm::arm_tail-returns-then-at_more-clause-reads : goal.expressions::match_arm::arm_tail-returns-then-at_more-clause-reads
expressions::match_arm::arm_tail-returns-then-at_more-clause-reads = match_arm.expressions::match_arm::arm_tail-returns-then-at_more-clause-reads

pub expressions::match_arm::after_long_path-returns-then-at_braced_macro-clause-reads : goal.expressions::match_arm::after_long_path-returns-then-at_braced_macro-clause-reads
expressions::match_arm::after_long_path-returns-then-at_braced_macro-clause-reads = match_arm.expressions::match_arm::after_long_path-returns-then-at_braced_macro-clause-reads

pub expressions::atom::inside-returns-then-at_new_atom : goal.expressions::atom::inside-returns-then-at_new_atom
expressions::atom::inside-returns-then-at_new_atom = atom.expressions::atom::inside-returns-then-at_new_atom

pub expressions::control::block_like-returns-else-at_new_block : goal.expressions::control::block_like-returns-else-at_new_block
expressions::control::block_like-returns-else-at_new_block = control.expressions::control::block_like-returns-else-at_new_block

pub expressions::operand::prefixed-returns-else-at : goal.expressions::operand::prefixed-returns-else-at
expressions::operand::prefixed-returns-else-at = operand.expressions::operand::prefixed-returns-else-at

pub expressions::after_operand-climb-frame-requires : goal.expressions::after_operand-climb-frame-requires
expressions::after_operand-climb-frame-requires = expressions.expressions::after_operand-climb-frame-requires

pub expressions::after_operand-operation_tail-requires : goal.expressions::after_operand-operation_tail-requires
expressions::after_operand-operation_tail-requires = expressions.expressions::after_operand-operation_tail-requires

pub expressions::after_operand-returns-clause-reads : goal.expressions::after_operand-returns-clause-reads
expressions::after_operand-returns-clause-reads = expressions.expressions::after_operand-returns-clause-reads

pub expressions::match_arm::further_operators-after_operand-frame-requires : goal.expressions::match_arm::further_operators-after_operand-frame-requires
expressions::match_arm::further_operators-after_operand-frame-requires = match_arm.expressions::match_arm::further_operators-after_operand-frame-requires

pub expressions::match_arm::further_operators-returns-clause-reads : goal.expressions::match_arm::further_operators-returns-clause-reads
expressions::match_arm::further_operators-returns-clause-reads = match_arm.expressions::match_arm::further_operators-returns-clause-reads

pub expressions::match_arm::further_operators-returns-clause-asks : goal.expressions::match_arm::further_operators-returns-clause-asks
expressions::match_arm::further_operators-returns-clause-asks = match_arm.expressions::match_arm::further_operators-returns-clause-asks

pub statements::statement-returns-then-at_new_statement-clause-gives : goal.statements::statement-returns-then-at_new_statement-clause-gives
statements::statement-returns-then-at_new_statement-clause-gives = statements.statements::statement-returns-then-at_new_statement-clause-gives

pub statements::statement-new_statement-requires : goal.statements::statement-new_statement-requires
statements::statement-new_statement-requires = statements.statements::statement-new_statement-requires

pub statements::statement-returns-then-at_profile_item-clause-gives : goal.statements::statement-returns-then-at_profile_item-clause-gives
statements::statement-returns-then-at_profile_item-clause-gives = statements.statements::statement-returns-then-at_profile_item-clause-gives

pub statements::statement-item-requires : goal.statements::statement-item-requires
statements::statement-item-requires = statements.statements::statement-item-requires

pub statements::statement-returns-else-at_profile_item-clause-gives : goal.statements::statement-returns-else-at_profile_item-clause-gives
statements::statement-returns-else-at_profile_item-clause-gives = statements.statements::statement-returns-else-at_profile_item-clause-gives

pub statements::statement-returns-else-at_profile_item-clause-pays : goal.statements::statement-returns-else-at_profile_item-clause-pays
statements::statement-returns-else-at_profile_item-clause-pays = statements.statements::statement-returns-else-at_profile_item-clause-pays

pub statements::new_statement-returns-then-at_long_path-clause-from_start : goal.statements::new_statement-returns-then-at_long_path-clause-from_start
statements::new_statement-returns-then-at_long_path-clause-from_start = statements.statements::new_statement-returns-then-at_long_path-clause-from_start

pub statements::new_statement-returns-then-at_super_let-clause-from_start : goal.statements::new_statement-returns-then-at_super_let-clause-from_start
statements::new_statement-returns-then-at_super_let-clause-from_start = statements.statements::new_statement-returns-then-at_super_let-clause-from_start

pub statements::new_statement-returns-clause-from_start : goal.statements::new_statement-returns-clause-from_start
statements::new_statement-returns-clause-from_start = statements.statements::new_statement-returns-clause-from_start

pub statements::new_statement-long_path_statement-requires : goal.statements::new_statement-long_path_statement-requires
statements::new_statement-long_path_statement-requires = statements.statements::new_statement-long_path_statement-requires

pub statements::new_statement-super_let-requires : goal.statements::new_statement-super_let-requires
statements::new_statement-super_let-requires = statements.statements::new_statement-super_let-requires

pub statements::new_statement-item-requires : goal.statements::new_statement-item-requires
statements::new_statement-item-requires = statements.statements::new_statement-item-requires

pub statements::long_path_statement-path_with_args-requires : goal.statements::long_path_statement-path_with_args-requires
statements::long_path_statement-path_with_args-requires = statements.statements::long_path_statement-path_with_args-requires

pub statements::long_path_statement-path_tail-frame-requires : goal.statements::long_path_statement-path_tail-frame-requires
statements::long_path_statement-path_tail-frame-requires = statements.statements::long_path_statement-path_tail-frame-requires

pub statements::long_path_statement-returns-clause-from_start : goal.statements::long_path_statement-returns-clause-from_start
statements::long_path_statement-returns-clause-from_start = statements.statements::long_path_statement-returns-clause-from_start

pub statements::path_tail-returns-then-at_braced_macro-clause-reads : goal.statements::path_tail-returns-then-at_braced_macro-clause-reads
statements::path_tail-returns-then-at_braced_macro-clause-reads = statements.statements::path_tail-returns-then-at_braced_macro-clause-reads

pub statements::path_tail-returns-clause-reads : goal.statements::path_tail-returns-clause-reads
statements::path_tail-returns-clause-reads = statements.statements::path_tail-returns-clause-reads

pub statements::path_tail-wrap-frame-requires : goal.statements::path_tail-wrap-frame-requires
statements::path_tail-wrap-frame-requires = statements.statements::path_tail-wrap-frame-requires

pub statements::path_tail-wrap-frame-requires-then-at_braced_macro : goal.statements::path_tail-wrap-frame-requires-then-at_braced_macro
statements::path_tail-wrap-frame-requires-then-at_braced_macro = statements.statements::path_tail-wrap-frame-requires-then-at_braced_macro

pub statements::path_tail-after_block-requires : goal.statements::path_tail-after_block-requires
statements::path_tail-after_block-requires = statements.statements::path_tail-after_block-requires

pub statements::path_tail-after_path-frame-requires : goal.statements::path_tail-after_path-frame-requires
statements::path_tail-after_path-frame-requires = statements.statements::path_tail-after_path-frame-requires

pub statements::path_tail-postfixes-frame-requires : goal.statements::path_tail-postfixes-frame-requires
statements::path_tail-postfixes-frame-requires = statements.statements::path_tail-postfixes-frame-requires

pub statements::super_let-returns-clause-reads : goal.statements::super_let-returns-clause-reads
statements::super_let-returns-clause-reads = statements.statements::super_let-returns-clause-reads

pub statements::super_let-complete-requires : goal.statements::super_let-complete-requires
statements::super_let-complete-requires = statements.statements::super_let-complete-requires

pub statements::let_stmt-complete-requires : goal.statements::let_stmt-complete-requires
statements::let_stmt-complete-requires = statements.statements::let_stmt-complete-requires

pub statements::let_stmt-returns-clause-reads : goal.statements::let_stmt-returns-clause-reads
statements::let_stmt-returns-clause-reads = statements.statements::let_stmt-returns-clause-reads

pub statements::let_rest-returns-clause-reads : goal.statements::let_rest-returns-clause-reads
statements::let_rest-returns-clause-reads = statements.statements::let_rest-returns-clause-reads

pub statements::after_block-returns-then-at_more-clause-reads : goal.statements::after_block-returns-then-at_more-clause-reads
statements::after_block-returns-then-at_more-clause-reads = statements.statements::after_block-returns-then-at_more-clause-reads

pub statements::after_block-returns-then-at-clause-reads : goal.statements::after_block-returns-then-at-clause-reads
statements::after_block-returns-then-at-clause-reads = statements.statements::after_block-returns-then-at-clause-reads

pub statements::after_block-returns-then-at_end_of-clause-reads : goal.statements::after_block-returns-then-at_end_of-clause-reads
statements::after_block-returns-then-at_end_of-clause-reads = statements.statements::after_block-returns-then-at_end_of-clause-reads

pub statements::after_block-returns-clause-reads : goal.statements::after_block-returns-clause-reads
statements::after_block-returns-clause-reads = statements.statements::after_block-returns-clause-reads

pub statements::block_statement-returns-clause-from_start : goal.statements::block_statement-returns-clause-from_start
statements::block_statement-returns-clause-from_start = statements.statements::block_statement-returns-clause-from_start

pub statements::after_block-opt_operators-frame-requires : goal.statements::after_block-opt_operators-frame-requires
statements::after_block-opt_operators-frame-requires = statements.statements::after_block-opt_operators-frame-requires

pub statements::expression_statement-returns-then-at_block_like-clause-from_start : goal.statements::expression_statement-returns-then-at_block_like-clause-from_start
statements::expression_statement-returns-then-at_block_like-clause-from_start = statements.statements::expression_statement-returns-then-at_block_like-clause-from_start

pub statements::opt_operators-after_operand-requires : goal.statements::opt_operators-after_operand-requires
statements::opt_operators-after_operand-requires = statements.statements::opt_operators-after_operand-requires

pub statements::opt_operators-returns-then-at_whole-clause-reads : goal.statements::opt_operators-returns-then-at_whole-clause-reads
statements::opt_operators-returns-then-at_whole-clause-reads = statements.statements::opt_operators-returns-then-at_whole-clause-reads

pub statements::opt_operators-returns-clause-reads : goal.statements::opt_operators-returns-clause-reads
statements::opt_operators-returns-clause-reads = statements.statements::opt_operators-returns-clause-reads

pub statements::opt_operators-returns-clause-asks : goal.statements::opt_operators-returns-clause-asks
statements::opt_operators-returns-clause-asks = statements.statements::opt_operators-returns-clause-asks

pub expressions::operand::new_operand-returns-then-at_raw-clause-from_start : goal.expressions::operand::new_operand-returns-then-at_raw-clause-from_start
expressions::operand::new_operand-returns-then-at_raw-clause-from_start = operand.expressions::operand::new_operand-returns-then-at_raw-clause-from_start

pub expressions::operand::new_operand-attributed_operand-requires : goal.expressions::operand::new_operand-attributed_operand-requires
expressions::operand::new_operand-attributed_operand-requires = operand.expressions::operand::new_operand-attributed_operand-requires

pub expressions::operand::new_operand-returns-then-at-clause-from_start : goal.expressions::operand::new_operand-returns-then-at-clause-from_start
expressions::operand::new_operand-returns-then-at-clause-from_start = operand.expressions::operand::new_operand-returns-then-at-clause-from_start

pub expressions::operand::new_operand-returns-clause-from_start : goal.expressions::operand::new_operand-returns-clause-from_start
expressions::operand::new_operand-returns-clause-from_start = operand.expressions::operand::new_operand-returns-clause-from_start

pub expressions::operand::attributed_operand-operand_after_attributes-requires : goal.expressions::operand::attributed_operand-operand_after_attributes-requires
expressions::operand::attributed_operand-operand_after_attributes-requires = operand.expressions::operand::attributed_operand-operand_after_attributes-requires

pub expressions::operand::attributed_operand-returns-clause-from_start : goal.expressions::operand::attributed_operand-returns-clause-from_start
expressions::operand::attributed_operand-returns-clause-from_start = operand.expressions::operand::attributed_operand-returns-clause-from_start

pub expressions::operand::operand_after_attributes-extended_operand-requires : goal.expressions::operand::operand_after_attributes-extended_operand-requires
expressions::operand::operand_after_attributes-extended_operand-requires = operand.expressions::operand::operand_after_attributes-extended_operand-requires

pub expressions::operand::operand_after_attributes-abandon-requires : goal.expressions::operand::operand_after_attributes-abandon-requires
expressions::operand::operand_after_attributes-abandon-requires = operand.expressions::operand::operand_after_attributes-abandon-requires

pub expressions::operand::operand_after_attributes-complete-requires : goal.expressions::operand::operand_after_attributes-complete-requires
expressions::operand::operand_after_attributes-complete-requires = operand.expressions::operand::operand_after_attributes-complete-requires

pub expressions::operand::operand_after_attributes-returns-then-at_operand-clause-completes : goal.expressions::operand::operand_after_attributes-returns-then-at_operand-clause-completes
expressions::operand::operand_after_attributes-returns-then-at_operand-clause-completes = operand.expressions::operand::operand_after_attributes-returns-then-at_operand-clause-completes

pub expressions::operand::operand_after_attributes-returns-clause-completes : goal.expressions::operand::operand_after_attributes-returns-clause-completes
expressions::operand::operand_after_attributes-returns-clause-completes = operand.expressions::operand::operand_after_attributes-returns-clause-completes

pub expressions::operand::extended_operand-prefixed-requires : goal.expressions::operand::extended_operand-prefixed-requires
expressions::operand::extended_operand-prefixed-requires = operand.expressions::operand::extended_operand-prefixed-requires

pub expressions::operand::extended_operand-extend_left-requires : goal.expressions::operand::extended_operand-extend_left-requires
expressions::operand::extended_operand-extend_left-requires = operand.expressions::operand::extended_operand-extend_left-requires

pub expressions::operand::extended_operand-returns-clause-reads : goal.expressions::operand::extended_operand-returns-clause-reads
expressions::operand::extended_operand-returns-clause-reads = operand.expressions::operand::extended_operand-returns-clause-reads

pub statements::new_statement-attributed_statement-requires : goal.statements::new_statement-attributed_statement-requires
statements::new_statement-attributed_statement-requires = statements.statements::new_statement-attributed_statement-requires

pub statements::new_statement-returns-then-at-clause-from_start : goal.statements::new_statement-returns-then-at-clause-from_start
statements::new_statement-returns-then-at-clause-from_start = statements.statements::new_statement-returns-then-at-clause-from_start

pub statements::path_tail-operators_and_end-requires : goal.statements::path_tail-operators_and_end-requires
statements::path_tail-operators_and_end-requires = statements.statements::path_tail-operators_and_end-requires

pub statements::operators_and_end-after_operand-frame-requires : goal.statements::operators_and_end-after_operand-frame-requires
statements::operators_and_end-after_operand-frame-requires = statements.statements::operators_and_end-after_operand-frame-requires

pub statements::operators_and_end-statement_end-requires : goal.statements::operators_and_end-statement_end-requires
statements::operators_and_end-statement_end-requires = statements.statements::operators_and_end-statement_end-requires

pub statements::operators_and_end-returns-clause-reads : goal.statements::operators_and_end-returns-clause-reads
statements::operators_and_end-returns-clause-reads = statements.statements::operators_and_end-returns-clause-reads

pub statements::attributed_statement-after_attributes-requires : goal.statements::attributed_statement-after_attributes-requires
statements::attributed_statement-after_attributes-requires = statements.statements::attributed_statement-after_attributes-requires

pub statements::attributed_statement-returns-clause-from_start : goal.statements::attributed_statement-returns-clause-from_start
statements::attributed_statement-returns-clause-from_start = statements.statements::attributed_statement-returns-clause-from_start

pub statements::after_attributes-complete-requires : goal.statements::after_attributes-complete-requires
statements::after_attributes-complete-requires = statements.statements::after_attributes-complete-requires

pub statements::after_attributes-returns-then-at-clause-completes : goal.statements::after_attributes-returns-then-at-clause-completes
statements::after_attributes-returns-then-at-clause-completes = statements.statements::after_attributes-returns-then-at-clause-completes

pub statements::after_attributes-body-requires : goal.statements::after_attributes-body-requires
statements::after_attributes-body-requires = statements.statements::after_attributes-body-requires

pub statements::after_attributes-returns-then-at_item_after_attributes-clause-completes : goal.statements::after_attributes-returns-then-at_item_after_attributes-clause-completes
statements::after_attributes-returns-then-at_item_after_attributes-clause-completes = statements.statements::after_attributes-returns-then-at_item_after_attributes-clause-completes

pub statements::after_attributes-extended_block-requires : goal.statements::after_attributes-extended_block-requires
statements::after_attributes-extended_block-requires = statements.statements::after_attributes-extended_block-requires

pub statements::after_attributes-after_block-rest-requires : goal.statements::after_attributes-after_block-rest-requires
statements::after_attributes-after_block-rest-requires = statements.statements::after_attributes-after_block-rest-requires

pub statements::after_attributes-abandon-requires : goal.statements::after_attributes-abandon-requires
statements::after_attributes-abandon-requires = statements.statements::after_attributes-abandon-requires

pub statements::after_attributes-returns-then-at_block_like-clause-completes : goal.statements::after_attributes-returns-then-at_block_like-clause-completes
statements::after_attributes-returns-then-at_block_like-clause-completes = statements.statements::after_attributes-returns-then-at_block_like-clause-completes

pub statements::after_attributes-extended_operand-requires : goal.statements::after_attributes-extended_operand-requires
statements::after_attributes-extended_operand-requires = statements.statements::after_attributes-extended_operand-requires

pub statements::after_attributes-operators_and_end-frame-requires : goal.statements::after_attributes-operators_and_end-frame-requires
statements::after_attributes-operators_and_end-frame-requires = statements.statements::after_attributes-operators_and_end-frame-requires

pub statements::after_attributes-abandon-requires-then-at_operand : goal.statements::after_attributes-abandon-requires-then-at_operand
statements::after_attributes-abandon-requires-then-at_operand = statements.statements::after_attributes-abandon-requires-then-at_operand

pub statements::after_attributes-returns-then-at_operand-clause-completes : goal.statements::after_attributes-returns-then-at_operand-clause-completes
statements::after_attributes-returns-then-at_operand-clause-completes = statements.statements::after_attributes-returns-then-at_operand-clause-completes

pub statements::after_attributes-body-requires-2 : goal.statements::after_attributes-body-requires-2
statements::after_attributes-body-requires-2 = statements.statements::after_attributes-body-requires-2

pub statements::after_attributes-returns-clause-completes : goal.statements::after_attributes-returns-clause-completes
statements::after_attributes-returns-clause-completes = statements.statements::after_attributes-returns-clause-completes

pub statements::extended_block-block_like-requires : goal.statements::extended_block-block_like-requires
statements::extended_block-block_like-requires = statements.statements::extended_block-block_like-requires

pub statements::extended_block-extend_left-requires : goal.statements::extended_block-extend_left-requires
statements::extended_block-extend_left-requires = statements.statements::extended_block-extend_left-requires

pub statements::extended_block-returns-clause-reads : goal.statements::extended_block-returns-clause-reads
statements::extended_block-returns-clause-reads = statements.statements::extended_block-returns-clause-reads

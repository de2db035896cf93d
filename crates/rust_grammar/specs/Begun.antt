-- Where a production can be read.
use Rattle.std.specs.Prelude.{◌≡◌, Bool, true, false, if◌then◌else◌}
use Rattle.rust_grammar.specs.Rule.{Production, source_file, macro_items, macro_statements, meta, use_tree, param, path, type_path, expr_path, generic_arg, bounds, bound, where_pred, any_type, pattern, single_pattern, pattern_field, statement_end, macro_statement_end, operation_tail, pipe_tail, after_dot, match_arm, type_no_bounds, pattern_atom, arm_body}
use Rattle.rust_grammar.specs.Meaning.{Reading, sees, look_of}
use Rattle.rust_grammar.specs.Whole.{whole}

-- the productions that can be read where they do not begin: their last alternative asks nothing
unfoldable pub asks_nothing : Production → Bool
asks_nothing source_file = true
asks_nothing macro_items = true
asks_nothing macro_statements = true
asks_nothing meta = true
asks_nothing use_tree = true
asks_nothing param = true
asks_nothing path = true
asks_nothing type_path = true
asks_nothing expr_path = true
asks_nothing generic_arg = true
asks_nothing bounds = true
asks_nothing bound = true
asks_nothing where_pred = true
asks_nothing any_type = true
asks_nothing pattern = true
asks_nothing single_pattern = true
asks_nothing pattern_field = true
asks_nothing statement_end = true
asks_nothing macro_statement_end = true
asks_nothing operation_tail = true
asks_nothing pipe_tail = true
asks_nothing after_dot = true
asks_nothing match_arm = true
asks_nothing type_no_bounds = true
asks_nothing pattern_atom = true
asks_nothing arm_body = true
asks_nothing x = false

-- A production can be read here: it begins here, or asks nothing.
abbrev pub IsBegun : Production → Bool → Reading → Type 0
IsBegun x c s = (if asks_nothing x then true else sees c s (look_of whole x)) ≡ true

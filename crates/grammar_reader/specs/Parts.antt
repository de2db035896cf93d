-- The parts that are expected or optional in several places: what each is, where it begins, what is said where it is missing.
use Rattle.std.specs.Prelude.{ℕ}
use Rattle.parser_input.specs.Kinds.{ARG_LIST, ASSOC_ITEM_LIST, BLOCK_EXPR, GENERIC_ARG_LIST, GENERIC_PARAM_LIST, MATCH_ARM_LIST, PARAM_LIST, PATH_TYPE, RECORD_FIELD_LIST, STMT_LIST, VARIANT_LIST, WHERE_CLAUSE, WHERE_PRED}
use Rattle.parser_events.specs.Forest.{Message, Expected, ExpectedPattern, ExpectedType}
use Rattle.rust_grammar.specs.Expressions.{closure_params}
use Rattle.rust_grammar.specs.Notation.{next, wide}
use Rattle.rust_grammar.specs.Rule as rules
use Rattle.rust_grammar.specs.Rule.{Call, Look, Rule, Want, When, begins}
use Rattle.rust_grammar.specs.Shared.{path_type}
use Rattle.rust_grammar.specs.Types.{fn_ptr_params}
use Rattle.rust_grammar.specs.Words.{'<', 'where'}
use Rattle.rust_productions.specs.Reads.{looks}
use Rattle.grammar_reader.specs.declared.grammar.parts.Part.{Part}
use Rattle.grammar_reader.specs.declared.grammar.parts.Part.TheVariants as parts

abbrev pub part_of : Part → Rule
part_of parts.Arguments = Call rules.arguments
part_of parts.AssocItems = Call rules.assoc_items
part_of parts.Block = Call rules.block
part_of parts.ClosureParams = closure_params
part_of parts.FnPtrParams = fn_ptr_params
part_of parts.GenericArgs = Call rules.generic_args
part_of parts.GenericParams = Call rules.generic_params
part_of parts.MatchArms = Call rules.match_arms
part_of parts.NewGenericParams = When (wide (next '<')) (Call rules.generic_params)
part_of parts.NewWhereClause = When (wide (next 'where')) (Call rules.where_clause)
part_of parts.Params = Call rules.params
part_of parts.PathType = path_type
part_of parts.Pattern = Call rules.pattern
part_of parts.RecordFields = Call rules.record_fields
part_of parts.SinglePattern = Call rules.single_pattern
part_of parts.StatementList = Call rules.statement_list
part_of parts.Type = Call rules.any_type
part_of parts.TypeNoBounds = Call rules.type_no_bounds
part_of parts.Variants = Call rules.variants
part_of parts.WhereClause = Call rules.where_clause
part_of parts.WherePred = Call rules.where_pred

abbrev pub part_begins : Part → Look
part_begins parts.Arguments = looks rules.arguments
part_begins parts.AssocItems = looks rules.assoc_items
part_begins parts.Block = looks rules.block
part_begins parts.ClosureParams = begins looks closure_params
part_begins parts.FnPtrParams = begins looks fn_ptr_params
part_begins parts.GenericArgs = looks rules.generic_args
part_begins parts.GenericParams = looks rules.generic_params
part_begins parts.MatchArms = looks rules.match_arms
part_begins parts.NewGenericParams = wide (next '<')
part_begins parts.NewWhereClause = wide (next 'where')
part_begins parts.Params = looks rules.params
part_begins parts.PathType = looks rules.path
part_begins parts.Pattern = looks rules.pattern
part_begins parts.RecordFields = looks rules.record_fields
part_begins parts.SinglePattern = looks rules.single_pattern
part_begins parts.StatementList = looks rules.statement_list
part_begins parts.Type = looks rules.any_type
part_begins parts.TypeNoBounds = looks rules.type_no_bounds
part_begins parts.Variants = looks rules.variants
part_begins parts.WhereClause = looks rules.where_clause
part_begins parts.WherePred = looks rules.where_pred

abbrev pub missing : Part → Message
missing parts.Arguments = Expected ARG_LIST
missing parts.AssocItems = Expected ASSOC_ITEM_LIST
missing parts.Block = Expected BLOCK_EXPR
missing parts.ClosureParams = Expected PARAM_LIST
missing parts.FnPtrParams = Expected PARAM_LIST
missing parts.GenericArgs = Expected GENERIC_ARG_LIST
missing parts.GenericParams = Expected GENERIC_PARAM_LIST
missing parts.MatchArms = Expected MATCH_ARM_LIST
missing parts.NewGenericParams = Expected GENERIC_PARAM_LIST
missing parts.NewWhereClause = Expected WHERE_CLAUSE
missing parts.Params = Expected PARAM_LIST
missing parts.PathType = Expected PATH_TYPE
missing parts.Pattern = ExpectedPattern
missing parts.RecordFields = Expected RECORD_FIELD_LIST
missing parts.SinglePattern = ExpectedPattern
missing parts.StatementList = Expected STMT_LIST
missing parts.Type = ExpectedType
missing parts.TypeNoBounds = ExpectedType
missing parts.Variants = Expected VARIANT_LIST
missing parts.WhereClause = Expected WHERE_CLAUSE
missing parts.WherePred = Expected WHERE_PRED

-- how many looks tell at most whether it is next
abbrev pub looks_of : Part → ℕ
looks_of parts.GenericArgs = 4
looks_of parts.PathType = 3
looks_of parts.Pattern = 9
looks_of parts.SinglePattern = 8
looks_of parts.Type = 16
looks_of parts.TypeNoBounds = 24
looks_of parts.WherePred = 20
looks_of part = 1

-- a part that is expected
abbrev pub expected : Part → Rule
expected part = Want (part_of part) (missing part)

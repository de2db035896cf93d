-- The lists that open with one token: the kind of their node, what opens and closes them, and what their elements are.
use Rattle.std.specs.Prelude.{ℕ}
use Rattle.parser_input.specs.Kinds.{ARG_LIST, GENERIC_ARG_LIST, GENERIC_PARAM_LIST, L_ANGLE, L_BRACK, L_CURLY, L_PAREN, PARAM_LIST, PIPE, RECORD_EXPR_FIELD_LIST, RECORD_FIELD_LIST, RECORD_PAT_FIELD_LIST, R_ANGLE, R_BRACK, R_CURLY, R_PAREN, SLICE_PAT, TUPLE_FIELD_LIST, TUPLE_PAT, VARIANT_LIST}
use Rattle.rust_grammar.specs.Notation.{◌⟨◌⟩, listed}
use Rattle.rust_grammar.specs.Rule.{Rule}
use Rattle.rust_grammar.specs.Words.{one}
use Rattle.grammar_reader.specs.Told.{element_of}
use Rattle.grammar_reader.specs.declared.grammar.lists.Element.{Element}
use Rattle.grammar_reader.specs.declared.grammar.lists.Element.TheVariants as elements
use Rattle.grammar_reader.specs.declared.grammar.lists.ListKind.{ListKind}
use Rattle.grammar_reader.specs.declared.grammar.lists.ListKind.TheVariants as lists

abbrev pub kind_in : ListKind → ℕ
kind_in lists.Arguments = ARG_LIST
kind_in lists.Captures = GENERIC_ARG_LIST
kind_in lists.ClosureParams = PARAM_LIST
kind_in lists.FieldValues = RECORD_EXPR_FIELD_LIST
kind_in lists.FnPtrParams = PARAM_LIST
kind_in lists.GenericParams = GENERIC_PARAM_LIST
kind_in lists.Params = PARAM_LIST
kind_in lists.PatternFields = RECORD_PAT_FIELD_LIST
kind_in lists.RecordFields = RECORD_FIELD_LIST
kind_in lists.SlicePattern = SLICE_PAT
kind_in lists.TupleFields = TUPLE_FIELD_LIST
kind_in lists.TuplePattern = TUPLE_PAT
kind_in lists.Variants = VARIANT_LIST

abbrev pub opening_in : ListKind → ℕ
opening_in lists.Arguments = L_PAREN
opening_in lists.Captures = L_ANGLE
opening_in lists.ClosureParams = PIPE
opening_in lists.FieldValues = L_CURLY
opening_in lists.FnPtrParams = L_PAREN
opening_in lists.GenericParams = L_ANGLE
opening_in lists.Params = L_PAREN
opening_in lists.PatternFields = L_CURLY
opening_in lists.RecordFields = L_CURLY
opening_in lists.SlicePattern = L_BRACK
opening_in lists.TupleFields = L_PAREN
opening_in lists.TuplePattern = L_PAREN
opening_in lists.Variants = L_CURLY

abbrev pub element_in : ListKind → Element
element_in lists.Arguments = elements.Expression
element_in lists.Captures = elements.Captured
element_in lists.ClosureParams = elements.ClosureParam
element_in lists.FieldValues = elements.FieldValue
element_in lists.FnPtrParams = elements.FnPtrParam
element_in lists.GenericParams = elements.GenericParam
element_in lists.Params = elements.Param
element_in lists.PatternFields = elements.PatternField
element_in lists.RecordFields = elements.RecordField
element_in lists.SlicePattern = elements.Pattern
element_in lists.TupleFields = elements.TupleField
element_in lists.TuplePattern = elements.Pattern
element_in lists.Variants = elements.Variant

abbrev pub closing_in : ListKind → ℕ
closing_in lists.Arguments = R_PAREN
closing_in lists.Captures = R_ANGLE
closing_in lists.ClosureParams = PIPE
closing_in lists.FieldValues = R_CURLY
closing_in lists.FnPtrParams = R_PAREN
closing_in lists.GenericParams = R_ANGLE
closing_in lists.Params = R_PAREN
closing_in lists.PatternFields = R_CURLY
closing_in lists.RecordFields = R_CURLY
closing_in lists.SlicePattern = R_BRACK
closing_in lists.TupleFields = R_PAREN
closing_in lists.TuplePattern = R_PAREN
closing_in lists.Variants = R_CURLY

-- what a list is
abbrev pub list_of : ListKind → Rule
list_of list = kind_in list ⟨ listed (kind_in list) (one (opening_in list)) (element_of (element_in list)) (one (closing_in list)) ⟩

-- how many of the looks that its tokens pay for a list of such elements leaves at least
abbrev pub left_by : Element → ℕ
left_by elements.ClosureParam = 4075
left_by x = 3300

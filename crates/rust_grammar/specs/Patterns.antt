-- The rows of patterns and literals.
use Rattle.std.specs.Prelude.{[], ◌∷◌, List}
use Rattle.parser_input.specs.Kinds.{OR_PAT, LITERAL_PAT, WILDCARD_PAT, REF_PAT, TUPLE_PAT, PAREN_PAT, SLICE_PAT, REST_PAT, IDENT_PAT, TUPLE_STRUCT_PAT, RECORD_PAT, RECORD_PAT_FIELD_LIST, RECORD_PAT_FIELD, PATH_PAT, LITERAL, RANGE_PAT, MACRO_CALL}
use Rattle.rust_grammar.specs.Rule.{pattern, single_pattern, pattern_fields, pattern_field, literal, Production, Look, Rule, Nothing, One, When, pattern_atom, Either, Spelling}
use Rattle.rust_grammar.specs.Words.{'dots', '::', 'l_paren', 'r_paren', 'l_curly', 'r_curly', '[', ']', 'at', ':', '!', '-', '&', '|', 'false', 'mut', 'ref', 'true', '_', 'ident', 'int', 'float', 'char', 'byte', 'string', 'byte_string', 'c_string', 'dots_eq', '#', '<', 'self', 'super', 'crate', 'Self'}
use Rattle.rust_grammar.specs.Calls.{Name, ExprPath, Pattern, SinglePattern, PatternFields, PatternField, Literal, TokenTree, PatternAtom}
use Rattle.rust_grammar.specs.Notation.{◌or◌, ◌▸◌, ◌▹◌, ⁅◌⁆, ◌*, ◌⁺, ◌!, ◌⟨◌⟩, ◌<⟨◌⟩, next, ◌before◌, ◌not_before◌, any_of, listed, in_parentheses, more, wide, ◌before_any◌, one_of}
use Rattle.rust_grammar.specs.Paths.{expr_qualified}
use Rattle.rust_grammar.specs.Shared.{field_name, attributed, three_dots}

-- the token of a literal
abbrev pub literal_token : Rule
literal_token = One 'int' or One 'float' or One 'char' or One 'byte' or One 'string' or One 'byte_string' or One 'c_string' or One 'true' or One 'false'

-- A range pattern: `1..=2`, `..=2`, `1..`, and the obsolete `1...2`. An end can begin with these, and in the whole language with `<`.
abbrev pub range_words : List Spelling
range_words = 'int' ∷ 'float' ∷ 'char' ∷ 'byte' ∷ 'string' ∷ 'byte_string' ∷ 'c_string' ∷ 'true' ∷ 'false' ∷ '-' ∷ 'ident' ∷ 'self' ∷ 'super' ∷ 'crate' ∷ 'Self' ∷ '::' ∷ []

abbrev pub range_end_begins : Look
range_end_begins = Either (one_of 0 range_words) (wide (next '<'))

abbrev pub range_end : Rule
range_end = ⁅ When range_end_begins PatternAtom ⁆

-- `..=`, or `..` before an end, begins a range without a start; else `..` is a rest pattern
abbrev pub dots_before_end : Look
dots_before_end = 'dots' before_any ('<' ∷ range_words)

abbrev pub open_range_begins : Look
open_range_begins = Either (next 'dots_eq') dots_before_end

abbrev pub two_dots : Rule
two_dots = One 'dots_eq' or One 'dots'

abbrev pub open_range : Rule
open_range = RANGE_PAT ⟨ two_dots ▸ range_end ⟩

-- a range operator after a pattern
abbrev pub range_op_begins : Look
range_op_begins = one_of 0 ('dots_eq' ∷ 'dots' ∷ [])

abbrev pub range_op : Rule
range_op = three_dots or two_dots

abbrev pub range_tail : Rule
range_tail = ⁅ When (wide range_op_begins) (RANGE_PAT <⟨ range_op ▸ range_end ⟩) ⁆

-- a further alternative of an or pattern, and those after the first one
abbrev pub further_alternative : Rule
further_alternative = One '|' ▸ SinglePattern !

abbrev pub or_pattern : Rule
or_pattern = OR_PAT <⟨ further_alternative ⁺ ⟩

abbrev pub ref_pat : Rule
ref_pat = REF_PAT ⟨ One '&' ▸ ⁅ One 'mut' ⁆ ▸ SinglePattern ! ⟩

-- a tuple pattern that begins with a rest pattern
abbrev pub tuple_pat : Rule
tuple_pat = TUPLE_PAT ⟨ listed TUPLE_PAT 'l_paren' Pattern 'r_paren' ⟩

-- a parenthesized pattern or a tuple pattern, and what follows its `(`
abbrev pub after_l_paren : Rule
after_l_paren = in_parentheses TUPLE_PAT PAREN_PAT (Pattern !) Pattern

abbrev pub tuple_or_paren : Rule
tuple_or_paren = One 'l_paren' ▸ after_l_paren

abbrev pub slice_pat : Rule
slice_pat = SLICE_PAT ⟨ listed SLICE_PAT '[' Pattern ']' ⟩

abbrev pub rest_pat : Rule
rest_pat = REST_PAT ⟨ One 'dots' ⟩

-- a word that is a name, and no path
abbrev pub name_alone : Look
name_alone = 'ident' not_before ('::' ∷ 'l_paren' ∷ 'l_curly' ∷ '!' ∷ [])

-- the pattern after the `@` of an identifier pattern
abbrev pub at_pattern : Rule
at_pattern = One 'at' ▸ SinglePattern !

-- what follows a path in a pattern, and both; a path that begins with `<T as U>`
abbrev pub macro_pat : Rule
macro_pat = MACRO_CALL <⟨ One '!' ▸ TokenTree ! ⟩

abbrev pub after_path : Rule
after_path = TUPLE_STRUCT_PAT <⟨ listed TUPLE_STRUCT_PAT 'l_paren' Pattern 'r_paren' ⟩ or RECORD_PAT <⟨ PatternFields ⟩ or When (wide (next '!')) macro_pat or PATH_PAT <⟨ Nothing ⟩

abbrev pub path_pat : Rule
path_pat = ExprPath ▸ after_path

abbrev pub qualified_pat : Rule
qualified_pat = expr_qualified ▸ after_path

-- the name that a field of a record pattern binds, and that field
abbrev pub binding : Rule
binding = ⁅ One 'ref' ⁆ ▸ ⁅ One 'mut' ⁆ ▸ Name !

abbrev pub shorthand : Rule
shorthand = RECORD_PAT_FIELD ⟨ IDENT_PAT ⟨ binding ⟩ ⟩

-- a field of a record pattern after its attributes
abbrev pub named_field_begins : Look
named_field_begins = Either ('ident' before ':') ('int' before ':')

abbrev pub attributed_field : Rule
attributed_field =
    REST_PAT <⟨ One 'dots' ⟩
    or When named_field_begins (RECORD_PAT_FIELD <⟨ field_name ▸ One ':' ▸ Pattern ! ⟩)
    or RECORD_PAT_FIELD <⟨ IDENT_PAT ⟨ binding ⟩ ⟩

unfoldable pub patterns : (others : Production → Rule) → Production → Rule
patterns others pattern =
    One '|' ▸ SinglePattern ! ▸ OR_PAT <⟨ further_alternative * ⟩
    or SinglePattern ▸ ⁅ or_pattern ⁆
patterns others single_pattern = When (wide open_range_begins) open_range or more pattern_atom ▸ range_tail
patterns others pattern_atom =
    LITERAL_PAT ⟨ ⁅ One '-' ⁆ ▸ Literal ! ⟩
    or WILDCARD_PAT ⟨ One '_' ⟩
    or ref_pat
    or When ('l_paren' before 'dots') tuple_pat
    or tuple_or_paren
    or slice_pat
    or rest_pat
    or When (any_of (next 'ref' ∷ next 'mut' ∷ name_alone ∷ [])) (IDENT_PAT ⟨ ⁅ One 'ref' ⁆ ▸ ⁅ One 'mut' ⁆ ▸ Name ! ▸ ⁅ at_pattern ⁆ ⟩)
    or When (wide (next '<')) qualified_pat
    or path_pat
patterns others pattern_fields = RECORD_PAT_FIELD_LIST ⟨ listed RECORD_PAT_FIELD_LIST 'l_curly' PatternField 'r_curly' ⟩
patterns others pattern_field =
    When (wide (next '#')) (attributed attributed_field)
    or rest_pat
    or RECORD_PAT_FIELD ⟨ field_name ▹ One ':' ▸ Pattern ! ⟩
    or shorthand
patterns others literal = LITERAL ⟨ literal_token ⟩
patterns others x = others x

-- The rows of items and their parts, of uses and attributes.
use Rattle.std.specs.Prelude.{[], ◌∷◌}
use Rattle.parser_input.specs.Kinds.{ERROR, SOURCE_FILE, MACRO_ITEMS, MODULE, ITEM_LIST, USE, USE_TREE, USE_TREE_LIST, RENAME, STRUCT, ENUM, VARIANT_LIST, VARIANT, RECORD_FIELD_LIST, RECORD_FIELD, TUPLE_FIELD_LIST, TUPLE_FIELD, FN, PARAM_LIST, SELF_PARAM, PARAM, CONST, STATIC, TYPE_ALIAS, IMPL, TRAIT, ASSOC_ITEM_LIST, VISIBILITY, ATTR, META, MACRO_CALL, TOKEN_TREE, NAME, AUTO_KW, DEFAULT_KW, MACRO_RULES_KW, SAFE_KW, UNION_KW, NAME_REF, CONST_ARG, EXTERN_CRATE, EXTERN_BLOCK, UNION, MACRO_RULES, MACRO_DEF}
use Rattle.parser_events.specs.Forest.{ExpectedItem}
use Rattle.rust_grammar.specs.Rule.{source_file, macro_items, item, body, assoc_items, variants, record_fields, tuple_fields, visibility, attribute, meta, token_tree, use_tree, use_list, params, param, Production, Look, Left, Given, Both, Either, Not, Rule, One, Any, Say, Skip, When, Unless, Contextual}
use Rattle.rust_grammar.specs.Words.{'::', 'semi', 'l_paren', 'r_paren', 'l_curly', 'r_curly', '[', ']', '#', ':', '=', '!', '&', '*', 'const', 'crate', 'enum', 'fn', 'for', 'impl', 'in', 'mod', 'mut', 'pub', 'self', 'static', 'struct', 'super', 'trait', 'type', 'unsafe', 'use', 'as', '_', 'lifetime', 'shebang', 'frontmatter', 'comma', '<', '>', 'where', 'ident', 'extern', 'async', 'gen', 'macro', 'contextual_union', 'contextual_macro_rules', 'contextual_auto', 'contextual_default', 'contextual_safe'}
use Rattle.rust_grammar.specs.Calls.{Item, AssocItems, Variants, RecordFields, TupleFields, Visibility, Attribute, Meta, TokenTree, UseTree, UseList, Name, Lifetime, Path, GenericParams, Bounds, WhereClause, Params, Param, RetType, AnyType, Pattern, Block, Expression}
use Rattle.rust_grammar.specs.Notation.{◌or◌, ◌▸◌, ⁅◌⁆, ◌*, ◌!, ◌⟨◌⟩, ◌<⟨◌⟩, more, off, at_end, next, row, ◌before◌, any_of, one_of, until, listed, wide, ◌before_any◌, ◌not_before◌}
use Rattle.rust_grammar.specs.Shared.{colons_before_more, type_annotation, initializer, attributed, dots_dot, three_dots, abi}

-- items until the list ends; an attribute of what they stand in is no part of an item
abbrev pub items_until : (ends : Look) → Rule
items_until ends = (Unless ends (When ('#' before '!') Attribute or Item)) *

-- items in braces
abbrev pub items_in_braces : Rule
items_in_braces = One 'l_curly' ▸ off (items_until (until 'r_curly')) ▸ One 'r_curly' !

-- a module, and its items in braces or in a file of their own
abbrev pub module_items : Rule
module_items = ITEM_LIST ⟨ items_in_braces ⟩ or One 'semi' !

abbrev pub module_item : Rule
module_item = MODULE <⟨ One 'mod' ▸ Name ! ▸ module_items ⟩

abbrev pub use_item : Rule
use_item = USE <⟨ One 'use' ▸ UseTree ! ▸ One 'semi' ! ⟩

-- the fields of a struct, and its where clause
abbrev pub named_fields : Rule
named_fields = RecordFields or One 'semi' !

abbrev pub struct_fields : Rule
struct_fields = TupleFields ▸ ⁅ WhereClause ⁆ ▸ One 'semi' ! or ⁅ WhereClause ⁆ ▸ named_fields

abbrev pub struct_item : Rule
struct_item = STRUCT <⟨ One 'struct' ▸ Name ! ▸ ⁅ GenericParams ⁆ ▸ struct_fields ⟩

abbrev pub enum_item : Rule
enum_item = ENUM <⟨ One 'enum' ▸ Name ! ▸ ⁅ GenericParams ⁆ ▸ ⁅ WhereClause ⁆ ▸ Variants ! ⟩

abbrev pub fn_body : Rule
fn_body = Block or One 'semi' !

-- a function from its `fn` on, and from its name on
abbrev pub after_fn : Rule
after_fn = Name ! ▸ ⁅ GenericParams ⁆ ▸ Params ! ▸ ⁅ RetType ⁆ ▸ ⁅ WhereClause ⁆ ▸ fn_body

abbrev pub fn_rest : Rule
fn_rest = One 'fn' ! ▸ after_fn

abbrev pub fn_item : Rule
fn_item = FN <⟨ ⁅ One 'const' ⁆ ▸ ⁅ One 'unsafe' ⁆ ▸ fn_rest ⟩

-- the name of a constant or of a rename
abbrev pub underscore_or_name : Rule
underscore_or_name = One '_' or Name !

-- generic parameters and where clauses that only the whole language has
abbrev pub new_generics : Rule
new_generics = ⁅ When (wide (next '<')) GenericParams ⁆

abbrev pub new_where : Rule
new_where = ⁅ When (wide (next 'where')) WhereClause ⁆

-- the type and the value of a static item
abbrev pub typed_value : Rule
typed_value = One ':' ! ▸ AnyType ! ▸ ⁅ initializer ⁆ ▸ One 'semi' !

-- those of a constant, and its where clause
abbrev pub const_typed : Rule
const_typed = One ':' ! ▸ AnyType ! ▸ ⁅ initializer ⁆ ▸ new_where ▸ One 'semi' !

abbrev pub const_item : Rule
const_item = CONST <⟨ One 'const' ▸ underscore_or_name ▸ new_generics ▸ const_typed ⟩

abbrev pub static_item : Rule
static_item = STATIC <⟨ One 'static' ▸ ⁅ One 'mut' ⁆ ▸ Name ! ▸ typed_value ⟩

abbrev pub alias_value : Rule
alias_value = ⁅ One '=' ▸ AnyType ! ⁆ ▸ new_where ▸ One 'semi' !

abbrev pub type_alias : Rule
type_alias = TYPE_ALIAS <⟨ One 'type' ▸ Name ! ▸ ⁅ GenericParams ⁆ ▸ ⁅ One ':' ▸ Bounds ⁆ ▸ ⁅ WhereClause ⁆ ▸ alias_value ⟩

abbrev pub impl_begins : Look
impl_begins = Either (next 'impl') ('unsafe' before 'impl')

-- Where a `<` after `impl` begins parameters, and not the path of a type, in the whole language.
abbrev pub impl_params_begin : Look
impl_params_begin = Either ('<' before_any ('#' ∷ '>' ∷ 'const' ∷ [])) (Both (next '<') (Both (one_of 1 ('lifetime' ∷ 'ident' ∷ [])) (one_of 2 ('>' ∷ 'comma' ∷ ':' ∷ '=' ∷ []))))

abbrev pub impl_params : Rule
impl_params = ⁅ Unless (wide (Not impl_params_begin)) GenericParams ⁆

-- `const` and `!` before the trait of an implementation; a `!` before these is the type
abbrev pub const_before_trait : Rule
const_before_trait = ⁅ When (wide (next 'const')) (One 'const') ⁆

abbrev pub negation_begins : Look
negation_begins = '!' not_before ('l_curly' ∷ 'for' ∷ 'where' ∷ [])

abbrev pub negation : Rule
negation = ⁅ When (wide negation_begins) (One '!') ⁆

-- an implementation from its parameters on
abbrev pub after_impl : Rule
after_impl = impl_params ▸ const_before_trait ▸ negation ▸ AnyType ! ▸ ⁅ One 'for' ▸ AnyType ! ⁆ ▸ ⁅ WhereClause ⁆ ▸ AssocItems !

abbrev pub impl_item : Rule
impl_item = IMPL <⟨ ⁅ One 'unsafe' ⁆ ▸ One 'impl' ▸ after_impl ⟩

abbrev pub trait_begins : Look
trait_begins = Either (next 'trait') ('unsafe' before 'trait')

-- a trait alias from its `=` on; a trait from its bounds on, and from its name on
abbrev pub alias_bounds : Rule
alias_bounds = One '=' ▸ Bounds ▸ ⁅ WhereClause ⁆ ▸ One 'semi' !

abbrev pub trait_items : Rule
trait_items = ⁅ One ':' ▸ Bounds ⁆ ▸ ⁅ WhereClause ⁆ ▸ AssocItems !

abbrev pub trait_body : Rule
trait_body = When (wide (next '=')) alias_bounds or trait_items

abbrev pub after_trait : Rule
after_trait = Name ! ▸ ⁅ GenericParams ⁆ ▸ trait_body

abbrev pub trait_item : Rule
trait_item = TRAIT <⟨ ⁅ One 'unsafe' ⁆ ▸ One 'trait' ▸ after_trait ⟩

-- a macro call as an item, and what follows its path and its `!`; any other path is an error
abbrev pub macro_tokens : Rule
macro_tokens = When (next 'l_curly') TokenTree or TokenTree ! ▸ One 'semi' !

abbrev pub after_path : Rule
after_path = MACRO_CALL <⟨ One '!' ▸ macro_tokens ⟩ or ERROR <⟨ Say ExpectedItem ⟩

abbrev pub path_item : Rule
path_item = Path ▸ after_path

-- attributes or a visibility without an item, or a token that begins none
abbrev pub no_item : Rule
no_item = When Given (ERROR <⟨ Say ExpectedItem ⟩) or Skip ExpectedItem

-- where a bracket after `pub` belongs to it, and is not the type of a field
abbrev pub visibility_goes_on : Look
visibility_goes_on =
    any_of
    ('l_paren' before 'in'
    ∷ row 0 ('l_paren' ∷ 'crate' ∷ 'r_paren' ∷ [])
    ∷ row 0 ('l_paren' ∷ 'self' ∷ 'r_paren' ∷ [])
    ∷ row 0 ('l_paren' ∷ 'super' ∷ 'r_paren' ∷ [])
    ∷ [])

abbrev pub visibility_scope : Rule
visibility_scope = One 'l_paren' ▸ ⁅ One 'in' ⁆ ▸ Path ! ▸ One 'r_paren' !

-- the looks of a function, of its own `self`
abbrev pub fn_begins : Look
fn_begins = any_of (next 'fn' ∷ 'const' before 'fn' ∷ 'const' before 'unsafe' ∷ 'unsafe' before 'fn' ∷ [])

abbrev pub self_begins : Look
self_begins = any_of (next 'self' ∷ 'mut' before 'self' ∷ '&' before 'self' ∷ row 0 ('&' ∷ 'mut' ∷ 'self' ∷ []) ∷ '&' before 'lifetime' ∷ [])

-- the value of a variant, or the default of a field
abbrev pub discriminant : Rule
discriminant = ⁅ When (wide (next '=')) (One '=' ▸ CONST_ARG ⟨ Expression ! ⟩) ⁆

-- the fields of a variant
abbrev pub variant_fields : Rule
variant_fields = RecordFields or TupleFields

-- a variant of an enum, a field with a name, and one without
abbrev pub variant : Rule
variant = VARIANT ⟨ Attribute * ▸ ⁅ Visibility ⁆ ▸ Name ! ▸ ⁅ variant_fields ⁆ ▸ discriminant ⟩

abbrev pub unsafe_field : Rule
unsafe_field = ⁅ When (wide (next 'unsafe')) (One 'unsafe') ⁆

abbrev pub unsafe_and_name : Rule
unsafe_and_name = unsafe_field ▸ Name !

abbrev pub field_front : Rule
field_front = Attribute * ▸ ⁅ Visibility ⁆ ▸ unsafe_and_name

abbrev pub record_field : Rule
record_field = RECORD_FIELD ⟨ Attribute * ▸ ⁅ Visibility ⁆ ▸ unsafe_field ▸ Name ! ▸ One ':' ! ▸ AnyType ! ▸ discriminant ⟩

abbrev pub typed : Rule
typed = Attribute * ▸ ⁅ Visibility ⁆ ▸ AnyType !

abbrev pub tuple_field : Rule
tuple_field = TUPLE_FIELD ⟨ typed ⟩

-- a parameter with a pattern, of which the type can be `...`, and the parts of a `self` parameter
abbrev pub dots_or_type : Rule
dots_or_type = When (wide dots_dot) three_dots or AnyType !

abbrev pub param_type : Rule
param_type = One ':' ! ▸ dots_or_type

abbrev pub pattern_param : Rule
pattern_param = PARAM ⟨ Pattern ▸ param_type ⟩

abbrev pub self_name : Rule
self_name = NAME ⟨ One 'self' ! ⟩

abbrev pub self_rest : Rule
self_rest = ⁅ One '&' ▸ ⁅ Lifetime ⁆ ⁆ ▸ ⁅ One 'mut' ⁆ ▸ self_name ▸ ⁅ type_annotation ⁆

abbrev pub dots_or_param : Rule
dots_or_param = three_dots or Pattern ! ▸ param_type

-- parameters that only the whole language has: `...`, and those with attributes
abbrev pub new_param_begins : Look
new_param_begins = Either dots_dot (next '#')

abbrev pub attributed_param : Rule
attributed_param = When self_begins (SELF_PARAM <⟨ self_rest ⟩) or PARAM <⟨ dots_or_param ⟩

abbrev pub new_param : Rule
new_param = PARAM ⟨ three_dots ⟩ or attributed attributed_param

-- the input of an attribute, and a meta in `unsafe(..)`
abbrev pub attr_input : Rule
attr_input = One '=' ▸ Expression ! or TokenTree

abbrev pub path_meta : Rule
path_meta = META ⟨ Path ▸ ⁅ attr_input ⁆ ⟩

abbrev pub unsafe_meta : Rule
unsafe_meta = META ⟨ One 'unsafe' ▸ One 'l_paren' ! ▸ Path ! ▸ ⁅ attr_input ⁆ ▸ One 'r_paren' ! ⟩

-- inside a token tree: token trees, and any token but a closing bracket
abbrev pub no_closing : Look
no_closing = Both Left (Not (one_of 0 ('r_paren' ∷ 'r_curly' ∷ ']' ∷ [])))

abbrev pub inner_token : Rule
inner_token = TokenTree or When no_closing Any

abbrev tokens : Rule
tokens = inner_token *

-- the name that a use tree gives
abbrev pub rename : Rule
rename = RENAME ⟨ One 'as' ▸ underscore_or_name ⟩

abbrev pub star_or_list : Rule
star_or_list = One '*' or UseList

-- after the path of a use tree: more of it, or another name
abbrev pub after_use : Rule
after_use = ⁅ One '::' ▸ star_or_list or rename ⁆

abbrev pub path_tree : Rule
path_tree = Path ▸ after_use

-- what a use tree names, and that with the `::` before it
abbrev pub after_colons : Rule
after_colons = One '*' or UseList or path_tree

abbrev pub in_use_tree : Rule
in_use_tree = ⁅ When colons_before_more (One '::') ⁆ ▸ after_colons

-- Items that only the whole language has, from their first word on. Words that are no keywords are known by the tokens after
-- them.
abbrev pub crate_name : Rule
crate_name = NAME_REF ⟨ One 'ident' or One 'self' ⟩

abbrev pub extern_crate : Rule
extern_crate = EXTERN_CRATE <⟨ One 'extern' ▸ One 'crate' ▸ crate_name ! ▸ ⁅ rename ⁆ ▸ One 'semi' ! ⟩

abbrev pub union_begins : Look
union_begins = Both (Contextual 0 UNION_KW) (row 1 ('ident' ∷ []))

abbrev pub union_item : Rule
union_item = UNION <⟨ One 'contextual_union' ▸ Name ▸ ⁅ GenericParams ⁆ ▸ ⁅ WhereClause ⁆ ▸ RecordFields ! ⟩

abbrev pub macro_rules_begins : Look
macro_rules_begins = Both (Contextual 0 MACRO_RULES_KW) (row 1 ('!' ∷ 'ident' ∷ []))

abbrev pub macro_rules : Rule
macro_rules = MACRO_RULES <⟨ One 'contextual_macro_rules' ▸ One '!' ▸ Name ▸ macro_tokens ⟩

abbrev pub macro_def_body : Rule
macro_def_body = When (next 'l_curly') TokenTree or TokenTree ! ▸ TokenTree !

abbrev pub macro_def : Rule
macro_def = MACRO_DEF <⟨ One 'macro' ▸ Name ! ▸ macro_def_body ⟩

-- The words before an item, each with the tokens that can follow it. They come in this order.
abbrev pub const_word : Look
const_word = 'const' before_any ('async' ∷ 'unsafe' ∷ 'extern' ∷ 'gen' ∷ 'fn' ∷ 'trait' ∷ 'impl' ∷ [])

abbrev pub async_word : Look
async_word = Either ('async' before_any ('fn' ∷ 'unsafe' ∷ 'extern' ∷ [])) (row 0 ('async' ∷ 'gen' ∷ 'fn' ∷ []))

abbrev pub gen_word : Look
gen_word = 'gen' before 'fn'

abbrev pub unsafe_word : Look
unsafe_word = Either ('unsafe' before_any ('fn' ∷ 'impl' ∷ 'trait' ∷ 'extern' ∷ 'static' ∷ 'const' ∷ 'type' ∷ [])) (Both (next 'unsafe') (Either (Contextual 1 AUTO_KW) (Contextual 1 DEFAULT_KW)))

abbrev pub extern_word : Look
extern_word = 'extern' not_before ('crate' ∷ [])

abbrev pub auto_word : Look
auto_word = Both (Contextual 0 AUTO_KW) (row 1 ('trait' ∷ []))

abbrev pub default_word : Look
default_word = Both (Contextual 0 DEFAULT_KW) (one_of 1 ('fn' ∷ 'type' ∷ 'const' ∷ 'impl' ∷ 'unsafe' ∷ 'async' ∷ []))

abbrev pub safe_word : Look
safe_word = Both (Contextual 0 SAFE_KW) (one_of 1 ('fn' ∷ 'static' ∷ 'extern' ∷ []))

abbrev pub words_begin : Look
words_begin = any_of (const_word ∷ async_word ∷ gen_word ∷ unsafe_word ∷ extern_word ∷ auto_word ∷ default_word ∷ safe_word ∷ [])

abbrev pub unsafe_after_default : Rule
unsafe_after_default = ⁅ When ('unsafe' before_any ('fn' ∷ 'impl' ∷ [])) (One 'unsafe') ⁆

abbrev pub after_default : Rule
after_default = One 'contextual_default' ▸ ⁅ One 'async' ⁆ ▸ unsafe_after_default

abbrev pub default_words : Rule
default_words = ⁅ When default_word after_default ⁆

abbrev pub contextual_words_begin : Look
contextual_words_begin = any_of (extern_word ∷ auto_word ∷ default_word ∷ safe_word ∷ [])

-- an item after its words
abbrev pub plain_fn : Rule
plain_fn = FN <⟨ fn_rest ⟩

abbrev pub plain_trait : Rule
plain_trait = TRAIT <⟨ One 'trait' ▸ after_trait ⟩

abbrev pub plain_impl : Rule
plain_impl = IMPL <⟨ One 'impl' ▸ after_impl ⟩

abbrev pub item_word : Rule
item_word =
    When (next 'fn') plain_fn
    or plain_trait
    or plain_impl
    or static_item
    or const_item
    or type_alias
    or ERROR <⟨ Say ExpectedItem ⟩

abbrev pub after_abi : Rule
after_abi = EXTERN_BLOCK <⟨ ITEM_LIST ⟨ items_in_braces ⟩ ⟩ or item_word

abbrev pub abi_or_words : Rule
abi_or_words = abi ▸ after_abi or ⁅ When auto_word (One 'contextual_auto') ⁆ ▸ default_words ▸ item_word

abbrev pub safe_or_abi : Rule
safe_or_abi = ⁅ When safe_word (One 'contextual_safe') ⁆ ▸ abi_or_words

abbrev pub words_from_unsafe : Rule
words_from_unsafe = ⁅ When unsafe_word (One 'unsafe') ⁆ ▸ safe_or_abi

abbrev pub words_from_gen : Rule
words_from_gen = ⁅ When gen_word (One 'gen') ⁆ ▸ words_from_unsafe

abbrev pub words_from_async : Rule
words_from_async = ⁅ When async_word (One 'async') ⁆ ▸ words_from_gen

abbrev pub item_words : Rule
item_words = ⁅ When const_word (One 'const') ⁆ ▸ words_from_async

abbrev pub new_item_begins : Look
new_item_begins = any_of ('extern' before 'crate' ∷ union_begins ∷ macro_rules_begins ∷ next 'macro' ∷ words_begin ∷ [])

abbrev pub new_item : Rule
new_item = When ('extern' before 'crate') extern_crate or When union_begins union_item or When macro_rules_begins macro_rules or macro_def or item_words

-- any other item
abbrev pub plain_body : Rule
plain_body =
    module_item
    or use_item
    or struct_item
    or enum_item
    or When fn_begins fn_item
    or const_item
    or static_item
    or type_alias
    or When impl_begins impl_item
    or When trait_begins trait_item
    or path_item
    or no_item

-- A body stands around the attributes and the visibility before it. A word that begins no item is read as the path of a macro.
unfoldable pub items : (others : Production → Rule) → Production → Rule
items others source_file = SOURCE_FILE ⟨ ⁅ One 'shebang' ⁆ ▸ ⁅ One 'frontmatter' ⁆ ▸ items_until at_end ⟩
items others macro_items = MACRO_ITEMS ⟨ items_until at_end ⟩
items others item = Attribute * ▸ ⁅ Visibility ⁆ ▸ more body
items others body = When (wide new_item_begins) new_item or plain_body
items others assoc_items = ASSOC_ITEM_LIST ⟨ items_in_braces ⟩
items others variants = VARIANT_LIST ⟨ listed VARIANT_LIST 'l_curly' variant 'r_curly' ⟩
items others record_fields = RECORD_FIELD_LIST ⟨ listed RECORD_FIELD_LIST 'l_curly' record_field 'r_curly' ⟩
items others tuple_fields = TUPLE_FIELD_LIST ⟨ listed TUPLE_FIELD_LIST 'l_paren' tuple_field 'r_paren' ⟩
items others params = PARAM_LIST ⟨ listed PARAM_LIST 'l_paren' Param 'r_paren' ⟩
items others param =
    When (wide new_param_begins) new_param
    or When self_begins (SELF_PARAM ⟨ self_rest ⟩)
    or pattern_param
items others visibility = VISIBILITY ⟨ One 'pub' ▸ ⁅ When visibility_goes_on visibility_scope ⁆ ⟩
items others attribute = ATTR ⟨ One '#' ▸ ⁅ One '!' ⁆ ▸ One '[' ! ▸ off (Meta !) ▸ One ']' ! ⟩
items others meta = When (wide (next 'unsafe')) unsafe_meta or path_meta
items others token_tree =
    TOKEN_TREE ⟨ One 'l_paren' ▸ tokens ▸ One 'r_paren' ! ⟩
    or TOKEN_TREE ⟨ One '[' ▸ tokens ▸ One ']' ! ⟩
    or TOKEN_TREE ⟨ One 'l_curly' ▸ tokens ▸ One 'r_curly' ! ⟩
items others use_tree = USE_TREE ⟨ in_use_tree ⟩
items others use_list = USE_TREE_LIST ⟨ listed USE_TREE_LIST 'l_curly' UseTree 'r_curly' ⟩
items others x = others x

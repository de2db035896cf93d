-- Productions that others call, each as the rule that it is there: nothing was given in it before.
use Rattle.rust_grammar.specs.Rule.{Rule, Call, item, assoc_items, variants, record_fields, tuple_fields, visibility, attribute, meta, token_tree, use_tree, use_list, name, lifetime, name_ref, path, type_path, expr_path, generic_args, generic_arg, generic_params, generic_param, bounds, bound, where_clause, where_pred, params, param, ret_type, any_type, pattern, single_pattern, pattern_fields, pattern_field, literal, statement_list, block, macro_statement, expression, operation, disjunction, comparison, product, cast, prefixed, arguments, atom, field_values, field_value, block_like, if_expr, match_arms, match_arm, type_no_bounds, pattern_atom, arm_body}

abbrev pub Item : Rule
Item = Call item

abbrev pub AssocItems : Rule
AssocItems = Call assoc_items

abbrev pub Variants : Rule
Variants = Call variants

abbrev pub RecordFields : Rule
RecordFields = Call record_fields

abbrev pub TupleFields : Rule
TupleFields = Call tuple_fields

abbrev pub Visibility : Rule
Visibility = Call visibility

abbrev pub Attribute : Rule
Attribute = Call attribute

abbrev pub Meta : Rule
Meta = Call meta

abbrev pub TokenTree : Rule
TokenTree = Call token_tree

abbrev pub UseTree : Rule
UseTree = Call use_tree

abbrev pub UseList : Rule
UseList = Call use_list

abbrev pub Name : Rule
Name = Call name

abbrev pub Lifetime : Rule
Lifetime = Call lifetime

abbrev pub Ref : Rule
Ref = Call name_ref

abbrev pub Path : Rule
Path = Call path

abbrev pub TypePath : Rule
TypePath = Call type_path

abbrev pub ExprPath : Rule
ExprPath = Call expr_path

abbrev pub GenericArgs : Rule
GenericArgs = Call generic_args

abbrev pub GenericArg : Rule
GenericArg = Call generic_arg

abbrev pub GenericParams : Rule
GenericParams = Call generic_params

abbrev pub GenericParam : Rule
GenericParam = Call generic_param

abbrev pub Bounds : Rule
Bounds = Call bounds

abbrev pub Bound : Rule
Bound = Call bound

abbrev pub WhereClause : Rule
WhereClause = Call where_clause

abbrev pub WherePred : Rule
WherePred = Call where_pred

abbrev pub Params : Rule
Params = Call params

abbrev pub Param : Rule
Param = Call param

abbrev pub RetType : Rule
RetType = Call ret_type

abbrev pub AnyType : Rule
AnyType = Call any_type

abbrev pub Pattern : Rule
Pattern = Call pattern

abbrev pub SinglePattern : Rule
SinglePattern = Call single_pattern

abbrev pub PatternFields : Rule
PatternFields = Call pattern_fields

abbrev pub PatternField : Rule
PatternField = Call pattern_field

abbrev pub Literal : Rule
Literal = Call literal

abbrev pub StatementList : Rule
StatementList = Call statement_list

abbrev pub Block : Rule
Block = Call block

abbrev pub MacroStatement : Rule
MacroStatement = Call macro_statement

abbrev pub Expression : Rule
Expression = Call expression

abbrev pub Operation : Rule
Operation = Call operation

abbrev pub Disjunction : Rule
Disjunction = Call disjunction

abbrev pub Comparison : Rule
Comparison = Call comparison

abbrev pub Product : Rule
Product = Call product

abbrev pub Cast : Rule
Cast = Call cast

abbrev pub Prefixed : Rule
Prefixed = Call prefixed

abbrev pub Arguments : Rule
Arguments = Call arguments

abbrev pub Atom : Rule
Atom = Call atom

abbrev pub FieldValues : Rule
FieldValues = Call field_values

abbrev pub FieldValue : Rule
FieldValue = Call field_value

abbrev pub BlockLike : Rule
BlockLike = Call block_like

abbrev pub IfExpr : Rule
IfExpr = Call if_expr

abbrev pub MatchArms : Rule
MatchArms = Call match_arms

abbrev pub MatchArm : Rule
MatchArm = Call match_arm

abbrev pub TypeNoBounds : Rule
TypeNoBounds = Call type_no_bounds

abbrev pub PatternAtom : Rule
PatternAtom = Call pattern_atom

abbrev pub ArmBody : Rule
ArmBody = Call arm_body

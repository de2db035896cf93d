-- The tokens of derivations in an input that is read by the whole language (`true`) or by the profile (`false`): those of the
-- definitions, each with this flag. All that is said of reading is said of these.
use Rattle.std.proofs.Common.{ℕ, Bool, true, List, [], ◌∷◌}
use Rattle.parser_input.specs.Input.{Token}
use Rattle.parser_input.specs.Kinds.{AMP, COLON, COMMA, DEFER_KW, DOT, EOF, EQ, FN_KW, IDENT, LET_KW, L_BRACK, L_CURLY, L_PAREN, MINUS, MOD_KW, MUT_KW, PIPE, PIPE_GT, PUB_KW, R_ANGLE, R_BRACK, R_CURLY, R_PAREN, SEMICOLON, STRUCT_KW}
use Rattle.core_language.specs.Types.{Below, CoreType, Immutable, Mutability, Mutable, Name, Path, PathType, ReferenceType, SliceType}
use Rattle.core_language.specs.Operators.{Assigner, Operator, Pipe, assigner_characters, literal_kind, operator_characters, prefix_kind}
use Rattle.core_language.specs.Expressions.{ArgumentComma, Arguments, Assignment, Binary, Borrow, Expression, FieldAccess, FunctionCall, LastArgument, Literal, MethodCall, Named, NoArgument, Parenthesized, Prefixed}
use Rattle.core_language.specs.Statements.{AnnotatedBy, Annotation, Block, Braces, Defer, InitializedBy, Initializer, LastExpression, Let, NamePattern, NoAnnotation, NoInitializer, NoStatement, Pattern, Run, Statement, StatementThen, Statements}
use Rattle.core_language.specs.Items.{ElementComma, Field, Function, InnerModule, Item, ItemThen, Items, LastElement, Listed, NamedField, NoElement, NoItem, NoReturnType, OuterModule, Parameter, Private, Public, RecordStruct, ReturnType, Returns, TypedPattern, UnitStruct, Visibility}

-- a token that is no name, a name, the characters of a punctuation, and `|>`
abbrev pub of_kind : Bool → ℕ → Bool → Token
of_kind flag kind joint = record { kind = kind; contextual = EOF; joint = joint; whole = flag }

abbrev pub name_token : Bool → Bool → Token
name_token flag joint = record { kind = IDENT; contextual = IDENT; joint = joint; whole = flag }

abbrev pub joint_tokens : Bool → List ℕ → Bool → List Token → List Token
joint_tokens flag [] joint more = more
joint_tokens flag (kind ∷ []) joint more = of_kind flag kind joint ∷ more
joint_tokens flag (kind ∷ next ∷ kinds) joint more = of_kind flag kind true ∷ joint_tokens flag (next ∷ kinds) joint more

abbrev pub pipe_tokens : Bool → Bool → List Token → List Token
pipe_tokens flag joint more = record { kind = PIPE; contextual = PIPE_GT; joint = true; whole = flag } ∷ of_kind flag R_ANGLE joint ∷ more

-- `mut`, paths and types
abbrev pub mut_tokens : Bool → Mutability → List Token → List Token
mut_tokens flag Immutable more = more
mut_tokens flag (Mutable mut) more = of_kind flag MUT_KW mut ∷ more

abbrev pub path_tokens : Bool → Path → List Token → List Token
path_tokens flag (Name name) more = name_token flag name ∷ more
path_tokens flag (Below p colons name) more = path_tokens flag p (joint_tokens flag (COLON ∷ COLON ∷ []) colons (name_token flag name ∷ more))

abbrev pub type_tokens : Bool → CoreType → List Token → List Token
type_tokens flag (PathType p) more = path_tokens flag p more
type_tokens flag (ReferenceType ampersand m t) more = of_kind flag AMP ampersand ∷ mut_tokens flag m (type_tokens flag t more)
type_tokens flag (SliceType opening t closing) more = of_kind flag L_BRACK opening ∷ type_tokens flag t (of_kind flag R_BRACK closing ∷ more)

-- operators
abbrev pub operator_tokens : Bool → Operator → Bool → List Token → List Token
operator_tokens flag Pipe last more = pipe_tokens flag last more
operator_tokens flag o last more = joint_tokens flag (operator_characters o) last more

abbrev pub assigner_tokens : Bool → Assigner → Bool → List Token → List Token
assigner_tokens flag o last more = joint_tokens flag (assigner_characters o) last more

-- expressions, and the arguments of a call
abbrev mutual
  pub expression_tokens : Bool → Expression → List Token → List Token
  expression_tokens flag (Literal l literal) more = of_kind flag (literal_kind l) literal ∷ more
  expression_tokens flag (Named p) more = path_tokens flag p more
  expression_tokens flag (Parenthesized opening e closing) more = of_kind flag L_PAREN opening ∷ expression_tokens flag e (of_kind flag R_PAREN closing ∷ more)
  expression_tokens flag (FunctionCall e opening es closing) more =
      expression_tokens flag e (of_kind flag L_PAREN opening ∷ arguments_tokens flag es (of_kind flag R_PAREN closing ∷ more))
  expression_tokens flag (MethodCall e dot name opening es closing) more =
      expression_tokens flag e (of_kind flag DOT dot ∷ name_token flag name ∷ of_kind flag L_PAREN opening ∷ arguments_tokens flag es (of_kind flag R_PAREN closing ∷ more))
  expression_tokens flag (FieldAccess e dot name) more = expression_tokens flag e (of_kind flag DOT dot ∷ name_token flag name ∷ more)
  expression_tokens flag (Prefixed o operator e) more = of_kind flag (prefix_kind o) operator ∷ expression_tokens flag e more
  expression_tokens flag (Borrow ampersand m e) more = of_kind flag AMP ampersand ∷ mut_tokens flag m (expression_tokens flag e more)
  expression_tokens flag (Binary l o last r) more = expression_tokens flag l (operator_tokens flag o last (expression_tokens flag r more))
  expression_tokens flag (Assignment l o last r) more = expression_tokens flag l (assigner_tokens flag o last (expression_tokens flag r more))

  pub arguments_tokens : Bool → Arguments → List Token → List Token
  arguments_tokens flag NoArgument more = more
  arguments_tokens flag (LastArgument e) more = expression_tokens flag e more
  arguments_tokens flag (ArgumentComma e comma es) more = expression_tokens flag e (of_kind flag COMMA comma ∷ arguments_tokens flag es more)

-- patterns, statements and blocks
abbrev pub pattern_tokens : Bool → Pattern → List Token → List Token
pattern_tokens flag (NamePattern m name) more = mut_tokens flag m (name_token flag name ∷ more)

abbrev pub annotation_tokens : Bool → Annotation → List Token → List Token
annotation_tokens flag NoAnnotation more = more
annotation_tokens flag (AnnotatedBy colon t) more = of_kind flag COLON colon ∷ type_tokens flag t more

abbrev pub initializer_tokens : Bool → Initializer → List Token → List Token
initializer_tokens flag NoInitializer more = more
initializer_tokens flag (InitializedBy equals e) more = of_kind flag EQ equals ∷ expression_tokens flag e more

abbrev mutual
  pub statement_tokens : Bool → Statement → List Token → List Token
  statement_tokens flag (Let let_word p a i semicolon) more =
      of_kind flag LET_KW let_word ∷ pattern_tokens flag p (annotation_tokens flag a (initializer_tokens flag i (of_kind flag SEMICOLON semicolon ∷ more)))
  statement_tokens flag (Run e semicolon) more = expression_tokens flag e (of_kind flag SEMICOLON semicolon ∷ more)
  statement_tokens flag (Defer defer_word b) more = of_kind flag DEFER_KW defer_word ∷ block_tokens flag b more

  pub statements_tokens : Bool → Statements → List Token → List Token
  statements_tokens flag NoStatement more = more
  statements_tokens flag (LastExpression e) more = expression_tokens flag e more
  statements_tokens flag (StatementThen s ss) more = statement_tokens flag s (statements_tokens flag ss more)

  pub block_tokens : Bool → Block → List Token → List Token
  block_tokens flag (Braces opening ss closing) more = of_kind flag L_CURLY opening ∷ statements_tokens flag ss (of_kind flag R_CURLY closing ∷ more)

-- items
abbrev pub visibility_tokens : Bool → Visibility → List Token → List Token
visibility_tokens flag Private more = more
visibility_tokens flag (Public pub_word) more = of_kind flag PUB_KW pub_word ∷ more

abbrev pub listed_tokens : {A : Type 0} → Bool → (A → List Token → List Token) → Listed A → List Token → List Token
listed_tokens flag tokens NoElement more = more
listed_tokens flag tokens (LastElement a) more = tokens a more
listed_tokens flag tokens (ElementComma a comma l) more = tokens a (of_kind flag COMMA comma ∷ listed_tokens flag tokens l more)

abbrev pub field_tokens : Bool → Field → List Token → List Token
field_tokens flag (NamedField v name colon t) more = visibility_tokens flag v (name_token flag name ∷ of_kind flag COLON colon ∷ type_tokens flag t more)

abbrev pub parameter_tokens : Bool → Parameter → List Token → List Token
parameter_tokens flag (TypedPattern p colon t) more = pattern_tokens flag p (of_kind flag COLON colon ∷ type_tokens flag t more)

abbrev pub return_type_tokens : Bool → ReturnType → List Token → List Token
return_type_tokens flag NoReturnType more = more
return_type_tokens flag (Returns arrow t) more = joint_tokens flag (MINUS ∷ R_ANGLE ∷ []) arrow (type_tokens flag t more)

abbrev mutual
  pub item_tokens : Bool → Item → List Token → List Token
  item_tokens flag (UnitStruct v struct_word name semicolon) more =
      visibility_tokens flag v (of_kind flag STRUCT_KW struct_word ∷ name_token flag name ∷ of_kind flag SEMICOLON semicolon ∷ more)
  item_tokens flag (RecordStruct v struct_word name opening fs closing) more =
      let fields = of_kind flag L_CURLY opening ∷ listed_tokens flag (field_tokens flag) fs (of_kind flag R_CURLY closing ∷ more) in
      visibility_tokens flag v (of_kind flag STRUCT_KW struct_word ∷ name_token flag name ∷ fields)
  item_tokens flag (OuterModule v mod_word name semicolon) more =
      visibility_tokens flag v (of_kind flag MOD_KW mod_word ∷ name_token flag name ∷ of_kind flag SEMICOLON semicolon ∷ more)
  item_tokens flag (InnerModule v mod_word name opening is closing) more =
      let items = of_kind flag L_CURLY opening ∷ items_tokens flag is (of_kind flag R_CURLY closing ∷ more) in
      visibility_tokens flag v (of_kind flag MOD_KW mod_word ∷ name_token flag name ∷ items)
  item_tokens flag (Function v fn_word name opening ps closing r b) more =
      let body = of_kind flag R_PAREN closing ∷ return_type_tokens flag r (block_tokens flag b more) in
      visibility_tokens flag v (of_kind flag FN_KW fn_word ∷ name_token flag name ∷ of_kind flag L_PAREN opening ∷ listed_tokens flag (parameter_tokens flag) ps body)

  pub items_tokens : Bool → Items → List Token → List Token
  items_tokens flag NoItem more = more
  items_tokens flag (ItemThen i is) more = item_tokens flag i (items_tokens flag is more)

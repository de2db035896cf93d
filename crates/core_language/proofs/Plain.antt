-- The tokens of derivations with a flag are those of the definitions, with that flag.
use Rattle.std.proofs.Common.{◌≡◌, ℕ, Bool, true, false, List, [], ◌∷◌, ap}
use Rattle.parser_input.specs.Input.{Token}
use Rattle.parser_input.specs.Kinds.{AMP, COLON, COMMA, DEFER_KW, DOT, EQ, FN_KW, LET_KW, L_BRACK, L_CURLY, L_PAREN, MINUS, MOD_KW, MUT_KW, PUB_KW, R_ANGLE, R_BRACK, R_CURLY, R_PAREN, SEMICOLON, STRUCT_KW}
use Rattle.core_language.specs.Tokens.{of_whole}
use Rattle.core_language.specs.Tokens as plain
use Rattle.core_language.specs.Types as types
use Rattle.core_language.specs.Types.{Below, CoreType, Immutable, Mutability, Mutable, Name, Path, PathType, ReferenceType, SliceType}
use Rattle.core_language.specs.Operators as operators
use Rattle.core_language.specs.Operators.{Assigner, BitAnd, BitOr, BitXor, Divide, Equal, Greater, GreaterOrEqual, Less, LessOrEqual, LogicalAnd, LogicalOr, Minus, NotEqual, Operator, Pipe, Plus, Remainder, ShiftLeft, ShiftRight, Times, assigner_characters, literal_kind, operator_characters, prefix_kind}
use Rattle.core_language.specs.Expressions as expressions
use Rattle.core_language.specs.Expressions.{ArgumentComma, Arguments, Assignment, Binary, Borrow, Expression, FieldAccess, FunctionCall, LastArgument, Literal, MethodCall, Named, NoArgument, Parenthesized, Prefixed}
use Rattle.core_language.specs.Statements as statements
use Rattle.core_language.specs.Statements.{AnnotatedBy, Annotation, Block, Braces, Defer, InitializedBy, Initializer, LastExpression, Let, NamePattern, NoAnnotation, NoInitializer, NoStatement, Pattern, Run, Statement, StatementThen, Statements}
use Rattle.core_language.specs.Items as items
use Rattle.core_language.specs.Items.{ElementComma, Field, Function, InnerModule, Item, ItemThen, Items, LastElement, Listed, NamedField, NoElement, NoItem, NoReturnType, OuterModule, Parameter, Private, Public, RecordStruct, ReturnType, Returns, TypedPattern, UnitStruct, Visibility}
use Rattle.core_language.proofs.Flagged.{annotation_tokens, arguments_tokens, assigner_tokens, block_tokens, expression_tokens, field_tokens, initializer_tokens, item_tokens, items_tokens, joint_tokens, listed_tokens, mut_tokens, name_token, of_kind, operator_tokens, parameter_tokens, path_tokens, pattern_tokens, pipe_tokens, return_type_tokens, statement_tokens, statements_tokens, type_tokens, visibility_tokens}

-- tokens of the profile, with this flag
abbrev pub with_flag : Bool → List Token → List Token
with_flag true ts = of_whole ts
with_flag false ts = ts

-- Functions into tokens agree where the tokens after theirs do.
abbrev Agree : Bool → (List Token → List Token) → (List Token → List Token) → Type 0
Agree flag f g = (more us : List Token) → with_flag flag more ≡ us → with_flag flag (f more) ≡ g us

kind-agrees : (flag : Bool) (kind : ℕ) (joint : Bool) → Agree flag (λ ts. plain.of_kind kind joint ∷ ts) (λ ts. of_kind flag kind joint ∷ ts)
unfolding of_whole
kind-agrees true kind joint more us e = ap (λ (ts : List Token). of_kind true kind joint ∷ ts) e
kind-agrees false kind joint more us e = ap (λ (ts : List Token). of_kind false kind joint ∷ ts) e

name-agrees : (flag joint : Bool) → Agree flag (λ ts. plain.name_token joint ∷ ts) (λ ts. name_token flag joint ∷ ts)
unfolding of_whole
name-agrees true joint more us e = ap (λ (ts : List Token). name_token true joint ∷ ts) e
name-agrees false joint more us e = ap (λ (ts : List Token). name_token false joint ∷ ts) e

joint-agrees : (flag : Bool) (kinds : List ℕ) (joint : Bool) → Agree flag (plain.joint_tokens kinds joint) (joint_tokens flag kinds joint)
joint-agrees flag [] joint more us e = e
joint-agrees flag (kind ∷ []) joint more us e = kind-agrees flag kind joint _ _ e
joint-agrees flag (kind ∷ next ∷ kinds) joint more us e = kind-agrees flag kind true _ _ (joint-agrees flag (next ∷ kinds) joint _ _ e)

pipe-agrees : (flag joint : Bool) → Agree flag (plain.pipe_tokens joint) (pipe_tokens flag joint)
unfolding of_whole
pipe-agrees true joint more us e = ap (λ (ts : List Token). pipe_tokens true joint ts) e
pipe-agrees false joint more us e = ap (λ (ts : List Token). pipe_tokens false joint ts) e

mut-agrees : (flag : Bool) (m : Mutability) → Agree flag (types.mut_tokens m) (mut_tokens flag m)
mut-agrees flag Immutable more us e = e
mut-agrees flag (Mutable mut) more us e = kind-agrees flag MUT_KW mut _ _ e

path-agrees : (flag : Bool) (p : Path) → Agree flag (types.path_tokens p) (path_tokens flag p)
path-agrees flag (Name name) more us e = name-agrees flag name _ _ e
path-agrees flag (Below p colons name) more us e =
    path-agrees flag p _ _ (joint-agrees flag (COLON ∷ COLON ∷ []) colons _ _ (name-agrees flag name _ _ e))

pub type-agrees : (flag : Bool) (t : CoreType) → Agree flag (types.type_tokens t) (type_tokens flag t)
type-agrees flag (PathType p) more us e = path-agrees flag p _ _ e
type-agrees flag (ReferenceType ampersand m t) more us e = kind-agrees flag AMP ampersand _ _ (mut-agrees flag m _ _ (type-agrees flag t _ _ e))
type-agrees flag (SliceType opening t closing) more us e = kind-agrees flag L_BRACK opening _ _ (type-agrees flag t _ _ (kind-agrees flag R_BRACK closing _ _ e))

operator-agrees : (flag : Bool) (o : Operator) (last : Bool) → Agree flag (operators.operator_tokens o last) (operator_tokens flag o last)
operator-agrees flag Pipe last more us e = pipe-agrees flag last _ _ e
operator-agrees flag LogicalOr last more us e = joint-agrees flag (operator_characters LogicalOr) last _ _ e
operator-agrees flag LogicalAnd last more us e = joint-agrees flag (operator_characters LogicalAnd) last _ _ e
operator-agrees flag Equal last more us e = joint-agrees flag (operator_characters Equal) last _ _ e
operator-agrees flag NotEqual last more us e = joint-agrees flag (operator_characters NotEqual) last _ _ e
operator-agrees flag Less last more us e = joint-agrees flag (operator_characters Less) last _ _ e
operator-agrees flag Greater last more us e = joint-agrees flag (operator_characters Greater) last _ _ e
operator-agrees flag LessOrEqual last more us e = joint-agrees flag (operator_characters LessOrEqual) last _ _ e
operator-agrees flag GreaterOrEqual last more us e = joint-agrees flag (operator_characters GreaterOrEqual) last _ _ e
operator-agrees flag BitOr last more us e = joint-agrees flag (operator_characters BitOr) last _ _ e
operator-agrees flag BitXor last more us e = joint-agrees flag (operator_characters BitXor) last _ _ e
operator-agrees flag BitAnd last more us e = joint-agrees flag (operator_characters BitAnd) last _ _ e
operator-agrees flag ShiftLeft last more us e = joint-agrees flag (operator_characters ShiftLeft) last _ _ e
operator-agrees flag ShiftRight last more us e = joint-agrees flag (operator_characters ShiftRight) last _ _ e
operator-agrees flag Plus last more us e = joint-agrees flag (operator_characters Plus) last _ _ e
operator-agrees flag Minus last more us e = joint-agrees flag (operator_characters Minus) last _ _ e
operator-agrees flag Times last more us e = joint-agrees flag (operator_characters Times) last _ _ e
operator-agrees flag Divide last more us e = joint-agrees flag (operator_characters Divide) last _ _ e
operator-agrees flag Remainder last more us e = joint-agrees flag (operator_characters Remainder) last _ _ e

assigner-agrees : (flag : Bool) (o : Assigner) (last : Bool) → Agree flag (operators.assigner_tokens o last) (assigner_tokens flag o last)
assigner-agrees flag o last more us e = joint-agrees flag (assigner_characters o) last _ _ e

mutual
  pub expression-agrees : (flag : Bool) (e : Expression) → Agree flag (expressions.expression_tokens e) (expression_tokens flag e)
  expression-agrees flag (Literal l literal) more us h = kind-agrees flag (literal_kind l) literal _ _ h
  expression-agrees flag (Named p) more us h = path-agrees flag p _ _ h
  expression-agrees flag (Parenthesized opening e closing) more us h =
      kind-agrees flag L_PAREN opening _ _ (expression-agrees flag e _ _ (kind-agrees flag R_PAREN closing _ _ h))
  expression-agrees flag (FunctionCall e opening es closing) more us h =
      expression-agrees flag e _ _ (kind-agrees flag L_PAREN opening _ _ (arguments-agree flag es _ _ (kind-agrees flag R_PAREN closing _ _ h)))
  expression-agrees flag (MethodCall e dot name opening es closing) more us h =
      let called = kind-agrees flag L_PAREN opening _ _ (arguments-agree flag es _ _ (kind-agrees flag R_PAREN closing _ _ h)) in
      expression-agrees flag e _ _ (kind-agrees flag DOT dot _ _ (name-agrees flag name _ _ called))
  expression-agrees flag (FieldAccess e dot name) more us h = expression-agrees flag e _ _ (kind-agrees flag DOT dot _ _ (name-agrees flag name _ _ h))
  expression-agrees flag (Prefixed o operator e) more us h = kind-agrees flag (prefix_kind o) operator _ _ (expression-agrees flag e _ _ h)
  expression-agrees flag (Borrow ampersand m e) more us h = kind-agrees flag AMP ampersand _ _ (mut-agrees flag m _ _ (expression-agrees flag e _ _ h))
  expression-agrees flag (Binary l o last r) more us h = expression-agrees flag l _ _ (operator-agrees flag o last _ _ (expression-agrees flag r _ _ h))
  expression-agrees flag (Assignment l o last r) more us h = expression-agrees flag l _ _ (assigner-agrees flag o last _ _ (expression-agrees flag r _ _ h))

  arguments-agree : (flag : Bool) (es : Arguments) → Agree flag (expressions.arguments_tokens es) (arguments_tokens flag es)
  arguments-agree flag NoArgument more us h = h
  arguments-agree flag (LastArgument e) more us h = expression-agrees flag e _ _ h
  arguments-agree flag (ArgumentComma e comma es) more us h = expression-agrees flag e _ _ (kind-agrees flag COMMA comma _ _ (arguments-agree flag es _ _ h))

pattern-agrees : (flag : Bool) (p : Pattern) → Agree flag (statements.pattern_tokens p) (pattern_tokens flag p)
pattern-agrees flag (NamePattern m name) more us e = mut-agrees flag m _ _ (name-agrees flag name _ _ e)

annotation-agrees : (flag : Bool) (a : Annotation) → Agree flag (statements.annotation_tokens a) (annotation_tokens flag a)
annotation-agrees flag NoAnnotation more us e = e
annotation-agrees flag (AnnotatedBy colon t) more us e = kind-agrees flag COLON colon _ _ (type-agrees flag t _ _ e)

initializer-agrees : (flag : Bool) (i : Initializer) → Agree flag (statements.initializer_tokens i) (initializer_tokens flag i)
initializer-agrees flag NoInitializer more us h = h
initializer-agrees flag (InitializedBy equals e) more us h = kind-agrees flag EQ equals _ _ (expression-agrees flag e _ _ h)

mutual
  statement-agrees : (flag : Bool) (s : Statement) → Agree flag (statements.statement_tokens s) (statement_tokens flag s)
  statement-agrees flag (Let let_word p a i semicolon) more us h =
      let after = annotation-agrees flag a _ _ (initializer-agrees flag i _ _ (kind-agrees flag SEMICOLON semicolon _ _ h)) in
      kind-agrees flag LET_KW let_word _ _ (pattern-agrees flag p _ _ after)
  statement-agrees flag (Run e semicolon) more us h = expression-agrees flag e _ _ (kind-agrees flag SEMICOLON semicolon _ _ h)
  statement-agrees flag (Defer defer_word b) more us h = kind-agrees flag DEFER_KW defer_word _ _ (block-agrees flag b _ _ h)

  statements-agree : (flag : Bool) (ss : Statements) → Agree flag (statements.statements_tokens ss) (statements_tokens flag ss)
  statements-agree flag NoStatement more us h = h
  statements-agree flag (LastExpression e) more us h = expression-agrees flag e _ _ h
  statements-agree flag (StatementThen s ss) more us h = statement-agrees flag s _ _ (statements-agree flag ss _ _ h)

  block-agrees : (flag : Bool) (b : Block) → Agree flag (statements.block_tokens b) (block_tokens flag b)
  block-agrees flag (Braces opening ss closing) more us h =
      kind-agrees flag L_CURLY opening _ _ (statements-agree flag ss _ _ (kind-agrees flag R_CURLY closing _ _ h))

visibility-agrees : (flag : Bool) (v : Visibility) → Agree flag (items.visibility_tokens v) (visibility_tokens flag v)
visibility-agrees flag Private more us e = e
visibility-agrees flag (Public pub_word) more us e = kind-agrees flag PUB_KW pub_word _ _ e

listed-agrees : {A : Type 0} (flag : Bool) (f g : A → List Token → List Token) → ((a : A) → Agree flag (f a) (g a)) → (l : Listed A)
    → Agree flag (items.listed_tokens f l) (listed_tokens flag g l)
listed-agrees flag f g each NoElement more us e = e
listed-agrees flag f g each (LastElement a) more us e = each a _ _ e
listed-agrees flag f g each (ElementComma a comma l) more us e = each a _ _ (kind-agrees flag COMMA comma _ _ (listed-agrees flag f g each l _ _ e))

field-agrees : (flag : Bool) (x : Field) → Agree flag (items.field_tokens x) (field_tokens flag x)
field-agrees flag (NamedField v name colon t) more us e =
    visibility-agrees flag v _ _ (name-agrees flag name _ _ (kind-agrees flag COLON colon _ _ (type-agrees flag t _ _ e)))

parameter-agrees : (flag : Bool) (x : Parameter) → Agree flag (items.parameter_tokens x) (parameter_tokens flag x)
parameter-agrees flag (TypedPattern p colon t) more us e = pattern-agrees flag p _ _ (kind-agrees flag COLON colon _ _ (type-agrees flag t _ _ e))

return_type-agrees : (flag : Bool) (r : ReturnType) → Agree flag (items.return_type_tokens r) (return_type_tokens flag r)
return_type-agrees flag NoReturnType more us e = e
return_type-agrees flag (Returns arrow t) more us e = joint-agrees flag (MINUS ∷ R_ANGLE ∷ []) arrow _ _ (type-agrees flag t _ _ e)

mutual
  item-agrees : (flag : Bool) (i : Item) → Agree flag (items.item_tokens i) (item_tokens flag i)
  item-agrees flag (UnitStruct v struct_word name semicolon) more us e =
      let after = name-agrees flag name _ _ (kind-agrees flag SEMICOLON semicolon _ _ e) in
      visibility-agrees flag v _ _ (kind-agrees flag STRUCT_KW struct_word _ _ after)
  item-agrees flag (RecordStruct v struct_word name opening fs closing) more us e =
      let fields = listed-agrees flag items.field_tokens (field_tokens flag) (field-agrees flag) fs _ _ (kind-agrees flag R_CURLY closing _ _ e) in
      visibility-agrees flag v _ _ (kind-agrees flag STRUCT_KW struct_word _ _ (name-agrees flag name _ _ (kind-agrees flag L_CURLY opening _ _ fields)))
  item-agrees flag (OuterModule v mod_word name semicolon) more us e =
      let after = name-agrees flag name _ _ (kind-agrees flag SEMICOLON semicolon _ _ e) in
      visibility-agrees flag v _ _ (kind-agrees flag MOD_KW mod_word _ _ after)
  item-agrees flag (InnerModule v mod_word name opening is closing) more us e =
      let inside = items-agree flag is _ _ (kind-agrees flag R_CURLY closing _ _ e) in
      visibility-agrees flag v _ _ (kind-agrees flag MOD_KW mod_word _ _ (name-agrees flag name _ _ (kind-agrees flag L_CURLY opening _ _ inside)))
  item-agrees flag (Function v fn_word name opening ps closing r b) more us e =
      let after = kind-agrees flag R_PAREN closing _ _ (return_type-agrees flag r _ _ (block-agrees flag b _ _ e)) in
      let given = listed-agrees flag items.parameter_tokens (parameter_tokens flag) (parameter-agrees flag) ps _ _ after in
      visibility-agrees flag v _ _ (kind-agrees flag FN_KW fn_word _ _ (name-agrees flag name _ _ (kind-agrees flag L_PAREN opening _ _ given)))

  pub items-agree : (flag : Bool) (is : Items) → Agree flag (items.items_tokens is) (items_tokens flag is)
  items-agree flag NoItem more us e = e
  items-agree flag (ItemThen i is) more us e = item-agrees flag i _ _ (items-agree flag is _ _ e)

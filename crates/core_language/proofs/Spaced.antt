-- The leaves of a derivation's tree, spaced, are the tokens of the derivation apart.
use Rattle.std.proofs.Common.{◌≡◌, Bool, false, true, List, ◌∷◌, refl, ap, ◌∙◌}
use Rattle.parser_input.specs.Input.{Token}
use Rattle.parser_input.specs.Kinds.{AMP, DEFER_KW, MUT_KW, L_BRACK, LET_KW, MINUS, R_ANGLE, STRUCT_KW, MOD_KW, FN_KW, COMMA, L_PAREN, R_PAREN, DOT, L_CURLY, COLON, EQ}
use Rattle.parser_events.specs.Forest.{Forest, End}
use Rattle.core_language.specs.Expressions.{ArgumentComma, Arguments, Assignment, Binary, Borrow, Expression, FieldAccess, FunctionCall, LastArgument, Literal, MethodCall, Named, NoArgument, Parenthesized, Prefixed, arguments_tokens, arguments_tree, expression_tokens, expression_tree, inside_expression}
use Rattle.core_language.specs.Items.{ElementComma, Field, Function, InnerModule, Item, ItemThen, Items, LastElement, Listed, NamedField, NoElement, NoItem, NoReturnType, OuterModule, Parameter, Private, Public, RecordStruct, ReturnType, Returns, TypedPattern, UnitStruct, Visibility, field_tokens, field_tree, item_tokens, item_tree, items_tokens, items_tree, listed_tokens, listed_tree, parameter_tokens, parameter_tree, return_type_tokens, return_type_tree, visibility_tokens, visibility_tree}
use Rattle.core_language.specs.Operators.{Assign, AssignBitAnd, AssignBitOr, AssignBitXor, AssignDivide, AssignMinus, AssignPlus, AssignRemainder, AssignShiftLeft, AssignShiftRight, AssignTimes, Assigner, BitAnd, BitOr, BitXor, Byte, ByteText, CText, Character, Dereference, Divide, Equal, FalseWord, FloatNumber, Greater, GreaterOrEqual, Integer, Invert, Less, LessOrEqual, LiteralForm, LogicalAnd, LogicalOr, Minus, Negate, NotEqual, Operator, Pipe, Plus, PrefixOperator, Remainder, ShiftLeft, ShiftRight, Text, Times, TrueWord, assigner_tokens, assigner_tree, literal_kind, operator_tokens, operator_tree, prefix_kind}
use Rattle.core_language.specs.Spaced.{leaf_before, spaced_before}
use Rattle.core_language.specs.Statements.{AnnotatedBy, Annotation, Block, Braces, Defer, InitializedBy, Initializer, LastExpression, Let, NamePattern, NoAnnotation, NoInitializer, NoStatement, Pattern, Run, Statement, StatementThen, Statements, annotation_tokens, annotation_tree, block_tokens, block_tree, initializer_tokens, initializer_tree, pattern_tokens, pattern_tree, statement_tokens, statement_tree, statements_tokens, statements_tree}
use Rattle.core_language.specs.Tokens.{name_token, of_kind}
use Rattle.core_language.specs.Types.{Below, CoreType, Immutable, Mutability, Mutable, Name, Path, PathType, ReferenceType, SliceType, inside_path, inside_type, mut_tokens, mut_tree, path_tokens, type_tokens}
use Rattle.core_language.proofs.Apart.{after, after_arguments, after_block, after_initializer, after_item, after_items, after_literal, after_statement, after_statements, apart, apart_annotation, apart_arguments, apart_block, apart_field, apart_initializer, apart_item, apart_items, apart_listed, apart_mut, apart_parameter, apart_path, apart_pattern, apart_return_type, apart_statement, apart_statements, apart_type, apart_visibility, literal_joint}
use Rattle.core_language.proofs.Places.{tree}

spaced-path : (p : Path) (floats : List Bool) (more : List Bool → List Token)
    → spaced_before (inside_path p) floats more ≡ path_tokens (apart_path p) (more floats)
unfolding spaced_before
spaced-path (Name j) floats more = refl
spaced-path (Below p c j) floats more = spaced-path p floats _

spaced-mut : (m : Mutability) (f : Forest) (floats : List Bool) (more : List Bool → List Token)
    → spaced_before (mut_tree m f) floats more ≡ mut_tokens (apart_mut m) (spaced_before f floats more)
unfolding spaced_before
spaced-mut Immutable f floats more = refl
spaced-mut (Mutable j) f floats more = refl

pub spaced-type : (t : CoreType) (floats : List Bool) (more : List Bool → List Token)
    → spaced_before (inside_type t) floats more ≡ type_tokens (apart_type t) (more floats)
unfolding spaced_before
spaced-type (PathType p) floats more = spaced-path p floats more
spaced-type (ReferenceType j Immutable t) floats more = ap (λ (ts : List Token). of_kind AMP false ∷ ts) (spaced-type t floats more)
spaced-type (ReferenceType j (Mutable i) t) floats more = ap (λ (ts : List Token). of_kind AMP false ∷ of_kind MUT_KW false ∷ ts) (spaced-type t floats more)
spaced-type (SliceType j t k) floats more = ap (λ (ts : List Token). of_kind L_BRACK false ∷ ts) (spaced-type t floats _)

spaced-operator : (o : Operator) (f : Forest) (floats : List Bool) (more : List Bool → List Token)
    → spaced_before (operator_tree o f) floats more ≡ operator_tokens o false (spaced_before f floats more)
unfolding spaced_before
spaced-operator Pipe f floats more = refl
spaced-operator LogicalOr f floats more = refl
spaced-operator LogicalAnd f floats more = refl
spaced-operator Equal f floats more = refl
spaced-operator NotEqual f floats more = refl
spaced-operator Less f floats more = refl
spaced-operator Greater f floats more = refl
spaced-operator LessOrEqual f floats more = refl
spaced-operator GreaterOrEqual f floats more = refl
spaced-operator BitOr f floats more = refl
spaced-operator BitXor f floats more = refl
spaced-operator BitAnd f floats more = refl
spaced-operator ShiftLeft f floats more = refl
spaced-operator ShiftRight f floats more = refl
spaced-operator Plus f floats more = refl
spaced-operator Minus f floats more = refl
spaced-operator Times f floats more = refl
spaced-operator Divide f floats more = refl
spaced-operator Remainder f floats more = refl

spaced-assigner : (o : Assigner) (f : Forest) (floats : List Bool) (more : List Bool → List Token)
    → spaced_before (assigner_tree o f) floats more ≡ assigner_tokens o false (spaced_before f floats more)
unfolding spaced_before
spaced-assigner Assign f floats more = refl
spaced-assigner AssignPlus f floats more = refl
spaced-assigner AssignMinus f floats more = refl
spaced-assigner AssignTimes f floats more = refl
spaced-assigner AssignDivide f floats more = refl
spaced-assigner AssignRemainder f floats more = refl
spaced-assigner AssignBitAnd f floats more = refl
spaced-assigner AssignBitOr f floats more = refl
spaced-assigner AssignBitXor f floats more = refl
spaced-assigner AssignShiftLeft f floats more = refl
spaced-assigner AssignShiftRight f floats more = refl

spaced-literal : (l : LiteralForm) (floats : List Bool) (more : List Bool → List Token)
    → leaf_before (literal_kind l) floats more ≡ of_kind (literal_kind l) (literal_joint l floats) ∷ more (after_literal l floats)
spaced-literal Integer floats more = refl
spaced-literal FloatNumber floats more = refl
spaced-literal Character floats more = refl
spaced-literal Byte floats more = refl
spaced-literal Text floats more = refl
spaced-literal ByteText floats more = refl
spaced-literal CText floats more = refl
spaced-literal TrueWord floats more = refl
spaced-literal FalseWord floats more = refl

spaced-prefix : (s : PrefixOperator) (floats : List Bool) (more : List Bool → List Token)
    → leaf_before (prefix_kind s) floats more ≡ of_kind (prefix_kind s) false ∷ more floats
spaced-prefix Negate floats more = refl
spaced-prefix Invert floats more = refl
spaced-prefix Dereference floats more = refl

mutual
  unfolding spaced_before

  pub spaced-expression : (e : Expression) (floats : List Bool) (more : List Bool → List Token)
      → spaced_before (inside_expression e) floats more ≡ expression_tokens (apart e floats) (more (after e floats))
  spaced-expression (Literal l j) floats more = spaced-literal l floats more
  spaced-expression (Named p) floats more = spaced-path p floats more
  spaced-expression (Parenthesized j e k) floats more = ap (λ (ts : List Token). of_kind L_PAREN false ∷ ts) (spaced-expression e floats _)
  spaced-expression (FunctionCall e j es k) floats more =
      spaced-expression e floats _ ∙ ap (λ (ts : List Token). expression_tokens (apart e floats) (of_kind L_PAREN false ∷ ts)) (spaced-arguments es _ (after e floats) more)
  spaced-expression (MethodCall e d n j es k) floats more =
      spaced-expression e floats _
      ∙ ap (λ (ts : List Token). expression_tokens (apart e floats) (of_kind DOT false ∷ name_token false ∷ of_kind L_PAREN false ∷ ts)) (spaced-arguments es _ (after e floats) more)
  spaced-expression (FieldAccess e d n) floats more = spaced-expression e floats _
  spaced-expression (Prefixed s j e) floats more =
      spaced-prefix s floats (λ left. spaced_before (inside_expression e) left more)
      ∙ ap (λ (ts : List Token). of_kind (prefix_kind s) false ∷ ts) (spaced-expression e floats more)
  spaced-expression (Borrow j Immutable e) floats more = ap (λ (ts : List Token). of_kind AMP false ∷ ts) (spaced-expression e floats more)
  spaced-expression (Borrow j (Mutable i) e) floats more =
      ap (λ (ts : List Token). of_kind AMP false ∷ of_kind MUT_KW false ∷ ts) (spaced-expression e floats more)
  spaced-expression (Binary l o j r) floats more =
      spaced-expression l floats _
      ∙ ap (λ (ts : List Token). expression_tokens (apart l floats) ts)
      (spaced-operator o (expression_tree r End) (after l floats) more ∙ ap (λ (ts : List Token). operator_tokens o false ts) (spaced-expression r (after l floats) more))
  spaced-expression (Assignment l o j r) floats more =
      spaced-expression l floats _
      ∙ ap (λ (ts : List Token). expression_tokens (apart l floats) ts)
      (spaced-assigner o (expression_tree r End) (after l floats) more ∙ ap (λ (ts : List Token). assigner_tokens o false ts) (spaced-expression r (after l floats) more))

  spaced-arguments : (es : Arguments) (f : Forest) (floats : List Bool) (more : List Bool → List Token) →
      spaced_before (arguments_tree es f) floats more
      ≡ arguments_tokens (apart_arguments es floats) (spaced_before f (after_arguments es floats) more)
  spaced-arguments NoArgument f floats more = refl
  spaced-arguments (LastArgument e) f floats more = spaced-expression e floats _
  spaced-arguments (ArgumentComma e j es) f floats more =
      spaced-expression e floats _ ∙ ap (λ (ts : List Token). expression_tokens (apart e floats) (of_kind COMMA false ∷ ts)) (spaced-arguments es f (after e floats) more)

spaced-visibility : (v : Visibility) (f : Forest) (floats : List Bool) (more : List Bool → List Token)
    → spaced_before (visibility_tree v f) floats more ≡ visibility_tokens (apart_visibility v) (spaced_before f floats more)
unfolding spaced_before
spaced-visibility Private f floats more = refl
spaced-visibility (Public j) f floats more = refl

spaced-pattern : (p : Pattern) (f : Forest) (floats : List Bool) (more : List Bool → List Token)
    → spaced_before (pattern_tree p f) floats more ≡ pattern_tokens (apart_pattern p) (spaced_before f floats more)
unfolding spaced_before
spaced-pattern (NamePattern Immutable n) f floats more = refl
spaced-pattern (NamePattern (Mutable i) n) f floats more = refl

spaced-annotation : (a : Annotation) (f : Forest) (floats : List Bool) (more : List Bool → List Token)
    → spaced_before (annotation_tree a f) floats more ≡ annotation_tokens (apart_annotation a) (spaced_before f floats more)
unfolding spaced_before
spaced-annotation NoAnnotation f floats more = refl
spaced-annotation (AnnotatedBy c t) f floats more = ap (λ (ts : List Token). of_kind COLON false ∷ ts) (spaced-type t floats _)

spaced-initializer : (v : Initializer) (f : Forest) (floats : List Bool) (more : List Bool → List Token) →
    spaced_before (initializer_tree v f) floats more
    ≡ initializer_tokens (apart_initializer v floats) (spaced_before f (after_initializer v floats) more)
unfolding spaced_before
spaced-initializer NoInitializer f floats more = refl
spaced-initializer (InitializedBy j e) f floats more = ap (λ (ts : List Token). of_kind EQ false ∷ ts) (spaced-expression e floats _)

mutual
  unfolding spaced_before

  spaced-statement : (s : Statement) (f : Forest) (floats : List Bool) (more : List Bool → List Token) →
      spaced_before (statement_tree s f) floats more
      ≡ statement_tokens (apart_statement s floats) (spaced_before f (after_statement s floats) more)
  spaced-statement (Let j p a v k) f floats more =
      ap (λ (ts : List Token). of_kind LET_KW false ∷ ts)
      (spaced-pattern p _ floats _
      ∙ ap (λ (ts : List Token). pattern_tokens (apart_pattern p) ts)
      (spaced-annotation a _ floats _ ∙ ap (λ (ts : List Token). annotation_tokens (apart_annotation a) ts) (spaced-initializer v _ floats _)))
  spaced-statement (Run e k) f floats more = spaced-expression e floats _
  spaced-statement (Defer j b) f floats more = ap (λ (ts : List Token). of_kind DEFER_KW false ∷ ts) (spaced-block b _ floats _)

  spaced-statements : (ss : Statements) (f : Forest) (floats : List Bool) (more : List Bool → List Token) →
      spaced_before (statements_tree ss f) floats more
      ≡ statements_tokens (apart_statements ss floats) (spaced_before f (after_statements ss floats) more)
  spaced-statements NoStatement f floats more = refl
  spaced-statements (LastExpression e) f floats more = spaced-expression e floats _
  spaced-statements (StatementThen s ss) f floats more =
      spaced-statement s _ floats more ∙ ap (λ (ts : List Token). statement_tokens (apart_statement s floats) ts) (spaced-statements ss f (after_statement s floats) more)

  spaced-block : (b : Block) (f : Forest) (floats : List Bool) (more : List Bool → List Token)
      → spaced_before (block_tree b f) floats more ≡ block_tokens (apart_block b floats) (spaced_before f (after_block b floats) more)
  spaced-block (Braces j ss k) f floats more = ap (λ (ts : List Token). of_kind L_CURLY false ∷ ts) (spaced-statements ss _ floats _)

spaced-listed : {A : Type 0} (g : A → A) (put : A → List Token → List Token) (tree : A → Forest → Forest) →
    ((a : A) (f : Forest) (floats : List Bool) (more : List Bool → List Token) → spaced_before (tree a f) floats more ≡ put (g a) (spaced_before f floats more)) →
    (l : Listed A) (f : Forest) (floats : List Bool) (more : List Bool → List Token)
    → spaced_before (listed_tree tree l f) floats more ≡ listed_tokens put (apart_listed g l) (spaced_before f floats more)
unfolding spaced_before
spaced-listed g put tree h NoElement f floats more = refl
spaced-listed g put tree h (LastElement a) f floats more = h a f floats more
spaced-listed g put tree h (ElementComma a j l) f floats more =
    h a _ floats more
    ∙ ap (λ (ts : List Token). put (g a) (of_kind COMMA false ∷ ts)) (spaced-listed g put tree h l f floats more)

spaced-field : (x : Field) (f : Forest) (floats : List Bool) (more : List Bool → List Token)
    → spaced_before (field_tree x f) floats more ≡ field_tokens (apart_field x) (spaced_before f floats more)
unfolding spaced_before
spaced-field (NamedField v n c t) f floats more =
    spaced-visibility v _ floats _ ∙ ap (λ (ts : List Token). visibility_tokens (apart_visibility v) (name_token false ∷ of_kind COLON false ∷ ts)) (spaced-type t floats _)

spaced-parameter : (x : Parameter) (f : Forest) (floats : List Bool) (more : List Bool → List Token)
    → spaced_before (parameter_tree x f) floats more ≡ parameter_tokens (apart_parameter x) (spaced_before f floats more)
unfolding spaced_before
spaced-parameter (TypedPattern p c t) f floats more =
    spaced-pattern p _ floats _ ∙ ap (λ (ts : List Token). pattern_tokens (apart_pattern p) (of_kind COLON false ∷ ts)) (spaced-type t floats _)

spaced-return_type : (r : ReturnType) (f : Forest) (floats : List Bool) (more : List Bool → List Token)
    → spaced_before (return_type_tree r f) floats more ≡ return_type_tokens (apart_return_type r) (spaced_before f floats more)
unfolding spaced_before
spaced-return_type NoReturnType f floats more = refl
spaced-return_type (Returns a t) f floats more = ap (λ (ts : List Token). of_kind MINUS true ∷ of_kind R_ANGLE false ∷ ts) (spaced-type t floats _)

mutual
  unfolding spaced_before

  spaced-item : (i : Item) (f : Forest) (floats : List Bool) (more : List Bool → List Token)
      → spaced_before (item_tree i f) floats more ≡ item_tokens (apart_item i floats) (spaced_before f (after_item i floats) more)
  spaced-item (UnitStruct v j n k) f floats more = spaced-visibility v _ floats _
  spaced-item (RecordStruct v j n l fs k) f floats more =
      spaced-visibility v _ floats _
      ∙ ap (λ (ts : List Token). visibility_tokens (apart_visibility v) (of_kind STRUCT_KW false ∷ name_token false ∷ of_kind L_CURLY false ∷ ts))
      (spaced-listed apart_field field_tokens field_tree spaced-field fs _ floats _)
  spaced-item (OuterModule v j n k) f floats more = spaced-visibility v _ floats _
  spaced-item (InnerModule v j n l is k) f floats more =
      spaced-visibility v _ floats _
      ∙ ap (λ (ts : List Token). visibility_tokens (apart_visibility v) (of_kind MOD_KW false ∷ name_token false ∷ of_kind L_CURLY false ∷ ts)) (spaced-items is _ floats _)
  spaced-item (Function v j n l ps k r b) f floats more =
      spaced-visibility v _ floats _
      ∙ ap (λ (ts : List Token). visibility_tokens (apart_visibility v) (of_kind FN_KW false ∷ name_token false ∷ of_kind L_PAREN false ∷ ts))
      (spaced-listed apart_parameter parameter_tokens parameter_tree spaced-parameter ps _ floats _
      ∙ ap (λ (ts : List Token). listed_tokens parameter_tokens (apart_listed apart_parameter ps) (of_kind R_PAREN false ∷ ts))
      (spaced-return_type r _ floats _ ∙ ap (λ (ts : List Token). return_type_tokens (apart_return_type r) ts) (spaced-block b _ floats _)))

  pub spaced-items : (is : Items) (f : Forest) (floats : List Bool) (more : List Bool → List Token)
      → spaced_before (items_tree is f) floats more ≡ items_tokens (apart_items is floats) (spaced_before f (after_items is floats) more)
  spaced-items NoItem f floats more = refl
  spaced-items (ItemThen i is) f floats more =
      spaced-item i _ floats more ∙ ap (λ (ts : List Token). item_tokens (apart_item i floats) ts) (spaced-items is f (after_item i floats) more)

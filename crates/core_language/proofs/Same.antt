-- A derivation apart has the same tree, and is well formed where the derivation is.
use Rattle.std.proofs.Common.{◌≡◌, ℕ, Bool, true, false, ◌&&◌, List, refl, ap, ◌∙◌}
use Rattle.parser_input.specs.Kinds.{DEFER_KW, DEFER_STMT, LET_STMT, EXPR_STMT, BLOCK_EXPR, STMT_LIST, ARG_LIST, RECORD_FIELD, RECORD_FIELD_LIST, PARAM, RET_TYPE, THIN_ARROW, STRUCT, MODULE, ITEM_LIST, FN, PATH, COLON2, AMP, L_BRACK, LET_KW, STRUCT_KW, MOD_KW, FN_KW, COMMA, L_PAREN, DOT, L_CURLY, COLON, EQ}
use Rattle.parser_events.specs.Forest.{Forest, End, Leaf, Node}
use Rattle.core_language.specs.Expressions.{AreWellFormed, ArgumentComma, Arguments, Assignment, Binary, Borrow, Expression, FieldAccess, FunctionCall, IsWellFormed, LastArgument, Literal, MethodCall, Named, NoArgument, Parenthesized, Prefixed, arguments_tree, expression_kind, expression_tree, inside_expression, is_field_access, level}
use Rattle.core_language.specs.Items.{AreWellFormedItems, ElementComma, Field, Function, InnerModule, IsWellFormedItem, Item, ItemThen, Items, LastElement, Listed, NamedField, NoElement, NoItem, NoReturnType, OuterModule, Parameter, Private, Public, RecordStruct, ReturnType, Returns, TypedPattern, UnitStruct, Visibility, field_tree, item_tree, items_tree, listed_tree, parameter_tree, return_type_tree, visibility_tree}
use Rattle.core_language.specs.Operators.{assigner_tree, operator_tree, prefix_kind}
use Rattle.core_language.specs.Statements.{AnnotatedBy, Annotation, AreWellFormedStatements, Block, Braces, Defer, InitializedBy, Initializer, IsWellFormedInitializer, IsWellFormedStatement, LastExpression, Let, NamePattern, NoAnnotation, NoInitializer, NoStatement, Pattern, Run, Statement, StatementThen, Statements, annotation_tree, block_tree, initializer_tree, name_tree, pattern_tree, statement_tree, statements_tree}
use Rattle.core_language.specs.Types.{Below, CoreType, Immutable, Mutability, Mutable, Name, Path, PathType, ReferenceType, SliceType, inside_path, inside_type, mut_tree, name_ref_tree, segment_tree, type_kind, type_tree}
use Rattle.core_language.proofs.Apart.{after, after_item, after_statement, apart, apart_annotation, apart_arguments, apart_block, apart_field, apart_initializer, apart_item, apart_items, apart_listed, apart_mut, apart_parameter, apart_path, apart_pattern, apart_return_type, apart_statement, apart_statements, apart_type, apart_visibility}
use Rattle.core_language.proofs.Places.{tree}

-- nodes of equal parts
node-of : {k l : ℕ} {i j f g : Forest} → k ≡ l → i ≡ j → f ≡ g → Node k i f ≡ Node l j g
node-of a b c = cc

same-path : (p : Path) → inside_path (apart_path p) ≡ inside_path p
same-path (Name j) = refl
same-path (Below p c j) = ap (λ (f : Forest). Node PATH f (Leaf COLON2 2 segment_tree)) (same-path p)

same-mut : (m : Mutability) (f : Forest) → mut_tree (apart_mut m) f ≡ mut_tree m f
same-mut Immutable f = refl
same-mut (Mutable j) f = refl

same-type_kind : (t : CoreType) → type_kind (apart_type t) ≡ type_kind t
same-type_kind (PathType p) = refl
same-type_kind (ReferenceType j m t) = refl
same-type_kind (SliceType j t k) = refl

same-inside_type : (t : CoreType) → inside_type (apart_type t) ≡ inside_type t
same-inside_type (PathType p) = ap (λ (f : Forest). Node PATH f End) (same-path p)
same-inside_type (ReferenceType j m t) =
    ap (λ (f : Forest). Leaf AMP 1 f) (same-mut m _ ∙ ap (λ (f : Forest). mut_tree m f) (node-of (same-type_kind t) (same-inside_type t) refl))
same-inside_type (SliceType j t k) = ap (λ (f : Forest). Leaf L_BRACK 1 f) (node-of (same-type_kind t) (same-inside_type t) refl)

pub same-type : (t : CoreType) (f g : Forest) → f ≡ g → type_tree (apart_type t) f ≡ type_tree t g
same-type t f g e = node-of (same-type_kind t) (same-inside_type t) e

same-kind : (e : Expression) (floats : List Bool) → expression_kind (apart e floats) ≡ expression_kind e
same-kind (Literal l j) floats = refl
same-kind e floats = refl

same-level : (e : Expression) (floats : List Bool) → level (apart e floats) ≡ level e
same-level (Literal l j) floats = refl
same-level e floats = refl

same-access : (e : Expression) (floats : List Bool) → is_field_access (apart e floats) ≡ is_field_access e
same-access (Literal l j) floats = refl
same-access e floats = refl

mutual
  same-inside : (e : Expression) (floats : List Bool) → inside_expression (apart e floats) ≡ inside_expression e
  same-inside (Literal l j) floats = refl
  same-inside (Named p) floats = ap (λ (f : Forest). Node PATH f End) (same-path p)
  same-inside (Parenthesized j e k) floats = ap (λ (f : Forest). Leaf L_PAREN 1 f) (node-of (same-kind e floats) (same-inside e floats) refl)
  same-inside (FunctionCall e j es k) floats =
      node-of (same-kind e floats) (same-inside e floats) (ap (λ (f : Forest). Node ARG_LIST (Leaf L_PAREN 1 f) End) (same-arguments es _ (after e floats)))
  same-inside (MethodCall e d n j es k) floats =
      node-of (same-kind e floats) (same-inside e floats)
      (ap (λ (f : Forest). Leaf DOT 1 (name_ref_tree (Node ARG_LIST (Leaf L_PAREN 1 f) End))) (same-arguments es _ (after e floats)))
  same-inside (FieldAccess e d n) floats = node-of (same-kind e floats) (same-inside e floats) refl
  same-inside (Prefixed s j e) floats = ap (λ (f : Forest). Leaf (prefix_kind s) 1 f) (node-of (same-kind e floats) (same-inside e floats) refl)
  same-inside (Borrow j m e) floats =
      ap (λ (f : Forest). Leaf AMP 1 f) (same-mut m _ ∙ ap (λ (f : Forest). mut_tree m f) (node-of (same-kind e floats) (same-inside e floats) refl))
  same-inside (Binary l o j r) floats =
      node-of (same-kind l floats) (same-inside l floats)
      (ap (λ (f : Forest). operator_tree o f) (node-of (same-kind r (after l floats)) (same-inside r (after l floats)) refl))
  same-inside (Assignment l o j r) floats =
      node-of (same-kind l floats) (same-inside l floats)
      (ap (λ (f : Forest). assigner_tree o f) (node-of (same-kind r (after l floats)) (same-inside r (after l floats)) refl))

  same-arguments : (es : Arguments) (f : Forest) (floats : List Bool) → arguments_tree (apart_arguments es floats) f ≡ arguments_tree es f
  same-arguments NoArgument f floats = refl
  same-arguments (LastArgument e) f floats = node-of (same-kind e floats) (same-inside e floats) refl
  same-arguments (ArgumentComma e j es) f floats =
      node-of (same-kind e floats) (same-inside e floats) (ap (λ (g : Forest). Leaf COMMA 1 g) (same-arguments es f (after e floats)))

pub same-expression : (e : Expression) (f : Forest) (floats : List Bool) → expression_tree (apart e floats) f ≡ expression_tree e f
same-expression e f floats = node-of (same-kind e floats) (same-inside e floats) refl

same-visibility : (v : Visibility) (f : Forest) → visibility_tree (apart_visibility v) f ≡ visibility_tree v f
same-visibility Private f = refl
same-visibility (Public j) f = refl

same-pattern : (p : Pattern) (f : Forest) → pattern_tree (apart_pattern p) f ≡ pattern_tree p f
same-pattern (NamePattern Immutable n) f = refl
same-pattern (NamePattern (Mutable i) n) f = refl

same-annotation : (a : Annotation) (f : Forest) → annotation_tree (apart_annotation a) f ≡ annotation_tree a f
same-annotation NoAnnotation f = refl
same-annotation (AnnotatedBy c t) f = ap (λ (g : Forest). Leaf COLON 1 g) (same-type t f f refl)

same-initializer : (v : Initializer) (f : Forest) (floats : List Bool)
    → initializer_tree (apart_initializer v floats) f ≡ initializer_tree v f
same-initializer NoInitializer f floats = refl
same-initializer (InitializedBy j e) f floats = ap (λ (g : Forest). Leaf EQ 1 g) (same-expression e f floats)

mutual
  same-statement : (s : Statement) (f : Forest) (floats : List Bool) → statement_tree (apart_statement s floats) f ≡ statement_tree s f
  same-statement (Let j p a v k) f floats =
      ap (λ (g : Forest). Node LET_STMT (Leaf LET_KW 1 g) f)
      (same-pattern p _ ∙ ap (λ (g : Forest). pattern_tree p g) (same-annotation a _ ∙ ap (λ (g : Forest). annotation_tree a g) (same-initializer v _ floats)))
  same-statement (Run e k) f floats = ap (λ (g : Forest). Node EXPR_STMT g f) (same-expression e _ floats)
  same-statement (Defer j b) f floats = ap (λ (g : Forest). Node DEFER_STMT (Leaf DEFER_KW 1 g) f) (same-block b End floats)

  same-statements : (ss : Statements) (f : Forest) (floats : List Bool)
      → statements_tree (apart_statements ss floats) f ≡ statements_tree ss f
  same-statements NoStatement f floats = refl
  same-statements (LastExpression e) f floats = same-expression e f floats
  same-statements (StatementThen s ss) f floats =
      same-statement s _ floats
      ∙ ap (λ (g : Forest). statement_tree s g) (same-statements ss f (after_statement s floats))

  same-block : (b : Block) (f : Forest) (floats : List Bool) → block_tree (apart_block b floats) f ≡ block_tree b f
  same-block (Braces j ss k) f floats = ap (λ (g : Forest). Node BLOCK_EXPR (Node STMT_LIST (Leaf L_CURLY 1 g) End) f) (same-statements ss _ floats)

same-listed : {A : Type 0} (h : A → A) (tree : A → Forest → Forest) → ((a : A) (f : Forest) → tree (h a) f ≡ tree a f)
    → (l : Listed A) (f : Forest) → listed_tree tree (apart_listed h l) f ≡ listed_tree tree l f
same-listed h tree e NoElement f = refl
same-listed h tree e (LastElement a) f = e a f
same-listed h tree e (ElementComma a j l) f = e a _ ∙ ap (λ (g : Forest). tree a (Leaf COMMA 1 g)) (same-listed h tree e l f)

same-field : (x : Field) (f : Forest) → field_tree (apart_field x) f ≡ field_tree x f
same-field (NamedField v n c t) f =
    ap (λ (g : Forest). Node RECORD_FIELD g f) (same-visibility v _ ∙ ap (λ (g : Forest). visibility_tree v (name_tree (Leaf COLON 1 g))) (same-type t End End refl))

same-parameter : (x : Parameter) (f : Forest) → parameter_tree (apart_parameter x) f ≡ parameter_tree x f
same-parameter (TypedPattern p c t) f =
    ap (λ (g : Forest). Node PARAM g f) (same-pattern p _ ∙ ap (λ (g : Forest). pattern_tree p (Leaf COLON 1 g)) (same-type t End End refl))

same-return_type : (r : ReturnType) (f : Forest) → return_type_tree (apart_return_type r) f ≡ return_type_tree r f
same-return_type NoReturnType f = refl
same-return_type (Returns a t) f = ap (λ (g : Forest). Node RET_TYPE (Leaf THIN_ARROW 2 g) f) (same-type t End End refl)

mutual
  same-item : (i : Item) (f : Forest) (floats : List Bool) → item_tree (apart_item i floats) f ≡ item_tree i f
  same-item (UnitStruct v j n k) f floats = ap (λ (g : Forest). Node STRUCT g f) (same-visibility v _)
  same-item (RecordStruct v j n l fs k) f floats =
      ap (λ (g : Forest). Node STRUCT g f)
      (same-visibility v _
      ∙ ap (λ (g : Forest). visibility_tree v (Leaf STRUCT_KW 1 (name_tree (Node RECORD_FIELD_LIST (Leaf L_CURLY 1 g) End)))) (same-listed apart_field field_tree same-field fs _))
  same-item (OuterModule v j n k) f floats = ap (λ (g : Forest). Node MODULE g f) (same-visibility v _)
  same-item (InnerModule v j n l is k) f floats =
      ap (λ (g : Forest). Node MODULE g f)
      (same-visibility v _ ∙ ap (λ (g : Forest). visibility_tree v (Leaf MOD_KW 1 (name_tree (Node ITEM_LIST (Leaf L_CURLY 1 g) End)))) (same-items is _ floats))
  same-item (Function v j n l ps k r b) f floats =
      ap (λ (g : Forest). Node FN g f)
      (same-visibility v _
      ∙ ap (λ (g : Forest). visibility_tree v (Leaf FN_KW 1 (name_tree g)))
      (node-of refl (ap (λ (g : Forest). Leaf L_PAREN 1 g) (same-listed apart_parameter parameter_tree same-parameter ps _))
      (same-return_type r _ ∙ ap (λ (g : Forest). return_type_tree r g) (same-block b End floats))))

  pub same-items : (is : Items) (f : Forest) (floats : List Bool) → items_tree (apart_items is floats) f ≡ items_tree is f
  same-items NoItem f floats = refl
  same-items (ItemThen i is) f floats = same-item i _ floats ∙ ap (λ (g : Forest). item_tree i g) (same-items is f (after_item i floats))

-- Apart, a well-formed derivation is one: the one condition that tells of a token's bit is met where the bit is false.
not-joint : (a b : Bool) → (a && false && b) ≡ false
not-joint true b = refl
not-joint false b = refl

mutual
  pub still-expression : (e : Expression) (floats : List Bool) → IsWellFormed e → IsWellFormed (apart e floats)
  still-expression (Literal l j) floats i = tt
  still-expression (Named p) floats i = tt
  still-expression (Parenthesized j e k) floats i = still-expression e floats i
  still-expression (FunctionCall e j es k) floats i =
      (still-expression e floats i.0, rw (same-level e floats) i.1, same-access e floats ∙ i.2, still-arguments es (after e floats) i.3)
  still-expression (MethodCall e d n j es k) floats i = (still-expression e floats i.0, rw (same-level e floats) i.1, still-arguments es (after e floats) i.2)
  still-expression (FieldAccess e d n) floats i = (still-expression e floats i.0, rw (same-level e floats) i.1)
  still-expression (Prefixed s j e) floats i = (still-expression e floats i.0, rw (same-level e floats) i.1)
  still-expression (Borrow j m e) floats i = (still-expression e floats i.0, rw (same-level e floats) i.1)
  still-expression (Binary l o j r) floats i =
      (still-expression l floats i.0, still-expression r (after l floats) i.1, rw (same-level l floats) i.2, rw (same-level r (after l floats)) i.3, not-joint _ _)
  still-expression (Assignment l o j r) floats i = (still-expression l floats i.0, still-expression r (after l floats) i.1, rw (same-level l floats) i.2)

  still-arguments : (es : Arguments) (floats : List Bool) → AreWellFormed es → AreWellFormed (apart_arguments es floats)
  still-arguments NoArgument floats i = tt
  still-arguments (LastArgument e) floats i = still-expression e floats i
  still-arguments (ArgumentComma e j es) floats i = (still-expression e floats i.0, still-arguments es (after e floats) i.1)

still-initializer : (v : Initializer) (floats : List Bool) → IsWellFormedInitializer v
    → IsWellFormedInitializer (apart_initializer v floats)
still-initializer NoInitializer floats i = tt
still-initializer (InitializedBy j e) floats i = still-expression e floats i

mutual
  still-statement : (s : Statement) (floats : List Bool) → IsWellFormedStatement s → IsWellFormedStatement (apart_statement s floats)
  still-statement (Let j p a v k) floats i = still-initializer v floats i
  still-statement (Run e k) floats i = still-expression e floats i
  still-statement (Defer j (Braces c ss d)) floats i = still-statements ss floats i

  still-statements : (ss : Statements) (floats : List Bool) → AreWellFormedStatements ss
      → AreWellFormedStatements (apart_statements ss floats)
  still-statements NoStatement floats i = tt
  still-statements (LastExpression e) floats i = still-expression e floats i
  still-statements (StatementThen s ss) floats i = (still-statement s floats i.0, still-statements ss (after_statement s floats) i.1)

mutual
  still-item : (i : Item) (floats : List Bool) → IsWellFormedItem i → IsWellFormedItem (apart_item i floats)
  still-item (UnitStruct v j n k) floats h = tt
  still-item (RecordStruct v j n l fs k) floats h = tt
  still-item (OuterModule v j n k) floats h = tt
  still-item (InnerModule v j n l is k) floats h = still-items is floats h
  still-item (Function v j n l ps k r (Braces c ss d)) floats h = still-statements ss floats h

  pub still-items : (is : Items) (floats : List Bool) → AreWellFormedItems is → AreWellFormedItems (apart_items is floats)
  still-items NoItem floats h = tt
  still-items (ItemThen i is) floats h = (still-item i floats h.0, still-items is (after_item i floats) h.1)

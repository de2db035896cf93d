-- Core trees are clean.
use Rattle.std.proofs.Common.{◌≡◌, Bool, true, false, ◌&&◌, refl, ap, sym, ◌∙◌}
use Rattle.parser_events.specs.Forest.{Forest, End}
use Rattle.core_language.specs.Expressions.{ArgumentComma, Arguments, Assignment, Binary, Borrow, Expression, FieldAccess, FunctionCall, LastArgument, Literal, MethodCall, Named, NoArgument, Parenthesized, Prefixed, arguments_tree, inside_expression}
use Rattle.core_language.specs.Items.{ElementComma, Field, Function, InnerModule, Item, ItemThen, Items, LastElement, Listed, NamedField, NoElement, NoItem, NoReturnType, OuterModule, Parameter, Private, Public, RecordStruct, ReturnType, Returns, TypedPattern, UnitStruct, Visibility, field_tree, item_tree, items_tree, listed_tree, parameter_tree, return_type_tree, visibility_tree}
use Rattle.core_language.specs.Laws.{CoreExpressionsAreClean, CoreFilesAreClean, CoreTypesAreClean, is_clean}
use Rattle.core_language.specs.Statements.{AnnotatedBy, Annotation, Block, Braces, Defer, InitializedBy, Initializer, LastExpression, Let, NamePattern, NoAnnotation, NoInitializer, NoStatement, Pattern, Run, Statement, StatementThen, Statements, annotation_tree, block_tree, initializer_tree, pattern_tree, statement_tree, statements_tree}
use Rattle.core_language.specs.Types.{Below, CoreType, Immutable, Mutability, Mutable, Name, Path, PathType, ReferenceType, SliceType, inside_path, inside_type, mut_tree}

-- Each part is clean if the trees after it are.
path-clean : (p : Path) → is_clean (inside_path p) ≡ true
unfolding is_clean
path-clean (Name j) = refl
path-clean (Below p c j) = rw (path-clean p) refl

mut-clean : (m : Mutability) (f : Forest) → is_clean f ≡ true → is_clean (mut_tree m f) ≡ true
unfolding is_clean
mut-clean Immutable f h = h
mut-clean (Mutable j) f h = h

type-clean : (t : CoreType) → is_clean (inside_type t) ≡ true
unfolding is_clean
type-clean (PathType p) = rw (path-clean p) refl
type-clean (ReferenceType j Immutable t) = rw (type-clean t) refl
type-clean (ReferenceType j (Mutable i) t) = rw (type-clean t) refl
type-clean (SliceType j t k) = rw (type-clean t) refl

both : (a b : Bool) → a ≡ true → b ≡ true → (a && b) ≡ true
both true true p q = refl
both true false p q = q
both false b p q = p

mutual
  unfolding is_clean

  expression-clean : (e : Expression) → is_clean (inside_expression e) ≡ true
  expression-clean (Literal l j) = refl
  expression-clean (Named p) = both _ _ (path-clean p) refl
  expression-clean (Parenthesized j e k) = both _ _ (expression-clean e) refl
  expression-clean (FunctionCall e j es k) = both _ _ (expression-clean e) (both _ _ (arguments-clean es _ refl) refl)
  expression-clean (MethodCall e d n j es k) = both _ _ (expression-clean e) (both _ _ (arguments-clean es _ refl) refl)
  expression-clean (FieldAccess e d n) = both _ _ (expression-clean e) refl
  expression-clean (Prefixed s j e) = both _ _ (expression-clean e) refl
  expression-clean (Borrow j Immutable e) = both _ _ (expression-clean e) refl
  expression-clean (Borrow j (Mutable i) e) = both _ _ (expression-clean e) refl
  expression-clean (Binary l o j r) = both _ _ (expression-clean l) (both _ _ (expression-clean r) refl)
  expression-clean (Assignment l o j r) = both _ _ (expression-clean l) (both _ _ (expression-clean r) refl)

  arguments-clean : (es : Arguments) (f : Forest) → is_clean f ≡ true → is_clean (arguments_tree es f) ≡ true
  arguments-clean NoArgument f h = h
  arguments-clean (LastArgument e) f h = both _ _ (expression-clean e) h
  arguments-clean (ArgumentComma e j es) f h = both _ _ (expression-clean e) (arguments-clean es f h)

annotation-clean : (n : Annotation) (f : Forest) → is_clean f ≡ true → is_clean (annotation_tree n f) ≡ true
unfolding is_clean
annotation-clean NoAnnotation f h = h
annotation-clean (AnnotatedBy c t) f h = both _ _ (type-clean t) h

initializer-clean : (v : Initializer) (f : Forest) → is_clean f ≡ true → is_clean (initializer_tree v f) ≡ true
unfolding is_clean
initializer-clean NoInitializer f h = h
initializer-clean (InitializedBy j e) f h = both _ _ (expression-clean e) h

pattern-clean : (p : Pattern) (f : Forest) → is_clean f ≡ true → is_clean (pattern_tree p f) ≡ true
unfolding is_clean
pattern-clean (NamePattern Immutable n) f h = h
pattern-clean (NamePattern (Mutable i) n) f h = h

mutual
  unfolding is_clean

  statement-clean : (s : Statement) (f : Forest) → is_clean f ≡ true → is_clean (statement_tree s f) ≡ true
  statement-clean (Let j p n v k) f h = both _ _ (pattern-clean p _ (annotation-clean n _ (initializer-clean v _ refl))) h
  statement-clean (Run e k) f h = both _ _ (both _ _ (expression-clean e) refl) h
  statement-clean (Defer j b) f h = both _ _ (block-clean b _ refl) h

  statements-clean : (ss : Statements) (f : Forest) → is_clean f ≡ true → is_clean (statements_tree ss f) ≡ true
  statements-clean NoStatement f h = h
  statements-clean (LastExpression e) f h = both _ _ (expression-clean e) h
  statements-clean (StatementThen s ss) f h = statement-clean s _ (statements-clean ss f h)

  block-clean : (b : Block) (f : Forest) → is_clean f ≡ true → is_clean (block_tree b f) ≡ true
  block-clean (Braces j ss k) f h = both _ _ (both _ _ (statements-clean ss _ refl) refl) h

visibility-clean : (v : Visibility) (f : Forest) → is_clean f ≡ true → is_clean (visibility_tree v f) ≡ true
unfolding is_clean
visibility-clean Private f h = h
visibility-clean (Public j) f h = h

listed-clean : {A : Type 0} (put : A → Forest → Forest) → ((a : A) (f : Forest) → is_clean f ≡ true → is_clean (put a f) ≡ true)
    → (l : Listed A) (f : Forest) → is_clean f ≡ true → is_clean (listed_tree put l f) ≡ true
unfolding is_clean
listed-clean put each NoElement f h = h
listed-clean put each (LastElement a) f h = each a f h
listed-clean put each (ElementComma a j l) f h = each a _ (listed-clean put each l f h)

field-clean : (x : Field) (f : Forest) → is_clean f ≡ true → is_clean (field_tree x f) ≡ true
unfolding is_clean
field-clean (NamedField v n c t) f h = both _ _ (visibility-clean v _ (both _ _ (type-clean t) refl)) h

parameter-clean : (x : Parameter) (f : Forest) → is_clean f ≡ true → is_clean (parameter_tree x f) ≡ true
unfolding is_clean
parameter-clean (TypedPattern p c t) f h = both _ _ (pattern-clean p _ (both _ _ (type-clean t) refl)) h

return_type-clean : (r : ReturnType) (f : Forest) → is_clean f ≡ true → is_clean (return_type_tree r f) ≡ true
unfolding is_clean
return_type-clean NoReturnType f h = h
return_type-clean (Returns a t) f h = both _ _ (both _ _ (type-clean t) refl) h

mutual
  unfolding is_clean

  item-clean : (i : Item) (f : Forest) → is_clean f ≡ true → is_clean (item_tree i f) ≡ true
  item-clean (UnitStruct v j n k) f h = both _ _ (visibility-clean v _ refl) h
  item-clean (RecordStruct v j n l fs k) f h = both _ _ (visibility-clean v _ (both _ _ (listed-clean field_tree field-clean fs _ refl) refl)) h
  item-clean (OuterModule v j n k) f h = both _ _ (visibility-clean v _ refl) h
  item-clean (InnerModule v j n l is k) f h = both _ _ (visibility-clean v _ (both _ _ (items-clean is _ refl) refl)) h
  item-clean (Function v j n l ps k r b) f h =
      both _ _ (visibility-clean v _ (both _ _ (listed-clean parameter_tree parameter-clean ps _ refl) (return_type-clean r _ (block-clean b _ refl)))) h

  items-clean : (is : Items) (f : Forest) → is_clean f ≡ true → is_clean (items_tree is f) ≡ true
  items-clean NoItem f h = h
  items-clean (ItemThen i is) f h = item-clean i _ (items-clean is f h)

pub files-clean : CoreFilesAreClean
unfolding is_clean
files-clean tokens tree c = ap is_clean (sym c.has_tree) ∙ both _ _ (items-clean c.items End refl) refl

pub types-clean : CoreTypesAreClean
unfolding is_clean
types-clean tokens tree c = ap is_clean (sym c.has_tree) ∙ both _ _ (type-clean c.type) refl

pub expressions-clean : CoreExpressionsAreClean
unfolding is_clean
expressions-clean tokens tree c = ap is_clean (sym c.has_tree) ∙ both _ _ (expression-clean c.expression) refl

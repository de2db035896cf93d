-- Derivations of which no token touches the next, with given bits for their floats; and the bits that are left for the parts
-- after them.
use Rattle.std.proofs.Common.{Bool, false, List}
use Rattle.core_language.specs.Types.{Mutability, Immutable, Mutable, Path, Name, Below, CoreType, PathType, ReferenceType, SliceType}
use Rattle.core_language.specs.Operators.{LiteralForm, FloatNumber}
use Rattle.core_language.specs.Expressions.{Expression, Literal, Named, Parenthesized, FunctionCall, MethodCall, FieldAccess, Prefixed, Borrow, Binary, Assignment, Arguments, NoArgument, LastArgument, ArgumentComma}
use Rattle.core_language.specs.Statements.{Pattern, NamePattern, Annotation, NoAnnotation, AnnotatedBy, Initializer, NoInitializer, InitializedBy, Statement, Let, Run, Defer, Statements, NoStatement, LastExpression, StatementThen, Block, Braces}
use Rattle.core_language.specs.Items.{Visibility, Private, Public, Listed, NoElement, LastElement, ElementComma, Field, NamedField, Parameter, TypedPattern, ReturnType, NoReturnType, Returns, Item, UnitStruct, RecordStruct, OuterModule, InnerModule, Function, Items, NoItem, ItemThen}
use Rattle.core_language.specs.Spaced.{first_float, other_floats}

-- the floats that are left after a literal
abbrev pub after_literal : LiteralForm → List Bool → List Bool
after_literal FloatNumber floats = other_floats floats
after_literal l floats = floats

abbrev mutual
  pub after : Expression → List Bool → List Bool
  after (Literal l j) floats = after_literal l floats
  after (Named p) floats = floats
  after (Parenthesized j e k) floats = after e floats
  after (FunctionCall e j es k) floats = after_arguments es (after e floats)
  after (MethodCall e d n j es k) floats = after_arguments es (after e floats)
  after (FieldAccess e d n) floats = after e floats
  after (Prefixed s j e) floats = after e floats
  after (Borrow j m e) floats = after e floats
  after (Binary l o j r) floats = after r (after l floats)
  after (Assignment l o j r) floats = after r (after l floats)

  pub after_arguments : Arguments → List Bool → List Bool
  after_arguments NoArgument floats = floats
  after_arguments (LastArgument e) floats = after e floats
  after_arguments (ArgumentComma e j es) floats = after_arguments es (after e floats)

-- after an initializer
abbrev pub after_initializer : Initializer → List Bool → List Bool
after_initializer NoInitializer floats = floats
after_initializer (InitializedBy j e) floats = after e floats

-- after a statement, statements and a block
abbrev mutual
  pub after_statement : Statement → List Bool → List Bool
  after_statement (Let j p a v k) floats = after_initializer v floats
  after_statement (Run e k) floats = after e floats
  after_statement (Defer j b) floats = after_block b floats

  pub after_statements : Statements → List Bool → List Bool
  after_statements NoStatement floats = floats
  after_statements (LastExpression e) floats = after e floats
  after_statements (StatementThen s ss) floats = after_statements ss (after_statement s floats)

  pub after_block : Block → List Bool → List Bool
  after_block (Braces j ss k) floats = after_statements ss floats

abbrev mutual
  pub after_item : Item → List Bool → List Bool
  after_item (UnitStruct v j n k) floats = floats
  after_item (RecordStruct v j n l fs k) floats = floats
  after_item (OuterModule v j n k) floats = floats
  after_item (InnerModule v j n l is k) floats = after_items is floats
  after_item (Function v j n l ps k r b) floats = after_block b floats

  pub after_items : Items → List Bool → List Bool
  after_items NoItem floats = floats
  after_items (ItemThen i is) floats = after_items is (after_item i floats)

-- `mut` apart
abbrev pub apart_mut : Mutability → Mutability
apart_mut Immutable = Immutable
apart_mut (Mutable j) = Mutable false

-- a path apart
abbrev pub apart_path : Path → Path
apart_path (Name j) = Name false
apart_path (Below p c j) = Below (apart_path p) false false

-- a type apart
abbrev pub apart_type : CoreType → CoreType
apart_type (PathType p) = PathType (apart_path p)
apart_type (ReferenceType j m t) = ReferenceType false (apart_mut m) (apart_type t)
apart_type (SliceType j t k) = SliceType false (apart_type t) false

-- whether the token of a literal touches the next, where it is apart
abbrev pub literal_joint : LiteralForm → List Bool → Bool
literal_joint FloatNumber floats = first_float floats
literal_joint l floats = false

abbrev mutual
  pub apart : Expression → List Bool → Expression
  apart (Literal l j) floats = Literal l (literal_joint l floats)
  apart (Named p) floats = Named (apart_path p)
  apart (Parenthesized j e k) floats = Parenthesized false (apart e floats) false
  apart (FunctionCall e j es k) floats = FunctionCall (apart e floats) false (apart_arguments es (after e floats)) false
  apart (MethodCall e d n j es k) floats = MethodCall (apart e floats) false false false (apart_arguments es (after e floats)) false
  apart (FieldAccess e d n) floats = FieldAccess (apart e floats) false false
  apart (Prefixed s j e) floats = Prefixed s false (apart e floats)
  apart (Borrow j m e) floats = Borrow false (apart_mut m) (apart e floats)
  apart (Binary l o j r) floats = Binary (apart l floats) o false (apart r (after l floats))
  apart (Assignment l o j r) floats = Assignment (apart l floats) o false (apart r (after l floats))

  pub apart_arguments : Arguments → List Bool → Arguments
  apart_arguments NoArgument floats = NoArgument
  apart_arguments (LastArgument e) floats = LastArgument (apart e floats)
  apart_arguments (ArgumentComma e j es) floats = ArgumentComma (apart e floats) false (apart_arguments es (after e floats))

-- a pattern apart
abbrev pub apart_pattern : Pattern → Pattern
apart_pattern (NamePattern m n) = NamePattern (apart_mut m) false

-- an annotation apart
abbrev pub apart_annotation : Annotation → Annotation
apart_annotation NoAnnotation = NoAnnotation
apart_annotation (AnnotatedBy c t) = AnnotatedBy false (apart_type t)

-- an initializer apart
abbrev pub apart_initializer : Initializer → List Bool → Initializer
apart_initializer NoInitializer floats = NoInitializer
apart_initializer (InitializedBy j e) floats = InitializedBy false (apart e floats)

-- a statement, statements and a block apart
abbrev mutual
  pub apart_statement : Statement → List Bool → Statement
  apart_statement (Let j p a v k) floats = Let false (apart_pattern p) (apart_annotation a) (apart_initializer v floats) false
  apart_statement (Run e k) floats = Run (apart e floats) false
  apart_statement (Defer j b) floats = Defer false (apart_block b floats)

  pub apart_statements : Statements → List Bool → Statements
  apart_statements NoStatement floats = NoStatement
  apart_statements (LastExpression e) floats = LastExpression (apart e floats)
  apart_statements (StatementThen s ss) floats = StatementThen (apart_statement s floats) (apart_statements ss (after_statement s floats))

  pub apart_block : Block → List Bool → Block
  apart_block (Braces j ss k) floats = Braces false (apart_statements ss floats) false

-- a visibility apart
abbrev pub apart_visibility : Visibility → Visibility
apart_visibility Private = Private
apart_visibility (Public j) = Public false

-- elements apart, each by this function
abbrev pub apart_listed : {A : Type 0} → (A → A) → Listed A → Listed A
apart_listed f NoElement = NoElement
apart_listed f (LastElement a) = LastElement (f a)
apart_listed f (ElementComma a j l) = ElementComma (f a) false (apart_listed f l)

-- a field apart
abbrev pub apart_field : Field → Field
apart_field (NamedField v n c t) = NamedField (apart_visibility v) false false (apart_type t)

-- a parameter apart
abbrev pub apart_parameter : Parameter → Parameter
apart_parameter (TypedPattern p c t) = TypedPattern (apart_pattern p) false (apart_type t)

-- a return type apart
abbrev pub apart_return_type : ReturnType → ReturnType
apart_return_type NoReturnType = NoReturnType
apart_return_type (Returns a t) = Returns false (apart_type t)

abbrev mutual
  pub apart_item : Item → List Bool → Item
  apart_item (UnitStruct v j n k) floats = UnitStruct (apart_visibility v) false false false
  apart_item (RecordStruct v j n l fs k) floats = RecordStruct (apart_visibility v) false false false (apart_listed apart_field fs) false
  apart_item (OuterModule v j n k) floats = OuterModule (apart_visibility v) false false false
  apart_item (InnerModule v j n l is k) floats = InnerModule (apart_visibility v) false false false (apart_items is floats) false
  apart_item (Function v j n l ps k r b) floats =
      Function (apart_visibility v) false false false (apart_listed apart_parameter ps) false (apart_return_type r) (apart_block b floats)

  pub apart_items : Items → List Bool → Items
  apart_items NoItem floats = NoItem
  apart_items (ItemThen i is) floats = ItemThen (apart_item i floats) (apart_items is (after_item i floats))

-- Patterns, statements and blocks of the core language: derivations, each with its tokens, its tree and its conditions.
use Rattle.std.specs.Prelude.{Bool, List, ◌∷◌}
use Rattle.parser_input.specs.Kinds.{BLOCK_EXPR, COLON, DEFER_KW, DEFER_STMT, EQ, EXPR_STMT, IDENT, IDENT_PAT, LET_KW, LET_STMT, L_CURLY, NAME, R_CURLY, SEMICOLON, STMT_LIST}
use Rattle.parser_input.specs.Input.{Token}
use Rattle.parser_events.specs.Forest.{Forest, End, Leaf, Node}
use Rattle.core_language.specs.Tokens.{of_kind, name_token}
use Rattle.core_language.specs.Types.{Mutability, mut_tokens, mut_tree, CoreType, type_tokens, type_tree}
use Rattle.core_language.specs.Expressions.{Expression, expression_tokens, expression_tree, IsWellFormed}

-- the node of a name that something is given
abbrev pub name_tree : Forest → Forest
name_tree f = Node NAME (Leaf IDENT 1 End) f

-- A pattern: a name, `mut` before it or not.
pub data Pattern : Type 0 where
  NamePattern : Mutability → (name : Bool) → Pattern

-- the tokens of a pattern
abbrev pub pattern_tokens : Pattern → List Token → List Token
pattern_tokens (NamePattern m name) more = mut_tokens m (name_token name ∷ more)

-- its node
abbrev pub pattern_tree : Pattern → Forest → Forest
pattern_tree (NamePattern m name) f = Node IDENT_PAT (mut_tree m (name_tree End)) f

-- `:` and a type, or nothing
pub data Annotation : Type 0 where
  NoAnnotation : Annotation
  AnnotatedBy : (colon : Bool) → CoreType → Annotation

-- the tokens of an annotation
abbrev pub annotation_tokens : Annotation → List Token → List Token
annotation_tokens NoAnnotation more = more
annotation_tokens (AnnotatedBy colon t) more = of_kind COLON colon ∷ type_tokens t more

-- its trees
abbrev pub annotation_tree : Annotation → Forest → Forest
annotation_tree NoAnnotation f = f
annotation_tree (AnnotatedBy colon t) f = Leaf COLON 1 (type_tree t f)

-- `=` and an expression, or nothing
pub data Initializer : Type 0 where
  NoInitializer : Initializer
  InitializedBy : (equals : Bool) → Expression → Initializer

-- the tokens of an initializer
abbrev pub initializer_tokens : Initializer → List Token → List Token
initializer_tokens NoInitializer more = more
initializer_tokens (InitializedBy equals e) more = of_kind EQ equals ∷ expression_tokens e more

-- its trees
abbrev pub initializer_tree : Initializer → Forest → Forest
initializer_tree NoInitializer f = f
initializer_tree (InitializedBy equals e) f = Leaf EQ 1 (expression_tree e f)

-- A statement: a `let`, or an expression, which `;` ends, or a block that is deferred. Statements, and after them an expression or
-- nothing. A block: statements in braces.
mutual
  pub data Statement : Type 0 where
    Let : (let_word : Bool) → Pattern → Annotation → Initializer → (semicolon : Bool) → Statement
    Run : Expression → (semicolon : Bool) → Statement
    Defer : (defer_word : Bool) → Block → Statement

  pub data Statements : Type 0 where
    NoStatement : Statements
    LastExpression : Expression → Statements
    StatementThen : Statement → Statements → Statements

  pub data Block : Type 0 where
    Braces : (opening : Bool) → Statements → (closing : Bool) → Block

-- the tokens of a statement, of statements and of a block
abbrev mutual
  pub statement_tokens : Statement → List Token → List Token
  statement_tokens (Let let_word p a i semicolon) more =
      of_kind LET_KW let_word ∷ pattern_tokens p (annotation_tokens a (initializer_tokens i (of_kind SEMICOLON semicolon ∷ more)))
  statement_tokens (Run e semicolon) more = expression_tokens e (of_kind SEMICOLON semicolon ∷ more)
  statement_tokens (Defer defer_word b) more = of_kind DEFER_KW defer_word ∷ block_tokens b more

  pub statements_tokens : Statements → List Token → List Token
  statements_tokens NoStatement more = more
  statements_tokens (LastExpression e) more = expression_tokens e more
  statements_tokens (StatementThen s ss) more = statement_tokens s (statements_tokens ss more)

  pub block_tokens : Block → List Token → List Token
  block_tokens (Braces opening ss closing) more = of_kind L_CURLY opening ∷ statements_tokens ss (of_kind R_CURLY closing ∷ more)

-- the node of a statement, the trees of statements, the node of a block
abbrev mutual
  pub statement_tree : Statement → Forest → Forest
  statement_tree (Let let_word p a i semicolon) f =
      Node LET_STMT (Leaf LET_KW 1 (pattern_tree p (annotation_tree a (initializer_tree i (Leaf SEMICOLON 1 End))))) f
  statement_tree (Run e semicolon) f = Node EXPR_STMT (expression_tree e (Leaf SEMICOLON 1 End)) f
  statement_tree (Defer defer_word b) f = Node DEFER_STMT (Leaf DEFER_KW 1 (block_tree b End)) f

  pub statements_tree : Statements → Forest → Forest
  statements_tree NoStatement f = f
  statements_tree (LastExpression e) f = expression_tree e f
  statements_tree (StatementThen s ss) f = statement_tree s (statements_tree ss f)

  pub block_tree : Block → Forest → Forest
  block_tree (Braces opening ss closing) f = Node BLOCK_EXPR (Node STMT_LIST (Leaf L_CURLY 1 (statements_tree ss (Leaf R_CURLY 1 End))) End) f

-- The conditions on an initializer: those on each of its expressions.
abbrev pub IsWellFormedInitializer : Initializer → Type 0
IsWellFormedInitializer NoInitializer = Unit {0}
IsWellFormedInitializer (InitializedBy equals e) = IsWellFormed e

-- the conditions on a statement, on statements and on a block
abbrev mutual
  pub IsWellFormedStatement : Statement → Type 0
  IsWellFormedStatement (Let let_word p a i semicolon) = IsWellFormedInitializer i
  IsWellFormedStatement (Run e semicolon) = IsWellFormed e
  IsWellFormedStatement (Defer defer_word b) = IsWellFormedBlock b

  pub AreWellFormedStatements : Statements → Type 0
  AreWellFormedStatements NoStatement = Unit {0}
  AreWellFormedStatements (LastExpression e) = IsWellFormed e
  AreWellFormedStatements (StatementThen s ss) = IsWellFormedStatement s × AreWellFormedStatements ss

  pub IsWellFormedBlock : Block → Type 0
  IsWellFormedBlock (Braces opening ss closing) = AreWellFormedStatements ss

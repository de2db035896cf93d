-- Expressions of the core language: derivations, each with its tokens, its tree, its level and its conditions.
use Rattle.std.specs.Prelude.{◌≡◌, ℕ, ◌≤◌, ◌<◌, ◌&&◌, Bool, true, false, List, ◌∷◌}
use Rattle.parser_input.specs.Kinds.{AMP, ARG_LIST, BIN_EXPR, CALL_EXPR, COMMA, DOT, FIELD_EXPR, LITERAL, L_PAREN, METHOD_CALL_EXPR, PAREN_EXPR, PATH_EXPR, PREFIX_EXPR, REF_EXPR, R_PAREN}
use Rattle.parser_input.specs.Input.{Token}
use Rattle.parser_events.specs.Forest.{Forest, End, Leaf, Node}
use Rattle.core_language.specs.Tokens.{of_kind, name_token}
use Rattle.core_language.specs.Types.{Mutability, mut_tokens, mut_tree, Path, path_tokens, path_tree, name_ref_tree}
use Rattle.core_language.specs.Operators.{LiteralForm, literal_kind, PrefixOperator, prefix_kind, Operator, BitAnd, power, operator_tokens, operator_tree, Assigner, assigner_tokens, assigner_tree}

-- Expressions, and the arguments of a call: a comma parts two of them, and one may stand after the last.
mutual
  pub data Expression : Type 0 where
    Literal : LiteralForm → (literal : Bool) → Expression
    Named : Path → Expression
    Parenthesized : (opening : Bool) → Expression → (closing : Bool) → Expression
    FunctionCall : Expression → (opening : Bool) → Arguments → (closing : Bool) → Expression
    MethodCall : Expression → (dot name opening : Bool) → Arguments → (closing : Bool) → Expression
    FieldAccess : Expression → (dot name : Bool) → Expression
    Prefixed : PrefixOperator → (operator : Bool) → Expression → Expression
    Borrow : (ampersand : Bool) → Mutability → Expression → Expression
    Binary : Expression → Operator → (last : Bool) → Expression → Expression
    Assignment : Expression → Assigner → (last : Bool) → Expression → Expression

  pub data Arguments : Type 0 where
    NoArgument : Arguments
    LastArgument : Expression → Arguments
    ArgumentComma : Expression → (comma : Bool) → Arguments → Arguments

-- the tokens of an expression, and of arguments
abbrev mutual
  pub expression_tokens : Expression → List Token → List Token
  expression_tokens (Literal l literal) more = of_kind (literal_kind l) literal ∷ more
  expression_tokens (Named p) more = path_tokens p more
  expression_tokens (Parenthesized opening e closing) more = of_kind L_PAREN opening ∷ expression_tokens e (of_kind R_PAREN closing ∷ more)
  expression_tokens (FunctionCall e opening es closing) more =
      expression_tokens e (of_kind L_PAREN opening ∷ arguments_tokens es (of_kind R_PAREN closing ∷ more))
  expression_tokens (MethodCall e dot name opening es closing) more =
      expression_tokens e (of_kind DOT dot ∷ name_token name ∷ of_kind L_PAREN opening ∷ arguments_tokens es (of_kind R_PAREN closing ∷ more))
  expression_tokens (FieldAccess e dot name) more = expression_tokens e (of_kind DOT dot ∷ name_token name ∷ more)
  expression_tokens (Prefixed o operator e) more = of_kind (prefix_kind o) operator ∷ expression_tokens e more
  expression_tokens (Borrow ampersand m e) more = of_kind AMP ampersand ∷ mut_tokens m (expression_tokens e more)
  expression_tokens (Binary l o last r) more = expression_tokens l (operator_tokens o last (expression_tokens r more))
  expression_tokens (Assignment l o last r) more = expression_tokens l (assigner_tokens o last (expression_tokens r more))

  pub arguments_tokens : Arguments → List Token → List Token
  arguments_tokens NoArgument more = more
  arguments_tokens (LastArgument e) more = expression_tokens e more
  arguments_tokens (ArgumentComma e comma es) more = expression_tokens e (of_kind COMMA comma ∷ arguments_tokens es more)

-- the kind of an expression's node
abbrev pub expression_kind : Expression → ℕ
expression_kind (Literal l literal) = LITERAL
expression_kind (Named p) = PATH_EXPR
expression_kind (Parenthesized opening e closing) = PAREN_EXPR
expression_kind (FunctionCall e opening es closing) = CALL_EXPR
expression_kind (MethodCall e dot name opening es closing) = METHOD_CALL_EXPR
expression_kind (FieldAccess e dot name) = FIELD_EXPR
expression_kind (Prefixed o operator e) = PREFIX_EXPR
expression_kind (Borrow ampersand m e) = REF_EXPR
expression_kind (Binary l o last r) = BIN_EXPR
expression_kind (Assignment l o last r) = BIN_EXPR

-- what an expression's node holds; the trees of arguments
abbrev mutual
  pub inside_expression : Expression → Forest
  inside_expression (Literal l literal) = Leaf (literal_kind l) 1 End
  inside_expression (Named p) = path_tree p End
  inside_expression (Parenthesized opening e closing) = Leaf L_PAREN 1 (Node (expression_kind e) (inside_expression e) (Leaf R_PAREN 1 End))
  inside_expression (FunctionCall e opening es closing) =
      Node (expression_kind e) (inside_expression e) (Node ARG_LIST (Leaf L_PAREN 1 (arguments_tree es (Leaf R_PAREN 1 End))) End)
  inside_expression (MethodCall e dot name opening es closing) =
      Node (expression_kind e) (inside_expression e) (Leaf DOT 1 (name_ref_tree (Node ARG_LIST (Leaf L_PAREN 1 (arguments_tree es (Leaf R_PAREN 1 End))) End)))
  inside_expression (FieldAccess e dot name) = Node (expression_kind e) (inside_expression e) (Leaf DOT 1 (name_ref_tree End))
  inside_expression (Prefixed o operator e) = Leaf (prefix_kind o) 1 (Node (expression_kind e) (inside_expression e) End)
  inside_expression (Borrow ampersand m e) = Leaf AMP 1 (mut_tree m (Node (expression_kind e) (inside_expression e) End))
  inside_expression (Binary l o last r) =
      Node (expression_kind l) (inside_expression l) (operator_tree o (Node (expression_kind r) (inside_expression r) End))
  inside_expression (Assignment l o last r) =
      Node (expression_kind l) (inside_expression l) (assigner_tree o (Node (expression_kind r) (inside_expression r) End))

  pub arguments_tree : Arguments → Forest → Forest
  arguments_tree NoArgument f = f
  arguments_tree (LastArgument e) f = Node (expression_kind e) (inside_expression e) f
  arguments_tree (ArgumentComma e comma es) f = Node (expression_kind e) (inside_expression e) (Leaf COMMA 1 (arguments_tree es f))

-- the node of an expression
abbrev pub expression_tree : Expression → Forest → Forest
expression_tree e f = Node (expression_kind e) (inside_expression e) f

-- The binding power of an expression: an operation has its operator's, an assignment has the least.
abbrev pub level : Expression → ℕ
level (Literal l literal) = 15
level (Named p) = 15
level (Parenthesized opening e closing) = 15
level (FunctionCall e opening es closing) = 15
level (MethodCall e dot name opening es closing) = 15
level (FieldAccess e dot name) = 15
level (Prefixed o operator e) = 14
level (Borrow ampersand m e) = 14
level (Binary l o last r) = power o
level (Assignment l o last r) = 1

-- an access to a field, which no brackets can follow as its call: that would be a call of a method
abbrev pub is_field_access : Expression → Bool
is_field_access (FieldAccess e dot name) = true
is_field_access e = false

-- whether the first token is an `&`
abbrev pub begins_with_ampersand : Expression → Bool
begins_with_ampersand (FunctionCall e opening es closing) = begins_with_ampersand e
begins_with_ampersand (MethodCall e dot name opening es closing) = begins_with_ampersand e
begins_with_ampersand (FieldAccess e dot name) = begins_with_ampersand e
begins_with_ampersand (Borrow ampersand m e) = true
begins_with_ampersand (Binary l o last r) = begins_with_ampersand l
begins_with_ampersand (Assignment l o last r) = begins_with_ampersand l
begins_with_ampersand e = false

-- the operator `&`
abbrev pub is_bit_and : Operator → Bool
is_bit_and BitAnd = true
is_bit_and o = false

-- The conditions on an expression: operands bind at least as tightly as their place asks, the callee is no field access, and the
-- operator `&` does not touch an `&` after it.
abbrev mutual
  pub IsWellFormed : Expression → Type 0
  IsWellFormed (Literal l literal) = Unit {0}
  IsWellFormed (Named p) = Unit {0}
  IsWellFormed (Parenthesized opening e closing) = IsWellFormed e
  IsWellFormed (FunctionCall e opening es closing) = IsWellFormed e × (15 ≤ level e) × (is_field_access e ≡ false) × AreWellFormed es
  IsWellFormed (MethodCall e dot name opening es closing) = IsWellFormed e × (15 ≤ level e) × AreWellFormed es
  IsWellFormed (FieldAccess e dot name) = IsWellFormed e × (15 ≤ level e)
  IsWellFormed (Prefixed o operator e) = IsWellFormed e × (14 ≤ level e)
  IsWellFormed (Borrow ampersand m e) = IsWellFormed e × (14 ≤ level e)
  IsWellFormed (Binary l o last r) =
      IsWellFormed l × IsWellFormed r × (power o ≤ level l) × (power o < level r) × ((is_bit_and o && last && begins_with_ampersand r) ≡ false)
  IsWellFormed (Assignment l o last r) = IsWellFormed l × IsWellFormed r × (2 ≤ level l)

  pub AreWellFormed : Arguments → Type 0
  AreWellFormed NoArgument = Unit {0}
  AreWellFormed (LastArgument e) = IsWellFormed e
  AreWellFormed (ArgumentComma e comma es) = IsWellFormed e × AreWellFormed es

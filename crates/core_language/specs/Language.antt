-- The core language: which tokens are a file, a type or an expression of it, and with which tree.
use Rattle.std.specs.Prelude.{◌≡◌, List, []}
use Rattle.parser_input.specs.Input.{Token}
use Rattle.parser_events.specs.Forest.{Forest, End}
use Rattle.core_language.specs.Types.{CoreType, type_tokens, type_tree}
use Rattle.core_language.specs.Expressions.{Expression, expression_tokens, expression_tree, IsWellFormed}
use Rattle.core_language.specs.Items.{Items, items_tokens, file_tree, AreWellFormedItems}

-- These tokens are a core file with this tree, by this derivation.
pub record IsCoreFile (tokens : List Token) (tree : Forest) : Type 0 where
  pub items : Items
  pub well_formed : AreWellFormedItems items
  pub has_tokens : items_tokens items [] ≡ tokens
  pub has_tree : file_tree items ≡ tree

-- These tokens are a core type with this tree.
pub record IsCoreType (tokens : List Token) (tree : Forest) : Type 0 where
  pub type : CoreType
  pub has_tokens : type_tokens type [] ≡ tokens
  pub has_tree : type_tree type End ≡ tree

-- These tokens are a core expression with this tree.
pub record IsCoreExpression (tokens : List Token) (tree : Forest) : Type 0 where
  pub expression : Expression
  pub well_formed : IsWellFormed expression
  pub has_tokens : expression_tokens expression [] ≡ tokens
  pub has_tree : expression_tree expression End ≡ tree

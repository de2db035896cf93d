-- What holds of the core language.
use Rattle.std.specs.Prelude.{◌≡◌, Bool, true, false, ◌&&◌, List}
use Rattle.parser_input.specs.Input.{Token}
use Rattle.parser_events.specs.Forest.{Forest, End, Leaf, Said, ErrorLeaf, Node, Float}
use Rattle.rust_grammar.specs.Rule.{any_type, expression, source_file}
use Rattle.rust_grammar.specs.Entry.{entry}
use Rattle.rust_grammar.specs.Whole.{whole}
use Rattle.core_language.specs.Language.{IsCoreFile, IsCoreType, IsCoreExpression}
use Rattle.core_language.specs.Spaced.{spaced}
use Rattle.core_language.specs.Tokens.{of_whole}

-- no message, no error and no mark of a float
unfoldable pub is_clean : Forest → Bool
is_clean End = true
is_clean (Leaf kind count f) = is_clean f
is_clean (Said message f) = false
is_clean (ErrorLeaf message kind f) = false
is_clean (Node kind children f) = is_clean children && is_clean f
is_clean (Float ends_in_dot receiver f) = false

-- Where the input is a core file, the grammar gives its tree.
abbrev pub CoreFilesAreRead : Type 0
CoreFilesAreRead = (tokens : List Token) (tree : Forest) → IsCoreFile tokens tree → entry whole source_file tokens ≡ tree

-- Where the input is a core type, the grammar's entry for types gives its tree.
abbrev pub CoreTypesAreRead : Type 0
CoreTypesAreRead = (tokens : List Token) (tree : Forest) → IsCoreType tokens tree → entry whole any_type tokens ≡ tree

-- Where the input is a core expression, the grammar's entry for expressions gives its tree.
abbrev pub CoreExpressionsAreRead : Type 0
CoreExpressionsAreRead = (tokens : List Token) (tree : Forest) → IsCoreExpression tokens tree → entry whole expression tokens ≡ tree

-- Where the input is a core file but for its tokens' flag, which says that the whole language is read, the grammar
-- gives its tree.
abbrev pub WholeReadsCoreFiles : Type 0
WholeReadsCoreFiles = (tokens : List Token) (tree : Forest) → IsCoreFile tokens tree → entry whole source_file (of_whole tokens) ≡ tree

-- Where the input is a core type but for its tokens' flag, the grammar's entry for types gives its tree.
abbrev pub WholeReadsCoreTypes : Type 0
WholeReadsCoreTypes = (tokens : List Token) (tree : Forest) → IsCoreType tokens tree → entry whole any_type (of_whole tokens) ≡ tree

-- Where the input is a core expression but for its tokens' flag, the grammar's entry for expressions gives its tree.
abbrev pub WholeReadsCoreExpressions : Type 0
WholeReadsCoreExpressions = (tokens : List Token) (tree : Forest) → IsCoreExpression tokens tree → entry whole expression (of_whole tokens) ≡ tree

-- An input is a core file with one tree at most.
abbrev pub CoreFilesHaveOneTree : Type 0
CoreFilesHaveOneTree = (tokens : List Token) (tree other : Forest) → IsCoreFile tokens tree → IsCoreFile tokens other → tree ≡ other

-- It is a core type with one tree at most.
abbrev pub CoreTypesHaveOneTree : Type 0
CoreTypesHaveOneTree = (tokens : List Token) (tree other : Forest) → IsCoreType tokens tree → IsCoreType tokens other → tree ≡ other

-- It is a core expression with one tree at most.
abbrev pub CoreExpressionsHaveOneTree : Type 0
CoreExpressionsHaveOneTree =
    (tokens : List Token) (tree other : Forest) → IsCoreExpression tokens tree → IsCoreExpression tokens other → tree ≡ other

-- An input is a core file by one derivation at most.
abbrev pub CoreFilesHaveOneDerivation : Type 0
CoreFilesHaveOneDerivation =
    (tokens : List Token) (tree other : Forest) (one : IsCoreFile tokens tree) (two : IsCoreFile tokens other) → one.items ≡ two.items

-- It is a core type by one derivation at most.
abbrev pub CoreTypesHaveOneDerivation : Type 0
CoreTypesHaveOneDerivation =
    (tokens : List Token) (tree other : Forest) (one : IsCoreType tokens tree) (two : IsCoreType tokens other) → one.type ≡ two.type

-- It is a core expression by one derivation at most.
abbrev pub CoreExpressionsHaveOneDerivation : Type 0
CoreExpressionsHaveOneDerivation =
    (tokens : List Token) (tree other : Forest) (one : IsCoreExpression tokens tree) (two : IsCoreExpression tokens other)
    → one.expression ≡ two.expression

-- A core tree says nothing: it has no message, no error and no mark of a float.
abbrev pub CoreFilesAreClean : Type 0
CoreFilesAreClean = (tokens : List Token) (tree : Forest) → IsCoreFile tokens tree → is_clean tree ≡ true

-- So is the tree of a core type.
abbrev pub CoreTypesAreClean : Type 0
CoreTypesAreClean = (tokens : List Token) (tree : Forest) → IsCoreType tokens tree → is_clean tree ≡ true

-- So is the tree of a core expression.
abbrev pub CoreExpressionsAreClean : Type 0
CoreExpressionsAreClean = (tokens : List Token) (tree : Forest) → IsCoreExpression tokens tree → is_clean tree ≡ true

-- The leaves of a core file's tree, with whitespace between them, are a core list of that tree, whatever its floats are.
abbrev pub SpacedCoreFilesAreCore : Type 0
SpacedCoreFilesAreCore = (tokens : List Token) (tree : Forest) (floats : List Bool) → IsCoreFile tokens tree → IsCoreFile (spaced tree floats) tree

-- The leaves of a core type's tree, with whitespace between them, are a core list of that tree, whatever its floats are.
abbrev pub SpacedCoreTypesAreCore : Type 0
SpacedCoreTypesAreCore = (tokens : List Token) (tree : Forest) (floats : List Bool) → IsCoreType tokens tree → IsCoreType (spaced tree floats) tree

-- The leaves of a core expression's tree, with whitespace between them, are a core list of that tree, whatever its floats are.
abbrev pub SpacedCoreExpressionsAreCore : Type 0
SpacedCoreExpressionsAreCore =
    (tokens : List Token) (tree : Forest) (floats : List Bool)
    → IsCoreExpression tokens tree → IsCoreExpression (spaced tree floats) tree

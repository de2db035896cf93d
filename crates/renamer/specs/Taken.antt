-- Renamings: of all identifiers with a name; or of identifiers or lifetimes, which leave macro names: metavariables, as `x` in `$x`, and
-- fragment specifiers, as `expr` in `$x:expr`.
use Rattle.std.specs.Prelude.{ℕ, Bool, true, false, ◌&&◌, ◌||◌, not, List, [], ◌∷◌, ◌++◌, if◌then◌else◌}
use Rattle.rowan_green.specs.Forest.{Forest, empty, node, leaf, Tree}
use Rattle.rowan_green.specs.Leaf.{Leaf, same_leaf}
use Rattle.rowan.specs.Around.{Cursor, place_in, siblings_before}
use Rattle.rowan.specs.Place.{Place, kind_at, text_at}
use Rattle.parser_input.specs.Kind.{is_trivia}
use Rattle.parser_input.specs.Kinds.{IDENT}
use Rattle.syntax_tree.specs.declared.element.SyntaxElement.{SyntaxElement}
use Rattle.syntax_tree.specs.declared.element.SyntaxElement.TheVariants.{Node, Token}
use Rattle.token_names.specs.MacroNames.{is_macro_name}
use Rattle.token_names.specs.Names.{kind_of_name}
use Rattle.renamer.specs.declared.element.Names.{Names}

-- The names of a renaming, and whether it is one that leaves macro names.
pub record Naming : Type 0 where
  pub old : List ℕ
  pub new : List ℕ
  pub leaves_macro_names : Bool

abbrev pub naming : (old new : List ℕ) (leaves_macro_names : Bool) → Naming
naming old new leaves = record { old = old; new = new; leaves_macro_names = leaves }

-- that of identifiers or lifetimes, which leaves macro names
abbrev pub but_macro_names : (old new : List ℕ) → Naming
but_macro_names old new = naming old new true

-- that of all identifiers
abbrev pub of_all : (old new : List ℕ) → Naming
of_all old new = naming old new false

-- the names in code
abbrev pub naming_of : Names → Naming
naming_of names = naming names.old.now names.new.now names.leaves_macro_names

-- the kind of the tokens that are renamed: where macro names are left, lifetimes if the name begins with a quote; else identifiers
abbrev pub named_kind : Naming → ℕ
named_kind by = if by.leaves_macro_names then kind_of_name by.old else IDENT

-- the leaf that is renamed
abbrev pub named_leaf : Naming → Leaf
named_leaf by = record { kind = named_kind by; text = by.old }

-- kinds, the nearest first, with that of the next sibling, unless it is trivia
abbrev pub behind : (kind : ℕ) (before : List ℕ) → List ℕ
behind kind before = if is_trivia kind then before else kind ∷ before

-- Behind siblings of these kinds a token `old` is left: it is a macro name, or would become one.
abbrev pub is_left : Naming → (before : List ℕ) → Bool
is_left by before = by.leaves_macro_names && (is_macro_name by.old before || is_macro_name by.new before)

-- Behind siblings of these kinds a leaf is renamed.
abbrev pub is_taken : Naming → (before : List ℕ) → Leaf → Bool
is_taken by before l = same_leaf l (named_leaf by) && not (is_left by before)

-- the texts of all leaves behind siblings of these kinds, joined: of those that are renamed the text is the new name
abbrev pub taken_leaves : Naming → (before : List ℕ) → Forest → List ℕ
taken_leaves by before empty = []
taken_leaves by before (node k f r) = taken_leaves by [] f ++ taken_leaves by (behind k before) r
taken_leaves by before (leaf l r) = (if is_taken by before l then by.new else l.text) ++ taken_leaves by (behind l.kind before) r

-- the text of a tree after the renaming
abbrev pub taken_text : Naming → Tree → List ℕ
taken_text by t = taken_leaves by [] t.forest

-- the elements behind siblings of these kinds, with the leaf `new` for each that is renamed
abbrev pub taken_forest : Naming → (new : Leaf) (before : List ℕ) → Forest → Forest
taken_forest by new before empty = empty
taken_forest by new before (node k f r) = node k (taken_forest by new [] f) (taken_forest by new (behind k before) r)
taken_forest by new before (leaf l r) = leaf (if is_taken by before l then new else l) (taken_forest by new (behind l.kind before) r)

-- the tree with the leaf `new` for each that is renamed
abbrev pub taken_tree : Naming → (new : Leaf) → Tree → Tree
taken_tree by new t = record { kind = t.kind; forest = taken_forest by new [] t.forest }

-- ---- at a place of a tree

-- the kinds of elements that are no trivia
abbrev pub kinds_of : List Cursor → List ℕ
kinds_of [] = []
kinds_of (c ∷ cs) = behind (kind_at (place_in c)) (kinds_of cs)

-- the kinds of the siblings before a place that are no trivia, the nearest first
abbrev pub kinds_before : Place → List ℕ
kinds_before p = kinds_of (siblings_before p)

-- An element is renamed.
abbrev pub takes : Naming → SyntaxElement → Bool
takes by (Node e) = false
takes by (Token e) = is_taken by (kinds_before e.place) (record { kind = kind_at e.place; text = text_at e.place })

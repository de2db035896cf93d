-- Elements of a tree, their children, and the children that a match compares.
use Rattle.std.specs.Prelude.{ℕ, ◌==◌, not, Bool, false, List, [], ◌∷◌, map, Option, Some, None}
use Rattle.std.specs.List.{filter}
use Rattle.std.specs.Cmp.Lexicographic.{pointwise}
use Rattle.rowan_green.specs.Leaf.{Leaf, same_leaf}
use Rattle.rowan_green.specs.Term.{Term}
use Rattle.rowan_green.specs.declared.utility_types.NodeOrToken.TheVariants as terms
use Rattle.rowan.specs.Place.{kind_at}
use Rattle.rowan.specs.Around.{children}
use Rattle.syntax_tree.specs.Element.{Element, term_of}
use Rattle.syntax_tree.specs.Handle.{element_of, with_cursor}
use Rattle.syntax_tree.specs.declared.element.SyntaxElement.{SyntaxElement}
use Rattle.syntax_tree.specs.declared.element.SyntaxElement.TheVariants.{Node, Token}
use Rattle.tree_patterns.specs.Bones.{is_bone, is_trivia}
use Rattle.tree_patterns.specs.Leaves.{leaves}
use Rattle.tree_patterns.specs.Places.{may_be}
use Rattle.tree_patterns.specs.declared.place.Place.{Place}

-- the raw number of its kind
abbrev pub kind_of : SyntaxElement → ℕ
kind_of e = kind_at (element_of e).place

-- the children of a node, in order
abbrev pub children_of : Element → List SyntaxElement
children_of e = map (with_cursor e.number) (children e.place)

-- the children that a match compares
abbrev pub bones_of : Element → List SyntaxElement
bones_of e = filter (λ c. is_bone (kind_at e.place) (kind_of c)) (children_of e)

abbrev pub children_below : SyntaxElement → List SyntaxElement
children_below (Node e) = children_of e
children_below (Token e) = []

abbrev pub bones_below : SyntaxElement → List SyntaxElement
bones_below (Node e) = bones_of e
bones_below (Token e) = []

-- it is a node of this kind
abbrev pub is_node : ℕ → SyntaxElement → Bool
is_node kind (Node e) = kind_at e.place == kind
is_node kind (Token e) = false

abbrev pub is_leaf_in : Leaf → Option Term → Bool
is_leaf_in l None = false
is_leaf_in l (Some (terms.Node t)) = false
is_leaf_in l (Some (terms.Token m)) = same_leaf m l

-- it is this token
abbrev pub is_leaf : Leaf → SyntaxElement → Bool
is_leaf l e = is_leaf_in l (term_of (element_of e))

abbrev pub may_stand_in : Place → Option Term → Bool
may_stand_in place None = false
may_stand_in place (Some t) = may_be place t

-- a place for one element may stand for it
abbrev pub may_stand : Place → SyntaxElement → Bool
may_stand place e = may_stand_in place (term_of (element_of e))

abbrev pub tokens_in : Option Term → List Leaf
tokens_in None = []
tokens_in (Some (terms.Node t)) = filter (λ l. not (is_trivia l.kind)) (leaves t.forest)
tokens_in (Some (terms.Token l)) = l ∷ []

-- its tokens, without whitespace and comments
abbrev pub tokens_of : SyntaxElement → List Leaf
tokens_of e = tokens_in (term_of (element_of e))

-- two elements have the same tokens
abbrev pub has_tokens_of : SyntaxElement → SyntaxElement → Bool
has_tokens_of a b = pointwise same_leaf (tokens_of a) (tokens_of b)

-- two runs have as many elements, each with the tokens of the other's
abbrev pub same_tokens : List SyntaxElement → List SyntaxElement → Bool
same_tokens = pointwise has_tokens_of

-- The elements of a rewritten tree that came from one.
use Rattle.std.specs.Prelude.{◌≡◌, ℕ, ◌+◌, List, [], ◌∷◌, ◌++◌, map, Option, Some, None, Bool}
use Rattle.std.specs.List.{filter}
use Rattle.syntax_tree.specs.Element.{Way, Element, same_element}
use Rattle.tree_rewrite.specs.Marked.{Marked, nothing, inner, token, Mark, origins}
use Rattle.tree_rewrite.specs.Fits.{IsNode}

-- the way of each element with its mark, in preorder, in a list of children of the element at `w`, from a number on
abbrev pub marks_from : Marked → Way → ℕ → List (Way × Mark)
marks_from nothing w i = []
marks_from (inner m k f r) w i = (i ∷ w, m) ∷ (marks_from f (i ∷ w) 0 ++ marks_from r w (i + 1))
marks_from (token m l r) w i = (i ∷ w, m) ∷ marks_from r w (i + 1)

-- those in a tree
abbrev pub marks : Marked → List (Way × Mark)
marks nothing = []
marks (inner m k f r) = ([], m) ∷ marks_from f [] 0
marks (token m l r) = ([], m) ∷ []

-- those whose partner passes
abbrev pub picked : {X Y : Type 0} → (Y → Bool) → List (X × Y) → List X
picked p xs = map (λ x. x.0) (filter (λ x. p x.1) xs)

-- the ways of the elements of a tree that were copied from this one
abbrev pub found : Marked → Element → List Way
found m e = picked (λ k. same_element k.origin e) (marks m)

-- none where none is looked for
abbrev pub found_if : Marked → Option Element → List Way
found_if m None = []
found_if m (Some e) = found m e

-- the root of the tree of a term, and where each of its elements came from, in preorder
pub record AreOrigins (m : Marked) (root : Element) (es : List Element) : Type 0 where
  pub top : root.place.up ≡ []
  pub tree : IsNode m root.place.root
  pub origins : es ≡ origins m

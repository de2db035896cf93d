-- The matches in elements.
use Rattle.std.specs.Prelude.{◌≡◌, ℕ, ◌||◌, not, Bool, List, [], ◌∷◌, ◌++◌, codes, Option, Some, None, if◌then◌else◌}
use Rattle.std.specs.List.{list_any}
use Rattle.std.specs.Str.{bytes_eq}
use Rattle.syntax_tree.specs.declared.element.SyntaxElement.{SyntaxElement}
use Rattle.tree_patterns.specs.Patterns.{Shape}
use Rattle.tree_search.specs.Elements.{children_below}
use Rattle.tree_search.specs.Fit.{Bound}
use Rattle.tree_search.specs.Matching.{Names, matched, names}

-- a match: an element, and what the places of the pattern stand for
pub record Found : Type 0 where
  pub element : SyntaxElement
  pub bound : Bound

-- a place is the first one of its name, or has none
abbrev pub is_first : (seen : Names) → List ℕ → Bool
is_first seen n = bytes_eq n (codes "_") || not (list_any (λ m. bytes_eq m n) seen)

-- the elements that the first places of names stand for, in order
abbrev pub bound_elements : (seen ns : Names) → Bound → List SyntaxElement
bound_elements seen [] bound = []
bound_elements seen (n ∷ ns) [] = []
bound_elements seen (n ∷ ns) (v ∷ vs) = (if is_first seen n then v else []) ++ bound_elements (seen ++ n ∷ []) ns vs

-- These are the matches in these elements, in order: none in no elements; of an element that matches, itself, then those in its
-- bindings; of another one, those in its children; then those in the other elements.
pub data AreMatches (p : Shape) : List SyntaxElement → List Found → Type 0 where
  none : AreMatches p [] []
  match : (e : SyntaxElement) (es : List SyntaxElement) (bound : Bound) (ms : List Found)
      → matched p e ≡ Some bound
      → AreMatches p (bound_elements [] (names p) bound ++ es) ms
      → AreMatches p (e ∷ es) (record { element = e; bound = bound } ∷ ms)
  other : (e : SyntaxElement) (es : List SyntaxElement) (ms : List Found)
      → matched p e ≡ None
      → AreMatches p (children_below e ++ es) ms
      → AreMatches p (e ∷ es) ms

-- what is searched next, behind an element
abbrev pub searched : Shape → SyntaxElement → Option Bound → List SyntaxElement
searched p e None = children_below e
searched p e (Some bound) = bound_elements [] (names p) bound

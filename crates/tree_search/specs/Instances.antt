-- What it means to fit, in rules: an element list is an instance of a forest of a pattern, with these runs in its places.
use Rattle.std.specs.Prelude.{◌≡◌, ℕ, ◌+◌, ◌≤◌, ◌&&◌, Bool, true, false, nat_le, List, [], ◌∷◌, ◌++◌, length, Option, Some, None, if◌then◌else◌}
use Rattle.rowan_green.specs.Forest.{Forest, empty, node, leaf}
use Rattle.rowan_green.specs.Leaf.{Leaf}
use Rattle.syntax_tree.specs.declared.element.SyntaxElement.{SyntaxElement}
use Rattle.tree_patterns.specs.Places.{is_sequence, place_of}
use Rattle.tree_patterns.specs.declared.place.Place.{Place}
use Rattle.tree_search.specs.Elements.{bones_below, is_leaf, is_node, may_stand}
use Rattle.tree_search.specs.Fit.{Bound, fit, may_run}

-- Whitespace, comments and the commas of lists aside, the elements are the forest with its places replaced by these runs: a node is
-- a node of its kind whose bones are an instance of its children, a token is itself, a place for one element is one that it may
-- stand for, a sequence any run that it may stand for.
pub data IsInstance : Forest → List SyntaxElement → Bound → Type 0 where
  ends : IsInstance empty [] []
  nodes : (k : ℕ) (f r : Forest) (e : SyntaxElement) (es : List SyntaxElement) (v w : Bound)
      → is_node k e ≡ true → IsInstance f (bones_below e) v → IsInstance r es w
      → IsInstance (node k f r) (e ∷ es) (v ++ w)
  token : (l : Leaf) (r : Forest) (e : SyntaxElement) (es : List SyntaxElement) (w : Bound)
      → place_of l.kind ≡ None → is_leaf l e ≡ true → IsInstance r es w
      → IsInstance (leaf l r) (e ∷ es) w
  one : (l : Leaf) (r : Forest) (place : Place) (e : SyntaxElement) (es : List SyntaxElement) (w : Bound)
      → place_of l.kind ≡ Some place → is_sequence place ≡ false → may_stand place e ≡ true → IsInstance r es w
      → IsInstance (leaf l r) (e ∷ es) ((e ∷ []) ∷ w)
  run : (l : Leaf) (r : Forest) (place : Place) (xs es : List SyntaxElement) (w : Bound)
      → place_of l.kind ≡ Some place → is_sequence place ≡ true → may_run place xs ≡ true → IsInstance r es w
      → IsInstance (leaf l r) (xs ++ es) (xs ∷ w)

abbrev pub is_single : Option Place → Bool
is_single None = true
is_single (Some place) = if is_sequence place then false else true

-- no sequence is among these elements of a pattern
abbrev pub has_no_sequence : Forest → Bool
has_no_sequence empty = true
has_no_sequence (node k f r) = has_no_sequence r
has_no_sequence (leaf l r) = is_single (place_of l.kind) && has_no_sequence r

-- a sequence has no other one behind it
abbrev pub is_last : Option Place → Bool → Bool
is_last None others = true
is_last (Some place) others = if is_sequence place then others else true

-- each list of a pattern has one sequence at most
abbrev pub has_single_sequences : Forest → Bool
has_single_sequences empty = true
has_single_sequences (node k f r) = has_single_sequences f && has_single_sequences r
has_single_sequences (leaf l r) = is_last (place_of l.kind) (has_no_sequence r) && has_single_sequences r

-- what is bound makes an instance
abbrev pub MatchesAreInstances : Type 0
MatchesAreInstances =
    (f : Forest) (es : List SyntaxElement) (before after : Bound)
    → fit f es before ≡ Some after → (bound : Bound) × (after ≡ before ++ bound) × IsInstance f es bound

-- each instance is found, and its runs are what is bound, where no list has two sequences
abbrev pub InstancesMatch : Type 0
InstancesMatch =
    (f : Forest) (es : List SyntaxElement) (before bound : Bound)
    → has_single_sequences f ≡ true → IsInstance f es bound → fit f es before ≡ Some (before ++ bound)

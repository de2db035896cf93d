-- Marks of inserted elements, piece by piece. Model of the code; only proofs use it.
use Rattle.std.specs.Prelude.{◌≡◌, List, [], ◌∷◌, ◌++◌, map, reverse, Option, Bool, false}
use Rattle.tree_rewrite.specs.Marked.{Marked, put_marks}
use Rattle.tree_rewrite.specs.Pieces.{Around, outside, in_node, in_group, Stand}
use Rattle.tree_rewrite.specs.Tracking.{is_put, told_in, as_told}
use Rattle.tree_rewrite.specs.declared.put.Puts.{Puts}

-- none of these elements is marked
abbrev pub none_put : {A : Type 0} → List A → List Bool
none_put xs = map (λ x. false) xs

-- of the elements of a piece, only the first is in the list itself
abbrev pub first_put : {A : Type 0} → Bool → List A → List Bool
first_put b [] = []
first_put b (x ∷ xs) = b ∷ none_put xs

-- the marks of a list with these open nodes and groups around it
abbrev pub marks_of : Marked → Around → List Bool
marks_of d a = put_marks (as_told (told_in a) d)

-- the marks of all elements before the list
abbrev pub marks_before : Around → List Bool
marks_before outside = []
marks_before (in_node d e a) = marks_before a ++ (marks_of d a ++ is_put (told_in a) ∷ [])
marks_before (in_group d b a) = marks_before a ++ marks_of d a

-- the flag of each list that was entered, innermost first
abbrev pub told_around : Around → List (Option Bool)
told_around outside = []
told_around (in_node d e a) = told_in a ∷ told_around a
told_around (in_group d b a) = told_in a ∷ told_around a

-- the marks up to this point, and the open nodes and groups around it
pub record MarksPuts (p : Puts) (s : Stand) : Type 0 where
  pub marks : p.marks.items ≡ marks_before s.around ++ marks_of s.done s.around
  pub told : p.told ≡ told_in s.around
  pub around : reverse p.around.items ≡ told_around s.around

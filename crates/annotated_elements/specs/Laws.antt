-- Laws of following and of what is found.
use Rattle.std.specs.Prelude.{◌≡◌, ℕ, [], map, true, Option}
use Rattle.rowan_green.specs.Forest.{Tree}
use Rattle.syntax_tree.specs.Element.{Element, element_at}
use Rattle.syntax_tree.specs.Handle.{element_of}
use Rattle.syntax_tree.specs.Mapping.{Mapping, are_ordered}
use Rattle.syntax_tree.specs.Search.{elements}
use Rattle.tree_rewrite.specs.Marked.{Marked, origins, changed}
use Rattle.tree_rewrite.specs.Fits.{IsNode}
use Rattle.annotated_elements.specs.Following.{followed}
use Rattle.annotated_elements.specs.Follows.{Follows}
use Rattle.annotated_elements.specs.Found.{marks, picked}

-- by a mapping whose outputs are in trees of greater numbers each element leads to one end, and that is the one that is counted to
abbrev pub EndsAreOne : Type 0
EndsAreOne = (ms : Mapping) (e : Element) → are_ordered ms ≡ true → Follows ms e (followed ms e) × ((o : Option Element) → Follows ms e o → o ≡ followed ms e)

-- the elements of a rewritten tree and their origins go side by side, in preorder
abbrev pub OriginsAgree : Type 0
OriginsAgree = (m : Marked) (t : Tree) (n : ℕ) → IsNode m t
    → (map element_of (elements (element_at n t [])) ≡ map (λ x. element_at n t x.0) (marks m)) × (origins m ≡ map (λ x. x.1.origin) (marks m))

-- the inserted elements are those with the mark `put`
abbrev pub ChangedAgree : Type 0
ChangedAgree = (m : Marked) → changed m ≡ picked (λ k. k.put) (marks m)

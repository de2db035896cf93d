-- Which changes of elements that were named alone an editor has noted.
use Rattle.std.specs.Prelude.{◌≡◌, ℕ, suc, ◌≤◌, List, [], ◌∷◌, length, take, map, Bool, false, ◌&&◌, Option, Some, None, option_map, if◌then◌else◌}
use Rattle.std.specs.HashMap.{HashMap}
use Rattle.syntax_tree.specs.Element.{Way, same_way, term_of}
use Rattle.syntax_tree.specs.Handle.{element_of}
use Rattle.syntax_tree.specs.declared.element.SyntaxElement.{SyntaxElement}
use Rattle.tree_rewrite.specs.Change.{Change}
use Rattle.tree_rewrite.specs.Moved.{same_kind}
use Rattle.tree_rewrite.specs.declared.change.Change as declared
use Rattle.tree_rewrite.specs.declared.change.Change.TheVariants.{Insert, Replace}
use Rattle.syntax_editor.specs.Recording.{is_single_at, is_empty}
use Rattle.syntax_editor.specs.ByWay.{way_of, number_at}
use Rattle.syntax_editor.specs.declared.by_way.Named.{Named}

-- the number of the first change of the element there that was named alone; none where there is none
abbrev pub first_single : Way → List Change → Option ℕ
first_single w [] = None
first_single w (c ∷ cs) = if is_single_at w c then Some 0 else option_map suc (first_single w cs)

-- the change deletes the element that has the path of this one, named alone, and both have one kind
abbrev pub is_deletion_of : SyntaxElement → declared.Change → Bool
is_deletion_of x (Insert p new) = false
is_deletion_of x (Replace first last new single) =
    single && same_way (way_of first) (way_of x) && is_empty (map element_of new.items)
    && same_kind (term_of (element_of first)) (term_of (element_of x))

-- the map has just these numbers
pub record HasSingles {S : Type 0} (m : HashMap Named ℕ S) (cs : List Change) : Type 0 where
  pub singles : (w : Way) → number_at m w ≡ first_single w cs

-- the map has just these numbers of the first `n` changes
pub record AreNoted {S : Type 0} (m : HashMap Named ℕ S) (n : ℕ) (cs : List Change) : Type 0 where
  pub within : n ≤ length cs
  pub singles : HasSingles m (take n cs)

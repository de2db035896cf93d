-- The inserted elements of a rewritten tree.
use Rattle.std.specs.Prelude.{◌≡◌, [], List, Bool}
use Rattle.syntax_tree.specs.Element.{Element}
use Rattle.tree_rewrite.specs.Fits.{IsNode}
use Rattle.tree_rewrite.specs.Marked.{Marked, put_marks}

-- the root of the tree of a term, and whether each of its elements is inserted, in preorder
pub record ArePutMarks (m : Marked) (root : Element) (bs : List Bool) : Type 0 where
  pub top : root.place.up ≡ []
  pub tree : IsNode m root.place.root
  pub marks : bs ≡ put_marks m

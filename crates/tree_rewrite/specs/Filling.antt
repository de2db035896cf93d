-- Open nodes, whose children are appended one by one. Model of the code; only proofs use it.
use Rattle.std.specs.Prelude.{◌≡◌, ℕ, ◌+◌, ◌*◌, ◌<◌, List, [], ◌∷◌, length, map, drop, Option, Some, None}
use Rattle.rowan_green.specs.Forest.{Forest, forest_count}
use Rattle.rowan_green.specs.Term.{terms}
use Rattle.rowan.specs.Place.{terms_below}
use Rattle.rowan.specs.Around.{numbered}
use Rattle.syntax_tree.specs.Element.{Way, Element, term_of}
use Rattle.syntax_tree.specs.Handle.{element_of, with_cursor}
use Rattle.syntax_tree.specs.declared.element.SyntaxElement.{SyntaxElement}
use Rattle.tree_rewrite.specs.Marked.{Marked, join, origin_at, filled}
use Rattle.tree_rewrite.specs.Moved.{way_above}
use Rattle.tree_rewrite.specs.Rewrite.{Job}
use Rattle.tree_rewrite.specs.Fill.{Given, laid, at_gap, inside, standing}
use Rattle.tree_rewrite.specs.Below.{lists_of, AreLists}
use Rattle.tree_rewrite.specs.Pieces.{Stand, added, after, after_piece}
use Rattle.tree_rewrite.specs.declared.piece.Piece.{Piece}
use Rattle.tree_rewrite.specs.declared.piece.Piece.TheVariants.{Close}
use Rattle.tree_rewrite.specs.declared.piece.Put.{Put}
use Rattle.tree_rewrite.specs.declared.fill.Level.{Level}

-- ---- one open node

-- the element at `w` comes from this one
abbrev pub IsFrom : Element → Element → Way → Type 0
IsFrom x e w = x ≡ (origin_at e w).origin

-- the number of elements of an element, with the element itself
abbrev pub size_of : Element → ℕ
size_of x = 1 + forest_count (inside (term_of x))

-- the children of a node from an index on
pub record ChildrenLeft (x : Element) (i : ℕ) (left : List SyntaxElement) : Type 0 where
  pub rest : Forest
  pub left_is : left ≡ map (with_cursor x.number) (numbered x.place i (terms rest))
  pub drops : terms rest ≡ drop i (terms_below x.place)
  pub fewer : forest_count rest < size_of x

-- the open node is the one at `w`, and there is a list for each of its gaps
pub record IsOpen (e : Element) (w : Way) (l : Level) : Type 0 where
  pub left : ChildrenLeft (origin_at e w).origin l.index l.children
  pub bound : l.index < length l.lists.items
  pub count : length l.lists.items ≡ length (terms_below (origin_at e w).origin.place) + 1

-- none of its children is appended
pub record IsNew (e : Element) (w : Way) (l : Level) : Type 0 where
  pub is_open : IsOpen e w l
  pub first : l.index ≡ 0
  pub all : is_open.left.rest ≡ inside (term_of (origin_at e w).origin)

-- the contents of the gap before a child, and the child
abbrev pub child_in : List Given → Option Way → Element → Way → ℕ → Element → Marked
child_in gs n e w i x = join (at_gap gs n w i) (standing (laid gs n) e (i ∷ w) (term_of x))

-- these terms are appended, and the node around them is closed
pub record Closes (old new : List Piece) (m : Marked) : Type 0 where
  pub says : (s : Stand) → after new s ≡ after_piece Close (added m (after old s))

-- ---- all open nodes, the innermost first, which is the one at `w`

abbrev pub AreOpen : Element → Way → List Level → Type 0
AreOpen e w [] = Unit {0}
AreOpen e w (l ∷ ls) = IsOpen e w l × AreOpen e (way_above w) ls

-- their remaining children, appended to `s`, lead to `t`
abbrev pub LeadTo : List Job → List Put → Option Way → Element → Way → List Level → Stand → Stand → Type 0
LeadTo all ps n e w [] s t = s ≡ t
LeadTo all ps n e w (l ∷ ls) s t =
    (gs : List Given) × AreLists all ps (lists_of l.lists.items) n w gs
    × (c : ChildrenLeft (origin_at e w).origin l.index l.children)
    × LeadTo all ps n e (way_above w) ls (after_piece Close (added (filled (laid gs n) e w l.index c.rest) s)) t

-- with one more, if it is open
abbrev pub with_opened : Option Level → List Level → List Level
with_opened None ls = ls
with_opened (Some l) ls = l ∷ ls

-- ---- the steps that are left

abbrev pub sizes_of : List SyntaxElement → ℕ
sizes_of [] = 0
sizes_of (x ∷ xs) = size_of (element_of x) + sizes_of xs

abbrev pub level_size : Level → ℕ
level_size l = 2 * sizes_of l.children + 1

abbrev pub level_sizes : List Level → ℕ
level_sizes [] = 0
level_sizes (l ∷ ls) = level_size l + level_sizes ls

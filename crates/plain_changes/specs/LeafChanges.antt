-- Recorded changes that replace leaves by leaves.
use Rattle.std.specs.Prelude.{◌≡◌, ◌<◌, ◌^◌, List, [], ◌∷◌, Some, Bool, true, false, map, is_some, length}
use Rattle.rowan_green.specs.Leaf.{Leaf}
use Rattle.rowan_green.specs.Forest.{Forest, node, empty, Tree, forest_text, forest_count, tree_count}
use Rattle.rowan_green.specs.declared.utility_types.NodeOrToken.TheVariants.{Token}
use Rattle.rowan.specs.Place.{term_by}
use Rattle.syntax_tree.specs.Element.{Way, Element, term_of}
use Rattle.syntax_tree.specs.Mapping.{Mapping}
use Rattle.tree_rewrite.specs.Change.{Change, replace, has_collision}
use Rattle.tree_rewrite.specs.Fits.{new_fits}
use Rattle.tree_rewrite.specs.Marked.{Marked, forest_in}
use Rattle.tree_rewrite.specs.Rewrite.{jobs, rewrite}
use Rattle.plain_names.specs.Replacements.{Replacement, with_leaves, AreApart}

-- The leaf `old` at an up-path is replaced by `element`, which is the leaf `new`.
pub record LeafChange : Type 0 where
  pub up : Way
  pub old : Leaf
  pub element : Element
  pub new : Leaf
  pub single : Bool

-- the recorded change
abbrev pub change_of : LeafChange → Change
change_of c = replace c.up 0 (c.element ∷ []) c.single

abbrev pub replacement_of : LeafChange → Replacement
replacement_of c = record { up = c.up; leaf = c.new }

-- the tree with its leaves replaced
abbrev pub replaced : Tree → List LeafChange → Tree
replaced t cs = record { kind = t.kind; forest = with_leaves (map replacement_of cs) [] 0 t.forest }

-- a tree as the only element of a forest
abbrev pub whole : Tree → Forest
whole t = node t.kind t.forest empty

-- The tree has the old leaf at the up-path, and the element is the new leaf.
pub record IsLeafChange (t : Tree) (c : LeafChange) : Type 0 where
  pub is_old : term_by t c.up ≡ Some (Token c.old)
  pub is_new : term_of c.element ≡ Some (Token c.new)

abbrev pub AreLeafChanges : Tree → List LeafChange → Type 0
AreLeafChanges t [] = Unit {0}
AreLeafChanges t (c ∷ cs) = IsLeafChange t c × AreLeafChanges t cs

-- Changes that replace leaves by leaves, no two of them the same leaf, all have a place, and the
-- rewritten tree is the old one with the new leaves. The mapping does not matter.
abbrev pub LeavesAreReplaced : Type 0
LeavesAreReplaced =
    (top : Element) (cs : List LeafChange) (ms : Mapping) → top.place.up ≡ [] →
    AreLeafChanges top.place.root cs → has_collision (map change_of cs) ≡ false →
    (is_some (jobs top (map change_of cs) ms) ≡ true)
    × (forest_in (rewrite top (map change_of cs) ms) ≡ whole (replaced top.place.root cs))

-- Such changes replace leaves that are apart.
abbrev pub ReplacedLeavesAreApart : Type 0
ReplacedLeavesAreApart =
    (cs : List LeafChange) → has_collision (map change_of cs) ≡ false →
    AreApart (map replacement_of cs)

-- A rewritten tree may have its children if it has fewer than 2^32 elements and bytes.
abbrev pub SmallTreesFit : Type 0
SmallTreesFit =
    (m : Marked) → forest_count (forest_in m) < 2 ^ 32 →
    length (forest_text (forest_in m)) < 2 ^ 32 → new_fits m ≡ true

-- Replacing leaves changes no number of elements.
abbrev pub ReplacingKeepsCounts : Type 0
ReplacingKeepsCounts =
    (cs : List LeafChange) (t : Tree) → tree_count (replaced t cs) ≡ tree_count t

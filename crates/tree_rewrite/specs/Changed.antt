-- The changed ranges of a rewritten tree, in bytes of its text.
use Rattle.std.specs.Prelude.{◌≡◌, ℕ, ◌+◌, List, [], ◌∷◌, ◌++◌, length, map, Bool, true, false}
use Rattle.rowan_green.specs.Forest.{Tree, forest_text}
use Rattle.rowan_green.specs.declared.text_range.TextRange.{TextRange}
use Rattle.rowan.specs.Place.{start_by, term_by, text_in}
use Rattle.syntax_tree.specs.Element.{Way}
use Rattle.tree_rewrite.specs.Marked.{Marked, nothing, inner, token, forest_in}

-- the number of bytes of the text of a list
abbrev pub text_len : Marked → ℕ
text_len m = length (forest_text (forest_in m))

-- a range in front of others, if its element is inserted
abbrev pub if_changed : Bool → ℕ × ℕ → List (ℕ × ℕ) → List (ℕ × ℕ)
if_changed true r rs = r ∷ rs
if_changed false r rs = rs

-- the start and end of each inserted element, in preorder, in a list whose text starts at this offset
abbrev pub changed_at : Marked → ℕ → List (ℕ × ℕ)
changed_at nothing o = []
changed_at (inner m k f r) o = if_changed m.put (o, o + text_len f) (changed_at f o ++ changed_at r (o + text_len f))
changed_at (token m l r) o = if_changed m.put (o, o + length l.text) (changed_at r (o + length l.text))

abbrev pub bounds : TextRange → ℕ × ℕ
bounds r = (r.start.0, r.end.0)

-- the ranges of the inserted elements
abbrev pub AreChanged : List TextRange → Marked → Type 0
AreChanged rs m = map bounds rs ≡ changed_at m 0

-- the start and end, in the text of the tree, of the element at an up-path
abbrev pub bounds_in : Tree → Way → ℕ × ℕ
bounds_in t w = (start_by t w, start_by t w + length (text_in (term_by t w)))

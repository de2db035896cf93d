-- The images of elements, and the index of the inputs of a mapping.
use Rattle.std.specs.Prelude.{◌≡◌, ℕ, suc, List, [], ◌∷◌, ◌++◌, Option, Some, None, option_map, option_and_then, slice_get, if◌then◌else◌}
use Rattle.rowan_green.specs.Forest.{Tree}
use Rattle.syntax_tree.specs.Element.{Way, Element, same_element, element_at}
use Rattle.syntax_tree.specs.Mapping.{Mapping, or_else, image_of}
use Rattle.tree_rewrite.specs.WayTrie.{number_at}
use Rattle.tree_rewrite.specs.declared.way_trie.WayTrie.{WayTrie}

-- the images of the elements above one, from the root down; none for an element that is not mapped
abbrev pub images_above : Mapping → ℕ → Tree → Way → List (Option Element)
images_above ms n t [] = []
images_above ms n t (i ∷ w) = images_above ms n t w ++ image_of ms (element_at n t w) ∷ []

-- the images of the elements from the root down to one, itself included
abbrev pub images_to : Mapping → ℕ → Tree → Way → List (Option Element)
images_to ms n t w = images_above ms n t w ++ image_of ms (element_at n t w) ∷ []

-- ---- the index: a model of the code, used by proofs only

-- the index of the last entry with this input, if any; the entries are numbered from `i` on
abbrev pub last_of : ℕ → Mapping → Element → Option ℕ
last_of i [] e = None
last_of i (m ∷ ms) e = or_else (last_of (suc i) ms e) (if same_element m.0 e then Some i else None)

-- the output of the entry at an index, if any
abbrev pub output_in : Mapping → Option ℕ → Option Element
output_in ms o = option_and_then (λ k. option_map (λ m. m.1) (slice_get ms k)) o

-- the trie has the index of the last entry of each input, by its up-path with the number of its tree at the end
abbrev pub IsIndex : WayTrie → Mapping → Type 0
IsIndex t ms = (n : ℕ) (s : Tree) (w : Way) → number_at t (w ++ n ∷ []) ≡ last_of 0 ms (element_at n s w)

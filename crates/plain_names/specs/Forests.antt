-- Forests whose texts are mapped, character by character, and forests that differ in one text.
use Rattle.std.specs.Prelude.{◌≡◌, ℕ, List, [], ◌++◌}
use Rattle.std.specs.List.{flat_map}
use Rattle.rowan_green.specs.Leaf.{Leaf}
use Rattle.rowan_green.specs.Forest.{Forest, empty, node, leaf, forest_text}

-- a leaf of a kind, with a text
abbrev pub leaf_of : ℕ → List ℕ → Leaf
leaf_of kind text = record { kind = kind; text = text }

-- the forest with each text's characters mapped
abbrev pub mapped_texts : (ℕ → List ℕ) → Forest → Forest
mapped_texts g empty = empty
mapped_texts g (node k f r) = node k (mapped_texts g f) (mapped_texts g r)
mapped_texts g (leaf l r) = leaf (leaf_of l.kind (flat_map g l.text)) (mapped_texts g r)

-- Two forests with one text are equal if they are equal once mapped. No character is mapped to
-- nothing.
abbrev pub MappedForestsAreOne : Type 0
MappedForestsAreOne =
    (g : ℕ → List ℕ) (t u : Forest) → ((c : ℕ) → g c ≡ [] → ⊥) →
    mapped_texts g t ≡ mapped_texts g u → forest_text t ≡ forest_text u → t ≡ u

-- The second forest is the first one with the text `new` in a leaf with the text `old`; `front` and
-- `back` are the texts before and after that leaf.
pub data ReplacesText (old new : List ℕ) : Forest → Forest → (front back : List ℕ) → Type 0 where
  here :
      (k : ℕ) (r : Forest)
      → ReplacesText old new (leaf (leaf_of k old) r) (leaf (leaf_of k new) r) [] (forest_text r)
  past_leaf :
      (l : Leaf) (r s : Forest) (a b : List ℕ) → ReplacesText old new r s a b
      → ReplacesText old new (leaf l r) (leaf l s) (l.text ++ a) b
  inside :
      (k : ℕ) (f g r : Forest) (a b : List ℕ) → ReplacesText old new f g a b
      → ReplacesText old new (node k f r) (node k g r) a (b ++ forest_text r)
  past_node :
      (k : ℕ) (f r s : Forest) (a b : List ℕ) → ReplacesText old new r s a b
      → ReplacesText old new (node k f r) (node k f s) (forest_text f ++ a) b

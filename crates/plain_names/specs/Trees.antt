-- Dressed trees whose texts are mapped, character by character.
use Rattle.std.specs.Prelude.{◌≡◌, ℕ, ◌≤◌, ◌==◌, Bool, true, false, List, [], ◌∷◌, ◌++◌, length}
use Rattle.std.specs.List.{flat_map, list_any}
use Rattle.rowan_green.specs.Forest.{Forest, empty, node, leaf, forest_count}
use Rattle.parser_input.specs.Leaf.{Leaf, is_trivia}
use Rattle.parser_events.specs.Forest as forest
use Rattle.parser_events.specs.Dressed as dressed
use Rattle.parser_events.specs.Dressed.{Dressed}
use Rattle.parser_events.specs.Dress.{dress_root, joined}
use Rattle.parser_events.specs.TextSteps.{text_steps}
use Rattle.plain_names.specs.Forests.{leaf_of, ReplacesText}

-- dressed elements as a forest without messages, each text's characters mapped
abbrev pub dressed_forest : (ℕ → List ℕ) → Dressed → Forest
dressed_forest g dressed.End = empty
dressed_forest g (dressed.Leaf k t d) = leaf (leaf_of k (flat_map g t)) (dressed_forest g d)
dressed_forest g (dressed.Said m p d) = dressed_forest g d
dressed_forest g (dressed.Node k c d) = node k (dressed_forest g c) (dressed_forest g d)

-- The forest has no more elements than the dressed tree has steps.
abbrev pub ElementsAreSteps : Type 0
ElementsAreSteps =
    (g : ℕ → List ℕ) (d : Dressed) → forest_count (dressed_forest g d) ≤ length (text_steps d)

-- the leaves with each text's characters mapped
abbrev pub mapped_leaves : (ℕ → List ℕ) → List Leaf → List Leaf
mapped_leaves h [] = []
mapped_leaves h (l ∷ ls) = record { kind = l.kind; text = flat_map h l.text } ∷ mapped_leaves h ls

-- A dot is mapped to itself, and no other character to a text with a dot.
pub record KeepsDots (h : ℕ → List ℕ) : Type 0 where
  pub dot : h 46 ≡ 46 ∷ []
  pub others : (c : ℕ) → (c == 46) ≡ false → list_any (λ d. d == 46) (h c) ≡ false

-- Whitespace and comments are mapped to themselves.
abbrev pub KeepsTrivia : (ℕ → List ℕ) → List Leaf → Type 0
KeepsTrivia h [] = Unit {0}
KeepsTrivia h (l ∷ ls) = (is_trivia l ≡ true → flat_map h l.text ≡ l.text) × KeepsTrivia h ls

-- first `h`, then `g`
abbrev pub composed : (ℕ → List ℕ) → (ℕ → List ℕ) → ℕ → List ℕ
composed g h c = flat_map g (h c)

-- The shape of a dressed tree does not depend on its names: mapped leaves give the same tree, its
-- texts mapped.
abbrev pub TreesIgnoreNames : Type 0
TreesIgnoreNames =
    (g h : ℕ → List ℕ) (f : forest.Forest) (ls : List Leaf) → KeepsDots h → KeepsTrivia h ls →
    dressed_forest g (dress_root f (mapped_leaves h ls))
    ≡ dressed_forest (composed g h) (dress_root f ls)

-- The text contains the character.
abbrev pub has : ℕ → List ℕ → Bool
has c text = list_any (λ d. d == c) text

-- A name is neither whitespace nor a comment, and has a character and no dot.
pub record IsName (l : Leaf) : Type 0 where
  pub solid : is_trivia l ≡ false
  pub plain : has 46 l.text ≡ false
  pub some : l.text ≡ [] → ⊥

-- the forest of a text's leaves
abbrev pub forest_by : (ℕ → List ℕ) → forest.Forest → List Leaf → Forest
forest_by g f ls = dressed_forest g (dress_root f ls)

-- A renamed leaf is renamed in the tree: in the leaf that starts as far into the text as the name
-- does. The distance is measured after `q`, and `tag` is a character that is new to the text.
abbrev pub TreesFollowNames : Type 0
TreesFollowNames =
    (enc q : ℕ → List ℕ) (tag : ℕ) →
    ((c : ℕ) → has tag (enc c) ≡ false) → ((c : ℕ) → enc c ≡ [] → ⊥) → ((c : ℕ) → q c ≡ [] → ⊥) →
    (tag == 46) ≡ false →
    (f : forest.Forest) (before after : List Leaf) (l m : Leaf) →
    l.kind ≡ m.kind → IsName l → IsName m →
    has tag (joined (before ++ l ∷ after)) ≡ false →
    (new : Forest) (front back : List ℕ) →
    ReplacesText
    (flat_map enc l.text)
    (flat_map enc m.text)
    (forest_by enc f (before ++ l ∷ after))
    new
    front
    back →
    length (flat_map q front) ≡ length (flat_map q (flat_map enc (joined before))) →
    forest_by enc f (before ++ m ∷ after) ≡ new

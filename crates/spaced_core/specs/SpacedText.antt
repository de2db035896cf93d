-- How the leaves of a text follow from the leaves of a tree.
use Rattle.std.specs.Prelude.{◌≡◌, ℕ, true, false, List, [], ◌∷◌, ◌++◌, map, chars, None, if◌then◌else◌}
use Rattle.std.specs.List.{flat_map}
use Rattle.std.specs.Str.{IsUtf8}
use Rattle.rowan_green.specs.Leaf as green
use Rattle.parser_input.specs.Edition.{is_from}
use Rattle.parser_input.specs.Input.{touches}
use Rattle.parser_input.specs.Kind as kind
use Rattle.parser_input.specs.Kinds.{IDENT, PIPE_GT}
use Rattle.parser_input.specs.Keywords.{contextual_kind}
use Rattle.parser_input.specs.Leaf.{Leaf, is_trivia}
use Rattle.parser_input.specs.declared.edition.Edition.{Edition}
use Rattle.parser_input.specs.declared.edition.Edition.TheVariants.{EditionNext}
use Rattle.parser_events.specs.Dress.{joined}
use Rattle.spaced_core.specs.WellSpaced.{characters_of}

-- the text of a tree's leaves
abbrev pub text_of : List green.Leaf → List ℕ
text_of ls = flat_map (λ l. chars l.text) ls

-- the leaves that are neither whitespace nor comments
abbrev pub solid : List green.Leaf → List green.Leaf
solid [] = []
solid (l ∷ ls) = let rest = solid ls in if kind.is_trivia l.kind then rest else l ∷ rest

-- The text's leaves `ps` are the leaf of the tree: one leaf for each of its characters.
pub record IsLeaf (edition : Edition) (l : green.Leaf) (ps : List Leaf) : Type 0 where
  pub kinds : map (λ p. p.kind) ps ≡ characters_of l.kind
  pub text : joined ps ≡ chars l.text
  pub utf8 : IsUtf8 l.text
  pub name : l.kind ≡ IDENT → contextual_kind edition (chars l.text) ≡ None
  pub pipe : l.kind ≡ PIPE_GT → is_from EditionNext edition ≡ true
  pub solid : kind.is_trivia l.kind ≡ false

-- The text's leaves are these leaves of the tree one after another, each with whitespace or the end after it, and whitespace.
pub data AreRead (edition : Edition) : List green.Leaf → List Leaf → Type 0 where
  nothing : AreRead edition [] []
  space :
      (w : Leaf) {ls : List green.Leaf} {ms : List Leaf}
      → is_trivia w ≡ true → AreRead edition ls ms → AreRead edition ls (w ∷ ms)
  one :
      (l : green.Leaf) (ps ms : List Leaf) {ls : List green.Leaf} {all : List Leaf}
      → IsLeaf edition l ps → touches ms ≡ false → AreRead edition ls ms → all ≡ ps ++ ms
      → AreRead edition (l ∷ ls) all

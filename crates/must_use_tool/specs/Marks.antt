-- What the tool makes of a document.
use Rattle.std.specs.Prelude.{◌≡◌, ℕ, ◌+◌, List, [], ◌∷◌, Some, codes}
use Rattle.rust_source.specs.Changes.{Change, ChangesBy, insert, untouched, with_changes}
use Rattle.rust_source.specs.Elements.{ATTR, Element, State, index_of, parent_of, root_element}
use Rattle.rust_source.specs.Held.{Held}
use Rattle.rust_source.specs.Lines.{IsLineIndent, line_break}
use Rattle.rust_source.specs.Nodes.{IsFound, attribute_payload, first_node}
use Rattle.must_use_tool.specs.Places.{places}

-- Before the place come the attribute and a line break with the indent of the place's line.
pub record IsMark (text : List ℕ) (attribute : Element) (number : ℕ) (place : Element) (c : Change) : Type 0 where
  pub parent : Element
  pub indent : List ℕ
  pub parent_is : parent_of place ≡ Some parent
  pub indent_is : IsLineIndent text place indent
  pub is : c ≡ insert parent.place.up (index_of place.place) (attribute ∷ (line_break number indent ∷ []))

-- one change for each place, in their order; the line breaks are in the trees of these numbers
abbrev pub AreMarks : List ℕ → Element → ℕ → List Element → List Change → Type 0
AreMarks text attribute number [] [] = Unit {0}
AreMarks text attribute number [] (c ∷ cs) = ⊥
AreMarks text attribute number (p ∷ ps) [] = ⊥
AreMarks text attribute number (p ∷ ps) (c ∷ cs) = IsMark text attribute number p c × AreMarks text attribute (number + 1) ps cs

-- The document is changed by one such insertion for each place of its tree, and by nothing else.
pub record IsMarked (s : Held) (after : State) : Type 0 where
  pub attribute : Element
  pub changes : List Change
  pub attribute_is : IsFound (first_node ATTR) s.next (attribute_payload s.document.grammar s.document.edition (codes "#[must_use]")) attribute
  pub marks : AreMarks s.document.text attribute (s.next + 1) (places s.document) changes
  pub changed : ChangesBy s.document after (with_changes (untouched (root_element s.document)) changes)

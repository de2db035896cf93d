-- The elements of a tree with its text, one after the other.
use Rattle.std.specs.Prelude.{ℕ, ◌+◌, List, [], ◌∷◌, ◌++◌, length, encode_utf8_all}
use Rattle.parser_events.specs.Dressed as dressed
use Rattle.parser_events.specs.Dressed.{Dressed}

-- an element: how many nodes stand around it, its kind, and where it starts and ends in bytes
pub record Element : Type 0 where
  pub depth : ℕ
  pub kind : ℕ
  pub start : ℕ
  pub end : ℕ

-- how many bytes of text elements hold
abbrev pub bytes_of : Dressed → ℕ
bytes_of dressed.End = 0
bytes_of (dressed.Leaf kind text d) = length (encode_utf8_all text) + bytes_of d
bytes_of (dressed.Said message place d) = bytes_of d
bytes_of (dressed.Node kind children d) = bytes_of children + bytes_of d

-- The elements at depth `depth`, from a byte of the text on: each node precedes its descendants, and these precede
-- its next sibling.
abbrev pub elements : ℕ → ℕ → Dressed → List Element
elements depth place dressed.End = []
elements depth place (dressed.Leaf kind text d) =
    let after = place + length (encode_utf8_all text) in
    record { depth = depth; kind = kind; start = place; end = after } ∷ elements depth after d
elements depth place (dressed.Said message at d) = elements depth place d
elements depth place (dressed.Node kind children d) =
    let after = place + bytes_of children in
    record { depth = depth; kind = kind; start = place; end = after }
    ∷ (elements (depth + 1) place children ++ elements depth after d)

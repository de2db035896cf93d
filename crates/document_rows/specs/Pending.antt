-- Rows that are still to come while a tree is walked. Only private functions cite these.
use Rattle.std.specs.Prelude.{◌≡◌, ℕ, ◌+◌, ◌*◌, List, [], ◌∷◌, ◌++◌, length}
use Rattle.rowan_green.specs.Forest.{forest_count}
use Rattle.rowan_green.specs.Term.{Term, children_of, forest_of, texts_of}
use Rattle.rowan_green.specs.declared.utility_types.NodeOrToken.TheVariants.{Node, Token}
use Rattle.document_rows.specs.Rows.{rows_from}
use Rattle.document_rows.specs.declared.rows.ElementRow.{ElementRow}

-- the bytes of what is left in nodes that lie in one another
abbrev pub total_len : List (List Term) → ℕ
total_len [] = 0
total_len (es ∷ levels) = length (texts_of es) + total_len levels

-- The rows of what is left in nodes that lie in one another, the outermost first: the innermost node's come first. `depth` nodes are
-- around what is left in the outermost one.
abbrev pub pending : ℕ → ℕ → List (List Term) → List ElementRow
pending depth start [] = []
pending depth start (es ∷ levels) =
    pending (depth + 1) start levels ++ rows_from depth (start + total_len levels) (forest_of es)

-- what is left of a walk: twice the elements, and the nodes around
abbrev pub weight : List (List Term) → ℕ
weight [] = 0
weight (es ∷ levels) = (1 + 2 * forest_count (forest_of es)) + weight levels

-- an element is entered: a node's children are next, or what is after a token
abbrev pub Enters : Term → ℕ → List (List Term) → List (List Term) → ℕ → Type 0
Enters (Node t) start old new next = (new ≡ old ++ children_of t ∷ []) × (next ≡ start)
Enters (Token l) start old new next = (new ≡ old) × (next ≡ start + length l.text)

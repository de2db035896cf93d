-- The terms that executed changes insert. Model of the code; only proofs use it.
use Rattle.std.specs.Prelude.{◌≡◌, ℕ, List, [], ◌∷◌, length, reverse, Option, Some, None, Bool, true, ◌&&◌, slice_get}
use Rattle.rowan_green.specs.Forest.{Forest, empty}
use Rattle.rowan_green.specs.Term.{Term}
use Rattle.rowan_green.specs.declared.utility_types.NodeOrToken.TheVariants.{Node, Token}
use Rattle.syntax_tree.specs.Element.{Way, Element}
use Rattle.tree_rewrite.specs.Change.{Change, is_within}
use Rattle.tree_rewrite.specs.Marked.{Marked, nothing, inner, token, gap, slot, Sheet, or_own, origin_at, filled}
use Rattle.tree_rewrite.specs.Reach.{reaches, is_deep}
use Rattle.tree_rewrite.specs.Rewrite.{Job, Sheets, same_sheet, blank_sheets, write, puts, terms_of}
use Rattle.tree_rewrite.specs.Pieces.{Say}
use Rattle.tree_rewrite.specs.declared.piece.Put.{Put}

-- the executed changes are those of these planned changes, by their indices in `all`, and their pieces are the terms of each
abbrev pub AreTerms : List Job → List Put → List Job → Type 0
AreTerms all [] [] = Unit {0}
AreTerms all [] (j ∷ js) = ⊥
AreTerms all (p ∷ ps) [] = ⊥
AreTerms all (p ∷ ps) (j ∷ js) = (slice_get all p.number ≡ Some j) × Say p.pieces.items (terms_of (puts js) j) × AreTerms all ps js

-- the last executed change is that of the first planned change
abbrev pub HavePut : List Job → List Put → List Job → Type 0
HavePut all ps js = AreTerms all (reverse ps) js

-- ---- some of the executed changes

-- a planned change and the terms that it inserts
abbrev pub Given : Type 0
Given = Job × Marked

-- the overlays after planned changes that insert these terms; the one executed last is the first of the list
abbrev pub laid : List Given → Sheets
laid [] = blank_sheets
laid (g ∷ gs) = write g.0 g.1 (laid gs)

-- the executed change is that of this planned change, by its index in `all`, and its pieces are these terms
abbrev pub IsGiven : List Job → Option Put → Given → Type 0
IsGiven all None g = ⊥
IsGiven all (Some p) g = (slice_get all p.number ≡ Some g.0) × Say p.pieces.items g.1

-- so does the executed change at each index
abbrev pub AreGiven : List Job → List Put → List ℕ → List Given → Type 0
AreGiven all ps [] [] = Unit {0}
AreGiven all ps [] (g ∷ gs) = ⊥
AreGiven all ps (a ∷ ns) [] = ⊥
AreGiven all ps (a ∷ ns) (g ∷ gs) = IsGiven all (slice_get ps a) g × AreGiven all ps ns gs

-- the last index belongs to the first planned change
abbrev pub HaveGiven : List Job → List Put → List ℕ → List Given → Type 0
HaveGiven all ps ns gs = AreGiven all ps (reverse ns) gs

-- the contents of a gap after these changes
abbrev pub at_gap : List Given → Option Way → Way → ℕ → Marked
at_gap gs n w i = or_own (laid gs n (gap w i)) nothing

-- the contents of the slot of a replaced element
abbrev pub at_slot : List Given → Option Way → Way → Marked
at_slot gs n w = or_own (laid gs n (slot w)) nothing

-- the change affects elements below the one at `v` in a target tree
abbrev pub touches : Option Way → Way → Given → Bool
touches n v g = same_sheet g.0.sheet n && reaches v g.0.change

-- the change affects, in a target tree, children of an element at this depth, or elements below these
abbrev pub is_deep_on : Option Way → ℕ → Given → Bool
is_deep_on n d g = same_sheet g.0.sheet n && is_deep d g.0.change

-- the change, if it leads as deep as the element at `v`, leads through this element
abbrev pub IsAlong : Way → Change → Type 0
IsAlong v c = is_deep (length v) c ≡ true → reaches v c ≡ true

abbrev pub AreAlong : Way → List Given → Type 0
AreAlong v [] = Unit {0}
AreAlong v (g ∷ gs) = IsAlong v g.0.change × AreAlong v gs

-- none of the changes affects elements below the one at `v` in a target tree
abbrev pub IsBlankBelow : List Given → Option Way → Way → Type 0
IsBlankBelow gs n v = (p : Way) → is_within v 0 p ≡ true → (i : ℕ) → (laid gs n (gap p i) ≡ None) × (laid gs n (slot (i ∷ p)) ≡ None)

-- ---- elements with the changes

-- the children of a node, if there is one
abbrev pub inside : Option Term → Forest
inside None = empty
inside (Some (Node t)) = t.forest
inside (Some (Token l)) = empty

-- the node at `w` of the overlay of `e`, if it is not replaced itself
abbrev pub node_in : Sheet → Element → Way → Option Term → Marked
node_in s e w None = nothing
node_in s e w (Some (Node t)) = inner (origin_at e w) t.kind (filled s e w 0 t.forest) nothing
node_in s e w (Some (Token l)) = nothing

-- the contents of the slot of the element at `w` in the overlay of `e`
abbrev pub standing : Sheet → Element → Way → Option Term → Marked
standing s e w None = nothing
standing s e w (Some (Node t)) = or_own (s (slot w)) (node_in s e w (Some (Node t)))
standing s e w (Some (Token l)) = or_own (s (slot w)) (token (origin_at e w) l nothing)

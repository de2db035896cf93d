-- What holds of every place and every walk.
use Rattle.std.specs.Prelude.{◌≡◌, List, [], ◌∷◌, ◌++◌, Some, slice_range, reverse}
use Rattle.rowan_green.specs.Leaf.{Leaf}
use Rattle.rowan_green.specs.Forest.{tree_text}
use Rattle.rowan_green.specs.Term.{Term}
use Rattle.rowan_green.specs.Word.{Sign, opens, token, closes, words}
use Rattle.rowan_green.specs.declared.utility_types.NodeOrToken.TheVariants.{Node, Token}
use Rattle.rowan.specs.Place.{Place, top_of, term_at, kind_at, text_at, start_of, end_of}
use Rattle.rowan.specs.Around.{cursor_of}
use Rattle.rowan.specs.Leaves.{tokens_in, tokens_before, tokens_after}
use Rattle.rowan.specs.Walk.{Event, walk}
use Rattle.rowan.specs.declared.utility_types.WalkEvent.TheVariants.{Enter, Leave}

-- the signs of a walk, without their places: a node opens where it is entered and closes where it is left; a token is one sign
abbrev pub signs : List Event → List Sign
signs [] = []
signs (Enter (Node p) ∷ w) = opens (kind_at p) ∷ signs w
signs (Enter (Token p) ∷ w) = token (record { kind = kind_at p; text = text_at p }) ∷ signs w
signs (Leave (Node p) ∷ w) = closes ∷ signs w
signs (Leave (Token p) ∷ w) = signs w

-- the text at a place is the slice of the root's text from where it starts to where it ends
abbrev pub TextsAreSlices : Type 0
TextsAreSlices = (p : Place) → text_at p ≡ slice_range (tree_text p.root) (start_of p) (end_of p)

-- the walk through an element, without its places, is the word of the element
abbrev pub WalksAreWords : Type 0
WalksAreWords = (p : Place) (e : Term) → term_at p ≡ Some e → signs (walk (cursor_of p e)) ≡ words (e ∷ [])

-- the tokens of a tree are those before one of them, that one, and those after it
abbrev pub TokensStandInOrder : Type 0
TokensStandInOrder =
    (p : Place) (l : Leaf) → term_at p ≡ Some (Token l) → tokens_in (top_of p) ≡ reverse (tokens_before p) ++ p ∷ tokens_after p

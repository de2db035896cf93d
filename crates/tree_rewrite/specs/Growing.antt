-- Elements built from pieces. Model of the code; only proofs use it.
use Rattle.std.specs.Prelude.{◌≡◌, List, [], ◌∷◌, reverse, Some, None}
use Rattle.rowan_green.specs.Forest.{Tree}
use Rattle.rowan_green.specs.Term.{Term, terms, FitsNode}
use Rattle.rowan_green.specs.declared.utility_types.NodeOrToken.TheVariants.{Node}
use Rattle.rowan_green.specs.declared.syntax_kind.SyntaxKind.{SyntaxKind}
use Rattle.rowan.specs.Place.{kind_at}
use Rattle.syntax_tree.specs.Element.{Element, term_of}
use Rattle.tree_rewrite.specs.Marked.{Marked, nothing, inner, token, forest_in}
use Rattle.tree_rewrite.specs.Pieces.{Around, outside, in_node, in_group, Stand}
use Rattle.tree_rewrite.specs.declared.error.ExecuteError.{ExecuteError}
use Rattle.tree_rewrite.specs.declared.error.ExecuteError.TheVariants.{TooLong, NoMemory}
use Rattle.tree_rewrite.specs.declared.green.Begun.{Begun}

-- a node can have its own children
abbrev pub OwnFit : Element → Type 0
OwnFit e = (t : Tree) → term_of e ≡ Some (Node t) → FitsNode (terms t.forest)

-- the open nodes and groups, innermost first, with the terms before them
abbrev pub IsAround : List Begun → Around → Type 0
IsAround [] outside = Unit {0}
IsAround [] (in_node d e a) = ⊥
IsAround [] (in_group d b a) = ⊥
IsAround (g ∷ gs) outside = ⊥
IsAround (g ∷ gs) (in_node d e a) =
    ((k : SyntaxKind) × (g.kind ≡ Some k) × (k.0 ≡ kind_at e.place)) × OwnFit e × (g.before.items ≡ terms (forest_in d)) × IsAround gs a
IsAround (g ∷ gs) (in_group d b a) = (g.kind ≡ None) × (g.before.items ≡ terms (forest_in d)) × IsAround gs a

-- the finished terms, and the open nodes and groups around them, outermost first
pub record IsMade (es : List Term) (gs : List Begun) (s : Stand) : Type 0 where
  pub done : es ≡ terms (forest_in s.done)
  pub around : IsAround (reverse gs) s.around

-- each node of the list that differs from its origin can have its children
abbrev pub NewFit : Marked → Type 0
NewFit nothing = Unit {0}
NewFit (inner m k f r) =
    ((term_of m.origin ≡ Some (Node (record { kind = k; forest = forest_in f })) → ⊥) → FitsNode (terms (forest_in f))) × NewFit f × NewFit r
NewFit (token m l r) = NewFit r

abbrev pub NewFitAround : Around → Type 0
NewFitAround outside = Unit {0}
NewFitAround (in_node d e a) = NewFit d × NewFitAround a
NewFitAround (in_group d b a) = NewFit d × NewFitAround a

-- each complete new node can have its children
abbrev pub NewFitIn : Stand → Type 0
NewFitIn s = NewFit s.done × NewFitAround s.around

-- `TooLong` only if `Fits` does not hold; `NoMemory` at any point
abbrev pub RefusesUnless : Type 0 → ExecuteError → Type 0
RefusesUnless Fits TooLong = Fits → ⊥
RefusesUnless Fits NoMemory = Unit {0}

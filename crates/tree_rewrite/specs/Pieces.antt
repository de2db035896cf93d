-- The terms of a list of pieces.
use Rattle.std.specs.Prelude.{◌≡◌, List, [], ◌∷◌, Bool, false, true}
use Rattle.rowan.specs.Place.{kind_at}
use Rattle.syntax_tree.specs.Element.{Element}
use Rattle.syntax_tree.specs.Handle.{element_of}
use Rattle.tree_rewrite.specs.Marked.{Marked, nothing, inner, join, with_put, blank, reading_of}
use Rattle.tree_rewrite.specs.declared.piece.Nesting.{Nesting}
use Rattle.tree_rewrite.specs.declared.piece.Nesting.TheVariants.{Outermost, Nested}
use Rattle.tree_rewrite.specs.declared.piece.Piece.{Piece}
use Rattle.tree_rewrite.specs.declared.piece.Piece.TheVariants.{Whole, Open, Group, Close}

-- the open nodes and groups of inserted elements, innermost first, with the terms before each
pub data Around : Type 0 where
  outside : Around
  in_node : (before : Marked) → Element → Around → Around
  in_group : (before : Marked) → Bool → Around → Around

-- a list of terms, and the open nodes and groups around it
pub record Stand : Type 0 where
  pub done : Marked
  pub around : Around

-- before the first piece
abbrev pub start : Stand
start = record { done = nothing; around = outside }

-- with these terms appended
abbrev pub added : Marked → Stand → Stand
added m s = record { done = join s.done m; around = s.around }

-- after the end of a node with these children, or of a group of inserted elements
abbrev pub closed : Marked → Around → Stand
closed d outside = record { done = d; around = outside }
closed d (in_node before e a) =
    record { done = join before (inner (record { origin = e; put = false }) (kind_at e.place) d nothing); around = a }
closed d (in_group before b a) = record { done = join before (with_put b d); around = a }

-- true for a change of the tree itself
abbrev pub is_outermost : Nesting → Bool
is_outermost Outermost = true
is_outermost Nested = false

abbrev pub after_piece : Piece → Stand → Stand
after_piece (Whole e) s = added (reading_of blank (element_of e)) s
after_piece (Open e) s = record { done = nothing; around = in_node s.done e s.around }
after_piece (Group n) s = record { done = nothing; around = in_group s.done (is_outermost n) s.around }
after_piece Close s = closed s.done s.around

abbrev pub after : List Piece → Stand → Stand
after [] s = s
after (p ∷ ps) s = after ps (after_piece p s)

-- these terms are appended
pub record Adds (old new : List Piece) (m : Marked) : Type 0 where
  pub says : (s : Stand) → after new s ≡ added m (after old s)

-- the terms of the pieces
abbrev pub Say : List Piece → Marked → Type 0
Say ps m = Adds [] ps m

-- Origins of the elements of pieces.
use Rattle.std.specs.Prelude.{List, [], ◌∷◌, ◌++◌}
use Rattle.syntax_tree.specs.Element.{Element}
use Rattle.syntax_tree.specs.Handle.{element_of}
use Rattle.tree_rewrite.specs.Marked.{origins, blank, reading_of}
use Rattle.tree_rewrite.specs.declared.piece.Piece.{Piece}
use Rattle.tree_rewrite.specs.declared.piece.Piece.TheVariants.{Whole, Open, Group, Close}

-- the origins of the elements of a piece, in preorder
abbrev pub origins_by : Piece → List Element
origins_by (Whole e) = origins (reading_of blank (element_of e))
origins_by (Open e) = e ∷ []
origins_by (Group n) = []
origins_by Close = []

-- the origins of the elements of all pieces, one piece after another
abbrev pub all_origins : List Piece → List Element
all_origins [] = []
all_origins (p ∷ ps) = origins_by p ++ all_origins ps

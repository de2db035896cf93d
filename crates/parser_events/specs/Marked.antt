-- What a parser's calls make: trees over the tokens of its input, as they are while nodes are still open.
use Rattle.std.specs.Prelude.{ℕ, zero, suc, ◌+◌, ◌-◌, Bool, false, List, [], ◌∷◌, ◌++◌, if◌then◌else◌}
use Rattle.parser_input.specs.Kinds.{ERROR, FIELD_EXPR}
use Rattle.parser_events.specs.Forest as forest
use Rattle.parser_events.specs.Forest.{Forest, Message}
use Rattle.parser_events.specs.Steps.{Step, Token, FloatSplit, Enter, Exit, Error}

-- Trees side by side: nothing, or one tree and those after it. A split is the trees of a field access with the float
-- that ends it; what the float has after its first dot stands beside the access, not in it.
pub data Marked : Type 0 where
  End : Marked
  Leaf : (kind count : ℕ) → Marked → Marked
  Said : (message : Message) → Marked → Marked
  Node : (kind : ℕ) → (children : Marked) → Marked → Marked
  Split : (ends_in_dot : Bool) → (receiver : Marked) → Marked → Marked

-- the trees of the first, then those of the second
infixr 50 ◌beside◌
abbrev pub ◌beside◌ : Marked → Marked → Marked
End beside g = g
(Leaf k n f) beside g = Leaf k n (f beside g)
(Said m f) beside g = Said m (f beside g)
(Node k c f) beside g = Node k c (f beside g)
(Split e c f) beside g = Split e c (f beside g)

-- how many leaves, messages and nodes there are
abbrev pub size : Marked → ℕ
size End = 0
size (Leaf k n f) = suc (size f)
size (Said m f) = suc (size f)
size (Node k c f) = suc (size c + size f)
size (Split e c f) = suc (size c + size f)

-- the first trees, which have `n` leaves, messages and nodes
abbrev pub front : ℕ → Marked → Marked
front zero f = End
front (suc n) End = End
front (suc n) (Leaf k c f) = Leaf k c (front n f)
front (suc n) (Said m f) = Said m (front n f)
front (suc n) (Node k c f) = Node k c (front (n - size c) f)
front (suc n) (Split e c f) = Split e c (front (n - size c) f)

-- the trees after those
abbrev pub after : ℕ → Marked → Marked
after zero f = f
after (suc n) End = End
after (suc n) (Leaf k c f) = after n f
after (suc n) (Said m f) = after n f
after (suc n) (Node k c f) = after (n - size c) f
after (suc n) (Split e c f) = after (n - size c) f

-- The children of a node, with trees put first. Of a field access that a float without a last dot ends, they go into the
-- receiver.
abbrev pub into_children : Marked → Marked → Marked
into_children g (Split false r End) = Split false (g beside r) End
into_children g c = g beside c

-- Trees put first into the one tree after them, a node or a field access. What is not one such tree goes with them into
-- an error.
abbrev pub into : Marked → Marked → Marked
into g (Node k c End) = Node k (into_children g c) End
into g (Split e r End) = Split e (g beside r) End
into g f = Node ERROR (g beside f) End

-- the steps of marked trees
unfoldable pub walk : Marked → List Step
walk End = []
walk (Leaf kind count f) = Token kind count ∷ walk f
walk (Said message f) = Error message ∷ walk f
walk (Node kind children f) = Enter kind ∷ (walk children ++ Exit ∷ walk f)
walk (Split ends_in_dot receiver f) = Enter FIELD_EXPR ∷ (walk receiver ++ FloatSplit ends_in_dot ∷ walk f)

-- A forest by calls: an error leaf is a node with a message and a leaf, and a float that does not end in a dot is a split
-- alone in a field access.
unfoldable pub marked : Forest → Marked
marked forest.End = End
marked (forest.Leaf kind count f) = Leaf kind count (marked f)
marked (forest.Said message f) = Said message (marked f)
marked (forest.ErrorLeaf message kind f) = Node ERROR (Said message (Leaf kind 1 End)) (marked f)
marked (forest.Node kind children f) = Node kind (marked children) (marked f)
marked (forest.Float ends_in_dot receiver f) =
    let one = Split ends_in_dot (marked receiver) (marked f) in
    let two = Node FIELD_EXPR (Split ends_in_dot (marked receiver) End) (marked f) in
    if ends_in_dot then one else two

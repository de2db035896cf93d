-- What holds of every text and every forest.
use Rattle.std.specs.Prelude.{◌≡◌, ℕ, true, List, Some}
use Rattle.parser_input.specs.Leaf.{Leaf}
use Rattle.parser_events.specs.Forest.{Forest, ◌then◌}
use Rattle.parser_events.specs.Dressed.{text_of}
use Rattle.parser_events.specs.Dress.{dress_root, joined}
use Rattle.parser_events.specs.Marked.{Marked, ◌beside◌, marked, walk}
use Rattle.parser_events.specs.Fits.{fits, IsRooted}
use Rattle.parser_events.specs.Laying.{put_around}
use Rattle.parser_events.specs.Steps.{steps, level_after}
use Rattle.parser_events.specs.TextSteps.{text_steps}

-- nothing of the text is lost or moved: the leaves of the dressed tree, joined, are the leaves that it was dressed with
abbrev pub TextIsKept : Type 0
TextIsKept = (f : Forest) (leaves : List Leaf) → text_of (dress_root f leaves) ≡ joined leaves

-- steps leave every node that they enter, and no other
abbrev pub StepsAreBalanced : Type 0
StepsAreBalanced = (f : Forest) (level : ℕ) → level_after level (steps f) ≡ Some level

-- the steps of any marked trees do so too
abbrev pub WalksAreBalanced : Type 0
WalksAreBalanced = (f : Marked) (level : ℕ) → level_after level (walk f) ≡ Some level

-- a forest and what calls make of it have the same steps
abbrev pub MarksKeepSteps : Type 0
MarksKeepSteps = (f : Forest) → walk (marked f) ≡ steps f

-- forests side by side are marked side by side
abbrev pub MarksStandBeside : Type 0
MarksStandBeside = (f g : Forest) → marked (f then g) ≡ marked f beside marked g

-- what the steps of one node put of a text that they fit are the steps of the dressed tree
abbrev pub DressedIsPut : Type 0
DressedIsPut = (f : Forest) (leaves : List Leaf) → IsRooted f → fits (steps f) leaves ≡ true → put_around (steps f) leaves ≡ text_steps (dress_root f leaves)

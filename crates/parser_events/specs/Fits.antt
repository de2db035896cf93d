-- Which steps are those of one tree over the leaves of a text.
use Rattle.std.specs.Prelude.{ℕ, zero, suc, ◌==◌, Bool, true, false, not, ◌&&◌, List, [], ◌∷◌, length, drop, if◌then◌else◌}
use Rattle.parser_input.specs.Input.{ends_in_dot}
use Rattle.parser_input.specs.Kinds.{FLOAT_NUMBER}
use Rattle.parser_input.specs.Leaf.{Leaf, is_trivia}
use Rattle.parser_events.specs.Forest as forest
use Rattle.parser_events.specs.Forest.{Forest}
use Rattle.parser_events.specs.Steps.{Step, Token, FloatSplit, Enter, Exit, Error}
use Rattle.parser_events.specs.Trivia.{pending}

-- the leaves from the next token of the input on
abbrev pub from_token : List Leaf → List Leaf
from_token ls = drop (length (pending ls)) ls

-- there are `n` leaves next, and none of them is trivia
abbrev pub is_unbroken : ℕ → List Leaf → Bool
is_unbroken zero ls = true
is_unbroken (suc n) [] = false
is_unbroken (suc n) (l ∷ ls) = not (is_trivia l) && is_unbroken n ls

-- the first leaf is a float, and its text ends in a dot if and only if `expected` is true
abbrev pub is_split_at : Bool → List Leaf → Bool
is_split_at expected [] = false
is_split_at expected (l ∷ ls) = l.kind == FLOAT_NUMBER && (if expected then ends_in_dot l.text else not (ends_in_dot l.text))

abbrev pub is_none_left : List Leaf → Bool
is_none_left [] = true
is_none_left (l ∷ ls) = false

-- The steps consume all tokens of the leaves, in order. No trivia is inside a token of several leaves, and a float is
-- split as its text requires.
abbrev pub covers : List Step → List Leaf → Bool
covers [] ls = is_none_left (from_token ls)
covers (Token kind count ∷ ss) ls = is_unbroken count (from_token ls) && covers ss (drop count (from_token ls))
covers (FloatSplit expected ∷ ss) ls = is_split_at expected (from_token ls) && covers ss (drop 1 (from_token ls))
covers (Enter kind ∷ ss) ls = covers ss ls
covers (Exit ∷ ss) ls = covers ss ls
covers (Error message ∷ ss) ls = covers ss ls

abbrev pub is_end : List Step → Bool
is_end [] = true
is_end (s ∷ ss) = false

-- Only the last step leaves the root; `level` is the number of nodes open inside it. A split also leaves a node, so the
-- steps after it are outside of that node.
abbrev pub leaves_root : ℕ → List Step → Bool
leaves_root level [] = false
leaves_root zero (Exit ∷ ss) = is_end ss
leaves_root (suc level) (Exit ∷ ss) = leaves_root level ss
leaves_root zero (FloatSplit expected ∷ ss) = false
leaves_root (suc level) (FloatSplit expected ∷ ss) = leaves_root level ss
leaves_root level (Enter kind ∷ ss) = leaves_root (suc level) ss
leaves_root level (Token kind count ∷ ss) = leaves_root level ss
leaves_root level (Error message ∷ ss) = leaves_root level ss

-- one node is around all steps
abbrev pub has_one_root : List Step → Bool
has_one_root [] = false
has_one_root (Enter kind ∷ ss) = leaves_root 0 ss
has_one_root (s ∷ ss) = false

-- one root around all, over all tokens of the leaves
abbrev pub fits : List Step → List Leaf → Bool
fits ss ls = has_one_root ss && covers ss ls

-- The trees are one node alone.
abbrev pub IsRooted : Forest → Type 0
IsRooted (forest.Node kind children forest.End) = Unit {0}
IsRooted (forest.Float false receiver forest.End) = Unit {0}
IsRooted _ = ⊥

-- What a contract sees of a builder: the word of its accepted calls, and the numbers of its open nodes.
use Rattle.std.specs.Prelude.{◌≡◌, ℕ, ◌+◌, ◌≤◌, List, [], ◌∷◌, ◌++◌, length, drop}
use Rattle.rowan_green.specs.Term.{Term}
use Rattle.rowan_green.specs.Word.{Sign, opens, closes, words, read, innermost}

-- the word; the numbers of the open nodes, innermost first; how many nodes were started. A node's number is its place among the nodes that were started, from 1 on
pub record Building : Type 0 where
  pub word : List Sign
  pub open_numbers : List ℕ
  pub started : ℕ

-- a builder on which nothing was called
abbrev pub nothing_built : Building
nothing_built = record { word = []; open_numbers = []; started = 0 }

-- one more sign at the end of the word
abbrev pub with_sign : Building → Sign → Building
with_sign b s = record { word = b.word ++ s ∷ []; open_numbers = b.open_numbers; started = b.started }

-- one more node is open, with this word
abbrev pub with_opened : Building → List Sign → Building
with_opened b w = record { word = w; open_numbers = (b.started + 1) ∷ b.open_numbers; started = b.started + 1 }

-- the innermost open node is closed
abbrev pub with_closed : Building → Building
with_closed b = record { word = b.word ++ closes ∷ []; open_numbers = drop 1 b.open_numbers; started = b.started }

-- the children of the innermost open node, or the terms outside where none is open
abbrev pub current_children : Building → List Term
current_children b = innermost (read b.word)

-- the number of the innermost open node, 0 where none is open
abbrev pub first_or_zero : List ℕ → ℕ
first_or_zero [] = 0
first_or_zero (n ∷ ns) = n

-- a checkpoint of this number and count is valid: the same node is innermost, and has at least `count` children
pub record IsCurrent (b : Building) (number count : ℕ) : Type 0 where
  pub number_is : number ≡ first_or_zero b.open_numbers
  pub within : count ≤ length (current_children b)

-- a node of this kind is open around the children past a count
pub record OpensAround (old new : Building) (kind count : ℕ) : Type 0 where
  pub before : List Sign
  pub was : old.word ≡ before ++ words (drop count (current_children old))
  pub is : new ≡ with_opened old (before ++ opens kind ∷ words (drop count (current_children old)))

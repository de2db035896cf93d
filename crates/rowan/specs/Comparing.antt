-- Stretches of two texts that are read side by side.
use Rattle.std.specs.Prelude.{◌≡◌, ℕ, ◌+◌, ◌≤◌, ◌<◌, ◌^◌, List, ◌∷◌, ◌++◌, take, drop, length}
use Rattle.rowan_green.specs.Forest.{forest_count}
use Rattle.rowan_green.specs.Term.{Term, children_of, texts_of, forest_of, term_len}
use Rattle.rowan.specs.declared.text_compare.Stretch.{Stretch}

-- the terms that a stretch has not passed
abbrev pub terms_left : Stretch → List Term
terms_left s = drop s.index (children_of s.node)

-- the bytes that it has not passed
abbrev pub bytes_left : Stretch → List ℕ
bytes_left s = take s.left (drop s.offset (texts_of (terms_left s)))

-- how many nodes and tokens it may still come to
abbrev pub count_left : Stretch → ℕ
count_left s = forest_count (forest_of (terms_left s))

-- its terms have all its bytes
pub record IsStretch (s : Stretch) : Type 0 where
  pub within : s.offset + s.left ≤ length (texts_of (terms_left s))
  pub fits : s.offset + s.left < 2 ^ 32

-- its first byte is in this term, the first that it has not passed
pub record IsHead (s : Stretch) (e : Term) : Type 0 where
  pub after : List Term
  pub terms : terms_left s ≡ e ∷ after
  pub inside : s.offset < term_len e
  pub some : 0 < s.left

-- the second is the first with `n` bytes skipped
pub record Passes (n : ℕ) (s t : Stretch) : Type 0 where
  pub bytes : bytes_left t ≡ drop n (bytes_left s)
  pub left : s.left ≡ n + t.left
  pub sound : IsStretch t
  pub falls : count_left t ≤ count_left s

-- two stretches pass bytes that both begin with
pub record PassesBoth (a b c d : Stretch) : Type 0 where
  pub count : ℕ
  pub first : Passes count a c
  pub second : Passes count b d
  pub same : take count (bytes_left a) ≡ take count (bytes_left b)

-- whatever is put after them, two texts differ
abbrev pub Differ : List ℕ → List ℕ → Type 0
Differ x y = (v w : List ℕ) → x ++ v ≡ y ++ w → ⊥

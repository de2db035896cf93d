-- Children as a balanced tree: one term alone, or blocks of terms and runs of an arena's entries in order, below forks that keep sums.
use Rattle.std.specs.Prelude.{◌≡◌, ◌≢◌, ℕ, zero, suc, ◌+◌, ◌*◌, ◌/◌, ◌≤◌, max, List, [], ◌∷◌, ◌++◌, length, take, ⊤}
use Rattle.rowan_green.specs.Term.{Term, texts_of, FitsNode}
use Rattle.rowan_green.specs.Run.{HasHeight}
use Rattle.rowan_green.specs.declared.element_list.Link.{Link}
use Rattle.rowan_green.specs.declared.element_list.Link.TheVariants.{One, Block, Run, Fork}

-- the terms in order
abbrev pub terms_in : Link → List Term
terms_in (One e) = e ∷ []
terms_in (Block half v) = v.items
terms_in (Run r) = r.0
terms_in (Fork half l r n h) = l.value.0 ++ r.value.0

-- how many forks lie above the deepest block
abbrev pub height_of : Link → ℕ
height_of (One e) = 0
height_of (Block half v) = 0
height_of (Run r) = r.1
height_of (Fork half l r n h) = h

-- how many terms come before the middle
abbrev pub middle_of : Link → ℕ
middle_of (One e) = 0
middle_of (Block half v) = length v.items / 2
middle_of (Run r) = 0
middle_of (Fork half l r n h) = length l.value.0

-- what is kept as the length of the text before the middle
abbrev pub half_of : Link → ℕ
half_of (One e) = 0
half_of (Block half v) = half
half_of (Run r) = 0
half_of (Fork half l r n h) = half

-- the least number of terms in a fork of this height; at height 0, in a block below a fork
abbrev pub fewest : ℕ → ℕ
fewest zero = 8
fewest (suc zero) = 16
fewest (suc (suc h)) = 2 * fewest h

-- n terms and the height h of a fork over the terms xs, of height a, and ys, of height b
pub record IsFork (xs : List Term) (a : ℕ) (ys : List Term) (b : ℕ) (n : ℕ) (h : ℕ) : Type 0 where
  pub left : 8 ≤ length xs
  pub right : 8 ≤ length ys
  pub left_low : a ≤ b + 1
  pub right_low : b ≤ a + 1
  pub count : n ≡ length xs + length ys
  pub height : h ≡ max a b + 1
  pub many : fewest h ≤ n

-- these terms are kept as a block: at most 16, and not one alone
pub record IsBlock (xs : List Term) : Type 0 where
  pub not_one : length xs ≢ 1
  pub few : length xs ≤ 16

-- a run is as long as its height allows; the sides of a fork have at least 8, and heights that differ by at most one
abbrev pub IsBalanced : Link → Type 0
IsBalanced (One e) = ⊤
IsBalanced (Block half v) = IsBlock v.items
IsBalanced (Run r) = HasHeight (length r.0) r.1
IsBalanced (Fork half l r n h) = IsFork l.value.0 l.value.1 r.value.0 r.value.1 n h

-- the list of this link keeps the length of the text before its middle
pub record IsSummed (link : Link) : Type 0 where
  pub balanced : IsBalanced link
  pub fits : FitsNode (terms_in link)
  pub before_middle : half_of link ≡ length (texts_of (take (middle_of link) (terms_in link)))

-- a list d of the lists l and r, below one fork
pub record IsJoined (d : List Term × ℕ) (l : List Term × ℕ) (r : List Term × ℕ) : Type 0 where
  pub terms : d.0 ≡ l.0 ++ r.0
  pub height : d.1 ≡ max l.1 r.1 + 1
  pub left : 8 ≤ length l.0
  pub right : 8 ≤ length r.0
  pub left_low : l.1 ≤ r.1 + 1
  pub right_low : r.1 ≤ l.1 + 1
  pub fits : FitsNode d.0

-- the list that a fork above two makes
abbrev pub join : List Term × ℕ → List Term × ℕ → List Term × ℕ
join l r = (l.0 ++ r.0, max l.1 r.1 + 1)

-- two lists that may be the sides of a fork, if their heights may differ by `by`
pub record CanJoin (by : ℕ) (l : List Term × ℕ) (r : List Term × ℕ) : Type 0 where
  pub left : 8 ≤ length l.0
  pub right : 8 ≤ length r.0
  pub left_low : l.1 ≤ r.1 + by
  pub right_low : r.1 ≤ l.1 + by
  pub fits : FitsNode (l.0 ++ r.0)

-- the height of a list of two, by theirs: that of a fork above them where they are about as high
pub record IsJoinHeight (a : ℕ) (b : ℕ) (h : ℕ) : Type 0 where
  pub not_lower : max a b ≤ h
  pub not_higher : h ≤ max a b + 1
  pub level : a ≤ b + 1 → b ≤ a + 1 → h ≡ max a b + 1

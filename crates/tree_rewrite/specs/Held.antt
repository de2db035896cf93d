-- The index of the change that replaces an element. Model of the code; only proofs use it.
use Rattle.std.specs.Prelude.{◌≡◌, ℕ, suc, ◌+◌, ◌<◌, ◌^◌, List, [], ◌∷◌, Option, Some, None, option_map, is_some, Bool, true, false, ◌&&◌, nat_le, nat_lt, if◌then◌else◌}
use Rattle.syntax_tree.specs.Element.{Way, same_way}
use Rattle.tree_rewrite.specs.WayTrie.{number_at}
use Rattle.tree_rewrite.specs.declared.way_trie.WayTrie.{WayTrie}
use Rattle.tree_rewrite.specs.Change.{Change, insert, replace, replaces, is_within, is_between}

-- the index of the first item that passes the test, if any
abbrev pub first_of : {A : Type 0} → (A → Bool) → List A → Option ℕ
first_of test [] = None
first_of test (x ∷ xs) = if test x then Some 0 else option_map suc (first_of test xs)

-- the first change that replaces the element at the up-path
abbrev pub replacing : Way → List Change → Option Change
replacing w [] = None
replacing w (c ∷ cs) = if replaces c w then Some c else replacing w cs

-- the trie maps the up-path of each replaced element to the index of that change, and no other up-path
pub record Holds (m : WayTrie) (cs : List Change) : Type 0 where
  pub numbers : (w : Way) → number_at m w ≡ first_of (λ c. replaces c w) cs

-- the index of the last child of a range fits a word
abbrev pub FitsRow : Change → Type 0
FitsRow (insert p i new) = Unit {0}
FitsRow (replace [] n new single) = Unit {0}
FitsRow (replace (a ∷ p) n new single) = a + n < 2 ^ 64

-- ---- one more range

-- the up-path is that of one of `k` children, from index `a` on
abbrev pub is_among : ℕ → Way → ℕ → Way → Bool
is_among a p k [] = false
is_among a p k (i ∷ w) = same_way p w && (nat_le a i && nat_lt i (a + k))

-- no element of the range had a number, and each has this number now
pub record IsPut (row : Way → Bool) (number : ℕ) (m k : WayTrie) : Type 0 where
  pub free : (w : Way) → row w ≡ true → number_at m w ≡ None
  pub put : (w : Way) → number_at k w ≡ (if row w then Some number else number_at m w)

-- an element of the range had a number
abbrev pub IsTaken : (Way → Bool) → WayTrie → Type 0
IsTaken row m = (w : Way) × (row w ≡ true) × (is_some (number_at m w) ≡ true)

-- the range was assigned the number, or one of its elements already had one
abbrev pub IsPutOrTaken : (Way → Bool) → ℕ → WayTrie → WayTrie → Bool → Type 0
IsPutOrTaken row number m k true = IsPut row number m k
IsPutOrTaken row number m k false = IsTaken row m

-- ---- contents of replaced elements

-- the up-path leads through an element that the change replaces
abbrev pub leads_through : Way → Change → Bool
leads_through w (insert p i new) = false
leads_through w (replace first n new single) = is_within first n w

-- the gap is between two elements that the change replaces
abbrev pub splits : Way → ℕ → Change → Bool
splits p i (insert q k new) = false
splits p i (replace first n new single) = is_between first n p i

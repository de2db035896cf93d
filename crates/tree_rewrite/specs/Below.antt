-- Executed changes, distributed over the children of a node that they affect. Model of the code; only proofs use it.
use Rattle.std.specs.Prelude.{◌≡◌, ℕ, zero, suc, ◌+◌, ◌≤◌, List, [], ◌∷◌, ◌++◌, map, slice_get, Option, Some, None, true, false}
use Rattle.std.specs.Global.{Vec}
use Rattle.syntax_tree.specs.Element.{Way}
use Rattle.tree_rewrite.specs.Change.{Change, is_within}
use Rattle.tree_rewrite.specs.Marked.{Sheet, gap, slot}
use Rattle.tree_rewrite.specs.Rewrite.{Job, sets, puts}
use Rattle.tree_rewrite.specs.Reach.{reaches}
use Rattle.tree_rewrite.specs.Fill.{Given, laid, HaveGiven}
use Rattle.tree_rewrite.specs.declared.piece.Put.{Put}

-- ---- ranges of children

-- the index is outside a range, which is given by its first index and the number of further ones
abbrev pub IsBeyond : Option (ℕ × ℕ) → ℕ → Type 0
IsBeyond None i = Unit {0}
IsBeyond (Some r) i = r.0 ≤ i → i ≤ r.0 + r.1 → ⊥

-- the numbers in each list
abbrev pub lists_of : List (Vec ℕ) → List (List ℕ)
lists_of vs = map (λ v. v.items) vs

-- `a` is appended to list `i` and to the `n` lists after it, as far as they exist
abbrev pub with_row : ℕ → ℕ → ℕ → List (List ℕ) → List (List ℕ)
with_row a i n [] = []
with_row a zero zero (l ∷ ls) = (l ++ a ∷ []) ∷ ls
with_row a zero (suc n) (l ∷ ls) = (l ++ a ∷ []) ∷ with_row a zero n ls
with_row a (suc i) n (l ∷ ls) = l ∷ with_row a i n ls

-- ---- one child

-- the change does not affect the gap before child `i` of the node at `w`, its slot, or the elements below it
abbrev pub LeavesChild : Change → Way → ℕ → Type 0
LeavesChild c w i = (sets c (gap w i) ≡ false) × (sets c (slot (i ∷ w)) ≡ false) × (reaches (i ∷ w) c ≡ false)

-- two overlays agree on the gaps and slots whose parent is the element at `v` or below it
abbrev pub AgreeBelow : Sheet → Sheet → Way → Type 0
AgreeBelow s t v = (p : Way) → is_within v 0 p ≡ true → (i : ℕ) → (s (gap p i) ≡ t (gap p i)) × (s (slot (i ∷ p)) ≡ t (slot (i ∷ p)))

-- two overlays agree on a child
abbrev pub AgreeChild : Sheet → Sheet → Way → ℕ → Type 0
AgreeChild s t w i = (s (gap w i) ≡ t (gap w i)) × (s (slot (i ∷ w)) ≡ t (slot (i ∷ w))) × AgreeBelow s t (i ∷ w)

-- the executed changes at these indices leave the child as all of `gs` do
abbrev pub ListsChild : List Job → List Put → List ℕ → Option Way → Way → ℕ → List Given → Type 0
ListsChild all ps ns n w i gs = (hs : List Given) × HaveGiven all ps ns hs × AgreeChild (laid hs n) (laid gs n) w i

-- each list does so for the child at its index
abbrev pub AreLists : List Job → List Put → List (List ℕ) → Option Way → Way → List Given → Type 0
AreLists all ps ls n w gs = (i : ℕ) (l : List ℕ) → slice_get ls i ≡ Some l → ListsChild all ps l n w i gs

-- ---- one target tree

-- the executed changes at these indices leave the target tree `n` as all of `js` do
abbrev pub OnSheet : List Job → List Put → List ℕ → Option Way → List Job → Type 0
OnSheet all ps ns n js = (gs : List Given) × HaveGiven all ps ns gs × (laid gs n ≡ puts js n)

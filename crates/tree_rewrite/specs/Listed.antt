-- Executed changes by target tree: the last of each payload, and for each the one before. Model of the code; only proofs use it.
use Rattle.std.specs.Prelude.{◌≡◌, ℕ, zero, suc, ◌≤◌, List, [], ◌∷◌, ◌++◌, length, slice_get, Option, Some, None}
use Rattle.syntax_tree.specs.Element.{Way}
use Rattle.tree_rewrite.specs.Rewrite.{Job}
use Rattle.tree_rewrite.specs.Fill.{HavePut}
use Rattle.tree_rewrite.specs.Below.{OnSheet}
use Rattle.tree_rewrite.specs.WayMap.{number_at}
use Rattle.tree_rewrite.specs.declared.piece.Put.{Put}
use Rattle.tree_rewrite.specs.declared.on_payloads.OnPayloads.{OnPayloads}

-- the number of indices up to this one, or 0 for none
abbrev pub count_to : Option ℕ → ℕ
count_to None = zero
count_to (Some a) = suc a

-- the indices from the first to the last, by the index before each
pub data IsChain (before : List (Option ℕ)) : Option ℕ → List ℕ → Type 0 where
  no_more : {ns : List ℕ} → ns ≡ [] → IsChain before None ns
  one_more : {a : ℕ} {b : Option ℕ} {rest ns : List ℕ} → slice_get before a ≡ Some b → count_to b ≤ a → IsChain before b rest → ns ≡ rest ++ a ∷ [] → IsChain before (Some a) ns

-- a chain leads from each last index to the first
abbrev pub HaveChains : OnPayloads → Type 0
HaveChains l = (w : Way) → (ns : List ℕ) × IsChain l.before.items (number_at l.last w) ns

-- the indices of the executed changes of the payload `w`
abbrev pub IsListedAt : List Job → List Put → OnPayloads → Way → Type 0
IsListedAt all ps l w = (ns : List ℕ) × IsChain l.before.items (number_at l.last w) ns × ((js : List Job) → HavePut all ps js → OnSheet all ps ns (Some w) js)

-- all executed changes are listed
pub record IsListed (all : List Job) (ps : List Put) (l : OnPayloads) : Type 0 where
  pub count : length l.before.items ≡ length ps
  pub lists : (w : Way) → IsListedAt all ps l w

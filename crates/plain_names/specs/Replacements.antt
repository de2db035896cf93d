-- Forests in which leaves are replaced.
use Rattle.std.specs.Prelude.{◌≡◌, ℕ, ◌+◌, false, List, [], ◌∷◌, nat_eq, if◌then◌else◌}
use Rattle.std.specs.Cmp.Lexicographic.{pointwise}
use Rattle.std.specs.List.{list_any}
use Rattle.rowan_green.specs.Leaf.{Leaf}
use Rattle.rowan_green.specs.Forest.{Forest, empty, node, leaf}

-- the new leaf at an up-path: child indices from the leaf to the root
pub record Replacement : Type 0 where
  pub up : List ℕ
  pub leaf : Leaf

-- the leaf at an up-path, after replacements of which the first one counts
abbrev pub leaf_after : List Replacement → List ℕ → Leaf → Leaf
leaf_after [] up l = l
leaf_after (r ∷ rs) up l = if pointwise nat_eq r.up up then r.leaf else leaf_after rs up l

-- the forest with its leaves replaced: the children of the node at `up`, from index `i` on
abbrev pub with_leaves : List Replacement → List ℕ → ℕ → Forest → Forest
with_leaves rs up i empty = empty
with_leaves rs up i (node k f r) =
    node k (with_leaves rs (i ∷ up) 0 f) (with_leaves rs up (i + 1) r)
with_leaves rs up i (leaf l r) = leaf (leaf_after rs (i ∷ up) l) (with_leaves rs up (i + 1) r)

-- No two replacements are at one up-path.
abbrev pub AreApart : List Replacement → Type 0
AreApart [] = Unit {0}
AreApart (r ∷ rs) = (list_any (λ s. pointwise nat_eq s.up r.up) rs ≡ false) × AreApart rs

-- A renaming that leaves no macro names is that of each token.
use Rattle.std.proofs.Common.{◌≡◌, List, [], ℕ, ◌++◌, Bool, true, false, ◌&&◌, refl, ap, if◌then◌else◌}
use Rattle.rowan_green.specs.Forest.{Forest, empty, node, leaf, Tree}
use Rattle.rowan_green.specs.Leaf.{Leaf, same_leaf}
use Rattle.renamer.specs.Renamed.{identifier, renamed_forest, renamed_leaves, renamed_text, renamed_tree}
use Rattle.renamer.specs.Taken.{behind, of_all, taken_forest, taken_leaves, taken_text, taken_tree}

and-true : (b : Bool) → (b && true) ≡ b
and-true true = refl
and-true false = refl

module _ (old new : List ℕ) where
  each-leaves : (before : List ℕ) (f : Forest) → taken_leaves (of_all old new) before f ≡ renamed_leaves old new f
  each-leaves before empty = refl
  each-leaves before (node k f r) =
      let low = each-leaves [] f in
      let rest = each-leaves (behind k before) r in
      λ i. low i ++ rest i
  each-leaves before (leaf l r) =
      let own = and-true (same_leaf l (identifier old)) in
      let rest = each-leaves (behind l.kind before) r in
      λ i. (if own i then new else l.text) ++ rest i

  pub each-text : (t : Tree) → taken_text (of_all old new) t ≡ renamed_text old new t
  each-text t = each-leaves [] t.forest

  each-forest : (token : Leaf) (before : List ℕ) (f : Forest) → taken_forest (of_all old new) token before f ≡ renamed_forest old token f
  each-forest token before empty = refl
  each-forest token before (node k f r) =
      let low = each-forest token [] f in
      let rest = each-forest token (behind k before) r in
      λ i. node k (low i) (rest i)
  each-forest token before (leaf l r) =
      let own = and-true (same_leaf l (identifier old)) in
      let rest = each-forest token (behind l.kind before) r in
      λ i. leaf (if own i then token else l) (rest i)

  pub each-tree : (token : Leaf) (t : Tree) → taken_tree (of_all old new) token t ≡ renamed_tree old token t
  each-tree token t = ap (λ (f : Forest). let r : Tree = record { kind = t.kind; forest = f } in r) (each-forest token [] t.forest)

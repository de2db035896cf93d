-- Lemmas on a node in an arena.
use Rattle.std.proofs.Common.{◌≡◌, ℕ, ◌-◌, List, [], length, ap, sym, ◌∙◌, arith, string_bytes}
use Rattle.std.specs.Prelude.{slice_get, Some}
use Rattle.rowan_green.specs.Forest.{Tree}
use Rattle.rowan_green.specs.Term.{Term}
use Rattle.rowan_green.specs.declared.utility_types.NodeOrToken.TheVariants.{Node}
use Rattle.rowan_green.specs.declared.arena.Arena.{Arena}
use Rattle.rowan_green.specs.Arena.{terms_at, items_in, IsSound}
use Rattle.rowan_green.specs.FlatNode.{tree_or_empty, tree_at, last_tree, IsNodeAt, IsLast}
use Rattle.rowan_green.proofs.ArenaRoots.{length-terms}

-- the last entry of an arena, found in one with the same terms
pub record LastFound (a : Arena) (b : Arena) (i : ℕ) : Type 0 where
  pub node : IsNodeAt b i
  pub tree : tree_at b i ≡ last_tree a

pub last_found : (a b : Arena) (i : ℕ) → IsSound b [] → terms_at (items_in b) ≡ terms_at (items_in a) → IsLast (terms_at (items_in a)) (Node (last_tree a)) → i ≡ length b.entries.items - 1 → LastFound a b i
last_found a b i s e l h =
    let ts = terms_at (items_in a) in
    let us = terms_at (items_in b) in
    let m : length us ≡ length b.entries.items = length-terms (string_bytes b.text) b.records.items b.entries.items in
    let n : length us ≡ length ts = ap length e in
    let at : i ≡ length ts - 1 = omega (arith, h, m, n) in
    let seen : slice_get us i ≡ Some (Node (last_tree a)) =
    ap (λ (xs : List Term). slice_get xs i) e ∙ ap (λ (j : ℕ). slice_get ts j) at ∙ l.term in
    let tree : tree_at b i ≡ last_tree a = ap tree_or_empty seen in
    record {
      node = record { sound = s; within = omega (arith, h, m, n, l.some); node = seen ∙ ap (λ (t : Tree). Some (Node t)) (sym tree) };
      tree = tree;
    }

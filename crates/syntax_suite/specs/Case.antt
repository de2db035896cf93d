-- Cases of a rewrite: changes recorded on a tree, and the result of applying them.
use Rattle.std.specs.Prelude.{ℕ, zero, suc, ◌-◌, List, [], ◌∷◌, length, reverse, map, Option, Some, None, is_none, Bool, true, false, ◌&&◌, not, nat_eq, slice_get, unwrap_or}
use Rattle.std.specs.List.{filter, flat_map}
use Rattle.std.specs.Cmp.Lexicographic.{pointwise}
use Rattle.rowan_green.specs.Forest.{Forest, empty, Tree, same_forest}
use Rattle.syntax_tree.specs.Element.{Way, same_way, Element, element_at}
use Rattle.tree_rewrite.specs.Change.{Change, insert, replace, has_collision}
use Rattle.syntax_tree.specs.Mapping.{Mapping}
use Rattle.tree_rewrite.specs.Marked.{Marked, forest_in, changed, origins}
use Rattle.tree_rewrite.specs.Rewrite.{Job, jobs, rewrite, or_no_jobs}
use Rattle.tree_rewrite.specs.Orders.{is_order}

-- an element of one of the case's trees: the number of the tree, and the path from its root
abbrev pub Reference : Type 0
Reference = ℕ × List ℕ

-- what was recorded, by paths from the root
pub data Recorded : Type 0 where
  into : (parent : List ℕ) → (index : ℕ) → (new : List Reference) → Recorded
  over : (parent : List ℕ) → (first last : ℕ) → (new : List Reference) → (single : Bool) → Recorded
  over_root : (new : List Reference) → (single : Bool) → Recorded

-- the result: an error; or the rewritten tree, the paths of the changed elements, the origins in preorder, the number of planned
-- changes, and, if those are few, all admitted orders of them, in ascending order
pub data Outcome : Type 0 where
  intersecting : Outcome
  missing : Outcome
  accepted : Forest → List (List ℕ) → List Reference → ℕ → Option (List (List ℕ)) → Outcome

-- the trees have the numbers from 1 on, and the first is the edited one
pub record Case : Type 0 where
  pub trees : List Tree
  pub mapping : List (Reference × Reference)
  pub changes : List Recorded
  pub outcome : Outcome

abbrev pub no_tree : Tree
no_tree = record { kind = 0; forest = empty }

abbrev pub element_in : List Tree → Reference → Element
element_in ts r = element_at r.0 (unwrap_or (slice_get ts (r.0 - 1)) no_tree) (reverse r.1)

abbrev pub change_in : List Tree → Recorded → Change
change_in ts (into p i new) = insert (reverse p) i (map (element_in ts) new)
change_in ts (over p first last new single) = replace (first ∷ reverse p) (last - first) (map (element_in ts) new) single
change_in ts (over_root new single) = replace [] 0 (map (element_in ts) new) single

abbrev pub mapping_in : List Tree → List (Reference × Reference) → Mapping
mapping_in ts ms = map (λ m. (element_in ts m.0, element_in ts m.1)) ms

-- all lists of this length of numbers below a bound, in ascending order
abbrev pub numbers_from : ℕ → ℕ → List ℕ
numbers_from a zero = []
numbers_from a (suc n) = a ∷ numbers_from (suc a) n

abbrev pub lists_below : ℕ → ℕ → List (List ℕ)
lists_below n zero = [] ∷ []
lists_below n (suc m) = flat_map (λ a. map (λ l. a ∷ l) (lists_below n m)) (numbers_from 0 n)

abbrev pub same_reference : Reference → Reference → Bool
same_reference a b = nat_eq a.0 b.0 && same_way a.1 b.1

abbrev pub reference_of : Element → Reference
reference_of e = (e.number, reverse e.place.up)

abbrev pub same_orders : List Job → ℕ → Option (List (List ℕ)) → Bool
same_orders js n None = true
same_orders js n (Some os) = pointwise same_way (filter (is_order js) (lists_below n n)) os

abbrev pub has_outcome : Element → List Change → Mapping → Outcome → Bool
has_outcome top cs ms intersecting = has_collision cs
has_outcome top cs ms missing = not (has_collision cs) && is_none (jobs top cs ms)
has_outcome top cs ms (accepted tree paths froms n orders) =
    not (has_collision cs)
    && (not (is_none (jobs top cs ms))
    && (nat_eq (length (or_no_jobs (jobs top cs ms))) n
    && (same_forest (forest_in (rewrite top cs ms)) tree
    && (pointwise same_way (map reverse (changed (rewrite top cs ms))) paths
    && (pointwise same_reference (map reference_of (origins (rewrite top cs ms))) froms
    && same_orders (or_no_jobs (jobs top cs ms)) n orders)))))

-- the definitions give the outcome of the case
abbrev pub agrees : Case → Bool
agrees c = has_outcome (element_in c.trees (1, [])) (map (change_in c.trees) c.changes) (mapping_in c.trees c.mapping) c.outcome

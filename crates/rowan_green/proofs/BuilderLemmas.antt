-- Lemmas on a builder: when its root is the last entry of its arena.
use Rattle.std.proofs.Common.{◌≡◌, ℕ, zero, suc, ◌-◌, ◌≤◌, List, [], ◌∷◌, ◌++◌, length, take, refl, ap, sym, ◌∙◌, arith, subst, length-append, length-take, Option, Some, None, Result, Ok, Err, OnOk, OnErr, Bool, true, string_bytes}
use Rattle.std.specs.Prelude.{slice_get}
use Rattle.std.specs.Bool.{OnTrue}
use Rattle.std.specs.declared.rc.Rc.{Rc}
use Rattle.std.specs.declared.alloc.Global.{Global}
use Rattle.rowan_green.specs.Leaf.{Leaf}
use Rattle.rowan_green.specs.Forest.{Tree}
use Rattle.rowan_green.specs.Term.{Term}
use Rattle.rowan_green.specs.declared.utility_types.NodeOrToken.TheVariants.{Node, Token}
use Rattle.rowan_green.specs.declared.arena.Entry.{Entry}
use Rattle.rowan_green.specs.declared.arena.Entry.TheVariants.{Short, Few, Long, Many}
use Rattle.rowan_green.specs.declared.arena.Arena.{Arena}
use Rattle.rowan_green.specs.declared.builder.OpenNode.{OpenNode}
use Rattle.rowan_green.specs.Arena.{terms_at, terms_over, items_in, term_in}
use Rattle.rowan_green.specs.FlatNode.{tree_or_empty, last_tree, IsLast}
use Rattle.rowan_green.specs.Kept.{is_node, terms_done, terms_kept, IsRooted, IsRootedBy}
use Rattle.rowan_green.proofs.ArenaRoots.{length-terms}

-- ---- more than one node is done

no_token : (es : List Term) (l : Leaf) (t : Tree) → es ++ Token l ∷ [] ≡ Node t ∷ [] → ⊥
no_token [] l t e = cc
no_token (x ∷ es) l t e = absurd (omega (arith, ap length e, length-append es (Token l ∷ [])))

pub token_rooted_by : (ts kept es : List Term) (l : Leaf) → ts ≡ es ++ Token l ∷ [] → IsRootedBy ts kept
token_rooted_by ts kept es l e = λ t q. absurd (no_token es l t (sym e ∙ q))

pub token_rooted : (arena : Option (Rc Arena Global)) (done : List Entry) (es : List Term) (l : Leaf) → terms_done arena done ≡ es ++ Token l ∷ [] → IsRooted arena done
token_rooted arena done es l e = token_rooted_by (terms_done arena done) (terms_kept arena) es l e

-- a node that was closed is the last entry, or something is done before it
pub closed_rooted_by : (ts kept es : List Term) (x : Term) (first : ℕ) (b : Bool) → (first ≡ 0 → b ≡ true) → OnTrue b (IsRootedBy ts kept) → first ≤ length es → ts ≡ take first es ++ x ∷ [] → IsRootedBy ts kept
closed_rooted_by ts kept es x zero b h p w e = subst (λ (v : Bool). OnTrue v (IsRootedBy ts kept)) (h refl) p
closed_rooted_by ts kept es x (suc i) b h p w e =
    λ t q. absurd (omega (arith, w, ap length (sym e ∙ q), length-append (take (suc i) es) (x ∷ []), length-take (suc i) es))

pub closed_rooted : (arena : Option (Rc Arena Global)) (done : List Entry) (es : List Term) (x : Term) (first : ℕ) (b : Bool) → (first ≡ 0 → b ≡ true) → OnTrue b (IsRooted arena done) → first ≤ length es → terms_done arena done ≡ take first es ++ x ∷ [] → IsRooted arena done
closed_rooted arena done es x first b h p w e = closed_rooted_by (terms_done arena done) (terms_kept arena) es x first b h p w e

-- ---- one more node is open

no_push : (os : List OpenNode) (o : OpenNode) → os ++ o ∷ [] ≡ [] → ⊥
no_push os o e = omega (arith, ap length e, length-append os (o ∷ []))

pub root_after : {T E : Type 0} (r : Result T E) (os new : List OpenNode) (o : OpenNode) (arena : Option (Rc Arena Global)) (done : List Entry) → OnOk r (new ≡ os ++ o ∷ []) → OnErr r (new ≡ os) → (os ≡ [] → IsRooted arena done) → new ≡ [] → IsRooted arena done
root_after (Ok x) os new o arena done p q h e = absurd (no_push os o (sym p ∙ e))
root_after (Err x) os new o arena done p q h e = h (sym q ∙ e)

-- ---- one node is all that is done

pub record IsOneNode (done : List Entry) : Type 0 where
  pub entry : Entry
  pub is : done ≡ entry ∷ []
  pub node : is_node entry ≡ true

entry_node : (a : Arena) (e : Entry) (t : Tree) → term_in a e ≡ Node t → is_node e ≡ true
entry_node a (Short n k s) t p = absurd (cc)
entry_node a (Few n k f) t p = refl
entry_node a (Long k i) t p = absurd (cc)
entry_node a (Many k i) t p = refl

pub one_node_in : (a : Arena) (done : List Entry) (t : Tree) → terms_over a done ≡ Node t ∷ [] → IsOneNode done
one_node_in a [] t p = absurd (omega (arith, ap length p))
one_node_in a (e ∷ []) t p =
    let same : term_in a e ≡ Node t = cc in
    record { entry = e; is = refl; node = entry_node a e t same }
one_node_in a (e ∷ f ∷ done) t p = absurd (omega (arith, ap length p))

pub one_node : (arena : Option (Rc Arena Global)) (done : List Entry) (t : Tree) → terms_done arena done ≡ Node t ∷ [] → IsOneNode done
one_node None done t p = absurd (omega (arith, ap length p))
one_node (Some shared) done t p = one_node_in shared.value done t p

node_term : (a : Arena) (e : Entry) → is_node e ≡ true → term_in a e ≡ Node (tree_or_empty (Some (term_in a e)))
node_term a (Short n k s) p = absurd (cc)
node_term a (Few n k f) p = refl
node_term a (Long k i) p = absurd (cc)
node_term a (Many k i) p = refl

-- a builder with one node that is all that is done
pub record IsWhole (a : Arena) (ts : List Term) : Type 0 where
  pub terms : ts ≡ Node (last_tree a) ∷ []
  pub last : IsLast (terms_at (items_in a)) (Node (last_tree a))

pub whole_in : (a : Arena) (done : List Entry) (e : Entry) → done ≡ e ∷ [] → is_node e ≡ true → IsRootedBy (terms_over a done) (terms_at (items_in a)) → IsWhole a (terms_over a done)
whole_in a done e d n root =
    let ts = terms_at (items_in a) in
    let t = tree_or_empty (Some (term_in a e)) in
    let terms : terms_over a done ≡ Node t ∷ [] = ap (terms_over a) d ∙ ap (λ (x : Term). x ∷ []) (node_term a e n) in
    let last : IsLast ts (Node t) = root t terms in
    let size : length ts ≡ length a.entries.items = length-terms (string_bytes a.text) a.records.items a.entries.items in
    let at : length a.entries.items - 1 ≡ length ts - 1 = omega (arith, size) in
    let tree : last_tree a ≡ t = ap (λ (i : ℕ). tree_or_empty (slice_get ts i)) at ∙ ap tree_or_empty last.term in
    record {
      terms = terms ∙ ap (λ (u : Tree). Node u ∷ []) (sym tree);
      last = subst (λ (u : Tree). IsLast ts (Node u)) (sym tree) last;
    }

pub whole : (arena : Option (Rc Arena Global)) (shared : Rc Arena Global) (done : List Entry) (e : Entry) → arena ≡ Some shared → done ≡ e ∷ [] → is_node e ≡ true → IsRooted arena done → IsWhole shared.value (terms_done arena done)
whole arena shared done e m d n root =
    let P : Option (Rc Arena Global) → Type 0 = λ o. IsWhole shared.value (terms_done o done) in
    let own : IsRooted (Some shared) done = subst (λ (o : Option (Rc Arena Global)). IsRooted o done) m root in
    subst P (sym m) (whole_in shared.value done e d n own)

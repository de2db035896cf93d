-- Lemmas on the close of a root, which is also the last entry of its arena.
use Rattle.std.proofs.Common.{◌≡◌, ℕ, ◌+◌, ◌-◌, ◌<◌, ◌^◌, List, [], ◌∷◌, ◌++◌, length, refl, ap, sym, ◌∙◌, arith, subst, length-append, string_bytes}
use Rattle.std.proofs.lemmas.List.{length-map}
use Rattle.std.specs.Prelude.{slice_get}
use Rattle.std.specs.Str.{IsUtf8}
use Rattle.rowan_green.specs.Term.{Term, tree_of}
use Rattle.rowan_green.specs.declared.utility_types.NodeOrToken.TheVariants.{Node}
use Rattle.rowan_green.specs.declared.arena.Entry.{Entry}
use Rattle.rowan_green.specs.declared.arena.Entry.TheVariants.{Many}
use Rattle.rowan_green.specs.declared.arena.Record.{Record}
use Rattle.rowan_green.specs.declared.arena.Arena.{Arena}
use Rattle.rowan_green.specs.Arena.{Item, terms_at, items_in}
use Rattle.rowan_green.specs.FlatNode.{IsLast}
use Rattle.rowan_green.proofs.ArenaItems.{length-items_after}
use Rattle.rowan_green.proofs.ArenaGrowing.{all_items, done_items, Growing, GrewParts, Grew, grew, many_closed, root_pushed}

-- what holds after a root of these terms was closed
pub record RootClosed (t : List ℕ) (rs : List Record) (es done : List Entry) (used : ℕ) (x : Term) : Type 0 where
  pub grew : GrewParts t rs es done used (x ∷ [])
  pub last : IsLast (terms_at (all_items t rs es)) x

pub length-terms : (t : List ℕ) (rs : List Record) (es : List Entry) → length (terms_at (all_items t rs es)) ≡ length es
length-terms t rs es = length-map (all_items t rs es) (λ (y : Item). y.term) ∙ length-items_after t rs [] es ∙ omega arith

pub root_closed : (t : List ℕ) (rs : List Record) (es done : List Entry) (used k i : ℕ) (r : Record) → Growing t rs es done used → IsUtf8 t → length es + length done + 1 < 2 ^ 32 → i ≡ length rs
    → r.start ≡ 0 → r.len ≡ used → r.first ≡ length es → r.count ≡ length done
    → RootClosed t (rs ++ r ∷ []) ((es ++ done) ++ Many k i ∷ []) (Many k i ∷ []) used (Node (tree_of k (terms_at (done_items t rs es done))))
root_closed t rs es done used k i r p u w e starts len f n =
    let x = Many k i in
    let ss = rs ++ r ∷ [] in
    let all = es ++ done in
    let q = many_closed t rs es done used 0 k i r p u (omega arith) (omega (arith, w)) e starts (omega (arith, starts, len)) f (omega (arith, n)) in
    let z = root_pushed t ss all (x ∷ []) used 0 x q.growing (omega arith) refl (omega (arith, w, length-append es done)) in
    let ts = terms_at (all_items t ss (all ++ x ∷ [])) in
    let m : length ts ≡ length all + 1 = length-terms t ss (all ++ x ∷ []) ∙ length-append all (x ∷ []) in
    let at : length ts - 1 ≡ length all = omega (arith, m) in
    record {
      grew = record { growing = z.grew.growing; terms = z.grew.terms ∙ q.terms };
      last = record {
        some = omega (arith, m);
        term = ap (λ (j : ℕ). slice_get ts j) at ∙ z.root ∙ ap (λ (ys : List Term). slice_get ys 0) q.terms;
      };
    }

-- an arena of these parts
pub record IsRootOf (a : Arena) (done : List Entry) (x : Term) : Type 0 where
  pub grew : Grew a done (x ∷ [])
  pub last : IsLast (terms_at (items_in a)) x

pub root_of : (a : Arena) (done : List Entry) (t : List ℕ) (rs : List Record) (es ds : List Entry) (used : ℕ) (x : Term) → string_bytes a.text ≡ t → a.records.items ≡ rs → a.entries.items ≡ es → done ≡ ds → a.used ≡ used → RootClosed t rs es ds used x → IsRootOf a done x
root_of a done t rs es ds used x e f g h k p =
    let l1 : IsLast (terms_at (all_items (string_bytes a.text) rs es)) x = subst (λ (y : List ℕ). IsLast (terms_at (all_items y rs es)) x) (sym e) p.last in
    let l2 : IsLast (terms_at (all_items (string_bytes a.text) a.records.items es)) x = subst (λ (y : List Record). IsLast (terms_at (all_items (string_bytes a.text) y es)) x) (sym f) l1 in
    let l3 : IsLast (terms_at (all_items (string_bytes a.text) a.records.items a.entries.items)) x = subst (λ (y : List Entry). IsLast (terms_at (all_items (string_bytes a.text) a.records.items y)) x) (sym g) l2 in
    record { grew = grew a done t rs es ds used (x ∷ []) e f g h k p.grew; last = l3 }

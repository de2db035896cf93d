-- What the code of moved changes goes by.
use Rattle.std.proofs.Common.{◌≡◌, ℕ, zero, suc, ◌+◌, ◌≤◌, List, [], ◌∷◌, ◌++◌, length, Option, Some, None, Result, IfOk, Bool, true, false, ◌&&◌, cond, refl, ap, sym, subst, ◌∙◌, arith, slice_get, option_map}
use Rattle.std.specs.Bool.{then_some}
use Rattle.rowan_green.specs.Forest.{Tree}
use Rattle.rowan_green.specs.Term.{Term}
use Rattle.rowan_green.specs.declared.utility_types.NodeOrToken.TheVariants.{Node}
use Rattle.rowan.specs.Place.{term_by, children_in, first_number}
use Rattle.syntax_tree.specs.Element.{Way, Element}
use Rattle.tree_rewrite.specs.Change.{Change, insert, replace}
use Rattle.tree_rewrite.specs.Moved.{same_kind, same_kinds, has_gap, way_above, carried, change_below}
use Rattle.tree_rewrite.specs.Recorded.{change_of}
use Rattle.tree_rewrite.specs.declared.tree_change.Target.{Target}

-- an element below a node of a tree
pub term_by-below : (t g : Tree) (up q : Way) → term_by t up ≡ Some (Node g) → term_by t (q ++ up) ≡ term_by g q
term_by-below t g up [] h = h
term_by-below t g up (i ∷ q) h = ap (λ o. slice_get (children_in o) i) (term_by-below t g up q h)

pub same_kinds-more : (old new : List Term) (i n : ℕ) → same_kinds old new i (n + 1) ≡ (same_kind (slice_get old i) (slice_get new i) && same_kinds old new (i + 1) n)
same_kinds-more old new i n = let e : n + 1 ≡ suc n = omega arith in ap (same_kinds old new i) e

same_kind-none : (old new : List Term) (i : ℕ) → length old ≤ i → same_kind (slice_get old i) (slice_get new i) ≡ false
same_kind-none [] new i h = refl
same_kind-none (e ∷ old) new zero h = absurd (omega arith)
same_kind-none (e ∷ old) [] (suc i) h = by_old (slice_get old i)
  where
    by_old : (o : Option Term) → same_kind o None ≡ false
    by_old None = refl
    by_old (Some t) = refl
same_kind-none (e ∷ old) (f ∷ new) (suc i) h = same_kind-none old new i (omega (arith, h))

-- there is no such child
pub same_kinds-none : (old new : List Term) (i n : ℕ) → length old ≤ i → same_kinds old new i (n + 1) ≡ false
same_kinds-none old new i n h = same_kinds-more old new i n ∙ ap (λ b. b && same_kinds old new (i + 1) n) (same_kind-none old new i h)

-- the two children differ in kind, or one is not there
pub same_kinds-differ : (old new : List Term) (i n : ℕ) → same_kind (slice_get old i) (slice_get new i) ≡ false → same_kinds old new i (n + 1) ≡ false
same_kinds-differ old new i n h = same_kinds-more old new i n ∙ ap (λ b. b && same_kinds old new (i + 1) n) h

pub same_kinds-next : (old new : List Term) (i n : ℕ) → same_kind (slice_get old i) (slice_get new i) ≡ true → same_kinds old new i (n + 1) ≡ same_kinds old new (i + 1) n
same_kinds-next old new i n h = same_kinds-more old new i n ∙ ap (λ b. b && same_kinds old new (i + 1) n) h

-- ---- the cases of a moved change, by the payload's own term
pub insert_below : (t : Tree) (u : Way) (b : Element) (g : Tree) (w p : Way) (i : ℕ) (new : List Element) (s : Bool) → term_by b.place.root b.place.up ≡ Some (Node g)
    → s ≡ has_gap (term_by t p) (term_by g (carried u w p)) i
    → change_below t u b w (insert p i new) ≡ cond s (Some (insert (carried u w p) i new)) None
insert_below t u b g w p i new s h e =
    ap (λ o. cond (has_gap (term_by t p) o i) (Some (insert (carried u w p) i new)) None) (term_by-below b.place.root g b.place.up (carried u w p) h)
    ∙ ap (λ x. cond x (Some (insert (carried u w p) i new)) None) (sym e)

pub replace_below : (t : Tree) (u : Way) (b : Element) (g : Tree) (w f : Way) (n : ℕ) (new : List Element) (single s : Bool) → term_by b.place.root b.place.up ≡ Some (Node g)
    → s ≡ same_kinds (children_in (term_by t (way_above f))) (children_in (term_by g (carried u w (way_above f)))) (first_number f) (n + 1)
    → change_below t u b w (replace f n new single) ≡ cond s (Some (replace (first_number f ∷ carried u w (way_above f)) n new single)) None
replace_below t u b g w f n new single s h e =
    let moved = replace (first_number f ∷ carried u w (way_above f)) n new single in
    ap (λ o. cond (same_kinds (children_in (term_by t (way_above f))) (children_in o) (first_number f) (n + 1)) (Some moved) None) (term_by-below b.place.root g b.place.up (carried u w (way_above f)) h)
    ∙ ap (λ x. cond x (Some moved) None) (sym e)

moved_by_test : (s : Bool) (x : Target) (es : List Element) → option_map (λ t. change_of t es) (then_some s x) ≡ cond s (Some (change_of x es)) None
moved_by_test true x es = refl
moved_by_test false x es = refl

-- a change that moves to a target if a test holds
pub moved_if : {E : Type 0} (r : Result (Option Change) E) (s : Bool) (x : Target) (es : List Element) (o : Option Target) (m : Change) (a : Option Change)
    → IfOk r (λ v. v ≡ option_map (λ t. change_of t es) o) → o ≡ then_some s x → change_of x es ≡ m → a ≡ cond s (Some m) None
    → IfOk r (λ v. v ≡ a)
moved_if r s x es o m a h e made below =
    subst (λ (z : Option Change). IfOk r (λ v. v ≡ z)) (ap (option_map (λ t. change_of t es)) e ∙ moved_by_test s x es ∙ ap (λ y. cond s (Some y) None) made ∙ sym below) h

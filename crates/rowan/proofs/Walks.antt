-- A walk's events follow the cursors: the next event is at the first child, the next sibling or the parent.
use Rattle.std.proofs.Common.{◌≡◌, ℕ, zero, suc, ◌+◌, List, [], ◌∷◌, ◌++◌, drop, refl, ap, sym, ◌∙◌, add-one, append_assoc, subst, Option, Some, None, slice_get, true, false}
use Rattle.std.specs.Prelude.{Result, Ok, MatchResult}
use Rattle.rowan_green.specs.Forest.{Forest, empty, node, leaf, Tree}
use Rattle.rowan_green.specs.Leaf.{Leaf}
use Rattle.rowan_green.specs.Term.{Term, forest_of, forest_of-terms}
use Rattle.rowan_green.specs.declared.utility_types.NodeOrToken.TheVariants.{Node, Token}
use Rattle.rowan.specs.Place.{Place, above, below, term_at, terms_below, children_in}
use Rattle.rowan.specs.Around.{Cursor, place_in, cursor_in, cursor_at, children, children_from, siblings_after, first}
use Rattle.rowan.specs.Walk.{Event, walk_forest, walk_from, skipped}
use Rattle.rowan.specs.Left.{left_above, left_leaving, left_entering, left_at, event_of}
use Rattle.rowan.specs.declared.utility_types.WalkEvent.TheVariants.{Enter, Leave}
use Rattle.rowan.proofs.Lists.{first_from}

-- what was given is the first of what was left
pub first_given : {A E : Type 0} (s t : List A) (x : Result A E) (v : A) → x ≡ Ok v → MatchResult x (λ a. s ≡ a ∷ t) (λ _. t ≡ []) → s ≡ v ∷ t
first_given s t x v e h = subst (λ y. MatchResult y (λ a. s ≡ a ∷ t) (λ _. t ≡ [])) e h

-- the events from a child on
abbrev pub events_by : Option Cursor → List Event → List Event
events_by None w = []
events_by (Some c) w = Enter c ∷ (walk_from (place_in c) 0 ++ Leave c ∷ w)

pub walk_inside : (p : Place) (i : ℕ) (t : Tree) → slice_get (terms_below p) i ≡ Some (Node t) → walk_from (below p i) 0 ≡ walk_forest (below p i) 0 t.forest
walk_inside p i t h = ap (λ o. walk_forest (below p i) 0 (forest_of (drop 0 (children_in o)))) h ∙ ap (walk_forest (below p i) 0) (forest_of-terms t.forest)

pub walk_nothing : (p : Place) (i : ℕ) (l : Leaf) → slice_get (terms_below p) i ≡ Some (Token l) → walk_from (below p i) 0 ≡ []
walk_nothing p i l h = ap (λ o. walk_forest (below p i) 0 (forest_of (drop 0 (children_in o)))) h

drop_none : (es : List Term) (i : ℕ) → slice_get es i ≡ None → drop i es ≡ []
drop_none [] zero h = refl
drop_none [] (suc i) h = refl
drop_none (e ∷ es) zero h = absurd (cc)
drop_none (e ∷ es) (suc i) h = drop_none es i h

drop_suc : (es : List Term) (i : ℕ) (e : Term) → slice_get es i ≡ Some e → drop i es ≡ e ∷ drop (suc i) es
drop_suc [] i e h = absurd (cc)
drop_suc (x ∷ es) zero e h = let k : x ≡ e = cc in ap (λ y. y ∷ es) k
drop_suc (x ∷ es) (suc i) e h = drop_suc es i e h

drop_some : (es : List Term) (i : ℕ) (e : Term) → slice_get es i ≡ Some e → drop i es ≡ e ∷ drop (i + 1) es
drop_some es i e h = rw add-one (drop_suc es i e h)

walk_case : (p : Place) (i : ℕ) (o : Option Term) → slice_get (terms_below p) i ≡ o → walk_from p i ≡ events_by (cursor_in (below p i) o) (walk_from p (i + 1))
walk_case p i None h = ap (λ es. walk_forest p i (forest_of es)) (drop_none (terms_below p) i h)
walk_case p i (Some (Node t)) h =
    ap (λ es. walk_forest p i (forest_of es)) (drop_some (terms_below p) i (Node t) h)
    ∙ ap (λ w. Enter (Node (below p i)) ∷ (w ++ Leave (Node (below p i)) ∷ walk_from p (i + 1))) (sym (walk_inside p i t h))
walk_case p i (Some (Token l)) h =
    ap (λ es. walk_forest p i (forest_of es)) (drop_some (terms_below p) i (Token l) h)
    ∙ ap (λ w. Enter (Token (below p i)) ∷ (w ++ Leave (Token (below p i)) ∷ walk_from p (i + 1))) (sym (walk_nothing p i l h))

-- the events from a child on are those of that child, and then those from the next one on
pub walk_here : (p : Place) (i : ℕ) → walk_from p i ≡ events_by (cursor_at (below p i)) (walk_from p (i + 1))
walk_here p i = walk_case p i (slice_get (terms_below p) i) refl

place_is : (q : Place) (o : Option Term) (c : Cursor) → Some c ≡ cursor_in q o → place_in c ≡ q
place_is q None c h = absurd (cc)
place_is q (Some (Node t)) c h = let k : c ≡ Node q = cc in ap place_in k
place_is q (Some (Token l)) c h = let k : c ≡ Token q = cc in ap place_in k

-- the place of a child is below its parent
pub place_of_child : (p : Place) (i : ℕ) (c : Cursor) → Some c ≡ cursor_at (below p i) → place_in c ≡ below p i
place_of_child p i c h = place_is (below p i) (term_at (below p i)) c h

after_first : (p : Place) (c : Cursor) (i d : ℕ) → Some c ≡ cursor_at (below p i) → walk_from p i ++ Leave (Node p) ∷ left_above p.root p.up d ≡ left_entering c (suc d)
after_first p c i d h =
    ap (λ w. w ++ Leave (Node p) ∷ left_above p.root p.up d) (walk_here p i ∙ ap (λ o. events_by o (walk_from p (i + 1))) (sym h))
    ∙ ap (λ w. Enter c ∷ w) (append_assoc (walk_from (place_in c) 0) (Leave c ∷ walk_from p (i + 1)) (Leave (Node p) ∷ left_above p.root p.up d))
    ∙ ap (λ (q : Place). Enter c ∷ (walk_from (place_in c) 0 ++ Leave c ∷ left_above q.root q.up (suc d))) (sym (place_of_child p i c h))

pub step_in : (p : Place) (c : Cursor) (d : ℕ) → Some c ≡ first (children p) → left_at false (Node p) d ≡ event_of false (Node p) ∷ left_at false c (d + 1)
step_in p c d h = rw add-one (ap (λ w. Enter (Node p) ∷ w) (after_first p c 0 d (h ∙ first_from p 0)))

walk_none : (p : Place) (i : ℕ) → None ≡ first (children_from p i) → walk_from p i ≡ []
walk_none p i h = walk_here p i ∙ ap (λ o. events_by o (walk_from p (i + 1))) (sym (h ∙ first_from p i))

pub step_turn : (p : Place) (d : ℕ) → None ≡ first (children p) → left_at false (Node p) d ≡ event_of false (Node p) ∷ left_at true (Node p) d
step_turn p d h = ap (λ w. Enter (Node p) ∷ (w ++ left_leaving (Node p) d)) (walk_none p 0 h)

pub step_over : (p : Place) (d : ℕ) (l : Leaf) → term_at p ≡ Some (Token l) → left_at false (Token p) d ≡ event_of false (Token p) ∷ left_at true (Token p) d
step_over p d l h =
    let e : walk_from p 0 ≡ [] = ap (λ o. walk_forest p 0 (forest_of (drop 0 (children_in o)))) h in
    ap (λ w. Enter (Token p) ∷ (w ++ left_leaving (Token p) d)) e

side_by : (root : Tree) (up : List ℕ) (s : Cursor) (k : ℕ) → Some s ≡ first (siblings_after (record { root = root; up = up })) → left_above root up (suc k) ≡ left_entering s (suc k)
side_by root [] s k h = absurd (cc)
side_by root (i ∷ up) s k h = after_first (record { root = root; up = up }) s (i + 1) k (h ∙ first_from (record { root = root; up = up }) (i + 1))

pub step_side : (c s : Cursor) (d k : ℕ) → d ≡ k + 1 → Some s ≡ first (siblings_after (place_in c)) → left_at true c d ≡ event_of true c ∷ left_at false s d
step_side c s d k e h = rw (e, add-one) (ap (λ w. Leave c ∷ w) (side_by (place_in c).root (place_in c).up s k h))

up_by : (root : Tree) (up : List ℕ) (p : Place) (k : ℕ) → None ≡ first (siblings_after (record { root = root; up = up })) → Some p ≡ above (record { root = root; up = up }) → left_above root up (suc k) ≡ left_leaving (Node p) k
up_by root [] p k h f = absurd (cc)
up_by root (i ∷ up) p k h f =
    let e : record { root = root; up = up } ≡ p = cc in
    let w = walk_none (record { root = root; up = up }) (i + 1) h in
    ap (λ v. v ++ left_leaving (Node (record { root = root; up = up })) k) w ∙ ap (λ q. left_leaving (Node q) k) e

pub step_up : (c : Cursor) (p : Place) (d k : ℕ) → d ≡ k + 1 → None ≡ first (siblings_after (place_in c)) → Some p ≡ above (place_in c) → left_at true c d ≡ event_of true c ∷ left_at true (Node p) k
step_up c p d k e h f = rw (e, add-one) (ap (λ w. Leave c ∷ w) (up_by (place_in c).root (place_in c).up p k h f))

top_by : (root : Tree) (up : List ℕ) (d : ℕ) → None ≡ above (record { root = root; up = up }) → left_above root up d ≡ []
top_by root [] d h = refl
top_by root (i ∷ up) d h = absurd (cc)

pub step_top : (c : Cursor) (d : ℕ) → None ≡ above (place_in c) → left_at true c d ≡ event_of true c ∷ []
step_top c d h = ap (λ w. Leave c ∷ w) (top_by (place_in c).root (place_in c).up d h)

start_by : (root : Tree) (up : List ℕ) → left_above root up 0 ≡ []
start_by root [] = refl
start_by root (i ∷ up) = refl

pub step_start : (c : Cursor) (d : ℕ) → d ≡ 0 → left_at true c d ≡ event_of true c ∷ []
step_start c d e = rw e (ap (λ w. Leave c ∷ w) (start_by (place_in c).root (place_in c).up))

-- elements that are entered and left are skipped
skipped_walk : (p : Place) (i : ℕ) (f : Forest) (k : ℕ) (w : List Event) → skipped k (walk_forest p i f ++ w) ≡ skipped k w
skipped_walk p i empty k w = refl
skipped_walk p i (node l f r) k w =
    ap (λ v. skipped (suc k) v) (append_assoc (walk_forest (below p i) 0 f) (Leave (Node (below p i)) ∷ walk_forest p (i + 1) r) w)
    ∙ skipped_walk (below p i) 0 f (suc k) (Leave (Node (below p i)) ∷ (walk_forest p (i + 1) r ++ w))
    ∙ skipped_walk p (i + 1) r k w
skipped_walk p i (leaf l r) k w = skipped_walk p (i + 1) r k w

skipped_here : (c : Cursor) (d : ℕ) → skipped 0 (left_at false c d) ≡ skipped 0 (left_above (place_in c).root (place_in c).up d)
skipped_here c d = skipped_walk (place_in c) 0 (forest_of (drop 0 (terms_below (place_in c)))) 1 (left_leaving c d)

past_by : (root : Tree) (up : List ℕ) (p : Place) (k : ℕ) → Some p ≡ above (record { root = root; up = up }) → skipped 0 (left_above root up (suc k)) ≡ left_leaving (Node p) k
past_by root [] p k h = absurd (cc)
past_by root (i ∷ up) p k h =
    let q : Place = record { root = root; up = up } in
    let e : q ≡ p = cc in
    skipped_walk q (i + 1) (forest_of (drop (i + 1) (terms_below q))) 0 (left_leaving (Node q) k) ∙ ap (λ x. left_leaving (Node x) k) e

pub past_up : (c : Cursor) (p q : Place) (d k : ℕ) → d ≡ k + 1 → Some p ≡ above (place_in c) → q ≡ p → left_at true (Node q) k ≡ skipped 0 (left_at false c d)
past_up c p q d k e h same =
    let m : d ≡ suc k = e ∙ add-one k in
    ap (λ x. left_leaving (Node x) k) same
    ∙ sym (skipped_here c d ∙ ap (λ n. skipped 0 (left_above (place_in c).root (place_in c).up n)) m ∙ past_by (place_in c).root (place_in c).up p k h)

pub past_top : (c : Cursor) (d : ℕ) → None ≡ above (place_in c) → [] ≡ skipped 0 (left_at false c d)
past_top c d h = sym (skipped_here c d ∙ ap (skipped 0) (top_by (place_in c).root (place_in c).up d h))

pub past_start : (c : Cursor) (d : ℕ) → d ≡ 0 → [] ≡ skipped 0 (left_at false c d)
past_start c d e = sym (skipped_here c d ∙ ap (λ n. skipped 0 (left_above (place_in c).root (place_in c).up n)) e ∙ ap (skipped 0) (start_by (place_in c).root (place_in c).up))

-- Jobs of changes that do not collide set no slot twice.
use Rattle.std.proofs.Common.{◌≡◌, ℕ, zero, suc, ◌+◌, ◌-◌, ◌≤◌, ◌<◌, List, [], ◌∷◌, ◌++◌, length, take, reverse, Option, Some, None, Bool, true, false, ◌&&◌, not, leb, refl, ap, sym, ◌∙◌, arith, subst, cond, length-append, is_none, is_some, option_map, option_and_then, slice_get}
use Rattle.std.specs.List.{filter, list_any}
use Rattle.std.proofs.lemmas.Bool.{leb-true, le-leb, and_parts, and_from, or_parts, or_left, or_right, or_from, false≢true, both_ways, not-true, false_from_ne_true}
use Rattle.std.proofs.lemmas.List.{append_cancel_right, take_at}
use Rattle.rowan_green.specs.Forest.{Tree}
use Rattle.rowan.specs.Place.{term_by, children_in, first_number}
use Rattle.syntax_tree.specs.Element.{Way, same_way, Element, element_at}
use Rattle.tree_rewrite.specs.Change.{Change, insert, replace, covers, meets, has_collision, holder_of, owner_of, replaces, is_dropped, is_node_by_node}
use Rattle.syntax_tree.specs.Mapping.{Mapping}
use Rattle.tree_rewrite.specs.Moved.{change_in, way_to, change_below, carried, way_above, same_kinds, has_gap}
use Rattle.tree_rewrite.specs.Marked.{slot}
use Rattle.tree_rewrite.specs.Rewrite.{Job, same_sheet, sets, jobs, jobs_from, job_of, change_at, payload_at, first_way, or_no_jobs, rewritten}
use Rattle.tree_rewrite.specs.Orders.{test_at, is_owned, owns, is_order, put_in_order}
use Rattle.tree_rewrite.specs.Laws.{OrdersAgree}
use Rattle.tree_rewrite.proofs.Plans.{JobsArePlan}
use Rattle.tree_rewrite.specs.Plan.{depth_of, sets_on}
use Rattle.tree_rewrite.proofs.OrderLemmas.{same_way-sound, same_way-own, same_sheet-sound, every_order}

abbrev some_or : {A : Type 0} → A → Option A → A
some_or d None = d
some_or d (Some a) = a

pub some_same : {A : Type 0} (a b : A) → Some a ≡ Some b → a ≡ b
some_same a b e = ap (some_or a) e

-- two that cover one way meet
pub covers_meet : (f g w : Way) (n m : ℕ) (es ds : List Element) (s t : Bool) → covers f n w ≡ true → covers g m w ≡ true → meets (replace f n es s) (replace g m ds t) ≡ true
covers_meet [] g [] n m es ds s t x y = y
covers_meet [] g (i ∷ w) n m es ds s t x y = absurd (false≢true x)
covers_meet (a ∷ p) g [] n m es ds s t x y = absurd (false≢true x)
covers_meet (a ∷ p) [] (i ∷ w) n m es ds s t x y = absurd (false≢true y)
covers_meet (a ∷ p) (c ∷ u) (i ∷ w) n m es ds s t x y =
    let x1 = and_parts (same_way p w) _ x in
    let x2 = and_parts (leb a i) (leb i (a + n)) x1.1 in
    let y1 = and_parts (same_way u w) _ y in
    let y2 = and_parts (leb c i) (leb i (c + m)) y1.1 in
    let e : p ≡ u = same_way-sound p w x1.0 ∙ sym (same_way-sound u w y1.0) in
    let n1 : a ≤ c + m = omega (arith, leb-true a i x2.0, leb-true i (c + m) y2.1) in
    let n2 : c ≤ a + n = omega (arith, leb-true c i y2.0, leb-true i (a + n) x2.1) in
    subst (λ z. (same_way p z && (leb a (c + m) && leb c (a + n))) ≡ true) e (and_from _ _ (same_way-own p) (and_from _ _ (le-leb a (c + m) n1) (le-leb c (a + n) n2)))

-- ---- a held way lies above
pub held_above : (cs : List Change) (p u : Way) → holder_of cs p ≡ Some u → (v : Way) × (v ++ u ≡ p)
held_above cs [] u h = by_test (list_any (λ r. replaces r []) cs) h
  where
    by_test : (b : Bool) → cond b (Some []) None ≡ Some u → (v : Way) × (v ++ u ≡ [])
    by_test true e = ([], sym (some_same [] u e))
    by_test false e = absurd (false≢true (sym (ap is_none e)))
held_above cs (i ∷ p) u h = by_test (held_above cs p u) (list_any (λ r. replaces r (i ∷ p)) cs) h
  where
    by_test : (holder_of cs p ≡ Some u → (v : Way) × (v ++ u ≡ p)) → (b : Bool) → cond b (Some (i ∷ p)) (holder_of cs p) ≡ Some u → (v : Way) × (v ++ u ≡ i ∷ p)
    by_test r true e = ([], sym (some_same (i ∷ p) u e))
    by_test r false e = let x = r e in (i ∷ x.0, ap (λ w. i ∷ w) x.1)

carried_is : (u w v p : Way) → v ++ u ≡ p → carried u w p ≡ v ++ w
carried_is u w v p e =
    let n : length p - length u ≡ length v = omega (arith, ap length e, length-append v u) in
    ap (λ k. take k p ++ w) n ∙ ap (λ x. take (length v) x ++ w) (sym e) ∙ ap (λ x. x ++ w) (take_at v u (length v) refl)

pub carried_same : (u w p q : Way) → (v : Way) × (v ++ u ≡ p) → (x : Way) × (x ++ u ≡ q) → carried u w p ≡ carried u w q → p ≡ q
carried_same u w p q a b e =
    let f : a.0 ++ w ≡ b.0 ++ w = sym (carried_is u w a.0 p a.1) ∙ e ∙ carried_is u w b.0 q b.1 in
    let g : a.0 ≡ b.0 = append_cancel_right a.0 b.0 w f in
    sym a.1 ∙ ap (λ v. v ++ u) g ∙ b.1

-- ---- a job comes of its change
by_placed : (t : Tree) (u : Way) (b : Element) (to : Way) (c : Change) (d : Change) (w : Way) → change_below t u b to c ≡ Some d → sets d (slot w) ≡ true
    → (first : Way) × (more : ℕ) × (new : List Element) × (single : Bool) × (c ≡ replace first more new single) × (covers (first_number first ∷ carried u to (way_above first)) more w ≡ true)
by_placed t u b to (insert p i new) d w e h = by_test (has_gap (term_by t p) (term_by b.place.root (carried u to p ++ b.place.up)) i) e
  where
    by_test : (x : Bool) → cond x (Some (insert (carried u to p) i new)) None ≡ Some d
        → (first : Way) × (more : ℕ) × (new' : List Element) × (single : Bool) × (insert p i new ≡ replace first more new' single) × (covers (first_number first ∷ carried u to (way_above first)) more w ≡ true)
    by_test true f = absurd (false≢true (subst (λ v. sets v (slot w) ≡ true) (sym (some_same (insert (carried u to p) i new) d f)) h))
    by_test false f = absurd (false≢true (sym (ap is_none f)))
by_placed t u b to (replace first n new single) d w e h = by_test (same_kinds (children_in (term_by t (way_above first))) (children_in (term_by b.place.root (carried u to (way_above first) ++ b.place.up))) (first_number first) (n + 1)) e
  where
    by_test : (x : Bool) → cond x (Some (replace (first_number first ∷ carried u to (way_above first)) n new single)) None ≡ Some d
        → (f' : Way) × (more : ℕ) × (new' : List Element) × (s' : Bool) × (replace first n new single ≡ replace f' more new' s') × (covers (first_number f' ∷ carried u to (way_above f')) more w ≡ true)
    by_test true f = (first, n, new, single, refl, subst (λ v. sets v (slot w) ≡ true) (sym (some_same (replace (first_number first ∷ carried u to (way_above first)) n new single) d f)) h)
    by_test false f = absurd (false≢true (sym (ap is_none f)))

sets_meet : (c d : Change) (w : Way) → sets c (slot w) ≡ true → sets d (slot w) ≡ true → meets c d ≡ true
sets_meet (insert p i new) d w x y = absurd (false≢true x)
sets_meet (replace f n es s) (insert p i new) w x y = absurd (false≢true y)
sets_meet (replace f n es s) (replace g m ds t) w x y = covers_meet f g w n m es ds s t x y

owner_some : (cs : List Change) (f : Way) (n : ℕ) (es : List Element) (s : Bool) (u : Way) → owner_of cs (replace f n es s) ≡ Some u → (i : ℕ) × (p : Way) × (f ≡ i ∷ p) × (holder_of cs p ≡ Some u)
owner_some cs [] n es s u e = absurd (false≢true (sym (ap is_none e)))
owner_some cs (i ∷ p) n es s u e = (i, p, refl, e)

-- the images of two intervals have a common slot
images_meet : (u to w : Way) (i k : ℕ) (p q : Way) (n m : ℕ) (es ds : List Element) (s t : Bool)
    → (v : Way) × (v ++ u ≡ p) → (v : Way) × (v ++ u ≡ q)
    → covers (i ∷ carried u to p) n w ≡ true → covers (k ∷ carried u to q) m w ≡ true → meets (replace (i ∷ p) n es s) (replace (k ∷ q) m ds t) ≡ true
images_meet u to [] i k p q n m es ds s t a b x y = absurd (false≢true x)
images_meet u to (l ∷ w) i k p q n m es ds s t a b x y =
    let x1 = and_parts (same_way (carried u to p) w) _ x in
    let y1 = and_parts (same_way (carried u to q) w) _ y in
    let e : carried u to p ≡ carried u to q = same_way-sound _ w x1.0 ∙ sym (same_way-sound _ w y1.0) in
    let f : p ≡ q = carried_same u to p q a b e in
    covers_meet (i ∷ p) (k ∷ q) (l ∷ p) n m es ds s t (and_from _ _ (same_way-own p) x1.1) (and_from _ _ (subst (λ z. same_way q z ≡ true) (sym f) (same_way-own q)) y1.1)

placed_meet : (t : Tree) (cs : List Change) (u : Way) (b : Element) (to : Way) (c1 c2 d1 d2 : Change) (w : Way)
    → owner_of cs c1 ≡ Some u → owner_of cs c2 ≡ Some u
    → change_below t u b to c1 ≡ Some d1 → change_below t u b to c2 ≡ Some d2 → sets d1 (slot w) ≡ true → sets d2 (slot w) ≡ true → meets c1 c2 ≡ true
placed_meet t cs u b to c1 c2 d1 d2 w o1 o2 e1 e2 h1 h2 =
    let x = by_placed t u b to c1 d1 w e1 h1 in
    let y = by_placed t u b to c2 d2 w e2 h2 in
    let x2 = owner_some cs x.0 x.1 x.2 x.3 u (subst (λ c. owner_of cs c ≡ Some u) x.4 o1) in
    let y2 = owner_some cs y.0 y.1 y.2 y.3 u (subst (λ c. owner_of cs c ≡ Some u) y.4 o2) in
    let xc : covers (x2.0 ∷ carried u to x2.1) x.1 w ≡ true = subst (λ f. covers (first_number f ∷ carried u to (way_above f)) x.1 w ≡ true) x2.2 x.5 in
    let yc : covers (y2.0 ∷ carried u to y2.1) y.1 w ≡ true = subst (λ f. covers (first_number f ∷ carried u to (way_above f)) y.1 w ≡ true) y2.2 y.5 in
    let m = images_meet u to w x2.0 y2.0 x2.1 y2.1 x.1 y.1 x.2 y.2 x.3 y.3 (held_above cs x2.1 u x2.3) (held_above cs y2.1 u y2.3) xc yc in
    let c1is : replace (x2.0 ∷ x2.1) x.1 x.2 x.3 ≡ c1 = sym (x.4 ∙ ap (λ f. replace f x.1 x.2 x.3) x2.2) in
    let c2is : replace (y2.0 ∷ y2.1) y.1 y.2 y.3 ≡ c2 = sym (y.4 ∙ ap (λ f. replace f y.1 y.2 y.3) y2.2) in
    subst (λ c. meets c c2 ≡ true) c1is (subst (λ c. meets (replace (x2.0 ∷ x2.1) x.1 x.2 x.3) c ≡ true) c2is m)

moved_meet : (top : Element) (cs : List Change) (ms : Mapping) (u : Way) (c1 c2 d1 d2 : Change) (w : Way) → owner_of cs c1 ≡ Some u → owner_of cs c2 ≡ Some u
    → (o : Option Element) → option_and_then (λ b. change_in top ms u b c1) o ≡ Some d1 → option_and_then (λ b. change_in top ms u b c2) o ≡ Some d2
    → sets d1 (slot w) ≡ true → sets d2 (slot w) ≡ true → meets c1 c2 ≡ true
moved_meet top cs ms u c1 c2 d1 d2 w o1 o2 None e1 e2 h1 h2 = absurd (false≢true (sym (ap is_none e1)))
moved_meet top cs ms u c1 c2 d1 d2 w o1 o2 (Some b) e1 e2 h1 h2 = by_climb (way_to (length ms + 1) ms b (element_at top.number top.place.root u)) e1 e2
  where
    by_climb : (o : Option Way) → option_and_then (λ to. change_below top.place.root u b to c1) o ≡ Some d1 → option_and_then (λ to. change_below top.place.root u b to c2) o ≡ Some d2 → meets c1 c2 ≡ true
    by_climb None f1 f2 = absurd (false≢true (sym (ap is_none f1)))
    by_climb (Some to) f1 f2 = placed_meet top.place.root cs u b to c1 c2 d1 d2 w o1 o2 f1 f2 h1 h2

pub job_parts : (o : Option Change) (n own : Option Way) (j : Job) → option_map (λ d. record { sheet = n; change = d; own = own }) o ≡ Some j
    → (o ≡ Some j.change) × (n ≡ j.sheet) × (own ≡ j.own)
job_parts None n own j e = absurd (false≢true (sym (ap is_none e)))
job_parts (Some d) n own j e =
    let f = some_same (record { sheet = n; change = d; own = own }) j e in
    (ap (λ v. Some v.change) f, ap (λ v. v.sheet) f, ap (λ v. v.own) f)

-- two jobs that set one slot of one sheet come of changes that meet
pub jobs_meet : (top : Element) (cs : List Change) (ms : Mapping) (c1 c2 : Change) (j1 j2 : Job) (n : Option Way) (w : Way)
    → job_of top cs ms c1 ≡ Some j1 → job_of top cs ms c2 ≡ Some j2 → sets_on n (slot w) j1 ≡ true → sets_on n (slot w) j2 ≡ true → meets c1 c2 ≡ true
jobs_meet top cs ms c1 c2 j1 j2 n w e1 e2 h1 h2 =
    let x = job_parts (change_at top cs ms (owner_of cs c1) c1) _ _ j1 e1 in
    let y = job_parts (change_at top cs ms (owner_of cs c2) c2) _ _ j2 e2 in
    let x1 = and_parts (same_sheet j1.sheet n) _ h1 in
    let y1 = and_parts (same_sheet j2.sheet n) _ h2 in
    let o1 : owner_of cs c1 ≡ n = x.1 ∙ same_sheet-sound j1.sheet n x1.0 in
    let o2 : owner_of cs c2 ≡ n = y.1 ∙ same_sheet-sound j2.sheet n y1.0 in
    by_sheet n o1 o2 (subst (λ o. change_at top cs ms o c1 ≡ Some j1.change) o1 x.0) (subst (λ o. change_at top cs ms o c2 ≡ Some j2.change) o2 y.0) x1.1 y1.1
  where
    by_sheet : (m : Option Way) → owner_of cs c1 ≡ m → owner_of cs c2 ≡ m → change_at top cs ms m c1 ≡ Some j1.change → change_at top cs ms m c2 ≡ Some j2.change
        → sets j1.change (slot w) ≡ true → sets j2.change (slot w) ≡ true → meets c1 c2 ≡ true
    by_sheet None o1 o2 p1 p2 g1 g2 = sets_meet c1 c2 w (subst (λ c. sets c (slot w) ≡ true) (sym (some_same c1 j1.change p1)) g1) (subst (λ c. sets c (slot w) ≡ true) (sym (some_same c2 j2.change p2)) g2)
    by_sheet (Some u) o1 o2 p1 p2 g1 g2 = moved_meet top cs ms u c1 c2 j1.change j2.change w o1 o2 (payload_at cs u) p1 p2 g1 g2

pub record AreJobs (top : Element) (cs : List Change) (ms : Mapping) (c : Change) (ds : List Change) (ks : List Job) : Type 0 where
  pub job : Job
  pub rest : List Job
  pub of : job_of top cs ms c ≡ Some job
  pub more : jobs_from top cs ms ds ≡ Some rest
  pub is : ks ≡ job ∷ rest

pub are_jobs : (top : Element) (cs : List Change) (ms : Mapping) (c : Change) (ds : List Change) (ks : List Job) → jobs_from top cs ms (c ∷ ds) ≡ Some ks → AreJobs top cs ms c ds ks
are_jobs top cs ms c ds ks h = by_job (job_of top cs ms c) refl h
  where
    by_rest : (j : Job) → job_of top cs ms c ≡ Some j → (r : Option (List Job)) → jobs_from top cs ms ds ≡ r → option_map (λ js. j ∷ js) r ≡ Some ks → AreJobs top cs ms c ds ks
    by_rest j e None f g = absurd (false≢true (sym (ap is_none g)))
    by_rest j e (Some js) f g = record { job = j; rest = js; of = e; more = f; is = sym (some_same (j ∷ js) ks g) }

    by_job : (o : Option Job) → job_of top cs ms c ≡ o → option_and_then (λ j. option_map (λ js. j ∷ js) (jobs_from top cs ms ds)) o ≡ Some ks → AreJobs top cs ms c ds ks
    by_job None e g = absurd (false≢true (sym (ap is_none g)))
    by_job (Some j) e g = by_rest j e (jobs_from top cs ms ds) refl g

no_jobs : (js : List Job) → Some [] ≡ Some js → (s : Job → Bool) (a : ℕ) → test_at s (slice_get js a) ≡ false
no_jobs js e s a = subst (λ l. test_at s (slice_get l a) ≡ false) (some_same [] js e) refl

any_meets : (top : Element) (cs : List Change) (ms : Mapping) (c : Change) (j : Job) (n : Option Way) (w : Way) → job_of top cs ms c ≡ Some j → sets_on n (slot w) j ≡ true
    → (ds : List Change) (js : List Job) → jobs_from top cs ms ds ≡ Some js → (b : ℕ) → test_at (sets_on n (slot w)) (slice_get js b) ≡ true → list_any (meets c) ds ≡ true
any_meets top cs ms c j n w e h [] js f b g = absurd (both_ways _ (no_jobs js f (sets_on n (slot w)) b) g)
any_meets top cs ms c j n w e h (d ∷ ds) js f b g =
    let r = are_jobs top cs ms d ds js f in
    by_number r.job r.rest r.of (λ k x. any_meets top cs ms c j n w e h ds r.rest r.more k x) b (subst (λ l. test_at (sets_on n (slot w)) (slice_get l b) ≡ true) r.is g)
  where
    by_number : (i : Job) (is : List Job) → job_of top cs ms d ≡ Some i → ((k : ℕ) → test_at (sets_on n (slot w)) (slice_get is k) ≡ true → list_any (meets c) ds ≡ true)
        → (k : ℕ) → test_at (sets_on n (slot w)) (slice_get (i ∷ is) k) ≡ true → list_any (meets c) (d ∷ ds) ≡ true
    by_number i is o r zero x = or_left (meets c d) _ (jobs_meet top cs ms c d j i n w e o h x)
    by_number i is o r (suc k) x = or_right (meets c d) _ (r k x)

slots_apart : (top : Element) (cs : List Change) (ms : Mapping) (n : Option Way) (w : Way) (ds : List Change) (js : List Job) → has_collision ds ≡ false → jobs_from top cs ms ds ≡ Some js
    → (a b : ℕ) → test_at (sets_on n (slot w)) (slice_get js a) ≡ true → test_at (sets_on n (slot w)) (slice_get js b) ≡ true → a ≡ b
slots_apart top cs ms n w [] js h f a b x y = absurd (both_ways _ (no_jobs js f (sets_on n (slot w)) a) x)
slots_apart top cs ms n w (d ∷ ds) js h f a b x y =
    let r = are_jobs top cs ms d ds js f in
    let hs = or_parts (list_any (meets d) ds) (has_collision ds) h in
    by_numbers r.job r.rest r.of r.more hs.0 (λ k l s t. slots_apart top cs ms n w ds r.rest hs.1 r.more k l s t) a b
    (subst (λ l. test_at (sets_on n (slot w)) (slice_get l a) ≡ true) r.is x) (subst (λ l. test_at (sets_on n (slot w)) (slice_get l b) ≡ true) r.is y)
  where
    by_numbers : (i : Job) (is : List Job) → job_of top cs ms d ≡ Some i → jobs_from top cs ms ds ≡ Some is → list_any (meets d) ds ≡ false
        → ((k l : ℕ) → test_at (sets_on n (slot w)) (slice_get is k) ≡ true → test_at (sets_on n (slot w)) (slice_get is l) ≡ true → k ≡ l)
        → (k l : ℕ) → test_at (sets_on n (slot w)) (slice_get (i ∷ is) k) ≡ true → test_at (sets_on n (slot w)) (slice_get (i ∷ is) l) ≡ true → k ≡ l
    by_numbers i is o m g r zero zero s t = refl
    by_numbers i is o m g r zero (suc l) s t = absurd (both_ways _ g (any_meets top cs ms d i n w o s ds is m l t))
    by_numbers i is o m g r (suc k) zero s t = absurd (both_ways _ g (any_meets top cs ms d i n w o t ds is m k s))
    by_numbers i is o m g r (suc k) (suc l) s t = ap suc (r k l s t)

-- a change is not made in its own payload
not_own_sheet : (t : Tree) (cs : List Change) (c : Change) (j : Job) → owner_of cs c ≡ j.sheet → cond (is_node_by_node t c) (Some (first_way c)) None ≡ j.own → is_owned j.own j ≡ false
not_own_sheet t cs c j o e = by_own j.own e
  where
    too_long : (i : ℕ) (p : Way) → holder_of cs p ≡ Some (i ∷ p) → ⊥
    too_long i p h = let x = held_above cs p (i ∷ p) h in omega (arith, ap length x.1, length-append x.0 (i ∷ p))

    by_change : (d : Change) (w : Way) → owner_of cs d ≡ Some w → (b : Bool) → b ≡ is_node_by_node t d → cond b (Some (first_way d)) None ≡ Some w → ⊥
    by_change d w f false nb g = absurd (false≢true (sym (ap is_none g)))
    by_change (insert p i new) w f true nb g = absurd (false≢true (sym nb))
    by_change (replace [] n new s) w f true nb g = absurd (false≢true (sym (ap is_none f)))
    by_change (replace (i ∷ p) n new s) w f true nb g = too_long i p (f ∙ sym g)

    by_own : (q : Option Way) → cond (is_node_by_node t c) (Some (first_way c)) None ≡ q → is_owned q j ≡ false
    by_own None g = refl
    by_own (Some w) g = false_from_ne_true _ (λ h. by_change c w (o ∙ same_sheet-sound j.sheet (Some w) h) (is_node_by_node t c) refl g)

none_own : (top : Element) (cs : List Change) (ms : Mapping) (ds : List Change) (js : List Job) → jobs_from top cs ms ds ≡ Some js → (a : ℕ) → owns (slice_get js a) (slice_get js a) ≡ false
none_own top cs ms [] js f a = subst (λ l. owns (slice_get l a) (slice_get l a) ≡ false) (some_same [] js f) refl
none_own top cs ms (d ∷ ds) js f a =
    let r = are_jobs top cs ms d ds js f in
    let x = job_parts (change_at top cs ms (owner_of cs d) d) _ _ r.job r.of in
    subst (λ l. owns (slice_get l a) (slice_get l a) ≡ false) (sym r.is) (by_number r.job r.rest (not_own_sheet top.place.root cs d r.job x.1 x.2) (λ k. none_own top cs ms ds r.rest r.more k) a)
  where
    by_number : (i : Job) (is : List Job) → is_owned i.own i ≡ false → ((k : ℕ) → owns (slice_get is k) (slice_get is k) ≡ false) → (k : ℕ) → owns (slice_get (i ∷ is) k) (slice_get (i ∷ is) k) ≡ false
    by_number i is h r zero = h
    by_number i is h r (suc k) = r k

any_kept : (p q : Change → Bool) (cs : List Change) → list_any q cs ≡ false → list_any q (filter p cs) ≡ false
any_kept p q [] h = refl
any_kept p q (c ∷ cs) h = let x = or_parts (q c) (list_any q cs) h in by_test (any_kept p q cs x.1) x.0 (p c)
  where
    by_test : list_any q (filter p cs) ≡ false → q c ≡ false → (b : Bool) → list_any q (cond b (c ∷ filter p cs) (filter p cs)) ≡ false
    by_test r e true = or_from _ _ e r
    by_test r e false = r

collide_kept : (p : Change → Bool) (cs : List Change) → has_collision cs ≡ false → has_collision (filter p cs) ≡ false
collide_kept p [] h = refl
collide_kept p (c ∷ cs) h = let x = or_parts (list_any (meets c) cs) (has_collision cs) h in by_test (collide_kept p cs x.1) (any_kept p (meets c) cs x.0) (p c)
  where
    by_test : has_collision (filter p cs) ≡ false → list_any (meets c) (filter p cs) ≡ false → (b : Bool) → has_collision (cond b (c ∷ filter p cs) (filter p cs)) ≡ false
    by_test r e true = or_from _ _ e r
    by_test r e false = r

pub jobs_are_plan : JobsArePlan
jobs_are_plan top cs ms js h f =
    let ds : List Change = filter (λ c. not (is_dropped top.place.root cs c)) cs in
    record {
      apart = λ a b n w x y. slots_apart top cs ms n w ds js (collide_kept (λ c. not (is_dropped top.place.root cs c)) cs h) f a b x y;
      own = λ a. none_own top cs ms ds js f a;
    }

pub orders_agree : OrdersAgree
orders_agree top cs ms os p h =
    let x = and_parts (not (has_collision cs)) _ p in
    by_jobs (not-true _ x.0) (jobs top cs ms) refl x.1 h
  where
    by_jobs : has_collision cs ≡ false → (o : Option (List Job)) → jobs top cs ms ≡ o → is_some o ≡ true → is_order (or_no_jobs o) os ≡ true → put_in_order top (or_no_jobs o) os ≡ rewritten top (reverse (or_no_jobs o))
    by_jobs c None e s g = absurd (false≢true s)
    by_jobs c (Some js) e s g = every_order top js os (jobs_are_plan top cs ms js c e) g

-- ---- an owned job's sheet is deeper than its owner's: so jobs sorted by depth, the deepest first, are in order
held_depth : (cs : List Change) (p : Way) (o : Option Way) → holder_of cs p ≡ o → depth_of o ≤ length p + 1
held_depth cs p None h = omega arith
held_depth cs p (Some u) h = let x = held_above cs p u h in omega (arith, ap length x.1, length-append x.0 u)

own_deeper : (t : Tree) (cs : List Change) (c : Change) (w : Way) (b : Bool) → b ≡ is_node_by_node t c → cond b (Some (first_way c)) None ≡ Some w → depth_of (owner_of cs c) < length w + 1
own_deeper t cs c w false n e = absurd (false≢true (sym (ap is_none e)))
own_deeper t cs (insert p i new) w true n e = absurd (false≢true (sym n))
own_deeper t cs (replace [] m new s) w true n e = omega arith
own_deeper t cs (replace (i ∷ p) m new s) w true n e =
    let h = held_depth cs p (holder_of cs p) refl in
    omega (arith, h, ap length (some_same (i ∷ p) w e))

pub job_deeper : (top : Element) (cs : List Change) (ms : Mapping) (c : Change) (j : Job) → job_of top cs ms c ≡ Some j → (w : Way) → j.own ≡ Some w → depth_of j.sheet < length w + 1
job_deeper top cs ms c j e w o =
    let x = job_parts (change_at top cs ms (owner_of cs c) c) _ _ j e in
    subst (λ n. depth_of n < length w + 1) x.1 (own_deeper top.place.root cs c w (is_node_by_node top.place.root c) refl (x.2 ∙ o))

-- the job j owns the job i
pub owned_deeper : (top : Element) (cs : List Change) (ms : Mapping) (c : Change) (j i : Job) → job_of top cs ms c ≡ Some j → is_owned j.own i ≡ true → depth_of j.sheet < depth_of i.sheet
owned_deeper top cs ms c j i e h = by_own j.own refl h
  where
    by_own : (o : Option Way) → j.own ≡ o → is_owned o i ≡ true → depth_of j.sheet < depth_of i.sheet
    by_own None f g = absurd (false≢true g)
    by_own (Some w) f g = subst (λ n. depth_of j.sheet < depth_of n) (sym (same_sheet-sound i.sheet (Some w) g)) (job_deeper top cs ms c j e w f)

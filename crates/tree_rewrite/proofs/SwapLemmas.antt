-- Two neighbouring changes in the other order: nothing that is looked up among changes depends on it, and each spot sees one and the same list of jobs.
use Rattle.std.proofs.Common.{◌≡◌, ℕ, zero, suc, ◌+◌, List, [], ◌∷◌, ◌++◌, length, reverse, Option, Some, None, Bool, true, false, ◌&&◌, ◌||◌, not, eqb, leb, refl, ap, sym, ◌∙◌, subst, cond, is_none, is_some, option_map, option_and_then}
use Rattle.std.proofs.lemmas.List.{length-reverse}
use mathlib.Core.List.{reverse_aux}
use Rattle.std.specs.List.{filter, list_any}
use Rattle.std.proofs.lemmas.Bool.{eqb-true, eq-eqb, and_parts, and_from, or_parts, false≢true, both_ways}
use Rattle.rowan_green.specs.Forest.{Tree}
use Rattle.rowan.specs.Place.{term_by, children_in, first_number}
use Rattle.syntax_tree.specs.Element.{Way, same_way, Element, element_at}
use Rattle.syntax_tree.specs.Mapping.{Mapping}
use Rattle.tree_rewrite.specs.Change.{Change, insert, replace, covers, rows_meet, meets, has_collision, replaces, is_nested, is_node_by_node, is_dropped, holder_of, owner_of}
use Rattle.tree_rewrite.specs.Moved.{change_in, way_to, change_below, carried, way_above, same_kinds, has_gap}
use Rattle.tree_rewrite.specs.Marked.{Marked, Spot, gap, slot, reading_of}
use Rattle.tree_rewrite.specs.Rewrite.{Job, same_sheet, sets, written, terms_within, terms_of, rewritten, payload_at, change_at, own_of, job_of, jobs_from, jobs, or_no_jobs, is_placeable}
use Rattle.tree_rewrite.specs.Orders.{same_gap_at}
use Rattle.tree_rewrite.specs.Laws.{AreAlike, SwapsAgree}
use Rattle.tree_rewrite.specs.Plan.{sets_on}
use Rattle.tree_rewrite.proofs.Plans.{SameAt}
use Rattle.tree_rewrite.proofs.OrderLemmas.{same_way-sound, same_way-own, same_sheet-sound, one_gap_from}
use Rattle.tree_rewrite.proofs.JobLemmas.{some_same, covers_meet, carried_same, held_above, job_parts, jobs_meet}
use Rattle.tree_rewrite.proofs.PutLemmas.{written_same}

-- ---- tests
both_from : (a b : Bool) → (a ≡ true → b ≡ true) → (b ≡ true → a ≡ true) → a ≡ b
both_from true true f g = refl
both_from true false f g = absurd (false≢true (f refl))
both_from false true f g = absurd (false≢true (g refl))
both_from false false f g = refl

or_swap : (a b x : Bool) → (a || (b || x)) ≡ (b || (a || x))
or_swap true true x = refl
or_swap true false x = refl
or_swap false true x = refl
or_swap false false x = refl

or_cross : (a x y r : Bool) → ((a || x) || (y || r)) ≡ ((a || y) || (x || r))
or_cross true x y r = refl
or_cross false true true r = refl
or_cross false true false r = refl
or_cross false false true r = refl
or_cross false false false r = refl

any_swap : (p : Change → Bool) (before after : List Change) (c d : Change) → list_any p (before ++ c ∷ (d ∷ after)) ≡ list_any p (before ++ d ∷ (c ∷ after))
any_swap p [] after c d = or_swap (p c) (p d) (list_any p after)
any_swap p (e ∷ before) after c d = ap (λ b. p e || b) (any_swap p before after c d)

-- ---- collisions
rows_meet-back : (f : Way) (n : ℕ) (g : Way) (m : ℕ) → rows_meet f n g m ≡ true → rows_meet g m f n ≡ true
rows_meet-back [] n [] m h = refl
rows_meet-back [] n (c ∷ u) m h = absurd (false≢true h)
rows_meet-back (a ∷ p) n [] m h = absurd (false≢true h)
rows_meet-back (a ∷ p) n (c ∷ u) m h =
    let x = and_parts (same_way p u) _ h in
    let y = and_parts (leb a (c + m)) (leb c (a + n)) x.1 in
    and_from _ _ (subst (λ w. same_way w p ≡ true) (same_way-sound p u x.0) (same_way-own p)) (and_from _ _ y.1 y.0)

meets-back : (c d : Change) → meets c d ≡ true → meets d c ≡ true
meets-back (insert p i new) d h = absurd (false≢true h)
meets-back (replace f n es s) (insert p i new) h = absurd (false≢true h)
meets-back (replace f n es s) (replace g m ds t) h = rows_meet-back f n g m h

pub collision_swap : (before after : List Change) (c d : Change) → has_collision (before ++ c ∷ (d ∷ after)) ≡ has_collision (before ++ d ∷ (c ∷ after))
collision_swap [] after c d =
    ap (λ b. (b || list_any (meets c) after) || (list_any (meets d) after || has_collision after)) (both_from (meets c d) (meets d c) (meets-back c d) (meets-back d c))
    ∙ or_cross (meets d c) (list_any (meets c) after) (list_any (meets d) after) (has_collision after)
collision_swap (e ∷ before) after c d = λ i. any_swap (meets e) before after c d i || collision_swap before after c d i

neighbours_apart : (before after : List Change) (c d : Change) → has_collision (before ++ c ∷ (d ∷ after)) ≡ false → meets c d ≡ false
neighbours_apart [] after c d h = (or_parts (meets c d) (list_any (meets c) after) (or_parts (list_any (meets c) (d ∷ after)) _ h).0).0
neighbours_apart (e ∷ before) after c d h = neighbours_apart before after c d (or_parts (list_any (meets e) (before ++ c ∷ (d ∷ after))) _ h).1

-- ---- what is looked up among changes
payload_two : (c d : Change) (after : List Change) (w : Way) → meets c d ≡ false → payload_at (c ∷ (d ∷ after)) w ≡ payload_at (d ∷ (c ∷ after)) w
payload_two (insert p i new) (insert q k others) after w h = refl
payload_two (insert p i new) (replace g m [] t) after w h = refl
payload_two (insert p i new) (replace g m (y ∷ ys) t) after w h = refl
payload_two (replace f n [] s) (insert q k others) after w h = refl
payload_two (replace f n [] s) (replace g m [] t) after w h = refl
payload_two (replace f n [] s) (replace g m (y ∷ ys) t) after w h = refl
payload_two (replace f n (x ∷ xs) s) (insert q k others) after w h = refl
payload_two (replace f n (x ∷ xs) s) (replace g m [] t) after w h = refl
payload_two (replace f n (x ∷ xs) s) (replace g m (y ∷ ys) t) after w h = by_tests (covers f n w) refl (covers g m w) refl
  where
    by_tests : (a : Bool) → covers f n w ≡ a → (b : Bool) → covers g m w ≡ b
        → cond a (Some x) (cond b (Some y) (payload_at after w)) ≡ cond b (Some y) (cond a (Some x) (payload_at after w))
    by_tests true e true j = absurd (both_ways _ h (covers_meet f g w n m (x ∷ xs) (y ∷ ys) s t e j))
    by_tests true e false j = refl
    by_tests false e true j = refl
    by_tests false e false j = refl

payload_swap : (before after : List Change) (c d : Change) (w : Way) → meets c d ≡ false → payload_at (before ++ c ∷ (d ∷ after)) w ≡ payload_at (before ++ d ∷ (c ∷ after)) w
payload_swap [] after c d w h = payload_two c d after w h
payload_swap (insert p i new ∷ before) after c d w h = payload_swap before after c d w h
payload_swap (replace f n [] s ∷ before) after c d w h = payload_swap before after c d w h
payload_swap (replace f n (x ∷ xs) s ∷ before) after c d w h = ap (λ o. cond (covers f n w) (Some x) o) (payload_swap before after c d w h)

holder_swap : (before after : List Change) (c d : Change) (w : Way) → holder_of (before ++ c ∷ (d ∷ after)) w ≡ holder_of (before ++ d ∷ (c ∷ after)) w
holder_swap before after c d [] = ap (λ b. cond b (Some []) None) (any_swap (λ r. replaces r []) before after c d)
holder_swap before after c d (i ∷ w) =
    λ j. cond (any_swap (λ r. replaces r (i ∷ w)) before after c d j) (Some (i ∷ w)) (holder_swap before after c d w j)

owner_swap : (before after : List Change) (c d x : Change) → owner_of (before ++ c ∷ (d ∷ after)) x ≡ owner_of (before ++ d ∷ (c ∷ after)) x
owner_swap before after c d (insert p i new) = holder_swap before after c d p
owner_swap before after c d (replace [] l new s) = refl
owner_swap before after c d (replace (i ∷ p) l new s) = holder_swap before after c d p

change_at-swap : (top : Element) (before after : List Change) (c d : Change) (ms : Mapping) (o : Option Way) (x : Change) → meets c d ≡ false
    → change_at top (before ++ c ∷ (d ∷ after)) ms o x ≡ change_at top (before ++ d ∷ (c ∷ after)) ms o x
change_at-swap top before after c d ms None x h = refl
change_at-swap top before after c d ms (Some u) x h = ap (λ p. option_and_then (λ b. change_in top ms u b x) p) (payload_swap before after c d u h)

job_swap : (top : Element) (before after : List Change) (c d : Change) (ms : Mapping) → meets c d ≡ false → (x : Change)
    → job_of top (before ++ c ∷ (d ∷ after)) ms x ≡ job_of top (before ++ d ∷ (c ∷ after)) ms x
job_swap top before after c d ms h x =
    let one : List Change = before ++ c ∷ (d ∷ after) in
    let other : List Change = before ++ d ∷ (c ∷ after) in
    let job : Option Way → Change → Job = λ n y. record { sheet = n; change = y; own = own_of top.place.root x } in
    ap (λ n. option_map (job n) (change_at top one ms n x)) (owner_swap before after c d x)
    ∙ ap (λ o. option_map (job (owner_of other x)) o) (change_at-swap top before after c d ms (owner_of other x) x h)

jobs_from-same : (top : Element) (cs ds : List Change) (ms : Mapping) → ((x : Change) → job_of top cs ms x ≡ job_of top ds ms x) → (es : List Change)
    → jobs_from top cs ms es ≡ jobs_from top ds ms es
jobs_from-same top cs ds ms h [] = refl
jobs_from-same top cs ds ms h (x ∷ es) = λ i. option_and_then (λ j. option_map (λ js. j ∷ js) (jobs_from-same top cs ds ms h es i)) (h x i)

-- ---- lists of jobs of which each spot sees the same
abbrev Same : List Job → List Job → Type 0
Same js is = (length js ≡ length is) × ((n : Option Way) → SameAt n js is)

abbrev Alike : Option (List Job) → Option (List Job) → Type 0
Alike None None = Unit {0}
Alike None (Some is) = ⊥
Alike (Some js) None = ⊥
Alike (Some js) (Some is) = Same js is

alike-own : (o : Option (List Job)) → Alike o o
alike-own None = tt
alike-own (Some js) = (refl, λ n k. refl)

alike-more : (j : Job) (o p : Option (List Job)) → Alike o p → Alike (option_map (λ js. j ∷ js) o) (option_map (λ js. j ∷ js) p)
alike-more j None None h = tt
alike-more j None (Some is) h = absurd h
alike-more j (Some js) None h = absurd h
alike-more j (Some js) (Some is) h = (ap suc h.0, λ n k. ap (λ l. cond (sets_on n k j) (j ∷ l) l) (h.1 n k))

-- no spot is set by both
abbrev Part : Job → Job → Type 0
Part j i = (n : Option Way) (k : Spot) → sets_on n k j ≡ true → sets_on n k i ≡ true → ⊥

two_kept : (s : Job → Bool) (j i : Job) (js : List Job) → (s j ≡ true → s i ≡ true → ⊥) → filter s (j ∷ (i ∷ js)) ≡ filter s (i ∷ (j ∷ js))
two_kept s j i js h = by_tests (s j) refl (s i) refl
  where
    by_tests : (a : Bool) → s j ≡ a → (b : Bool) → s i ≡ b
        → cond a (j ∷ cond b (i ∷ filter s js) (filter s js)) (cond b (i ∷ filter s js) (filter s js)) ≡ cond b (i ∷ cond a (j ∷ filter s js) (filter s js)) (cond a (j ∷ filter s js) (filter s js))
    by_tests true e true f = absurd (h e f)
    by_tests true e false f = refl
    by_tests false e true f = refl
    by_tests false e false f = refl

two_jobs : (a b : Option Job) (o : Option (List Job)) → ((j i : Job) → a ≡ Some j → b ≡ Some i → Part j i)
    → Alike (option_and_then (λ j. option_map (λ js. j ∷ js) (option_and_then (λ i. option_map (λ js. i ∷ js) o) b)) a)
    (option_and_then (λ i. option_map (λ js. i ∷ js) (option_and_then (λ j. option_map (λ js. j ∷ js) o) a)) b)
two_jobs None None o h = tt
two_jobs None (Some i) o h = tt
two_jobs (Some j) None o h = tt
two_jobs (Some j) (Some i) None h = tt
two_jobs (Some j) (Some i) (Some js) h = (refl, λ n k. two_kept (sets_on n k) j i js (h j i refl refl n k))

-- the jobs of those that pass, whatever passes
alike_swap : (top : Element) (cs : List Change) (ms : Mapping) (q : Change → Bool) (before after : List Change) (c d : Change)
    → ((j i : Job) → job_of top cs ms c ≡ Some j → job_of top cs ms d ≡ Some i → Part j i)
    → Alike (jobs_from top cs ms (filter q (before ++ c ∷ (d ∷ after)))) (jobs_from top cs ms (filter q (before ++ d ∷ (c ∷ after))))
alike_swap top cs ms q [] after c d h = by_tests (q c) (q d)
  where
    by_tests : (a b : Bool) → Alike (jobs_from top cs ms (cond a (c ∷ cond b (d ∷ filter q after) (filter q after)) (cond b (d ∷ filter q after) (filter q after))))
        (jobs_from top cs ms (cond b (d ∷ cond a (c ∷ filter q after) (filter q after)) (cond a (c ∷ filter q after) (filter q after))))
    by_tests true true = two_jobs (job_of top cs ms c) (job_of top cs ms d) (jobs_from top cs ms (filter q after)) h
    by_tests true false = alike-own (jobs_from top cs ms (c ∷ filter q after))
    by_tests false true = alike-own (jobs_from top cs ms (d ∷ filter q after))
    by_tests false false = alike-own (jobs_from top cs ms (filter q after))
alike_swap top cs ms q (e ∷ before) after c d h = by_test (alike_swap top cs ms q before after c d h) (q e)
  where
    by_job : Alike (jobs_from top cs ms (filter q (before ++ c ∷ (d ∷ after)))) (jobs_from top cs ms (filter q (before ++ d ∷ (c ∷ after)))) → (o : Option Job)
        → Alike (option_and_then (λ j. option_map (λ js. j ∷ js) (jobs_from top cs ms (filter q (before ++ c ∷ (d ∷ after))))) o)
        (option_and_then (λ j. option_map (λ js. j ∷ js) (jobs_from top cs ms (filter q (before ++ d ∷ (c ∷ after))))) o)
    by_job r None = tt
    by_job r (Some j) = alike-more j _ _ r

    by_test : Alike (jobs_from top cs ms (filter q (before ++ c ∷ (d ∷ after)))) (jobs_from top cs ms (filter q (before ++ d ∷ (c ∷ after)))) → (b : Bool)
        → Alike (jobs_from top cs ms (cond b (e ∷ filter q (before ++ c ∷ (d ∷ after))) (filter q (before ++ c ∷ (d ∷ after)))))
        (jobs_from top cs ms (cond b (e ∷ filter q (before ++ d ∷ (c ∷ after))) (filter q (before ++ d ∷ (c ∷ after)))))
    by_test r true = by_job r (job_of top cs ms e)
    by_test r false = r

-- ---- the jobs of changes of different gaps and targets set no spot both
by_placed_gap : (t : Tree) (u : Way) (b : Element) (to : Way) (c d : Change) (w : Way) (k : ℕ) → change_below t u b to c ≡ Some d → sets d (gap w k) ≡ true
    → (p : Way) × (new : List Element) × (c ≡ insert p k new) × (carried u to p ≡ w)
by_placed_gap t u b to (insert p i new) d w k e h = by_test (has_gap (term_by t p) (term_by b.place.root (carried u to p ++ b.place.up)) i) e
  where
    by_test : (x : Bool) → cond x (Some (insert (carried u to p) i new)) None ≡ Some d → (q : Way) × (others : List Element) × (insert p i new ≡ insert q k others) × (carried u to q ≡ w)
    by_test true f =
        let g = and_parts (same_way (carried u to p) w) (eqb i k) (subst (λ v. sets v (gap w k) ≡ true) (sym (some_same (insert (carried u to p) i new) d f)) h) in
        (p, new, ap (λ n. insert p n new) (eqb-true i k g.1), same_way-sound (carried u to p) w g.0)
    by_test false f = absurd (false≢true (sym (ap is_none f)))
by_placed_gap t u b to (replace first n new single) d w k e h = by_test (same_kinds (children_in (term_by t (way_above first))) (children_in (term_by b.place.root (carried u to (way_above first) ++ b.place.up))) (first_number first) (n + 1)) e
  where
    by_test : (x : Bool) → cond x (Some (replace (first_number first ∷ carried u to (way_above first)) n new single)) None ≡ Some d
        → (q : Way) × (others : List Element) × (replace first n new single ≡ insert q k others) × (carried u to q ≡ w)
    by_test true f = absurd (false≢true (subst (λ v. sets v (gap w k) ≡ true) (sym (some_same (replace (first_number first ∷ carried u to (way_above first)) n new single) d f)) h))
    by_test false f = absurd (false≢true (sym (ap is_none f)))

placed_gap : (t : Tree) (cs : List Change) (u : Way) (b : Element) (to : Way) (c1 c2 d1 d2 : Change) (w : Way) (k : ℕ)
    → owner_of cs c1 ≡ Some u → owner_of cs c2 ≡ Some u
    → change_below t u b to c1 ≡ Some d1 → change_below t u b to c2 ≡ Some d2 → sets d1 (gap w k) ≡ true → sets d2 (gap w k) ≡ true → same_gap_at c1 c2 ≡ true
placed_gap t cs u b to c1 c2 d1 d2 w k o1 o2 e1 e2 h1 h2 =
    let x = by_placed_gap t u b to c1 d1 w k e1 h1 in
    let y = by_placed_gap t u b to c2 d2 w k e2 h2 in
    let p1 : holder_of cs x.0 ≡ Some u = subst (λ c. owner_of cs c ≡ Some u) x.2 o1 in
    let p2 : holder_of cs y.0 ≡ Some u = subst (λ c. owner_of cs c ≡ Some u) y.2 o2 in
    let one : x.0 ≡ y.0 = carried_same u to x.0 y.0 (held_above cs x.0 u p1) (held_above cs y.0 u p2) (x.3 ∙ sym y.3) in
    let both : same_gap_at (insert x.0 k x.1) (insert y.0 k y.1) ≡ true = and_from _ _ (subst (λ q. same_way x.0 q ≡ true) one (same_way-own x.0)) (eq-eqb k k refl) in
    subst (λ c. same_gap_at c c2 ≡ true) (sym x.2) (subst (λ c. same_gap_at (insert x.0 k x.1) c ≡ true) (sym y.2) both)

moved_gap : (top : Element) (cs : List Change) (ms : Mapping) (u : Way) (c1 c2 d1 d2 : Change) (w : Way) (k : ℕ) → owner_of cs c1 ≡ Some u → owner_of cs c2 ≡ Some u
    → (o : Option Element) → option_and_then (λ b. change_in top ms u b c1) o ≡ Some d1 → option_and_then (λ b. change_in top ms u b c2) o ≡ Some d2
    → sets d1 (gap w k) ≡ true → sets d2 (gap w k) ≡ true → same_gap_at c1 c2 ≡ true
moved_gap top cs ms u c1 c2 d1 d2 w k o1 o2 None e1 e2 h1 h2 = absurd (false≢true (sym (ap is_none e1)))
moved_gap top cs ms u c1 c2 d1 d2 w k o1 o2 (Some b) e1 e2 h1 h2 = by_climb (way_to (length ms + 1) ms b (element_at top.number top.place.root u)) e1 e2
  where
    by_climb : (o : Option Way) → option_and_then (λ to. change_below top.place.root u b to c1) o ≡ Some d1 → option_and_then (λ to. change_below top.place.root u b to c2) o ≡ Some d2 → same_gap_at c1 c2 ≡ true
    by_climb None f1 f2 = absurd (false≢true (sym (ap is_none f1)))
    by_climb (Some to) f1 f2 = placed_gap top.place.root cs u b to c1 c2 d1 d2 w k o1 o2 f1 f2 h1 h2

-- two jobs that set one gap of one sheet come of changes of one gap
jobs_of_gap : (top : Element) (cs : List Change) (ms : Mapping) (c1 c2 : Change) (j1 j2 : Job) (n : Option Way) (w : Way) (k : ℕ)
    → job_of top cs ms c1 ≡ Some j1 → job_of top cs ms c2 ≡ Some j2 → sets_on n (gap w k) j1 ≡ true → sets_on n (gap w k) j2 ≡ true → same_gap_at c1 c2 ≡ true
jobs_of_gap top cs ms c1 c2 j1 j2 n w k e1 e2 h1 h2 =
    let x = job_parts (change_at top cs ms (owner_of cs c1) c1) _ _ j1 e1 in
    let y = job_parts (change_at top cs ms (owner_of cs c2) c2) _ _ j2 e2 in
    let x1 = and_parts (same_sheet j1.sheet n) _ h1 in
    let y1 = and_parts (same_sheet j2.sheet n) _ h2 in
    let o1 : owner_of cs c1 ≡ n = x.1 ∙ same_sheet-sound j1.sheet n x1.0 in
    let o2 : owner_of cs c2 ≡ n = y.1 ∙ same_sheet-sound j2.sheet n y1.0 in
    by_sheet n o1 o2 (subst (λ o. change_at top cs ms o c1 ≡ Some j1.change) o1 x.0) (subst (λ o. change_at top cs ms o c2 ≡ Some j2.change) o2 y.0) x1.1 y1.1
  where
    by_sheet : (m : Option Way) → owner_of cs c1 ≡ m → owner_of cs c2 ≡ m → change_at top cs ms m c1 ≡ Some j1.change → change_at top cs ms m c2 ≡ Some j2.change
        → sets j1.change (gap w k) ≡ true → sets j2.change (gap w k) ≡ true → same_gap_at c1 c2 ≡ true
    by_sheet None o1 o2 p1 p2 g1 g2 = one_gap_from c1 c2 w k (subst (λ c. sets c (gap w k) ≡ true) (sym (some_same c1 j1.change p1)) g1) (subst (λ c. sets c (gap w k) ≡ true) (sym (some_same c2 j2.change p2)) g2)
    by_sheet (Some u) o1 o2 p1 p2 g1 g2 = moved_gap top cs ms u c1 c2 j1.change j2.change w k o1 o2 (payload_at cs u) p1 p2 g1 g2

jobs_part : (top : Element) (cs : List Change) (ms : Mapping) (c d : Change) → meets c d ≡ false → same_gap_at c d ≡ false
    → (j i : Job) → job_of top cs ms c ≡ Some j → job_of top cs ms d ≡ Some i → Part j i
jobs_part top cs ms c d apart far j i e f n (gap w k) h g = both_ways _ far (jobs_of_gap top cs ms c d j i n w k e f h g)
jobs_part top cs ms c d apart far j i e f n (slot w) h g = both_ways _ apart (jobs_meet top cs ms c d j i n w e f h g)

-- ---- what each spot sees makes the rewritten element
kept_onto : (s : Job → Bool) (js done : List Job) → filter s (reverse_aux js done) ≡ reverse_aux (filter s js) (filter s done)
kept_onto s [] done = refl
kept_onto s (j ∷ js) done = by_test (kept_onto s js (j ∷ done)) (s j) refl
  where
    by_test : filter s (reverse_aux js (j ∷ done)) ≡ reverse_aux (filter s js) (filter s (j ∷ done)) → (b : Bool) → s j ≡ b
        → filter s (reverse_aux js (j ∷ done)) ≡ reverse_aux (cond b (j ∷ filter s js) (filter s js)) (filter s done)
    by_test r true e = r ∙ ap (λ b. reverse_aux (filter s js) (cond b (j ∷ filter s done) (filter s done))) e
    by_test r false e = r ∙ ap (λ b. reverse_aux (filter s js) (cond b (j ∷ filter s done) (filter s done))) e

same_back : (js is : List Job) (n : Option Way) → SameAt n js is → SameAt n (reverse js) (reverse is)
same_back js is n h k = kept_onto (sets_on n k) js [] ∙ ap (λ l. reverse_aux l []) (h k) ∙ sym (kept_onto (sets_on n k) is [])

all_written : (a b : Job → Marked) (js is : List Job) → ((i : Job) → a i ≡ b i) → ((n : Option Way) → SameAt n js is) → written (λ i. a i) js ≡ written (λ i. b i) is
all_written a b js is e h = (λ x. written (λ i. e i x) js) ∙ (λ x n. written_same (λ i. b i) n js is (h n) x)

within_same : (js is : List Job) → ((n : Option Way) → SameAt n js is) → (d : ℕ) (j : Job) → terms_within d js j ≡ terms_within d is j
within_same js is h zero j = refl
within_same js is h (suc d) j = ap (λ s. terms_of s j) (all_written (terms_within d js) (terms_within d is) js is (λ i. within_same js is h d i) h)

rewritten_same : (e : Element) (js is : List Job) → length js ≡ length is → ((n : Option Way) → SameAt n js is) → rewritten e js ≡ rewritten e is
rewritten_same e js is l h =
    ap (λ d. reading_of (written (λ i. terms_within d js i) js None) e) l
    ∙ ap (λ s. reading_of (s None) e) (all_written (terms_within (length is) js) (terms_within (length is) is) js is (λ i. within_same js is h (length is) i) h)

-- ---- the law
alike_made : (e : Element) (a b : Option (List Job)) → Alike a b → rewritten e (reverse (or_no_jobs a)) ≡ rewritten e (reverse (or_no_jobs b))
alike_made e None None h = refl
alike_made e None (Some is) h = absurd h
alike_made e (Some js) None h = absurd h
alike_made e (Some js) (Some is) h = rewritten_same e (reverse js) (reverse is) (length-reverse js ∙ h.0 ∙ sym (length-reverse is)) (λ n. same_back js is n (h.1 n))

alike_some : (a b : Option (List Job)) → Alike a b → is_some a ≡ is_some b
alike_some None None h = refl
alike_some None (Some is) h = absurd h
alike_some (Some js) None h = absurd h
alike_some (Some js) (Some is) h = refl

jobs_swap : (top : Element) (before after : List Change) (c d : Change) (ms : Mapping) → meets c d ≡ false → same_gap_at c d ≡ false
    → Alike (jobs top (before ++ c ∷ (d ∷ after)) ms) (jobs top (before ++ d ∷ (c ∷ after)) ms)
jobs_swap top before after c d ms apart far =
    let one : List Change = before ++ c ∷ (d ∷ after) in
    let other : List Change = before ++ d ∷ (c ∷ after) in
    let p : Change → Bool = λ x. not (is_dropped top.place.root one x) in
    let q : Change → Bool = λ x. not (is_dropped top.place.root other x) in
    let tests : p ≡ q = λ i x. not (any_swap (λ y. is_nested x y && not (is_node_by_node top.place.root y)) before after c d i) in
    subst (λ o. Alike (jobs_from top one ms (filter p one)) o)
    (jobs_from-same top one other ms (job_swap top before after c d ms apart) (filter p other) ∙ ap (λ r. jobs_from top other ms (filter r other)) tests)
    (alike_swap top one ms p before after c d (jobs_part top one ms c d apart far))

pub swaps_agree : SwapsAgree
swaps_agree top before after c d ms far = by_collision (has_collision one) refl
  where
    one : List Change
    one = before ++ c ∷ (d ∷ after)

    other : List Change
    other = before ++ d ∷ (c ∷ after)

    by_collision : (b : Bool) → has_collision one ≡ b → AreAlike top one other ms
    by_collision true e =
        let same = collision_swap before after c d in
        let none : is_placeable top one ms ≡ false = ap (λ b. not b && is_some (jobs top one ms)) e in
        let none_too : is_placeable top other ms ≡ false = ap (λ b. not b && is_some (jobs top other ms)) (sym same ∙ e) in
        record { colliding = same; placeable = none ∙ sym none_too; same = λ h. absurd (both_ways _ none h) }
    by_collision false e =
        let same = collision_swap before after c d in
        let jobs_alike = jobs_swap top before after c d ms (neighbours_apart before after c d e) far in
        record {
          colliding = same;
          placeable = λ i. not (same i) && alike_some (jobs top one ms) (jobs top other ms) jobs_alike i;
          same = λ h. alike_made top (jobs top one ms) (jobs top other ms) jobs_alike;
        }

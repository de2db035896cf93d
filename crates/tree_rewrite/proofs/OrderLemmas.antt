-- Every admitted order of numbers is an order of jobs.
use Rattle.std.proofs.Common.{◌≡◌, ℕ, zero, suc, ◌+◌, ◌<◌, List, [], ◌∷◌, ◌++◌, length, reverse, Option, Some, None, Bool, true, false, ◌&&◌, ◌||◌, not, eqb, ltb, refl, ap, sym, ◌∙◌, arith, subst, cond, length-append, append_assoc, is_none, slice_get}
use Rattle.std.proofs.lemmas.List.{length-reverse}
use mathlib.Core.List.{reverse_aux}
use Rattle.std.specs.List.{filter, list_all}
use Rattle.std.proofs.lemmas.Bool.{eqb-true, eqb-false, eq-eqb, ltb-true, and_parts, and_from, false≢true, not-true}
use Rattle.syntax_tree.specs.Element.{Way, same_way}
use Rattle.tree_rewrite.specs.Change.{Change, insert, replace}
use Rattle.tree_rewrite.specs.Marked.{Spot, gap, slot}
use Rattle.tree_rewrite.specs.Rewrite.{Job, same_sheet, sets}
use Rattle.tree_rewrite.specs.Orders.{test_at, is_owned, owns, same_gap_at, same_gap, may_follow, in_order, is_order, with_picked, picked}
use Rattle.tree_rewrite.proofs.Plans.{SameAt, SameOwn, NestedFirst, IsPlan, EveryOrder}
use Rattle.tree_rewrite.specs.Plan.{sets_on}
use Rattle.tree_rewrite.proofs.NumberLemmas.{AllOf, Rising, Apart, upto, passing_same}
use Rattle.tree_rewrite.proofs.PutLemmas.{puts_rewritten}

-- ---- what a filter keeps of the jobs picked
pick_kept : (s : Job → Bool) (js done : List Job) (a : ℕ) (os fs : List ℕ)
    → ((acc : List Job) → filter s (picked js os acc) ≡ picked js fs (filter s acc))
    → (o : Option Job) → slice_get js a ≡ o → (t : Bool) → test_at s o ≡ t
    → filter s (picked js os (with_picked o done)) ≡ picked js (cond t (a ∷ fs) fs) (filter s done)
pick_kept s js done a os fs h None e true t = absurd (false≢true t)
pick_kept s js done a os fs h None e false t = h done
pick_kept s js done a os fs h (Some j) e true t =
    h (j ∷ done) ∙ ap (λ b. picked js fs (cond b (j ∷ filter s done) (filter s done))) t ∙ ap (λ o. picked js fs (with_picked o (filter s done))) (sym e)
pick_kept s js done a os fs h (Some j) e false t = h (j ∷ done) ∙ ap (λ b. picked js fs (cond b (j ∷ filter s done) (filter s done))) t

pub after_kept : (s : Job → Bool) (js : List Job) (os : List ℕ) (done : List Job) → filter s (picked js os done) ≡ picked js (filter (λ b. test_at s (slice_get js b)) os) (filter s done)
after_kept s js [] done = refl
after_kept s js (a ∷ os) done = pick_kept s js done a os (filter (λ b. test_at s (slice_get js b)) os) (λ acc. after_kept s js os acc) (slice_get js a) refl (test_at s (slice_get js a)) refl

-- ---- ways and sheets that agree
pub same_way-sound : (v w : Way) → same_way v w ≡ true → v ≡ w
same_way-sound [] [] h = refl
same_way-sound [] (b ∷ w) h = absurd (false≢true h)
same_way-sound (a ∷ v) [] h = absurd (false≢true h)
same_way-sound (a ∷ v) (b ∷ w) h =
    let p = and_parts (eqb a b) (same_way v w) h in
    λ i. eqb-true a b p.0 i ∷ same_way-sound v w p.1 i

pub same_way-own : (v : Way) → same_way v v ≡ true
same_way-own [] = refl
same_way-own (a ∷ v) = and_from _ _ (eq-eqb a a refl) (same_way-own v)

same_sheet-own : (m : Option Way) → same_sheet m m ≡ true
same_sheet-own None = refl
same_sheet-own (Some w) = same_way-own w

pub same_sheet-sound : (m n : Option Way) → same_sheet m n ≡ true → m ≡ n
same_sheet-sound None None h = refl
same_sheet-sound None (Some w) h = absurd (false≢true h)
same_sheet-sound (Some v) None h = absurd (false≢true h)
same_sheet-sound (Some v) (Some w) h = ap Some (same_way-sound v w h)

pub one_gap_from : (c d : Change) (w : Way) (k : ℕ) → sets c (gap w k) ≡ true → sets d (gap w k) ≡ true → same_gap_at c d ≡ true
one_gap_from (insert p a new) (insert q b others) w k h g =
    let x = and_parts (same_way p w) (eqb a k) h in
    let y = and_parts (same_way q w) (eqb b k) g in
    let e = same_way-sound p w x.0 ∙ sym (same_way-sound q w y.0) in
    let f = eqb-true a k x.1 ∙ sym (eqb-true b k y.1) in
    subst (λ v. (same_way v q && eqb a b) ≡ true) (sym e) (subst (λ n. (same_way q q && eqb n b) ≡ true) (sym f) (and_from _ _ (same_way-own q) (eq-eqb b b refl)))
one_gap_from (insert p a new) (replace f m others s) w k h g = absurd (false≢true g)
one_gap_from (replace f m new s) d w k h g = absurd (false≢true h)

sheets_agree : (m n o : Option Way) → same_sheet m o ≡ true → same_sheet n o ≡ true → same_sheet m n ≡ true
sheets_agree m n o h g = subst (λ x. same_sheet m x ≡ true) (same_sheet-sound m o h ∙ sym (same_sheet-sound n o g)) (same_sheet-own m)

one_gap_both : (n : Option Way) (w : Way) (k : ℕ) (i j : Option Job) → test_at (sets_on n (gap w k)) i ≡ true → test_at (sets_on n (gap w k)) j ≡ true → same_gap i j ≡ true
one_gap_both n w k None j h g = absurd (false≢true h)
one_gap_both n w k (Some i) None h g = absurd (false≢true g)
one_gap_both n w k (Some i) (Some j) h g =
    let x = and_parts (same_sheet i.sheet n) (sets i.change (gap w k)) h in
    let y = and_parts (same_sheet j.sheet n) (sets j.change (gap w k)) g in
    and_from _ _ (sheets_agree i.sheet j.sheet n x.0 y.0) (one_gap_from i.change j.change w k x.1 y.1)

-- ---- two numbers in an order that set one spot rise
follow_parts : (js : List Job) (a b : ℕ) → may_follow js a b ≡ true → (eqb a b ≡ false) × (owns (slice_get js a) (slice_get js b) ≡ false) × (same_gap (slice_get js a) (slice_get js b) ≡ true → a < b)
follow_parts js a b h =
    let x = and_parts (not (eqb a b)) _ h in
    let y = and_parts (not (owns (slice_get js a) (slice_get js b))) _ x.1 in
    (not-true _ x.0, not-true _ y.0, λ g. rise g y.1)
  where
    rise : same_gap (slice_get js a) (slice_get js b) ≡ true → (not (same_gap (slice_get js a) (slice_get js b)) || ltb a b) ≡ true → a < b
    rise g z = ltb-true a b (rw g at z)

rises : (js : List Job) → IsPlan js → (n : Option Way) (k : Spot) (a b : ℕ) → test_at (sets_on n k) (slice_get js a) ≡ true → test_at (sets_on n k) (slice_get js b) ≡ true → may_follow js a b ≡ true → a < b
rises js p n (gap w i) a b h g f = (follow_parts js a b f).2 (one_gap_both n w i (slice_get js a) (slice_get js b) h g)
rises js p n (slot w) a b h g f = absurd (eqb-false a b (follow_parts js a b f).0 (p.apart a b n w h g))

all_rise : (js : List Job) → IsPlan js → (n : Option Way) (k : Spot) (a : ℕ) → test_at (sets_on n k) (slice_get js a) ≡ true → (os : List ℕ) → list_all (λ b. may_follow js a b) os ≡ true
    → AllOf (λ b. a < b) (filter (λ b. test_at (sets_on n k) (slice_get js b)) os)
all_rise js p n k a h [] f = tt
all_rise js p n k a h (b ∷ os) f =
    let x = and_parts (may_follow js a b) _ f in
    with_test (all_rise js p n k a h os x.1) x.0 (test_at (sets_on n k) (slice_get js b)) refl
  where
    with_test : AllOf (λ c. a < c) (filter (λ c. test_at (sets_on n k) (slice_get js c)) os) → may_follow js a b ≡ true → (t : Bool) → test_at (sets_on n k) (slice_get js b) ≡ t
        → AllOf (λ c. a < c) (cond t (b ∷ filter (λ c. test_at (sets_on n k) (slice_get js c)) os) (filter (λ c. test_at (sets_on n k) (slice_get js c)) os))
    with_test r y true e = (rises js p n k a b h e y, r)
    with_test r y false e = r

rising_kept : (js : List Job) → IsPlan js → (n : Option Way) (k : Spot) (os : List ℕ) → in_order js os ≡ true → Rising (filter (λ b. test_at (sets_on n k) (slice_get js b)) os)
rising_kept js p n k [] h = tt
rising_kept js p n k (a ∷ os) h =
    let x = and_parts (ltb a (length js)) _ h in
    let y = and_parts (list_all (λ b. may_follow js a b) os) _ x.1 in
    with_test (rising_kept js p n k os y.1) y.0 (test_at (sets_on n k) (slice_get js a)) refl
  where
    with_test : Rising (filter (λ b. test_at (sets_on n k) (slice_get js b)) os) → list_all (λ b. may_follow js a b) os ≡ true → (t : Bool) → test_at (sets_on n k) (slice_get js a) ≡ t
        → Rising (cond t (a ∷ filter (λ b. test_at (sets_on n k) (slice_get js b)) os) (filter (λ b. test_at (sets_on n k) (slice_get js b)) os))
    with_test r y true e = (all_rise js p n k a e os y, r)
    with_test r y false e = r

-- ---- an order has each number once
all_apart : (js : List Job) (a : ℕ) (os : List ℕ) → list_all (λ b. may_follow js a b) os ≡ true → AllOf (λ b. eqb a b ≡ false) os
all_apart js a [] h = tt
all_apart js a (b ∷ os) h = let x = and_parts (may_follow js a b) _ h in ((follow_parts js a b x.0).0, all_apart js a os x.1)

apart : (js : List Job) (os : List ℕ) → in_order js os ≡ true → Apart os
apart js [] h = tt
apart js (a ∷ os) h =
    let x = and_parts (ltb a (length js)) _ h in
    let y = and_parts (list_all (λ b. may_follow js a b) os) _ x.1 in
    (all_apart js a os y.0, apart js os y.1)

below : (js : List Job) (os : List ℕ) → in_order js os ≡ true → AllOf (λ b. b < length js) os
below js [] h = tt
below js (a ∷ os) h =
    let x = and_parts (ltb a (length js)) _ h in
    let y = and_parts (list_all (λ b. may_follow js a b) os) _ x.1 in
    (ltb-true _ _ x.0, below js os y.1)

-- ---- the recorded order
nth_from : (before js : List Job) (j : Job) (n : ℕ) → length before ≡ n → slice_get (before ++ j ∷ js) n ≡ Some j
nth_from [] js j zero h = refl
nth_from [] js j (suc n) h = absurd (omega (arith, h))
nth_from (i ∷ before) js j zero h = absurd (omega (arith, h))
nth_from (i ∷ before) js j (suc n) h = nth_from before js j n (omega (arith, h))

after_upto : (before js done : List Job) (n : ℕ) → length before ≡ n → picked (before ++ js) (upto n (length js)) done ≡ reverse_aux js done
after_upto before [] done n h = refl
after_upto before (j ∷ js) done n h =
    let e = nth_from before js j n h in
    let r = after_upto (before ++ j ∷ []) js (j ∷ done) (suc n) (length-append before (j ∷ []) ∙ omega (arith, h)) in
    let r2 = rw (append_assoc before (j ∷ []) js) at r in
    ap (λ o. picked (before ++ j ∷ js) (upto (suc n) (length js)) (with_picked o done)) e ∙ r2

all_recorded : (js : List Job) → picked js (upto 0 (length js)) [] ≡ reverse js
all_recorded js = after_upto [] js [] 0 refl

-- ---- each spot sees one list
pub same_at : (js : List Job) (os : List ℕ) → IsPlan js → is_order js os ≡ true → (n : Option Way) → SameAt n (picked js os []) (reverse js)
same_at js os p h n k =
    let x = and_parts (eqb (length os) (length js)) _ h in
    let long : length os ≡ length js = eqb-true _ _ x.0 in
    after_kept (sets_on n k) js os []
    ∙ ap (λ l. picked js l []) (passing_same (λ b. test_at (sets_on n k) (slice_get js b)) os (length js) (apart js os x.1) (below js os x.1) long (rising_kept js p n k os x.1))
    ∙ sym (after_kept (sets_on n k) js (upto 0 (length js)) [])
    ∙ ap (λ l. filter (sets_on n k) l) (all_recorded js)

-- ---- a payload's sheet is as it will be when it is put
-- none of these numbers sets what is owned so
abbrev Quiet : List Job → Option Way → List ℕ → Type 0
Quiet js o os = AllOf (λ b. test_at (λ v. is_owned o v) (slice_get js b) ≡ false) os

quiet_none : (js : List Job) (w : Way) (k : Spot) (os : List ℕ) → Quiet js (Some w) os → filter (λ b. test_at (sets_on (Some w) k) (slice_get js b)) os ≡ []
quiet_none js w k [] q = refl
quiet_none js w k (b ∷ os) q = by_job (slice_get js b) q.0 (quiet_none js w k os q.1)
  where
    by_job : (o : Option Job) → test_at (λ v. is_owned (Some w) v) o ≡ false → filter (λ b. test_at (sets_on (Some w) k) (slice_get js b)) os ≡ []
        → cond (test_at (sets_on (Some w) k) o) (b ∷ filter (λ b. test_at (sets_on (Some w) k) (slice_get js b)) os) (filter (λ b. test_at (sets_on (Some w) k) (slice_get js b)) os) ≡ []
    by_job None h r = r
    by_job (Some j) h r = rw h r

later_quiet : (js : List Job) (j : Job) (a : ℕ) → slice_get js a ≡ Some j → (os : List ℕ) → list_all (λ b. may_follow js a b) os ≡ true → Quiet js j.own os
later_quiet js j a e [] h = tt
later_quiet js j a e (b ∷ os) h =
    let x = and_parts (may_follow js a b) _ h in
    (ap (λ o. owns o (slice_get js b)) (sym e) ∙ (follow_parts js a b x.0).1, later_quiet js j a e os x.1)

own_same : (js done : List Job) (a : ℕ) (os : List ℕ) (o : Option Way)
    → Quiet js o (a ∷ os) → ((n : Option Way) → SameAt n (picked js (a ∷ os) done) (reverse js)) → SameOwn o done (reverse js)
own_same js done a os None q s = tt
own_same js done a os (Some w) q s = λ k.
    ap (λ l. picked js l (filter (sets_on (Some w) k) done)) (sym (quiet_none js w k (a ∷ os) q))
    ∙ sym (after_kept (sets_on (Some w) k) js (a ∷ os) done)
    ∙ s (Some w) k

nested_first : (js : List Job) → IsPlan js → (os : List ℕ) (done : List Job) → in_order js os ≡ true
    → ((n : Option Way) → SameAt n (picked js os done) (reverse js)) → NestedFirst (reverse js) done → NestedFirst (reverse js) (picked js os done)
nested_first js p [] done h s g = g
nested_first js p (a ∷ os) done h s g =
    let x = and_parts (ltb a (length js)) _ h in
    let y = and_parts (list_all (λ b. may_follow js a b) os) _ x.1 in
    nested_first js p os (with_picked (slice_get js a) done) y.1 s (by_job (slice_get js a) refl y.0)
  where
    by_job : (o : Option Job) → slice_get js a ≡ o → list_all (λ b. may_follow js a b) os ≡ true → NestedFirst (reverse js) (with_picked o done)
    by_job None e f = g
    by_job (Some j) e f =
        let own : test_at (λ v. is_owned j.own v) (slice_get js a) ≡ false = ap (λ o. owns o (slice_get js a)) (sym e) ∙ p.own a in
        (own_same js done a os j.own (own, later_quiet js j a e os f) s, g)

nth_some : (js : List Job) (a : ℕ) → a < length js → (o : Option Job) → slice_get js a ≡ o → (done : List Job) → length (with_picked o done) ≡ suc (length done)
nth_some [] a h o e done = absurd (omega (arith, h))
nth_some (j ∷ js) zero h None e done = absurd (false≢true (ap is_none e))
nth_some (j ∷ js) zero h (Some i) e done = refl
nth_some (j ∷ js) (suc a) h o e done = nth_some js a (omega (arith, h)) o e done

after_long : (js : List Job) (os : List ℕ) (done : List Job) → AllOf (λ b. b < length js) os → length (picked js os done) ≡ length os + length done
after_long js [] done h = omega arith
after_long js (a ∷ os) done h = after_long js os (with_picked (slice_get js a) done) h.1 ∙ omega (arith, nth_some js a h.0 (slice_get js a) refl done)

pub every_order : EveryOrder
every_order e js os p h =
    let x = and_parts (eqb (length os) (length js)) _ h in
    let long : length os ≡ length js = eqb-true _ _ x.0 in
    let l1 = after_long js os [] (below js os x.1) in
    let l2 : length (reverse js) ≡ length js = length-reverse js in
    puts_rewritten e (reverse js) (picked js os []) (record {
      nested = nested_first js p os [] x.1 (same_at js os p h) tt;
      outer = same_at js os p h None;
      long = omega (arith, l1, l2, long);
    })

-- Lemmas about the distribution of executed changes over children.
use Rattle.std.proofs.Common.{◌≡◌, ℕ, zero, suc, ◌+◌, ◌-◌, ◌≤◌, ◌<◌, List, [], ◌∷◌, ◌++◌, length, Option, Some, None, is_none, Bool, true, false, ◌&&◌, ◌||◌, cond, leb, eqb, refl, ap, sym, ◌∙◌, arith, subst, slice_get, slice_set, slice_index_or, take, get_or}
use Rattle.std.specs.List.{All}
use Rattle.std.specs.Global.{Vec}
use Rattle.std.proofs.lemmas.Bool.{and_parts, false≢true, false_from_ne_true, leb-true, eqb-true}
use Rattle.std.proofs.lemmas.List.{reverse-append, take_more}
use Rattle.std.proofs.lemmas.List.Elements.{All-head, All-tail}
use Rattle.std.proofs.lemmas.Option.{slice_get-get_or}
use Rattle.syntax_tree.specs.Element.{Way, Element, same_way}
use Rattle.tree_rewrite.specs.Change.{insert, replace, covers, is_within}
use Rattle.tree_rewrite.specs.Marked.{Marked, Sheet, Spot, gap, slot}
use Rattle.tree_rewrite.specs.Rewrite.{Job, same_sheet, sets, set_by, puts, terms_of}
use Rattle.tree_rewrite.specs.Fill.{Given, laid, IsGiven, AreGiven, HaveGiven, HavePut}
use Rattle.tree_rewrite.specs.Below.{IsBeyond, lists_of, with_row, LeavesChild, AgreeChild, ListsChild, AreLists, OnSheet}
use Rattle.tree_rewrite.specs.declared.piece.Put.{Put}
use Rattle.tree_rewrite.proofs.OrderLemmas.{same_way-sound}
use Rattle.tree_rewrite.proofs.JobLemmas.{some_same}
use Rattle.tree_rewrite.proofs.SheetLemmas.{split_puts, spot_kept, reaches_gap, reaches_slot}

-- ---- lists of a row more
pub row_more : (a i n : ℕ) (vs : List (Vec ℕ)) (v d : Vec ℕ) → i < length vs → v.items ≡ (slice_index_or vs i d).items ++ a ∷ [] → with_row a i (suc n) (lists_of vs) ≡ with_row a (suc i) n (lists_of (slice_set vs i v))
row_more a i n [] v d h e = absurd (omega (arith, h))
row_more a zero n (u ∷ vs) v d h e = ap (λ l. l ∷ with_row a zero n (lists_of vs)) (sym e)
row_more a (suc i) n (u ∷ vs) v d h e = ap (λ ls. u.items ∷ ls) (row_more a i n vs v d (omega (arith, h)) e)

pub row_last : (a i : ℕ) (vs : List (Vec ℕ)) (v d : Vec ℕ) → i < length vs → v.items ≡ (slice_index_or vs i d).items ++ a ∷ [] → with_row a i zero (lists_of vs) ≡ lists_of (slice_set vs i v)
row_last a i [] v d h e = absurd (omega (arith, h))
row_last a zero (u ∷ vs) v d h e = ap (λ l. l ∷ lists_of vs) (sym e)
row_last a (suc i) (u ∷ vs) v d h e = ap (λ ls. u.items ∷ ls) (row_last a i vs v d (omega (arith, h)) e)

pub row_end : (a i n : ℕ) (vs : List (Vec ℕ)) → length vs ≤ i → with_row a i n (lists_of vs) ≡ lists_of vs
row_end a i n [] h = refl
row_end a zero n (u ∷ vs) h = absurd (omega (arith, h))
row_end a (suc i) n (u ∷ vs) h = ap (λ ls. u.items ∷ ls) (row_end a i n vs (omega (arith, h)))

pub row_count : (a i n : ℕ) (ls : List (List ℕ)) → length (with_row a i n ls) ≡ length ls
row_count a i n [] = refl
row_count a zero zero (l ∷ ls) = refl
row_count a zero (suc n) (l ∷ ls) = ap suc (row_count a zero n ls)
row_count a (suc i) n (l ∷ ls) = ap suc (row_count a i n ls)

pub lists_count : (vs : List (Vec ℕ)) → length (lists_of vs) ≡ length vs
lists_count [] = refl
lists_count (v ∷ vs) = ap suc (lists_count vs)

-- the previous list, if it is one of the range, or the same list
abbrev pub RowCase : ℕ → ℕ → ℕ → List (List ℕ) → ℕ → List ℕ → Bool → Type 0
RowCase a s n ls i m true = (l : List ℕ) × (slice_get ls i ≡ Some l) × (m ≡ l ++ a ∷ [])
RowCase a s n ls i m false = (slice_get ls i ≡ Some m) × IsBeyond (Some (s, n)) i

beyond_zero : (n i : ℕ) → IsBeyond (Some (zero, n)) i → IsBeyond (Some (zero, suc n)) (suc i)
beyond_zero n i h x y = h (omega arith) (omega (arith, y))

beyond_more : (s n i : ℕ) → IsBeyond (Some (s, n)) i → IsBeyond (Some (suc s, n)) (suc i)
beyond_more s n i h x y = h (omega (arith, x)) (omega (arith, y))

row_case : (a s n : ℕ) (ls : List (List ℕ)) (i : ℕ) (m : List ℕ) → slice_get (with_row a s n ls) i ≡ Some m → (b : Bool) × RowCase a s n ls i m b
row_case a s n [] i m h = absurd (false≢true (sym (ap is_none h)))
row_case a zero zero (l ∷ ls) zero m h = (true, (l, refl, sym (some_same _ m h)))
row_case a zero zero (l ∷ ls) (suc i) m h = (false, (h, λ x y. omega (arith, y)))
row_case a zero (suc n) (l ∷ ls) zero m h = (true, (l, refl, sym (some_same _ m h)))
row_case a zero (suc n) (l ∷ ls) (suc i) m h = let r = row_case a zero n ls i m h in by_case r.0 r.1
  where
    by_case : (b : Bool) → RowCase a zero n ls i m b → (c : Bool) × RowCase a zero (suc n) (l ∷ ls) (suc i) m c
    by_case true g = (true, g)
    by_case false g = (false, (g.0, beyond_zero n i g.1))
row_case a (suc s) n (l ∷ ls) zero m h = (false, (h, λ x y. omega (arith, x)))
row_case a (suc s) n (l ∷ ls) (suc i) m h = let r = row_case a s n ls i m h in by_case r.0 r.1
  where
    by_case : (b : Bool) → RowCase a s n ls i m b → (c : Bool) × RowCase a (suc s) n (l ∷ ls) (suc i) m c
    by_case true g = (true, g)
    by_case false g = (false, (g.0, beyond_more s n i g.1))

-- ---- one more executed change, which affects a child or does not
unset-by : (m s : Bool) → s ≡ false → (m && s) ≡ false
unset-by true s h = h
unset-by false s h = refl

spot_same : (g : Given) (gs hs : List Given) (n : Option Way) (k : Spot) → laid hs n k ≡ laid gs n k → laid (g ∷ hs) n k ≡ laid (g ∷ gs) n k
spot_same g gs hs n k h = ap (λ o. cond (same_sheet g.0.sheet n && sets g.0.change k) (Some (set_by g.0.change k g.1 o)) o) h

child_told : (g : Given) (gs hs : List Given) (n : Option Way) (w : Way) (i : ℕ) → AgreeChild (laid hs n) (laid gs n) w i → AgreeChild (laid (g ∷ hs) n) (laid (g ∷ gs) n) w i
child_told g gs hs n w i h =
    (spot_same g gs hs n (gap w i) h.0, spot_same g gs hs n (slot (i ∷ w)) h.1, λ p v k. (spot_same g gs hs n (gap p k) (h.2 p v k).0, spot_same g gs hs n (slot (k ∷ p)) (h.2 p v k).1))

child_left : (g : Given) (gs hs : List Given) (n : Option Way) (w : Way) (i : ℕ) → LeavesChild g.0.change w i → AgreeChild (laid hs n) (laid gs n) w i → AgreeChild (laid hs n) (laid (g ∷ gs) n) w i
child_left g gs hs n w i l h =
    let kept : (k : Spot) → sets g.0.change k ≡ false → laid gs n k ≡ laid (g ∷ gs) n k = λ k e. sym (spot_kept g gs n k (unset-by (same_sheet g.0.sheet n) _ e)) in
    let no_gap : (p : Way) → is_within (i ∷ w) 0 p ≡ true → (k : ℕ) → sets g.0.change (gap p k) ≡ false =
    λ p v k. false_from_ne_true _ (λ (t : sets g.0.change (gap p k) ≡ true). false≢true (sym l.2 ∙ reaches_gap g.0.change (i ∷ w) p k v t)) in
    let no_slot : (p : Way) → is_within (i ∷ w) 0 p ≡ true → (k : ℕ) → sets g.0.change (slot (k ∷ p)) ≡ false =
    λ p v k. false_from_ne_true _ (λ (t : sets g.0.change (slot (k ∷ p)) ≡ true). false≢true (sym l.2 ∙ reaches_slot g.0.change (i ∷ w) p k v t)) in
    (h.0 ∙ kept (gap w i) l.0, h.1 ∙ kept (slot (i ∷ w)) l.1, λ p v k. ((h.2 p v k).0 ∙ kept (gap p k) (no_gap p v k), (h.2 p v k).1 ∙ kept (slot (k ∷ p)) (no_slot p v k)))

given_more : (all : List Job) (ps : List Put) (ns : List ℕ) (a : ℕ) (g : Given) (hs : List Given) → IsGiven all (slice_get ps a) g → HaveGiven all ps ns hs → HaveGiven all ps (ns ++ a ∷ []) (g ∷ hs)
given_more all ps ns a g hs n h = subst (λ l. AreGiven all ps l (g ∷ hs)) (sym (reverse-append ns (a ∷ []))) (n, h)

pub lists_told : (all : List Job) (ps : List Put) (ls : List (List ℕ)) (n : Option Way) (w : Way) (gs : List Given) (g : Given) (a s m : ℕ) → IsGiven all (slice_get ps a) g
    → ((i : ℕ) → IsBeyond (Some (s, m)) i → LeavesChild g.0.change w i) → AreLists all ps ls n w gs → AreLists all ps (with_row a s m ls) n w (g ∷ gs)
lists_told all ps ls n w gs g a s m d f h i l e = let r = row_case a s m ls i l e in by_case r.0 r.1
  where
    by_case : (b : Bool) → RowCase a s m ls i l b → ListsChild all ps l n w i (g ∷ gs)
    by_case true c =
        let old = h i c.0 c.1 in
        (g ∷ old.0, subst (λ k. HaveGiven all ps k (g ∷ old.0)) (sym c.2) (given_more all ps c.0 a g old.0 d old.1), child_told g gs old.0 n w i old.2)
    by_case false c = let old = h i l c.0 in (old.0, old.1, child_left g gs old.0 n w i (f i c.1) old.2)

pub lists_left : (all : List Job) (ps : List Put) (ls : List (List ℕ)) (n : Option Way) (w : Way) (gs : List Given) (g : Given) → ((i : ℕ) → LeavesChild g.0.change w i)
    → AreLists all ps ls n w gs → AreLists all ps ls n w (g ∷ gs)
lists_left all ps ls n w gs g f h i l e = let old = h i l e in (old.0, old.1, child_left g gs old.0 n w i (f i) old.2)

-- empty lists, without executed changes
list_none : (vs : List (Vec ℕ)) → All (λ v. v.items ≡ []) vs → (i : ℕ) (l : List ℕ) → slice_get (lists_of vs) i ≡ Some l → l ≡ []
list_none [] h i l e = absurd (false≢true (sym (ap is_none e)))
list_none (v ∷ vs) h zero l e = sym (some_same _ l e) ∙ All-head (λ u. u.items ≡ []) v vs h
list_none (v ∷ vs) h (suc i) l e = list_none vs (All-tail (λ u. u.items ≡ []) v vs h) i l e

pub lists_none : (all : List Job) (ps : List Put) (vs : List (Vec ℕ)) (n : Option Way) (w : Way) → All (λ v. v.items ≡ []) vs → AreLists all ps (lists_of vs) n w []
lists_none all ps vs n w h i l e = ([], subst (λ k. HaveGiven all ps k []) (sym (list_none vs h i l e)) tt, (refl, refl, λ p t k. (refl, refl)))

-- ---- which children a change concerns
pub within_number : (w p : Way) (i : ℕ) → is_within (i ∷ w) 0 p ≡ true → (length w < length p) × (slice_get p (length p - 1 - length w) ≡ Some i)
within_number w [] i h = absurd (false≢true h)
within_number w (k ∷ q) i h = by_here (λ t. within_number w q i t) (covers (i ∷ w) 0 (k ∷ q)) refl h
  where
    by_here : (is_within (i ∷ w) 0 q ≡ true → (length w < length q) × (slice_get q (length q - 1 - length w) ≡ Some i)) → (b : Bool) → covers (i ∷ w) 0 (k ∷ q) ≡ b → (b || is_within (i ∷ w) 0 q) ≡ true → (length w < length (k ∷ q)) × (slice_get (k ∷ q) (length (k ∷ q) - 1 - length w) ≡ Some i)
    by_here f true c t =
        let x = and_parts (same_way w q) _ c in
        let y = and_parts (leb i k) (leb k (i + 0)) x.1 in
        let long : length w ≡ length q = ap length (same_way-sound w q x.0) in
        let same : k ≡ i = omega (arith, leb-true i k y.0, leb-true k (i + 0) y.1) in
        let none : length (k ∷ q) - 1 - length w ≡ 0 = omega (arith, long) in
        (omega (arith, long), ap (slice_get (k ∷ q)) none ∙ ap Some same)
    by_here f false c t =
        let r = f t in
        let more : length (k ∷ q) - 1 - length w ≡ suc (length q - 1 - length w) = omega (arith, r.0) in
        (omega (arith, r.0), ap (slice_get (k ∷ q)) more ∙ r.1)

-- an up-path that is too short, or leads elsewhere
pub not_through : (w p : Way) (i : ℕ) → length p ≤ length w → is_within (i ∷ w) 0 p ≡ false
not_through w p i h = false_from_ne_true _ (λ (t : is_within (i ∷ w) 0 p ≡ true). absurd (omega (arith, h, (within_number w p i t).0)))

pub through_other : (w p : Way) (i k d : ℕ) → length w ≡ d → slice_get p (length p - 1 - d) ≡ Some k → IsBeyond (Some (k, 0)) i → is_within (i ∷ w) 0 p ≡ false
through_other w p i k d l h b = false_from_ne_true _ (λ (t : is_within (i ∷ w) 0 p ≡ true).
    let at : slice_get p (length p - 1 - d) ≡ Some i = ap (λ x. slice_get p (length p - 1 - x)) (sym l) ∙ (within_number w p i t).1 in
    let same : k ≡ i = some_same k i (sym h ∙ at) in
    b (omega (arith, same)) (omega (arith, same)))

way_apart : (p w : Way) → (length p ≡ length w → ⊥) → same_way p w ≡ false
way_apart p w h = false_from_ne_true _ (λ (t : same_way p w ≡ true). h (ap length (same_way-sound p w t)))

and_left-false : (a b : Bool) → a ≡ false → (a && b) ≡ false
and_left-false a b h = ap (λ x. x && b) h

pub leaves_gap : (p : Way) (k : ℕ) (new : List Element) (w : Way) (i : ℕ) → length p ≡ length w → IsBeyond (Some (k, 0)) i → LeavesChild (insert p k new) w i
leaves_gap p k new w i l b =
    (unset-by (same_way p w) _ (false_from_ne_true _ (λ (t : eqb k i ≡ true). let same = eqb-true k i t in b (omega (arith, same)) (omega (arith, same)))), refl, not_through w p i (omega (arith, l)))

pub leaves_gap-low : (p : Way) (k : ℕ) (new : List Element) (w : Way) (i : ℕ) → (length p ≡ length w → ⊥) → is_within (i ∷ w) 0 p ≡ false → LeavesChild (insert p k new) w i
leaves_gap-low p k new w i l h = (and_left-false (same_way p w) _ (way_apart p w l), refl, h)

pub leaves_slots : (a : ℕ) (q : Way) (n : ℕ) (new : List Element) (s : Bool) (w : Way) (i : ℕ) → length q ≡ length w → IsBeyond (Some (a, n)) i → LeavesChild (replace (a ∷ q) n new s) w i
leaves_slots a q n new s w i l b =
    (refl, unset-by (same_way q w) _ (false_from_ne_true _ (λ (t : (leb a i && leb i (a + n)) ≡ true). let y = and_parts (leb a i) _ t in b (leb-true a i y.0) (leb-true i (a + n) y.1))), not_through w q i (omega (arith, l)))

pub leaves_slots-low : (a : ℕ) (q : Way) (n : ℕ) (new : List Element) (s : Bool) (w : Way) (i : ℕ) → (length q ≡ length w → ⊥) → is_within (i ∷ w) 0 q ≡ false → LeavesChild (replace (a ∷ q) n new s) w i
leaves_slots-low a q n new s w i l h = (refl, and_left-false (same_way q w) _ (way_apart q w l), h)

-- ---- the executed changes of one target tree
abbrev put_on : Job → Marked → Option Way → Bool → Sheet → Sheet
put_on j m n b s k = cond (b && sets j.change k) (Some (set_by j.change k m (s k))) (s k)

pub sheet_told : (all : List Job) (ps : List Put) (ns : List ℕ) (a : ℕ) (n : Option Way) (j : Job) (js : List Job) → IsGiven all (slice_get ps a) (j, terms_of (puts js) j)
    → OnSheet all ps ns n js → OnSheet all ps (ns ++ a ∷ []) n (j ∷ js)
sheet_told all ps ns a n j js d h =
    ((j, terms_of (puts js) j) ∷ h.0, given_more all ps ns a (j, terms_of (puts js) j) h.0 d h.1, ap (put_on j (terms_of (puts js) j) n (same_sheet j.sheet n)) h.2)

pub sheet_left : (all : List Job) (ps : List Put) (ns : List ℕ) (n : Option Way) (j : Job) (js : List Job) → same_sheet j.sheet n ≡ false → OnSheet all ps ns n js → OnSheet all ps ns n (j ∷ js)
sheet_left all ps ns n j js e h = (h.0, h.1, h.2 ∙ ap (λ b. put_on j (terms_of (puts js) j) n b (puts js n)) (sym e))

pub sheet_none : (all : List Job) (ps : List Put) (ns : List ℕ) (n : Option Way) (js : List Job) → ns ≡ [] → HavePut all [] js → OnSheet all ps ns n js
sheet_none all ps ns n [] e h = ([], subst (λ k. HaveGiven all ps k []) (sym e) tt, refl)
sheet_none all ps ns n (j ∷ js) e h = absurd h

slice_get-within : (ps : List Put) (k : ℕ) → k < length ps → slice_get ps k ≡ None → ⊥
slice_get-within [] k l e = omega (arith, l)
slice_get-within (p ∷ ps) zero l e = false≢true (ap is_none e)
slice_get-within (p ∷ ps) (suc k) l e = slice_get-within ps k (omega (arith, l)) e

-- the next executed change
pub record NextPut (all : List Job) (ps : List Put) (k : ℕ) (js : List Job) : Type 0 where
  pub job : Job
  pub rest : List Job
  pub is : js ≡ job ∷ rest
  pub given : IsGiven all (slice_get ps k) (job, terms_of (puts rest) job)
  pub have : HavePut all (take k ps) rest

pub next_put : (all : List Job) (ps : List Put) (k : ℕ) (js : List Job) → k < length ps → HavePut all (take (k + 1) ps) js → NextPut all ps k js
next_put all ps k js l h = by_put (slice_get ps k) refl
  where
    by_put : (o : Option Put) → slice_get ps k ≡ o → NextPut all ps k js
    by_put None e = absurd (slice_get-within ps k l e)
    by_put (Some p) e =
        let at : get_or ps k p ≡ p = some_same _ p (sym (slice_get-get_or ps k p l) ∙ e) in
        let s = split_puts all (take (k + 1) ps) (take k ps) p js (take_more ps k p l ∙ ap (λ x. take k ps ++ x ∷ []) at) h in
        record { job = s.job; rest = s.rest; is = s.is; given = subst (λ o. IsGiven all o (s.job, terms_of (puts s.rest) s.job)) (sym e) (s.numbered, s.content); have = s.have }

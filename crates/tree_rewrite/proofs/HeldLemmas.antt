-- Which change replaces an element.
use Rattle.std.proofs.Common.{◌≡◌, ℕ, suc, ◌+◌, ◌≤◌, List, [], ◌∷◌, ◌++◌, length, Bool, true, false, ◌&&◌, ◌||◌, cond, refl, ap, sym, ◌∙◌, arith, Option, Some, None, option_map, option_and_then, slice_get, is_some, is_none, Bor, IfSome, map, get_or, subst, leb, ltb}
use Rattle.std.specs.List.{list_any}
use Rattle.std.specs.Option.{option_copied}
use Rattle.std.proofs.lemmas.Option.{slice_get-get_or, slice_get_past}
use Rattle.std.proofs.lemmas.Bool.{leb-true, leb-false, le-leb, ltb-true, ltb-false, and_parts, and_from, or_parts, or_left, or_right, false≢true, false_from_ne_true}
use Rattle.syntax_tree.specs.Element.{Way, same_way, Element}
use Rattle.tree_rewrite.specs.Change.{Change, insert, replace, covers, replaces, meets, has_collision, rows_meet, is_nested}
use Rattle.tree_rewrite.specs.Rewrite.{payload_of, payload_at}
use Rattle.tree_rewrite.specs.Held.{first_of, replacing, Holds, IsPut, IsTaken, leads_through, splits}
use Rattle.tree_rewrite.specs.WayTrie.{number_at}
use Rattle.tree_rewrite.specs.declared.way_trie.WayTrie.{WayTrie}
use Rattle.tree_rewrite.proofs.JobLemmas.{covers_meet, some_same}
use Rattle.tree_rewrite.proofs.OrderLemmas.{same_way-sound, same_way-own}

-- ---- the first that passes
module _ {A : Type 0} (test : A → Bool) where
  pub first-any : (xs : List A) → is_some (first_of test xs) ≡ list_any test xs
  first-any [] = refl
  first-any (x ∷ xs) = by_test (test x) (first_of test xs) (first-any xs)
    where
      by_test : (b : Bool) (o : Option ℕ) → is_some o ≡ list_any test xs → is_some (cond b (Some 0) (option_map suc o)) ≡ (b || list_any test xs)
      by_test true o e = refl
      by_test false None e = e
      by_test false (Some n) e = e

  -- among more
  pub first-some : (xs ys : List A) (n : ℕ) → first_of test xs ≡ Some n → first_of test (xs ++ ys) ≡ Some n
  first-some [] ys n h = cc
  first-some (x ∷ xs) ys n h = by_test (test x) (first_of test xs) (λ m e. first-some xs ys m e) h refl
    where
      by_test : (b : Bool) (o : Option ℕ) → ((m : ℕ) → first_of test xs ≡ Some m → first_of test (xs ++ ys) ≡ Some m)
          → cond b (Some 0) (option_map suc o) ≡ Some n → first_of test xs ≡ o → cond b (Some 0) (option_map suc (first_of test (xs ++ ys))) ≡ Some n
      by_test true o rest is e = is
      by_test false None rest is e = cc
      by_test false (Some m) rest is e = ap (option_map suc) (rest m e) ∙ is

  pub first-none : (xs : List A) (y : A) → first_of test xs ≡ None → first_of test (xs ++ y ∷ []) ≡ cond (test y) (Some (length xs)) None
  first-none [] y h = refl
  first-none (x ∷ xs) y h = by_test (test x) (first_of test xs) (λ e. first-none xs y e) refl h
    where
      later : (b : Bool) → option_map suc (cond b (Some (length xs)) None) ≡ cond b (Some (suc (length xs))) None
      later true = refl
      later false = refl

      by_test : (b : Bool) (o : Option ℕ) → (first_of test xs ≡ None → first_of test (xs ++ y ∷ []) ≡ cond (test y) (Some (length xs)) None)
          → first_of test xs ≡ o → cond b (Some 0) (option_map suc o) ≡ None
          → cond b (Some 0) (option_map suc (first_of test (xs ++ y ∷ []))) ≡ cond (test y) (Some (suc (length xs))) None
      by_test true o rest e is = cc
      by_test false (Some m) rest e is = cc
      by_test false None rest e is = ap (option_map suc) (rest e) ∙ later (test y)

  pub first-same : (xs : List A) (y : A) → test y ≡ false → first_of test (xs ++ y ∷ []) ≡ first_of test xs
  first-same xs y h = by_option (first_of test xs) refl
    where
      by_option : (o : Option ℕ) → first_of test xs ≡ o → first_of test (xs ++ y ∷ []) ≡ first_of test xs
      by_option None e = first-none xs y e ∙ ap (λ b. cond b (Some (length xs)) None) h ∙ sym e
      by_option (Some n) e = first-some xs (y ∷ []) n e ∙ sym e

-- ---- some of a list
module _ {A : Type 0} where
  pub any-same : (f g : A → Bool) → ((x : A) → f x ≡ g x) → (xs : List A) → list_any f xs ≡ list_any g xs
  any-same f g h [] = refl
  any-same f g h (x ∷ xs) = ap (λ b. b || list_any f xs) (h x) ∙ ap (λ b. g x || b) (any-same f g h xs)

  any-after : (f : A → Bool) (xs : List A) (y : A) (ys : List A) → f y ≡ true → list_any f (xs ++ y ∷ ys) ≡ true
  any-after f [] y ys h = or_left (f y) _ h
  any-after f (x ∷ xs) y ys h = or_right (f x) _ (any-after f xs y ys h)

  any-push : (f : A → Bool) (xs : List A) (y : A) → list_any f xs ≡ false → f y ≡ false → list_any f (xs ++ y ∷ []) ≡ false
  any-push f [] y h k = ap (λ b. b || false) k
  any-push f (x ∷ xs) y h k = let parts = or_parts (f x) (list_any f xs) h in ap (λ b. b || list_any f (xs ++ y ∷ [])) parts.0 ∙ any-push f xs y parts.1 k

  any-none : (xs : List A) → list_any (λ x. false) xs ≡ false
  any-none [] = refl
  any-none (x ∷ xs) = any-none xs

  -- either of two
  pub any-or : (f g k : A → Bool) (xs : List A) → list_any (λ x. (f x || g x) && k x) xs ≡ (list_any (λ x. f x && k x) xs || list_any (λ x. g x && k x) xs)
  any-or f g k [] = refl
  any-or f g k (x ∷ xs) = ap (λ b. ((f x || g x) && k x) || b) (any-or f g k xs) ∙ sides (f x) (g x) (k x) (list_any (λ y. f y && k y) xs) (list_any (λ y. g y && k y) xs)
    where
      sides : (a b c u v : Bool) → (((a || b) && c) || (u || v)) ≡ (((a && c) || u) || ((b && c) || v))
      sides true true true u v = refl
      sides true true false u v = refl
      sides true false true u v = refl
      sides true false false u v = refl
      sides false true true true v = refl
      sides false true true false v = refl
      sides false true false u v = refl
      sides false false true u v = refl
      sides false false false u v = refl

-- ---- changes that meet replace one element, and the other way round

common : (p u : Way) (a c n m : ℕ) → same_way p u ≡ true → a ≤ c + m → c ≤ a + n → (b : Bool) → leb a c ≡ b → (w : Way) × (covers (a ∷ p) n w ≡ true) × (covers (c ∷ u) m w ≡ true)
common p u a c n m e x y true h = (
  c ∷ u,
  and_from _ _ e (and_from _ _ h (le-leb c (a + n) y)),
  and_from _ _ (same_way-own u) (and_from _ _ (le-leb c c (omega arith)) (le-leb c (c + m) (omega arith))),
)
common p u a c n m e x y false h = (
  a ∷ p,
  and_from _ _ (same_way-own p) (and_from _ _ (le-leb a a (omega arith)) (le-leb a (a + n) (omega arith))),
  and_from _ _ (subst (λ v. same_way v p ≡ true) (same_way-sound p u e) (same_way-own p)) (and_from _ _ (le-leb c a (omega (arith, leb-false a c h))) (le-leb a (c + m) x)),
)

rows-common : (f g : Way) (n m : ℕ) → rows_meet f n g m ≡ true → (w : Way) × (covers f n w ≡ true) × (covers g m w ≡ true)
rows-common [] g n m h = ([], refl, h)
rows-common (a ∷ p) [] n m h = absurd (false≢true h)
rows-common (a ∷ p) (c ∷ u) n m h =
    let x = and_parts (same_way p u) _ h in
    let y = and_parts (leb a (c + m)) _ x.1 in
    common p u a c n m x.0 (leb-true a (c + m) y.0) (leb-true c (a + n) y.1) (leb a c) refl

pub meet-slot : (c d : Change) → meets c d ≡ true → (w : Way) × (replaces c w ≡ true) × (replaces d w ≡ true)
meet-slot (insert p i new) d h = absurd (false≢true h)
meet-slot (replace f n es s) (insert p i new) h = absurd (false≢true h)
meet-slot (replace f n es s) (replace g m ds t) h = rows-common f g n m h

pub slot-meet : (c d : Change) (w : Way) → replaces c w ≡ true → replaces d w ≡ true → meets c d ≡ true
slot-meet (insert p i new) d w x y = absurd (false≢true x)
slot-meet (replace f n es s) (insert p i new) w x y = absurd (false≢true y)
slot-meet (replace f n es s) (replace g m ds t) w x y = covers_meet f g w n m es ds s t x y

-- ---- a change after others that do not collide

-- one of them replaces an element that it replaces
collides : (cs : List Change) (c : Change) (ds : List Change) (w : Way) → replaces c w ≡ true → list_any (λ r. replaces r w) cs ≡ true → has_collision (cs ++ c ∷ ds) ≡ true
collides [] c ds w x h = absurd (false≢true h)
collides (d ∷ cs) c ds w x h = by_test (replaces d w) refl h (λ e. collides cs c ds w x e)
  where
    by_test : (b : Bool) → replaces d w ≡ b → (b || list_any (λ r. replaces r w) cs) ≡ true → (list_any (λ r. replaces r w) cs ≡ true → has_collision (cs ++ c ∷ ds) ≡ true)
        → (list_any (meets d) (cs ++ c ∷ ds) || has_collision (cs ++ c ∷ ds)) ≡ true
    by_test true y e rest = or_left (list_any (meets d) (cs ++ c ∷ ds)) _ (any-after (meets d) cs c ds (slot-meet d c w y x))
    by_test false y e rest = or_right (list_any (meets d) (cs ++ c ∷ ds)) _ (rest e)

-- none does
apart-push : (cs : List Change) (c : Change) → ((w : Way) → replaces c w ≡ true → list_any (λ r. replaces r w) cs ≡ false) → has_collision cs ≡ false → has_collision (cs ++ c ∷ []) ≡ false
apart-push [] c free h = refl
apart-push (d ∷ cs) c free h =
    let parts = or_parts (list_any (meets d) cs) (has_collision cs) h in
    let alone : meets d c ≡ false = false_from_ne_true (meets d c) (λ m. let x = meet-slot d c m in false≢true (sym (free x.0 x.2) ∙ or_left (replaces d x.0) _ x.1)) in
    ap (λ b. b || has_collision (cs ++ c ∷ [])) (any-push (meets d) cs c parts.0 alone)
    ∙ apart-push cs c (λ w x. (or_parts (replaces d w) _ (free w x)).1) parts.1

-- ---- what the map says

some-replacing : (w : Way) (cs : List Change) → is_some (replacing w cs) ≡ list_any (λ r. replaces r w) cs
some-replacing w [] = refl
some-replacing w (c ∷ cs) = by_test (replaces c w) (some-replacing w cs)
  where
    by_test : (b : Bool) → is_some (replacing w cs) ≡ list_any (λ r. replaces r w) cs → is_some (cond b (Some c) (replacing w cs)) ≡ (b || list_any (λ r. replaces r w) cs)
    by_test true e = refl
    by_test false e = e

-- a change was found there, or none
pub found-any : {A : Type 0} (f : A → Change) (o : Option A) (w : Way) (cs : List Change) → option_map f o ≡ replacing w cs → list_any (λ r. replaces r w) cs ≡ is_some o
found-any {A} f o w cs h = sym (by_option o ∙ ap is_some h ∙ some-replacing w cs)
  where
    by_option : (q : Option A) → is_some q ≡ is_some (option_map f q)
    by_option None = refl
    by_option (Some x) = refl

-- the item that a slice has at a number, or none
pub item-at : {A : Type 0} (xs : List A) (i : ℕ) (r : Option (Bor A)) → is_some r ≡ ltb i (length xs) → IfSome r (λ x. x.now ≡ get_or xs i x.now) → option_copied r ≡ slice_get xs i
item-at xs i None h is = sym (slice_get_past xs i (ltb-false i (length xs) (sym h)))
item-at xs i (Some x) h is = ap Some is ∙ sym (slice_get-get_or xs i x.now (ltb-true i (length xs) (sym h)))

-- ---- one change more in the map

pub held-more : (m k : WayTrie) (cs : List Change) (c : Change) → IsPut (λ w. replaces c w) (length cs) m k → Holds m cs → has_collision cs ≡ false
    → Holds k (cs ++ c ∷ []) × (has_collision (cs ++ c ∷ []) ≡ false)
held-more m k cs c put has apart = (
  record { numbers = λ w. put.put w ∙ by_test w (replaces c w) refl },
  apart-push cs c (λ w x. sym (first-any (λ r. replaces r w) cs) ∙ ap is_some (sym (has.numbers w) ∙ put.free w x)) apart,
)
  where
    by_test : (w : Way) (b : Bool) → replaces c w ≡ b → cond b (Some (length cs)) (number_at m w) ≡ first_of (λ r. replaces r w) (cs ++ c ∷ [])
    by_test w true x = sym (first-none (λ r. replaces r w) cs c (sym (has.numbers w) ∙ put.free w x) ∙ ap (λ b. cond b (Some (length cs)) None) x)
    by_test w false x = has.numbers w ∙ sym (first-same (λ r. replaces r w) cs c x)

pub held-taken : (m : WayTrie) (cs : List Change) (c : Change) (ds : List Change) → IsTaken (λ w. replaces c w) m → Holds m cs → has_collision (cs ++ c ∷ ds) ≡ true
held-taken m cs c ds taken has = collides cs c ds taken.0 taken.1 (sym (first-any (λ r. replaces r taken.0) cs) ∙ ap is_some (sym (has.numbers taken.0)) ∙ taken.2)

-- ---- the one change that replaces an element

others-apart : (c : Change) (cs : List Change) (w : Way) → replaces c w ≡ true → list_any (meets c) cs ≡ false → list_any (λ r. replaces r w) cs ≡ false
others-apart c [] w x h = refl
others-apart c (d ∷ cs) w x h =
    let parts = or_parts (meets c d) (list_any (meets c) cs) h in
    let alone : replaces d w ≡ false = false_from_ne_true (replaces d w) (λ y. false≢true (sym parts.0 ∙ slot-meet c d w x y)) in
    ap (λ b. b || list_any (λ r. replaces r w) cs) alone ∙ others-apart c cs w x parts.1

none-and : (f k : Change → Bool) (cs : List Change) → list_any f cs ≡ false → list_any (λ r. f r && k r) cs ≡ false
none-and f k [] h = refl
none-and f k (c ∷ cs) h =
    let parts = or_parts (f c) (list_any f cs) h in
    ap (λ b. (b && k c) || list_any (λ r. f r && k r) cs) parts.0 ∙ none-and f k cs parts.1

-- there is such a change, and it passes
abbrev pub passes : (Change → Bool) → Option Change → Bool
passes k None = false
passes k (Some c) = k c

-- what holds of one of those that replace an element holds of the one that does
pub any-held : (w : Way) (k : Change → Bool) (cs : List Change) → has_collision cs ≡ false → list_any (λ r. replaces r w && k r) cs ≡ passes k (replacing w cs)
any-held w k [] h = refl
any-held w k (c ∷ cs) h =
    let parts = or_parts (list_any (meets c) cs) (has_collision cs) h in
    by_test (replaces c w) refl (any-held w k cs parts.1) (λ x. others-apart c cs w x parts.0)
  where
    or-false : (b : Bool) → (b || false) ≡ b
    or-false true = refl
    or-false false = refl

    by_test : (b : Bool) → replaces c w ≡ b → list_any (λ r. replaces r w && k r) cs ≡ passes k (replacing w cs) → (replaces c w ≡ true → list_any (λ r. replaces r w) cs ≡ false)
        → ((b && k c) || list_any (λ r. replaces r w && k r) cs) ≡ passes k (cond b (Some c) (replacing w cs))
    by_test true x rest alone = ap (λ b. k c || b) (none-and (λ r. replaces r w) k cs (alone x)) ∙ or-false (k c)
    by_test false x rest alone = rest

first-change : (w : Way) (cs : List Change) → option_and_then (λ n. slice_get cs n) (first_of (λ r. replaces r w) cs) ≡ replacing w cs
first-change w [] = refl
first-change w (c ∷ cs) = by_test (replaces c w) (first_of (λ r. replaces r w) cs) (first-change w cs)
  where
    by_test : (b : Bool) (o : Option ℕ) → option_and_then (λ n. slice_get cs n) o ≡ replacing w cs
        → option_and_then (λ n. slice_get (c ∷ cs) n) (cond b (Some 0) (option_map suc o)) ≡ cond b (Some c) (replacing w cs)
    by_test true o e = refl
    by_test false None e = e
    by_test false (Some n) e = e

-- the change of the number in the map
pub held-change : (m : WayTrie) (cs : List Change) (w : Way) → Holds m cs → option_and_then (λ n. slice_get cs n) (number_at m w) ≡ replacing w cs
held-change m cs w has = ap (option_and_then (λ n. slice_get cs n)) (has.numbers w) ∙ first-change w cs

-- the payload there
abbrev pub head_of : List Element → Option Element
head_of [] = None
head_of (e ∷ es) = Some e

payload-none : (cs : List Change) (w : Way) → list_any (λ r. replaces r w) cs ≡ false → payload_at cs w ≡ None
payload-none [] w h = refl
payload-none (insert p i new ∷ cs) w h = payload-none cs w h
payload-none (replace f n [] s ∷ cs) w h = payload-none cs w (or_parts (covers f n w) _ h).1
payload-none (replace f n (e ∷ es) s ∷ cs) w h =
    let parts = or_parts (covers f n w) (list_any (λ r. replaces r w) cs) h in
    ap (λ b. cond b (Some e) (payload_at cs w)) parts.0 ∙ payload-none cs w parts.1

payload-here : (c : Change) (cs : List Change) (w : Way) → replaces c w ≡ true → list_any (λ r. replaces r w) cs ≡ false → payload_at (c ∷ cs) w ≡ head_of (payload_of c)
payload-here (insert p i new) cs w x h = absurd (false≢true x)
payload-here (replace f n [] s) cs w x h = payload-none cs w h
payload-here (replace f n (e ∷ es) s) cs w x h = ap (λ b. cond b (Some e) (payload_at cs w)) x

payload-there : (c : Change) (cs : List Change) (w : Way) → replaces c w ≡ false → payload_at (c ∷ cs) w ≡ payload_at cs w
payload-there (insert p i new) cs w x = refl
payload-there (replace f n [] s) cs w x = refl
payload-there (replace f n (e ∷ es) s) cs w x = ap (λ b. cond b (Some e) (payload_at cs w)) x

pub payload-held : (w : Way) (cs : List Change) → has_collision cs ≡ false → payload_at cs w ≡ option_and_then (λ c. head_of (payload_of c)) (replacing w cs)
payload-held w [] h = refl
payload-held w (c ∷ cs) h =
    let parts = or_parts (list_any (meets c) cs) (has_collision cs) h in
    by_test (replaces c w) refl (payload-held w cs parts.1) (λ x. others-apart c cs w x parts.0)
  where
    by_test : (b : Bool) → replaces c w ≡ b → payload_at cs w ≡ option_and_then (λ d. head_of (payload_of d)) (replacing w cs) → (replaces c w ≡ true → list_any (λ r. replaces r w) cs ≡ false)
        → payload_at (c ∷ cs) w ≡ option_and_then (λ d. head_of (payload_of d)) (cond b (Some c) (replacing w cs))
    by_test true x rest alone = payload-here c cs w x (alone x)
    by_test false x rest alone = payload-there c cs w x ∙ rest

pub head-map : {A : Type 0} (f : A → Element) (xs : List A) → option_map f (slice_get xs 0) ≡ head_of (map f xs)
head-map f [] = refl
head-map f (x ∷ xs) = refl

-- ---- what lies in a replaced element

pub through-root : (r : Change) → leads_through [] r ≡ replaces r []
through-root (insert p i new) = refl
through-root (replace f n new s) = refl

pub through-child : (i : ℕ) (w : Way) (r : Change) → leads_through (i ∷ w) r ≡ (replaces r (i ∷ w) || leads_through w r)
through-child i w (insert p j new) = refl
through-child i w (replace f n new s) = refl

pub nested-gap : (p : Way) (i : ℕ) (new : List Element) (r : Change) → is_nested (insert p i new) r ≡ (leads_through p r || splits p i r)
nested-gap p i new (insert q k others) = refl
nested-gap p i new (replace f n others s) = refl

pub nested-row : (i : ℕ) (p : Way) (n : ℕ) (new : List Element) (s : Bool) (r : Change) → is_nested (replace (i ∷ p) n new s) r ≡ leads_through p r
nested-row i p n new s (insert q k others) = refl
nested-row i p n new s (replace f m others t) = refl

pub nested-root : (n : ℕ) (new : List Element) (s : Bool) (r : Change) → is_nested (replace [] n new s) r ≡ false
nested-root n new s (insert q k others) = refl
nested-root n new s (replace f m others t) = refl

-- a gap that a change splits lies after an element that it replaces
split-after : (p : Way) (i : ℕ) (r : Change) → splits p (i + 1) r ≡ true → replaces r (i ∷ p) ≡ true
split-after p i (insert q k new) h = absurd (false≢true h)
split-after p i (replace [] n new s) h = absurd (false≢true h)
split-after p i (replace (a ∷ q) n new s) h =
    let x = and_parts (same_way q p) _ h in
    let y = and_parts (ltb a (i + 1)) (leb (i + 1) (a + n)) x.1 in
    and_from _ _ x.0 (and_from _ _ (le-leb a i (omega (arith, ltb-true a (i + 1) y.0))) (le-leb i (a + n) (omega (arith, leb-true (i + 1) (a + n) y.1))))

split-first : (p : Way) (r : Change) → splits p 0 r ≡ false
split-first p (insert q k new) = refl
split-first p (replace [] n new s) = refl
split-first p (replace (a ∷ q) n new s) = false_from_ne_true (splits p 0 (replace (a ∷ q) n new s)) (λ h.
    let x = and_parts (same_way q p) _ h in
    let y = and_parts (ltb a 0) (leb 0 (a + n)) x.1 in
    absurd (omega (arith, ltb-true a 0 y.0)))

-- a test of what splits a gap
pub any-split : (p : Way) (i j : ℕ) (k : Change → Bool) (cs : List Change) → j ≡ i + 1 → has_collision cs ≡ false
    → list_any (λ r. splits p j r && k r) cs ≡ passes (λ r. splits p j r && k r) (replacing (i ∷ p) cs)
any-split p i j k cs is h =
    any-same (λ r. splits p j r && k r) (λ r. replaces r (i ∷ p) && (splits p j r && k r)) (λ r. by_test r (splits p j r) refl) cs
    ∙ any-held (i ∷ p) (λ r. splits p j r && k r) cs h
  where
    by_test : (r : Change) (b : Bool) → splits p j r ≡ b → (b && k r) ≡ (replaces r (i ∷ p) && (b && k r))
    by_test r true e = sym (ap (λ x. x && k r) (split-after p i r (ap (λ n. splits p n r) (sym is) ∙ e)))
    by_test r false e = nothing (replaces r (i ∷ p))
      where
        nothing : (x : Bool) → false ≡ (x && false)
        nothing true = refl
        nothing false = refl

pub none-split : (p : Way) (j : ℕ) (k : Change → Bool) (cs : List Change) → j ≡ 0 → list_any (λ r. splits p j r && k r) cs ≡ false
none-split p j k cs is = any-same (λ r. splits p j r && k r) (λ r. false) (λ r. ap (λ n. splits p n r && k r) is ∙ ap (λ b. b && k r) (split-first p r)) cs ∙ any-none cs

-- ---- changes that are dropped

pub dropped-gap : (k : Change → Bool) (cs : List Change) (c : Change) (p : Way) (i : ℕ) (new : List Element) → c ≡ insert p i new
    → list_any (λ r. is_nested c r && k r) cs ≡ (list_any (λ r. leads_through p r && k r) cs || list_any (λ r. splits p i r && k r) cs)
dropped-gap k cs c p i new is =
    ap (λ d. list_any (λ r. is_nested d r && k r) cs) is
    ∙ any-same (λ r. is_nested (insert p i new) r && k r) (λ r. (leads_through p r || splits p i r) && k r) (λ r. ap (λ b. b && k r) (nested-gap p i new r)) cs
    ∙ any-or (leads_through p) (splits p i) k cs

pub dropped-row : (k : Change → Bool) (cs : List Change) (c : Change) (f : Way) (i : ℕ) (p : Way) (n : ℕ) (new : List Element) (s : Bool) → c ≡ replace f n new s → f ≡ i ∷ p
    → list_any (λ r. is_nested c r && k r) cs ≡ list_any (λ r. leads_through p r && k r) cs
dropped-row k cs c f i p n new s is at =
    ap (λ d. list_any (λ r. is_nested d r && k r) cs) (is ∙ ap (λ v. replace v n new s) at)
    ∙ any-same (λ r. is_nested (replace (i ∷ p) n new s) r && k r) (λ r. leads_through p r && k r) (λ r. ap (λ b. b && k r) (nested-row i p n new s r)) cs

pub dropped-root : (k : Change → Bool) (cs : List Change) (c : Change) (f : Way) (n : ℕ) (new : List Element) (s : Bool) → c ≡ replace f n new s → length f ≡ 0
    → list_any (λ r. is_nested c r && k r) cs ≡ false
dropped-root k cs c [] n new s is at =
    ap (λ d. list_any (λ r. is_nested d r && k r) cs) is
    ∙ any-same (λ r. is_nested (replace [] n new s) r && k r) (λ r. false) (λ r. ap (λ b. b && k r) (nested-root n new s r)) cs
    ∙ any-none cs
dropped-root k cs c (i ∷ f) n new s is at = absurd (omega (arith, at))

-- ---- from an element to those above

-- what lies in a replaced element, by the element itself and by those above it
pub lost-step : (k : Change → Bool) (cs : List Change) (w : Way) (i : ℕ) (up : Way) → w ≡ i ∷ up
    → list_any (λ r. leads_through w r && k r) cs ≡ (list_any (λ r. replaces r w && k r) cs || list_any (λ r. leads_through up r && k r) cs)
lost-step k cs w i up is =
    subst (λ (v : Way). list_any (λ r. leads_through v r && k r) cs ≡ (list_any (λ r. replaces r v && k r) cs || list_any (λ r. leads_through up r && k r) cs)) (sym is)
    (any-same (λ r. leads_through (i ∷ up) r && k r) (λ r. (replaces r (i ∷ up) || leads_through up r) && k r) (λ r. ap (λ b. b && k r) (through-child i up r)) cs
    ∙ any-or (λ r. replaces r (i ∷ up)) (leads_through up) k cs)

pub lost-root : (k : Change → Bool) (cs : List Change) (w : Way) → length w ≡ 0 → list_any (λ r. leads_through w r && k r) cs ≡ list_any (λ r. replaces r w && k r) cs
lost-root k cs [] at = any-same (λ r. leads_through [] r && k r) (λ r. replaces r [] && k r) (λ r. ap (λ b. b && k r) (through-root r)) cs
lost-root k cs (i ∷ w) at = absurd (omega (arith, at))

-- the change that is found there replaces the element
pub replacing-there : (w : Way) (cs : List Change) (c : Change) → replacing w cs ≡ Some c → replaces c w ≡ true
replacing-there w [] c h = absurd (false≢true (sym (ap is_none h)))
replacing-there w (d ∷ cs) c h = by_test (replaces d w) refl (λ e. replacing-there w cs c e) h
  where
    by_test : (b : Bool) → replaces d w ≡ b → (replacing w cs ≡ Some c → replaces c w ≡ true) → cond b (Some d) (replacing w cs) ≡ Some c → replaces c w ≡ true
    by_test true x rest e = subst (λ r. replaces r w ≡ true) (some_same d c e) x
    by_test false x rest e = rest e

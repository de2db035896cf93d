-- Changes of elements that were named alone, and what is noted of them.
use Rattle.std.proofs.Common.{◌≡◌, ℕ, zero, suc, ◌+◌, ◌<◌, ◌≤◌, List, [], ◌∷◌, ◌++◌, length, map, Bool, true, false, ◌&&◌, ◌||◌, cond, get_or, set, take, drop, refl, ap, sym, ◌∙◌, arith, Option, Some, None, option_map, is_some, subst, length-set}
use Rattle.std.specs.HashMap.{HashMap}
use Rattle.std.specs.List.{All, list_any}
use Rattle.std.specs.Option.{unwrap_or}
use Rattle.std.specs.Cmp.Lexicographic.{nat_list_eq_equiv, bytes_decides}
use Rattle.std.proofs.lemmas.Bool.{and_parts, false≢true}
use Rattle.std.proofs.lemmas.List.{take_more, length-take}
use Rattle.std.proofs.Math.Seq.{drop-nil}
use Rattle.rowan.specs.Place.{term_by}
use Rattle.syntax_tree.specs.Element.{Way, same_way, Element, term_of}
use Rattle.syntax_tree.specs.Handle.{element_of}
use Rattle.syntax_tree.specs.declared.element.SyntaxElement.{SyntaxElement}
use Rattle.tree_rewrite.specs.Change.{Change, insert, replace}
use Rattle.tree_rewrite.specs.Moved.{same_kind}
use Rattle.tree_rewrite.specs.Recorded.{recorded}
use Rattle.tree_rewrite.specs.declared.change.Change as declared
use Rattle.tree_rewrite.specs.declared.change.Change.TheVariants.{Insert, Replace}
use Rattle.syntax_editor.specs.Inside.{IsSound}
use Rattle.syntax_editor.specs.Recording.{is_single_at, is_deletion_at, is_empty}
use Rattle.syntax_editor.specs.Noted.{first_single, is_deletion_of, HasSingles, AreNoted}
use Rattle.syntax_editor.specs.ByWay.{way_of, number_at}
use Rattle.syntax_editor.specs.declared.by_way.Named.{Named}

-- ---- a change of an element that was named alone is one of that element only

pub single-of : (v : Way) (c : Change) → is_single_at v c ≡ true → (w : Way) → is_single_at w c ≡ same_way v w
single-of v (insert p i new) h w = absurd (false≢true h)
single-of v (replace f n new s) h w =
    let parts = and_parts s (same_way f v) h in
    ap (λ b. b && same_way f w) parts.0 ∙ nat_list_eq_equiv.congr f v w parts.1

-- a single change of the element at a path
pub single-own : (s : Bool) (f v : Way) → s ≡ true → v ≡ f → (s && same_way f v) ≡ true
single-own s f v h is = ap (λ b. b && same_way f v) h ∙ (bytes_decides f v).1 (sym is)

-- ---- one change more

of-some : (w : Way) (cs ds : List Change) (n : ℕ) → first_single w cs ≡ Some n → first_single w (cs ++ ds) ≡ Some n
of-some w [] ds n h = cc
of-some w (c ∷ cs) ds n h = by_test (is_single_at w c) (first_single w cs) (λ m e. of-some w cs ds m e) h refl
  where
    by_test : (b : Bool) (o : Option ℕ) → ((m : ℕ) → first_single w cs ≡ Some m → first_single w (cs ++ ds) ≡ Some m)
        → cond b (Some 0) (option_map suc o) ≡ Some n → first_single w cs ≡ o → cond b (Some 0) (option_map suc (first_single w (cs ++ ds))) ≡ Some n
    by_test true o rest is e = is
    by_test false None rest is e = cc
    by_test false (Some m) rest is e = ap (option_map suc) (rest m e) ∙ is

of-none : (w : Way) (cs : List Change) (c : Change) → first_single w cs ≡ None → first_single w (cs ++ c ∷ []) ≡ cond (is_single_at w c) (Some (length cs)) None
of-none w [] c h = refl
of-none w (d ∷ cs) c h = by_test (is_single_at w d) (first_single w cs) (λ e. of-none w cs c e) refl h
  where
    later : (b : Bool) → option_map suc (cond b (Some (length cs)) None) ≡ cond b (Some (suc (length cs))) None
    later true = refl
    later false = refl

    by_test : (b : Bool) (o : Option ℕ) → (first_single w cs ≡ None → first_single w (cs ++ c ∷ []) ≡ cond (is_single_at w c) (Some (length cs)) None)
        → first_single w cs ≡ o → cond b (Some 0) (option_map suc o) ≡ None
        → cond b (Some 0) (option_map suc (first_single w (cs ++ c ∷ []))) ≡ cond (is_single_at w c) (Some (suc (length cs))) None
    by_test true o rest e is = cc
    by_test false (Some m) rest e is = cc
    by_test false None rest e is = ap (option_map suc) (rest e) ∙ later (is_single_at w c)

same-first : (w : Way) (cs : List Change) (c : Change) → is_single_at w c ≡ false → first_single w (cs ++ c ∷ []) ≡ first_single w cs
same-first w cs c h = by_option (first_single w cs) refl
  where
    by_option : (o : Option ℕ) → first_single w cs ≡ o → first_single w (cs ++ c ∷ []) ≡ first_single w cs
    by_option None e = of-none w cs c e ∙ ap (λ b. cond b (Some (length cs)) None) h ∙ sym e
    by_option (Some n) e = of-some w cs (c ∷ []) n e ∙ sym e

-- it is none of an element that was named alone
pub note-other : {S : Type 0} (m : HashMap Named ℕ S) (cs : List Change) (c : Change) → ((w : Way) → is_single_at w c ≡ false) → HasSingles m cs → HasSingles m (cs ++ c ∷ [])
note-other m cs c h has = record { singles = λ w. has.singles w ∙ sym (same-first w cs c (h w)) }

-- it is one of an element of which there was one
pub note-later : {S : Type 0} (m : HashMap Named ℕ S) (cs : List Change) (c : Change) (v : Way) → is_single_at v c ≡ true → is_some (number_at m v) ≡ true → HasSingles m cs
    → HasSingles m (cs ++ c ∷ [])
note-later m cs c v h some has = record { singles = λ w. by_test w (same_way v w) refl }
  where
    by_option : (o : Option ℕ) → number_at m v ≡ o → is_some o ≡ true → number_at m v ≡ first_single v (cs ++ c ∷ [])
    by_option None e is = absurd (false≢true is)
    by_option (Some n) e is = e ∙ sym (of-some v cs (c ∷ []) n (sym (has.singles v) ∙ e))

    by_test : (w : Way) (b : Bool) → same_way v w ≡ b → number_at m w ≡ first_single w (cs ++ c ∷ [])
    by_test w true y = subst (λ l. number_at m l ≡ first_single l (cs ++ c ∷ [])) ((bytes_decides v w).0 y) (by_option (number_at m v) refl some)
    by_test w false e = has.singles w ∙ sym (same-first w cs c (single-of v c h w ∙ e))

-- it is the first of its element
pub note-first : {S : Type 0} (m k : HashMap Named ℕ S) (cs : List Change) (c : Change) (v : Way) → is_single_at v c ≡ true → is_some (number_at m v) ≡ false
    → ((w : Way) → number_at k w ≡ cond (same_way v w) (Some (length cs)) (number_at m w)) → HasSingles m cs → HasSingles k (cs ++ c ∷ [])
note-first m k cs c v h none put has = record { singles = λ w. put w ∙ by_test w (same_way v w) refl }
  where
    by_option : (o : Option ℕ) → number_at m v ≡ o → is_some o ≡ false → Some (length cs) ≡ first_single v (cs ++ c ∷ [])
    by_option (Some n) e is = absurd (false≢true (sym is))
    by_option None e is = sym (of-none v cs c (sym (has.singles v) ∙ e) ∙ ap (λ b. cond b (Some (length cs)) None) h)

    by_test : (w : Way) (b : Bool) → same_way v w ≡ b → cond b (Some (length cs)) (number_at m w) ≡ first_single w (cs ++ c ∷ [])
    by_test w true y = subst (λ l. Some (length cs) ≡ first_single l (cs ++ c ∷ [])) ((bytes_decides v w).0 y) (by_option (number_at m v) refl none)
    by_test w false e = has.singles w ∙ sym (same-first w cs c (single-of v c h w ∙ e))

-- ---- what is noted of a list

take-step : (cs : List Change) (n : ℕ) (d : Change) → n < length cs → take (n + 1) cs ≡ take n cs ++ get_or cs n d ∷ []
take-step cs n d h = take_more cs n d h

-- the next change is noted
pub noted-next : {S : Type 0} (m k : HashMap Named ℕ S) (n : ℕ) (cs : List Change) (c : Change) → n < length cs → c ≡ get_or cs n c
    → (length (take n cs) ≡ n → HasSingles m (take n cs) → HasSingles k (take n cs ++ c ∷ [])) → AreNoted m n cs → AreNoted k (n + 1) cs
noted-next m k n cs c h is step noted = record {
  within = omega arith;
  singles = subst (HasSingles k) (ap (λ x. take n cs ++ x ∷ []) is ∙ sym (take-step cs n c h)) (step (omega (arith, length-take n cs)) noted.singles);
}

-- another map with the same numbers
pub noted-same : {S : Type 0} (m k : HashMap Named ℕ S) (n : ℕ) (cs : List Change) → ((w : Way) → number_at k w ≡ number_at m w) → AreNoted m n cs → AreNoted k n cs
noted-same m k n cs h noted = record { within = noted.within; singles = record { singles = λ w. h w ∙ noted.singles.singles w } }

first-set : (w : Way) (cs : List Change) (n i : ℕ) (d : Change) → is_single_at w d ≡ is_single_at w (get_or cs i d) → first_single w (take n (set cs i d)) ≡ first_single w (take n cs)
first-set w [] n i d h = refl
first-set w (c ∷ cs) zero i d h = refl
first-set w (c ∷ cs) (suc n) zero d h = ap (λ b. cond b (Some 0) (option_map suc (first_single w (take n cs)))) h
first-set w (c ∷ cs) (suc n) (suc i) d h = ap (λ o. cond (is_single_at w c) (Some 0) (option_map suc o)) (first-set w cs n i d h)

-- a change of the same element comes over one
pub noted-set : {S : Type 0} (m : HashMap Named ℕ S) (n : ℕ) (cs : List Change) (i : ℕ) (d : Change) → ((w : Way) → is_single_at w d ≡ is_single_at w (get_or cs i d)) → AreNoted m n cs → AreNoted m n (set cs i d)
noted-set m n cs i d h noted = record {
  within = omega (arith, noted.within, length-set {A = Change});
  singles = record { singles = λ w. noted.singles.singles w ∙ sym (first-set w cs n i d (h w)) };
}

-- ---- the first single of an element

pub first-there : (w : Way) (cs : List Change) (n : ℕ) (d : Change) → first_single w cs ≡ Some n → (n < length cs) × (is_single_at w (get_or cs n d) ≡ true)
first-there w [] n d h = cc
first-there w (c ∷ cs) n d h = by_test (is_single_at w c) refl (first_single w cs) (λ k e. first-there w cs k d e) refl h
  where
    by_test : (b : Bool) → is_single_at w c ≡ b → (o : Option ℕ) → ((k : ℕ) → first_single w cs ≡ Some k → (k < length cs) × (is_single_at w (get_or cs k d) ≡ true))
        → first_single w cs ≡ o → cond b (Some 0) (option_map suc o) ≡ Some n → (n < suc (length cs)) × (is_single_at w (get_or (c ∷ cs) n d) ≡ true)
    by_test true y o rest e is = let z : zero ≡ n = cc in subst (λ k. (k < suc (length cs)) × (is_single_at w (get_or (c ∷ cs) k d) ≡ true)) z (omega arith, y)
    by_test false y None rest e is = cc
    by_test false y (Some k) rest e is =
        let z : suc k ≡ n = cc in
        let there = rest k e in
        subst (λ j. (j < suc (length cs)) × (is_single_at w (get_or (c ∷ cs) j d) ≡ true)) z (omega (arith, there.0), there.1)

-- ---- deletions

and-false : (k : Bool) → (k && false) ≡ false
and-false true = refl
and-false false = refl

and-or : (k a b : Bool) → ((k && a) || (k && b)) ≡ (k && (a || b))
and-or true a b = refl
and-or false a b = refl

-- it names no element there alone
not-deleted : (x : SyntaxElement) (c : declared.Change) → is_single_at (way_of x) (recorded c) ≡ false → is_deletion_of x c ≡ false
not-deleted x (Insert p new) h = refl
not-deleted x (Replace f l new s) h = by_test s (same_way (way_of f) (way_of x)) _ _ h
  where
    by_test : (s b e k : Bool) → (s && b) ≡ false → (s && b && e && k) ≡ false
    by_test false b e k h = refl
    by_test true false e k h = refl
    by_test true true e k h = absurd (false≢true (sym h))

-- the element has the kind of the term at its path in the tree
abbrev pub has_kind : Element → SyntaxElement → Bool
has_kind top x = same_kind (term_by top.place.root (way_of x)) (term_of (element_of x))

of-deletion : (top : Element) (x : SyntaxElement) (c : declared.Change) → IsSound top c → is_deletion_of x c ≡ (has_kind top x && is_deletion_at (way_of x) (recorded c))
of-deletion top x (Insert p new) sound = sym (and-false (has_kind top x))
of-deletion top x (Replace f l new s) sound = by_test s (same_way (way_of f) (way_of x)) (is_empty (map element_of new.items)) (same_kind (term_of (element_of f)) (term_of (element_of x))) there
  where
    there : same_way (way_of f) (way_of x) ≡ true → same_kind (term_of (element_of f)) (term_of (element_of x)) ≡ has_kind top x
    there y = ap (λ r. same_kind (term_by r (way_of f)) (term_of (element_of x))) sound.own.0.1 ∙ ap (λ w. same_kind (term_by top.place.root w) (term_of (element_of x))) ((bytes_decides (way_of f) (way_of x)).0 y)

    swap : (e k : Bool) → (e && k) ≡ (k && e)
    swap true true = refl
    swap true false = refl
    swap false true = refl
    swap false false = refl

    by_test : (s b e k : Bool) → (b ≡ true → k ≡ has_kind top x) → (s && b && e && k) ≡ (has_kind top x && ((s && b) && e))
    by_test false b e k h = sym (and-false (has_kind top x))
    by_test true false e k h = sym (and-false (has_kind top x))
    by_test true true e k h = swap e k ∙ ap (λ j. j && e) (h refl)

-- of the changes of a tree
pub any-deletion : (top : Element) (x : SyntaxElement) (cs : List declared.Change) → All (IsSound top) cs
    → list_any (is_deletion_of x) cs ≡ (has_kind top x && list_any (is_deletion_at (way_of x)) (map recorded cs))
any-deletion top x [] sound = sym (and-false (has_kind top x))
any-deletion top x (c ∷ cs) sound =
    ap (λ b. b || list_any (is_deletion_of x) cs) (of-deletion top x c (sound 0 c (omega arith)))
    ∙ ap (λ b. (has_kind top x && is_deletion_at (way_of x) (recorded c)) || b) (any-deletion top x cs (λ k d h. sound (suc k) d (omega (arith, h))))
    ∙ and-or (has_kind top x) (is_deletion_at (way_of x) (recorded c)) (list_any (is_deletion_at (way_of x)) (map recorded cs))

-- none is before the first single of the element, nor among those noted where there is no such
deleted-from : (x : SyntaxElement) (cs : List declared.Change) (n : ℕ)
    → list_any (is_deletion_of x) (drop (unwrap_or (first_single (way_of x) (take n (map recorded cs))) n) cs) ≡ list_any (is_deletion_of x) cs
deleted-from x [] n = ap (list_any (is_deletion_of x)) (drop-nil (unwrap_or (first_single (way_of x) (take n [])) n))
deleted-from x (c ∷ cs) zero = refl
deleted-from x (c ∷ cs) (suc n) = by_test (is_single_at (way_of x) (recorded c)) refl (first_single (way_of x) (take n (map recorded cs))) (deleted-from x cs n)
  where
    by_test : (b : Bool) → is_single_at (way_of x) (recorded c) ≡ b → (o : Option ℕ) → list_any (is_deletion_of x) (drop (unwrap_or o n) cs) ≡ list_any (is_deletion_of x) cs
        → list_any (is_deletion_of x) (drop (unwrap_or (cond b (Some 0) (option_map suc o)) (suc n)) (c ∷ cs)) ≡ list_any (is_deletion_of x) (c ∷ cs)
    by_test true y o e = refl
    by_test false y None e = e ∙ sym (ap (λ b. b || list_any (is_deletion_of x) cs) (not-deleted x c y))
    by_test false y (Some k) e = e ∙ sym (ap (λ b. b || list_any (is_deletion_of x) cs) (not-deleted x c y))

pub start-within : {S : Type 0} (m : HashMap Named ℕ S) (n : ℕ) (cs : List Change) (w : Way) → AreNoted m n cs → unwrap_or (number_at m w) n ≤ length cs
start-within m n cs w noted = by_option (number_at m w) refl
  where
    by_option : (o : Option ℕ) → number_at m w ≡ o → unwrap_or o n ≤ length cs
    by_option None e = noted.within
    by_option (Some k) e =
        let there = first-there w (take n cs) k (insert [] 0 []) (sym (noted.singles.singles w) ∙ e) in
        omega (arith, there.0, length-take n cs, noted.within)

-- a deletion among the changes from there on is all that there is
pub deleted-after : {S : Type 0} (m : HashMap Named ℕ S) (n : ℕ) (cs ds : List declared.Change) (x : SyntaxElement) (s : ℕ) → ds ≡ drop s cs → s ≡ unwrap_or (number_at m (way_of x)) n → AreNoted m n (map recorded cs)
    → list_any (is_deletion_of x) ds ≡ list_any (is_deletion_of x) cs
deleted-after m n cs ds x s rest at noted =
    let any = λ (l : List declared.Change). list_any (is_deletion_of x) l in
    ap any rest
    ∙ ap (λ k. any (drop k cs)) (at ∙ ap (λ o. unwrap_or o n) (noted.singles.singles (way_of x)))
    ∙ deleted-from x cs n

-- a test that is made first
pub and-first : (a k l : Bool) → ((a && k) && l) ≡ (a && (k && l))
and-first true k l = refl
and-first false k l = refl

-- What calls ask for, in the other order: it leaves the same changes, or two neighbours of them in the other order; and so it stays with all
-- that is asked for later.
use Rattle.std.proofs.Common.{◌≡◌, ℕ, List, [], ◌∷◌, ◌++◌, Option, Some, None, Bool, true, false, cond, eqb, refl, ap, sym, ◌∙◌, subst, append_assoc, ◌⊎◌, inl, inr}
use Rattle.std.proofs.lemmas.Bool.{eqb-true, eq-eqb, and_parts, and_from, false≢true, both_ways, false_from_ne_true}
use Rattle.syntax_tree.specs.Element.{Way, same_way, Element}
use Rattle.tree_rewrite.specs.Change.{Change, insert, replace}
use Rattle.tree_rewrite.specs.Orders.{same_gap_at}
use Rattle.tree_rewrite.specs.Rewrite.{payload_of}
use Rattle.tree_rewrite.proofs.OrderLemmas.{same_way-sound, same_way-own}
use Rattle.syntax_editor.specs.Calls.{is_one_gap, is_one_way}
use Rattle.syntax_editor.specs.Recording.{is_empty, is_single_at, over, with_single}

-- what a call asks for, if it is not refused: elements are inserted into a gap; a range of siblings, by its first and by the number of
-- those after it, becomes these; an element, named alone, becomes these
pub data Asked : Type 0 where
  into_gap : (parent : Way) → (index : ℕ) → (new : List Element) → Asked
  for_row : (first : Way) → (more : ℕ) → (new : List Element) → Asked
  for_one : (way : Way) → (new : List Element) → Asked

-- the changes with what is asked for, if anything is
abbrev pub with_asked : List Change → Option Asked → List Change
with_asked cs None = cs
with_asked cs (Some (into_gap p i new)) = cs ++ insert p i new ∷ []
with_asked cs (Some (for_row w n new)) = cs ++ replace w n new false ∷ []
with_asked cs (Some (for_one w new)) = with_single cs w new

-- with all of that, the first first
abbrev pub with_all_asked : List Change → List (Option Asked) → List Change
with_all_asked cs [] = cs
with_all_asked cs (a ∷ more) = with_all_asked (with_asked cs a) more

abbrev pub gap_asked : Asked → Option (Way × ℕ)
gap_asked (into_gap p i new) = Some (p, i)
gap_asked (for_row w n new) = None
gap_asked (for_one w new) = None

abbrev pub alone_asked : Asked → Option Way
alone_asked (into_gap p i new) = None
alone_asked (for_row w n new) = None
alone_asked (for_one w new) = Some w

-- these are the same but for two neighbours, which do not both put into one gap, and are not both of one element named alone
pub record Swapped (cs ds : List Change) : Type 0 where
  pub before : List Change
  pub after : List Change
  pub one : Change
  pub other : Change
  pub first : cs ≡ before ++ one ∷ (other ∷ after)
  pub second : ds ≡ before ++ other ∷ (one ∷ after)
  pub far : same_gap_at one other ≡ false
  pub single : (w : Way) → is_single_at w one ≡ true → is_single_at w other ≡ true → ⊥

abbrev pub Near : List Change → List Change → Type 0
Near cs ds = (cs ≡ ds) ⊎ Swapped cs ds

near-more : (c : Change) (cs ds : List Change) → Near cs ds → Near (c ∷ cs) (c ∷ ds)
near-more c cs ds (inl e) = inl (ap (λ l. c ∷ l) e)
near-more c cs ds (inr s) = inr (record {
  before = c ∷ s.before;
  after = s.after;
  one = s.one;
  other = s.other;
  first = ap (λ l. c ∷ l) s.first;
  second = ap (λ l. c ∷ l) s.second;
  far = s.far;
  single = s.single;
})

two_near : (c d : Change) (after : List Change) → same_gap_at c d ≡ false → ((w : Way) → is_single_at w c ≡ true → is_single_at w d ≡ true → ⊥) → Near (c ∷ (d ∷ after)) (d ∷ (c ∷ after))
two_near c d after far single = inr (record { before = []; after = after; one = c; other = d; first = refl; second = refl; far = far; single = single })

same_gap-back : (c d : Change) → same_gap_at c d ≡ true → same_gap_at d c ≡ true
same_gap-back (insert p a new) (insert q b others) h =
    let x = and_parts (same_way p q) (eqb a b) h in
    and_from _ _ (subst (λ w. same_way w p ≡ true) (same_way-sound p q x.0) (same_way-own p)) (eq-eqb b a (sym (eqb-true a b x.1)))
same_gap-back (insert p a new) (replace f n others s) h = absurd (false≢true h)
same_gap-back (replace f n new s) d h = absurd (false≢true h)

near-back : (cs ds : List Change) → Near cs ds → Near ds cs
near-back cs ds (inl e) = inl (sym e)
near-back cs ds (inr s) = inr (record {
  before = s.before;
  after = s.after;
  one = s.other;
  other = s.one;
  first = s.second;
  second = s.first;
  far = false_from_ne_true _ (λ h. both_ways _ s.far (same_gap-back s.other s.one h));
  single = λ w x y. s.single w y x;
})

-- ---- what replaces a change of an element named alone
over_case : (P : Change → Type 0) (c r : Change) → P c → P r → P (over c r)
over_case P c r h g = by_test (is_empty (payload_of c))
  where
    by_test : (b : Bool) → P (cond b c r)
    by_test true = h
    by_test false = g

over_single : (v w : Way) (c : Change) (new : List Element) → is_single_at w c ≡ true → is_single_at v (over c (replace w 0 new true)) ≡ true → is_single_at v c ≡ true
over_single v w c new h = over_case (λ x. is_single_at v x ≡ true → is_single_at v c ≡ true) c (replace w 0 new true) (λ k. k)
    (λ k. subst (λ u. is_single_at u c ≡ true) (same_way-sound w v k) h)

-- a change of an element puts into no gap
no_gap : (w : Way) (c d : Change) → is_single_at w c ≡ true → same_gap_at c d ≡ false
no_gap w (insert p i new) d h = absurd (false≢true h)
no_gap w (replace f n new s) d h = refl

no_gap-second : (w : Way) (c d : Change) → is_single_at w d ≡ true → same_gap_at c d ≡ false
no_gap-second w c (insert p i new) h = absurd (false≢true h)
no_gap-second w (insert q k others) (replace f n new s) h = refl
no_gap-second w (replace g m others t) (replace f n new s) h = refl

over_no_gap : (w : Way) (c d : Change) (new : List Element) → is_single_at w c ≡ true → same_gap_at (over c (replace w 0 new true)) d ≡ false
over_no_gap w c d new h = over_case (λ x. same_gap_at x d ≡ false) c (replace w 0 new true) (no_gap w c d h) refl

over_no_gap-second : (w : Way) (c d : Change) (new : List Element) → is_single_at w d ≡ true → same_gap_at c (over d (replace w 0 new true)) ≡ false
over_no_gap-second w c d new h =
    over_case (λ x. same_gap_at c x ≡ false) d (replace w 0 new true) (no_gap-second w c d h)
    (no_gap-second w c (replace w 0 new true) (same_way-own w))

-- ---- one call more
single_two : (c d : Change) (after : List Change) (w : Way) (new : List Element) → same_gap_at c d ≡ false → ((v : Way) → is_single_at v c ≡ true → is_single_at v d ≡ true → ⊥)
    → Near (with_single (c ∷ (d ∷ after)) w new) (with_single (d ∷ (c ∷ after)) w new)
single_two c d after w new far single = by_tests (is_single_at w c) refl (is_single_at w d) refl
  where
    r : Change
    r = replace w 0 new true

    by_tests : (a : Bool) → is_single_at w c ≡ a → (b : Bool) → is_single_at w d ≡ b
        → Near (cond a (over c r ∷ (d ∷ after)) (c ∷ cond b (over d r ∷ after) (d ∷ with_single after w new)))
        (cond b (over d r ∷ (c ∷ after)) (d ∷ cond a (over c r ∷ after) (c ∷ with_single after w new)))
    by_tests true x true y = absurd (single w x y)
    by_tests true x false y = two_near (over c r) d after (over_no_gap w c d new x) (λ v h k. single v (over_single v w c new x h) k)
    by_tests false x true y = two_near c (over d r) after (over_no_gap-second w c d new y) (λ v h k. single v h (over_single v w d new y k))
    by_tests false x false y = two_near c d (with_single after w new) far single

single_near : (before after : List Change) (c d : Change) (w : Way) (new : List Element) → same_gap_at c d ≡ false → ((v : Way) → is_single_at v c ≡ true → is_single_at v d ≡ true → ⊥)
    → Near (with_single (before ++ c ∷ (d ∷ after)) w new) (with_single (before ++ d ∷ (c ∷ after)) w new)
single_near [] after c d w new far single = single_two c d after w new far single
single_near (x ∷ before) after c d w new far single = by_test (single_near before after c d w new far single) (is_single_at w x)
  where
    by_test : Near (with_single (before ++ c ∷ (d ∷ after)) w new) (with_single (before ++ d ∷ (c ∷ after)) w new) → (b : Bool)
        → Near (cond b (over x (replace w 0 new true) ∷ (before ++ c ∷ (d ∷ after))) (x ∷ with_single (before ++ c ∷ (d ∷ after)) w new))
        (cond b (over x (replace w 0 new true) ∷ (before ++ d ∷ (c ∷ after))) (x ∷ with_single (before ++ d ∷ (c ∷ after)) w new))
    by_test r true = inr (record {
      before = over x (replace w 0 new true) ∷ before;
      after = after;
      one = c;
      other = d;
      first = refl;
      second = refl;
      far = far;
      single = single;
    })
    by_test r false = near-more x _ _ r

push_near : (cs ds : List Change) (c : Change) → Near cs ds → Near (cs ++ c ∷ []) (ds ++ c ∷ [])
push_near cs ds c (inl e) = inl (ap (λ l. l ++ c ∷ []) e)
push_near cs ds c (inr s) = inr (record {
  before = s.before;
  after = s.after ++ c ∷ [];
  one = s.one;
  other = s.other;
  first = ap (λ l. l ++ c ∷ []) s.first ∙ append_assoc s.before (s.one ∷ (s.other ∷ s.after)) (c ∷ []);
  second = ap (λ l. l ++ c ∷ []) s.second ∙ append_assoc s.before (s.other ∷ (s.one ∷ s.after)) (c ∷ []);
  far = s.far;
  single = s.single;
})

asked_near : (cs ds : List Change) (a : Option Asked) → Near cs ds → Near (with_asked cs a) (with_asked ds a)
asked_near cs ds None h = h
asked_near cs ds (Some (into_gap p i new)) h = push_near cs ds (insert p i new) h
asked_near cs ds (Some (for_row w n new)) h = push_near cs ds (replace w n new false) h
asked_near cs ds (Some (for_one w new)) (inl e) = inl (ap (λ l. with_single l w new) e)
asked_near cs ds (Some (for_one w new)) (inr s) =
    subst (λ l. Near (with_single cs w new) (with_single l w new)) (sym s.second)
    (subst (λ l. Near (with_single l w new) (with_single (s.before ++ s.other ∷ (s.one ∷ s.after)) w new)) (sym s.first) (single_near s.before s.after s.one s.other w new s.far s.single))

pub all_asked_near : (cs ds : List Change) (more : List (Option Asked)) → Near cs ds → Near (with_all_asked cs more) (with_all_asked ds more)
all_asked_near cs ds [] h = h
all_asked_near cs ds (a ∷ more) h = all_asked_near (with_asked cs a) (with_asked ds a) more (asked_near cs ds a h)

-- ---- two calls
two_pushed : (cs : List Change) (c d : Change) → same_gap_at c d ≡ false → ((w : Way) → is_single_at w c ≡ true → is_single_at w d ≡ true → ⊥)
    → Near ((cs ++ c ∷ []) ++ d ∷ []) ((cs ++ d ∷ []) ++ c ∷ [])
two_pushed cs c d far single = inr (record {
  before = cs;
  after = [];
  one = c;
  other = d;
  first = append_assoc cs (c ∷ []) (d ∷ []);
  second = append_assoc cs (d ∷ []) (c ∷ []);
  far = far;
  single = single;
})

-- a change at the end, which is not of one element named alone
push_single : (cs : List Change) (c : Change) (w : Way) (new : List Element) → ((v : Way) → is_single_at v c ≡ false) → Near (with_single (cs ++ c ∷ []) w new) (with_single cs w new ++ c ∷ [])
push_single [] c w new h = by_test (is_single_at w c) (h w)
  where
    by_test : (b : Bool) → b ≡ false → Near (cond b (over c (replace w 0 new true) ∷ []) (c ∷ (replace w 0 new true ∷ []))) (replace w 0 new true ∷ (c ∷ []))
    by_test true e = absurd (false≢true (sym e))
    by_test false e = two_near c (replace w 0 new true) [] (no_gap-second w c (replace w 0 new true) (same_way-own w)) (λ v x y. both_ways _ (h v) x)
push_single (x ∷ cs) c w new h = by_test (push_single cs c w new h) (is_single_at w x)
  where
    by_test : Near (with_single (cs ++ c ∷ []) w new) (with_single cs w new ++ c ∷ []) → (b : Bool)
        → Near (cond b (over x (replace w 0 new true) ∷ (cs ++ c ∷ [])) (x ∷ with_single (cs ++ c ∷ []) w new)) (cond b (over x (replace w 0 new true) ∷ cs) (x ∷ with_single cs w new) ++ c ∷ [])
    by_test r true = inl refl
    by_test r false = near-more x _ _ r

single_of : (w v : Way) (c : Change) → same_way w v ≡ false → is_single_at w c ≡ true → is_single_at v c ≡ false
single_of w v (insert p i new) d h = absurd (false≢true h)
single_of w v (replace f n new s) d h =
    let x = and_parts s (same_way f w) h in
    false_from_ne_true _
    (λ k. both_ways _ d
    (subst (λ u. same_way u v ≡ true) (same_way-sound f w x.1) (and_parts s (same_way f v) k).1))

over_of : (w v : Way) (c : Change) (new : List Element) → same_way w v ≡ false → is_single_at w c ≡ true → is_single_at v (over c (replace w 0 new true)) ≡ false
over_of w v c new d h = over_case (λ x. is_single_at v x ≡ false) c (replace w 0 new true) (single_of w v c d h) d

way-back : (w v : Way) → same_way w v ≡ false → same_way v w ≡ false
way-back w v h = false_from_ne_true _ (λ k. both_ways _ h (subst (λ u. same_way u v ≡ true) (same_way-sound v w k) (same_way-own v)))

two_single : (cs : List Change) (w v : Way) (new others : List Element) → same_way w v ≡ false
    → Near (with_single (with_single cs w new) v others) (with_single (with_single cs v others) w new)
two_single [] w v new others d = by_tests (same_way w v) d (same_way v w) (way-back w v d)
  where
    r : Change
    r = replace w 0 new true

    q : Change
    q = replace v 0 others true

    by_tests : (a : Bool) → a ≡ false → (b : Bool) → b ≡ false → Near (cond a (over r q ∷ []) (r ∷ (q ∷ []))) (cond b (over q r ∷ []) (q ∷ (r ∷ [])))
    by_tests true x b y = absurd (false≢true (sym x))
    by_tests false x true y = absurd (false≢true (sym y))
    by_tests false x false y = two_near r q [] refl
        (λ u h k. both_ways _ d (subst (λ z. same_way z v ≡ true) (sym (same_way-sound w u h)) (subst (λ z. same_way u z ≡ true) (sym (same_way-sound v u k)) (same_way-own u))))
two_single (x ∷ cs) w v new others d = by_tests (two_single cs w v new others d) (is_single_at w x) refl (is_single_at v x) refl
  where
    r : Change
    r = replace w 0 new true

    q : Change
    q = replace v 0 others true

    over_w : is_single_at w x ≡ true → with_single (over x r ∷ cs) v others ≡ over x r ∷ with_single cs v others
    over_w h = ap (λ b. cond b (over (over x r) q ∷ cs) (over x r ∷ with_single cs v others)) (over_of w v x new d h)

    over_v : is_single_at v x ≡ true → with_single (over x q ∷ cs) w new ≡ over x q ∷ with_single cs w new
    over_v h = ap (λ b. cond b (over (over x q) r ∷ cs) (over x q ∷ with_single cs w new)) (over_of v w x others (way-back w v d) h)

    pass_v : is_single_at v x ≡ false → (l : List Change) → with_single (x ∷ l) v others ≡ x ∷ with_single l v others
    pass_v h l = ap (λ b. cond b (over x q ∷ l) (x ∷ with_single l v others)) h

    pass_w : is_single_at w x ≡ false → (l : List Change) → with_single (x ∷ l) w new ≡ x ∷ with_single l w new
    pass_w h l = ap (λ b. cond b (over x r ∷ l) (x ∷ with_single l w new)) h

    meet_w : is_single_at w x ≡ true → (l : List Change) → with_single (x ∷ l) w new ≡ over x r ∷ l
    meet_w h l = ap (λ b. cond b (over x r ∷ l) (x ∷ with_single l w new)) h

    meet_v : is_single_at v x ≡ true → (l : List Change) → with_single (x ∷ l) v others ≡ over x q ∷ l
    meet_v h l = ap (λ b. cond b (over x q ∷ l) (x ∷ with_single l v others)) h

    by_tests : Near (with_single (with_single cs w new) v others) (with_single (with_single cs v others) w new)
        → (a : Bool) → is_single_at w x ≡ a → (b : Bool) → is_single_at v x ≡ b
        → Near (with_single (with_single (x ∷ cs) w new) v others) (with_single (with_single (x ∷ cs) v others) w new)
    by_tests h true a true b = absurd (both_ways _ (single_of w v x d a) b)
    by_tests h true a false b = inl (
        ap (λ l. with_single l v others) (meet_w a cs)
        ∙ over_w a
        ∙ sym (ap (λ l. with_single l w new) (pass_v b cs) ∙ meet_w a (with_single cs v others)))
    by_tests h false a true b = inl (
        ap (λ l. with_single l v others) (pass_w a cs)
        ∙ meet_v b (with_single cs w new)
        ∙ sym (ap (λ l. with_single l w new) (meet_v b cs) ∙ over_v b))
    by_tests h false a false b =
        let one = ap (λ l. with_single l v others) (pass_w a cs) ∙ pass_v b (with_single cs w new) in
        let other = ap (λ l. with_single l w new) (pass_v b cs) ∙ pass_w a (with_single cs v others) in
        subst (λ l. Near l (with_single (with_single (x ∷ cs) v others) w new)) (sym one) (subst (λ l. Near (x ∷ with_single (with_single cs w new) v others) l) (sym other) (near-more x _ _ h))

-- these ask for different gaps, and for different elements, named alone
abbrev pub Apart : Asked → Asked → Type 0
Apart a b = (is_one_gap (gap_asked a) (gap_asked b) ≡ false) × (is_one_way (alone_asked a) (alone_asked b) ≡ false)

pub apart_near : (cs : List Change) (a b : Asked) → Apart a b → Near (with_asked (with_asked cs (Some a)) (Some b)) (with_asked (with_asked cs (Some b)) (Some a))
apart_near cs (into_gap p i new) (into_gap q j others) h = two_pushed cs (insert p i new) (insert q j others) h.0 (λ w x y. false≢true x)
apart_near cs (into_gap p i new) (for_row w n others) h = two_pushed cs (insert p i new) (replace w n others false) refl (λ v x y. false≢true x)
apart_near cs (into_gap p i new) (for_one w others) h = push_single cs (insert p i new) w others (λ v. refl)
apart_near cs (for_row w n new) (into_gap q j others) h = two_pushed cs (replace w n new false) (insert q j others) refl (λ v x y. false≢true x)
apart_near cs (for_row w n new) (for_row v m others) h = two_pushed cs (replace w n new false) (replace v m others false) refl (λ u x y. false≢true x)
apart_near cs (for_row w n new) (for_one v others) h = push_single cs (replace w n new false) v others (λ u. refl)
apart_near cs (for_one w new) (into_gap q j others) h = near-back _ _ (push_single cs (insert q j others) w new (λ v. refl))
apart_near cs (for_one w new) (for_row v m others) h = near-back _ _ (push_single cs (replace v m others false) w new (λ u. refl))
apart_near cs (for_one w new) (for_one v others) h = two_single cs w v new others h.1

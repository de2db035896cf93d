-- What calls leave, and which of them may be made in either order.
use Rattle.std.proofs.Common.{◌≡◌, ℕ, List, [], ◌∷◌, ◌++◌, ◌-◌, map, Option, Some, None, Bool, true, false, ◌&&◌, not, cond, refl, ap, sym, ◌∙◌, subst, append_assoc, inl, inr}
use Rattle.std.proofs.lemmas.Bool.{and_parts, not-true}
use Rattle.std.proofs.lemmas.List.{append-nil}
use Rattle.rowan.specs.Place.{index_of}
use Rattle.syntax_tree.specs.Element.{Way, same_way, Element}
use Rattle.tree_rewrite.specs.Change.{Change, insert, replace}
use Rattle.syntax_editor.specs.Calls.{Call, insertion, replacement, replacement_by_many, row_replacement, row_deletion, becomes, verdict, after_call, after_calls, gap_of, alone_of, is_one_gap, is_one_way, are_apart}
use Rattle.syntax_editor.specs.Editing.{Editing, with_changes, merged}
use Rattle.syntax_editor.specs.Laws.{EndAlike, StayAlike, SwapsAgree, VerdictsStay, CallsAgree}
use Rattle.syntax_editor.specs.Recording.{Recording, Foreign, BadRange, BadTarget, Recorded, and_then, is_target, is_gap, is_root, is_one_node, are_in_order, with_single}
use Rattle.syntax_editor.proofs.Asked.{Asked, into_gap, for_row, for_one, with_asked, with_all_asked, gap_asked, alone_asked, Near, all_asked_near, apart_near}

-- ---- what a call asks for

-- a row by its ends, and what is asked for where both are one element
abbrev of_row : Element → Element → Element → List Element → Option Asked → Option Asked
of_row top first last new alone =
    cond (not (is_target top first && is_target top last)) None
    (cond (same_way first.place.up last.place.up) alone
    (cond (are_in_order first.place.up last.place.up) (Some (for_row first.place.up (index_of last.place - index_of first.place) new)) None))

abbrev of_one : Element → Element → List Element → Option Asked
of_one top old new =
    cond (not (is_target top old)) None
    (cond (is_root old.place.up && not (is_one_node new)) None (Some (for_one old.place.up new)))

abbrev of_many : Element → Element → List Element → Option Asked
of_many top old new = cond (not (is_target top old)) None (cond (is_root old.place.up) None (Some (for_row old.place.up 0 new)))

-- nothing, where it is refused
abbrev asked : Element → Call → Option Asked
asked top (insertion p i new) = cond (is_gap top p i) (Some (into_gap p.place.up i new)) None
asked top (replacement old new) = of_one top old new
asked top (replacement_by_many old new) = of_many top old new
asked top (row_replacement first last new) = of_row top first last new (of_many top first new)
asked top (row_deletion first last) = of_row top first last [] (of_one top first [])

-- ---- what it leaves

-- an editor is left with what is asked for
abbrev Leaves : Editing → Recording → Option Asked → Type 0
Leaves e r o = after_call e r ≡ with_changes e (with_asked e.changes o)

gap_leaves : (e : Editing) (p : Way) (i : ℕ) (new : List Element) (b : Bool) → Leaves e (cond b (and_then e (insert p i new)) Foreign) (cond b (Some (into_gap p i new)) None)
gap_leaves e p i new true = refl
gap_leaves e p i new false = refl

one_leaves : (e : Editing) (w : Way) (new : List Element) (b c : Bool)
    → Leaves e (cond b Foreign (cond c BadTarget (Recorded (with_single e.changes w new)))) (cond b None (cond c None (Some (for_one w new))))
one_leaves e w new true c = refl
one_leaves e w new false true = refl
one_leaves e w new false false = refl

many_leaves : (e : Editing) (w : Way) (new : List Element) (b c : Bool)
    → Leaves e (cond b Foreign (cond c BadTarget (and_then e (replace w 0 new false)))) (cond b None (cond c None (Some (for_row w 0 new))))
many_leaves e w new true c = refl
many_leaves e w new false true = refl
many_leaves e w new false false = refl

row_leaves : (e : Editing) (w : Way) (n : ℕ) (new : List Element) (r : Recording) (o : Option Asked) (b c d : Bool) → Leaves e r o
    → Leaves e (cond b Foreign (cond c r (cond d (and_then e (replace w n new false)) BadRange))) (cond b None (cond c o (cond d (Some (for_row w n new)) None)))
row_leaves e w n new r o true c d h = refl
row_leaves e w n new r o false true d h = h
row_leaves e w n new r o false false true h = refl
row_leaves e w n new r o false false false h = refl

call_leaves : (e : Editing) (a : Call) → Leaves e (becomes e a) (asked e.top a)
call_leaves e (insertion p i new) = gap_leaves e p.place.up i new (is_gap e.top p i)
call_leaves e (replacement old new) = one_leaves e old.place.up new (not (is_target e.top old)) (is_root old.place.up && not (is_one_node new))
call_leaves e (replacement_by_many old new) = many_leaves e old.place.up new (not (is_target e.top old)) (is_root old.place.up)
call_leaves e (row_replacement first last new) =
    row_leaves e first.place.up (index_of last.place - index_of first.place) new _ _ (not (is_target e.top first && is_target e.top last)) (same_way first.place.up last.place.up) (are_in_order first.place.up last.place.up)
    (many_leaves e first.place.up new (not (is_target e.top first)) (is_root first.place.up))
call_leaves e (row_deletion first last) =
    row_leaves e first.place.up (index_of last.place - index_of first.place) [] _ _ (not (is_target e.top first && is_target e.top last)) (same_way first.place.up last.place.up) (are_in_order first.place.up last.place.up)
    (one_leaves e first.place.up [] (not (is_target e.top first)) (is_root first.place.up && true))

calls_leave : (e : Editing) (more : List Call) → after_calls e more ≡ with_changes e (with_all_asked e.changes (map (asked e.top) more))
calls_leave e [] = refl
calls_leave e (a ∷ more) =
    ap (λ f. after_calls f more) (call_leaves e a) ∙ calls_leave (with_changes e (with_asked e.changes (asked e.top a))) more

-- ---- whether it is refused

gap_verdict : (e : Editing) (cs : List Change) (c : Change) (b : Bool) → verdict (cond b (and_then (with_changes e cs) c) Foreign) ≡ verdict (cond b (and_then e c) Foreign)
gap_verdict e cs c true = refl
gap_verdict e cs c false = refl

one_verdict : (l m : List Change) (b c : Bool)
    → verdict (cond b Foreign (cond c BadTarget (Recorded l))) ≡ verdict (cond b Foreign (cond c BadTarget (Recorded m)))
one_verdict l m true c = refl
one_verdict l m false true = refl
one_verdict l m false false = refl

row_verdict : (l m : List Change) (r s : Recording) (b c d : Bool) → verdict r ≡ verdict s
    → verdict (cond b Foreign (cond c r (cond d (Recorded l) BadRange))) ≡ verdict (cond b Foreign (cond c s (cond d (Recorded m) BadRange)))
row_verdict l m r s true c d h = refl
row_verdict l m r s false true d h = h
row_verdict l m r s false false true h = refl
row_verdict l m r s false false false h = refl

pub verdicts_stay : VerdictsStay
verdicts_stay e cs (insertion p i new) = gap_verdict e cs (insert p.place.up i new) (is_gap e.top p i)
verdicts_stay e cs (replacement old new) = one_verdict _ _ (not (is_target e.top old)) (is_root old.place.up && not (is_one_node new))
verdicts_stay e cs (replacement_by_many old new) = one_verdict _ _ (not (is_target e.top old)) (is_root old.place.up)
verdicts_stay e cs (row_replacement first last new) =
    row_verdict _ _ _ _ (not (is_target e.top first && is_target e.top last)) (same_way first.place.up last.place.up) (are_in_order first.place.up last.place.up)
    (one_verdict _ _ (not (is_target e.top first)) (is_root first.place.up))
verdicts_stay e cs (row_deletion first last) =
    row_verdict _ _ _ _ (not (is_target e.top first && is_target e.top last)) (same_way first.place.up last.place.up) (are_in_order first.place.up last.place.up)
    (one_verdict _ _ (not (is_target e.top first)) (is_root first.place.up && true))

-- ---- what it names

-- what is asked for names this gap, if any, and this element alone, if any
abbrev Names : Option Asked → Option (Way × ℕ) → Option Way → Type 0
Names None g w = Unit {0}
Names (Some a) g w = (gap_asked a ≡ g) × (alone_asked a ≡ w)

gap_names : (p : Way) (i : ℕ) (new : List Element) (b : Bool) → Names (cond b (Some (into_gap p i new)) None) (Some (p, i)) None
gap_names p i new true = (refl, refl)
gap_names p i new false = tt

one_names : (w : Way) (new : List Element) (b c : Bool) → Names (cond b None (cond c None (Some (for_one w new)))) None (Some w)
one_names w new true c = tt
one_names w new false true = tt
one_names w new false false = (refl, refl)

many_names : (w : Way) (n : ℕ) (new : List Element) (b c : Bool) → Names (cond b None (cond c None (Some (for_row w n new)))) None None
many_names w n new true c = tt
many_names w n new false true = tt
many_names w n new false false = (refl, refl)

row_names : (w : Way) (n : ℕ) (new : List Element) (o : Option Asked) (one : Option Way) (b c d : Bool) → Names o None one
    → Names (cond b None (cond c o (cond d (Some (for_row w n new)) None))) None (cond c one None)
row_names w n new o one true c d h = tt
row_names w n new o one false true d h = h
row_names w n new o one false false true h = (refl, refl)
row_names w n new o one false false false h = tt

-- a row that is replaced is no element named alone, also where its ends are one
rows_names : (w : Way) (n : ℕ) (new : List Element) (o : Option Asked) (b c d : Bool) → Names o None None
    → Names (cond b None (cond c o (cond d (Some (for_row w n new)) None))) None None
rows_names w n new o true c d h = tt
rows_names w n new o false true d h = h
rows_names w n new o false false true h = (refl, refl)
rows_names w n new o false false false h = tt

call_names : (top : Element) (a : Call) → Names (asked top a) (gap_of a) (alone_of a)
call_names top (insertion p i new) = gap_names p.place.up i new (is_gap top p i)
call_names top (replacement old new) = one_names old.place.up new (not (is_target top old)) (is_root old.place.up && not (is_one_node new))
call_names top (replacement_by_many old new) = many_names old.place.up 0 new (not (is_target top old)) (is_root old.place.up)
call_names top (row_replacement first last new) =
    rows_names first.place.up (index_of last.place - index_of first.place) new _ (not (is_target top first && is_target top last)) (same_way first.place.up last.place.up) (are_in_order first.place.up last.place.up)
    (many_names first.place.up 0 new (not (is_target top first)) (is_root first.place.up))
call_names top (row_deletion first last) =
    row_names first.place.up (index_of last.place - index_of first.place) [] _ (Some first.place.up) (not (is_target top first && is_target top last)) (same_way first.place.up last.place.up) (are_in_order first.place.up last.place.up)
    (one_names first.place.up [] (not (is_target top first)) (is_root first.place.up && true))

-- ---- two calls

either_near : (cs : List Change) (o p : Option Asked) (g h : Option (Way × ℕ)) (w v : Option Way) → Names o g w → Names p h v → is_one_gap g h ≡ false → is_one_way w v ≡ false
    → Near (with_asked (with_asked cs o) p) (with_asked (with_asked cs p) o)
either_near cs None p g h w v x y far single = inl refl
either_near cs (Some a) None g h w v x y far single = inl refl
either_near cs (Some a) (Some b) g h w v x y far single =
    apart_near cs a b (cond_gap, cond_way)
  where
    cond_gap : is_one_gap (gap_asked a) (gap_asked b) ≡ false
    cond_gap = ap (λ z. is_one_gap z (gap_asked b)) x.0 ∙ ap (is_one_gap g) y.0 ∙ far

    cond_way : is_one_way (alone_asked a) (alone_asked b) ≡ false
    cond_way = ap (λ z. is_one_way z (alone_asked b)) x.1 ∙ ap (is_one_way w) y.1 ∙ single

calls_near : (top : Element) (cs : List Change) (a b : Call) (more : List Call) → are_apart a b ≡ true
    → Near (with_all_asked cs (map (asked top) (a ∷ (b ∷ more)))) (with_all_asked cs (map (asked top) (b ∷ (a ∷ more))))
calls_near top cs a b more h =
    let p = and_parts (not (is_one_gap (gap_of a) (gap_of b))) (not (is_one_way (alone_of a) (alone_of b))) h in
    all_asked_near _ _ (map (asked top) more)
    (either_near cs (asked top a) (asked top b) (gap_of a) (gap_of b) (alone_of a) (alone_of b) (call_names top a) (call_names top b) (not-true _ p.0) (not-true _ p.1))

-- ---- the law

ends-own : (f : Editing) → EndAlike f f
ends-own f = record {
  refused = λ r. (λ h. h, λ h. h);
  refused_finish = λ n r. (λ h. h, λ h. h);
  placeable = (λ h. h, λ h. h);
  same = λ h. refl;
  finished = λ p n r. (λ h. h, λ h. h);
}

-- also between changes that stand before and after these
near_ends : SwapsAgree → (e : Editing) (before after cs ds : List Change) → Near cs ds
    → EndAlike (with_changes e (before ++ (cs ++ after))) (with_changes e (before ++ (ds ++ after)))
near_ends swaps e before after cs ds (inl same) =
    subst (λ l. EndAlike (with_changes e (before ++ (cs ++ after))) (with_changes e (before ++ (l ++ after)))) same (ends-own (with_changes e (before ++ (cs ++ after))))
near_ends swaps e before after cs ds (inr s) =
    subst (λ l. EndAlike (with_changes e (before ++ (cs ++ after))) (with_changes e l)) (sym (spread ds s.other s.one s.second))
    (subst (λ l. EndAlike (with_changes e l) (with_changes e ((before ++ s.before) ++ s.other ∷ (s.one ∷ (s.after ++ after))))) (sym (spread cs s.one s.other s.first))
    (swaps e (before ++ s.before) (s.after ++ after) s.one s.other s.far))
  where
    spread : (l : List Change) (c d : Change) → l ≡ s.before ++ c ∷ (d ∷ s.after) → before ++ (l ++ after) ≡ (before ++ s.before) ++ c ∷ (d ∷ (s.after ++ after))
    spread l c d h =
        ap (λ k. before ++ (k ++ after)) h
        ∙ ap (λ k. before ++ k) (append_assoc s.before (c ∷ (d ∷ s.after)) after)
        ∙ sym (append_assoc before s.before (c ∷ (d ∷ (s.after ++ after))))

near_stay : SwapsAgree → (e : Editing) (cs ds : List Change) → Near cs ds → StayAlike (with_changes e cs) (with_changes e ds)
near_stay swaps e cs ds h = record {
  alone = subst (λ l. EndAlike (with_changes e cs) (with_changes e l)) (append-nil ds) (subst (λ l. EndAlike (with_changes e l) (with_changes e (ds ++ []))) (append-nil cs) (near_ends swaps e [] [] cs ds h));
  before = λ g. near_ends swaps (merged e g) [] g.changes cs ds h;
  after = λ g.
      subst (λ l. EndAlike (merged g (with_changes e cs)) (with_changes (merged g e) (g.changes ++ l))) (append-nil ds)
      (subst (λ l. EndAlike (with_changes (merged g e) (g.changes ++ l)) (with_changes (merged g e) (g.changes ++ (ds ++ [])))) (append-nil cs) (near_ends swaps (merged g e) g.changes [] cs ds h));
}

pub calls_agree : SwapsAgree → CallsAgree
calls_agree swaps e a b more h =
    subst (λ f. StayAlike (after_calls e (a ∷ (b ∷ more))) f) (sym (calls_leave e (b ∷ (a ∷ more))))
    (subst (λ f. StayAlike f (with_changes e (with_all_asked e.changes (map (asked e.top) (b ∷ (a ∷ more)))))) (sym (calls_leave e (a ∷ (b ∷ more))))
    (near_stay swaps e _ _ (calls_near e.top e.changes a b more h)))

-- Lemmas about the gaps and slots of target trees.
use Rattle.std.proofs.Common.{◌≡◌, ℕ, List, [], ◌∷◌, ◌++◌, length, reverse, Option, Some, None, Bool, true, false, ◌&&◌, cond, refl, ap, sym, ◌∙◌, arith, subst, slice_get}
use Rattle.std.proofs.lemmas.Bool.{and_parts, false≢true}
use Rattle.std.proofs.lemmas.List.{reverse-append}
use Rattle.syntax_tree.specs.Element.{Way, same_way}
use Rattle.tree_rewrite.specs.Change.{Change, insert, replace, is_within}
use Rattle.tree_rewrite.specs.Reach.{reaches}
use Rattle.tree_rewrite.proofs.OrderLemmas.{same_way-sound}
use Rattle.tree_rewrite.specs.Marked.{Marked, nothing, inner, token, join, Spot, gap, slot, or_own}
use Rattle.tree_rewrite.specs.Rewrite.{Job, same_sheet, sets, set_by, first_way, puts, terms_of}
use Rattle.tree_rewrite.specs.Fill.{IsBlankBelow, AreTerms, HavePut, Given, laid, IsGiven, AreGiven, HaveGiven, at_gap}
use Rattle.tree_rewrite.specs.Pieces.{Stand, added, after, after_piece, Adds, Say}
use Rattle.tree_rewrite.specs.declared.piece.Piece.{Piece}
use Rattle.tree_rewrite.specs.declared.piece.Put.{Put}

-- ---- the last of what was put
pub record Split (all : List Job) (p : Put) (before : List Put) (js : List Job) : Type 0 where
  pub job : Job
  pub rest : List Job
  pub is : js ≡ job ∷ rest
  pub numbered : slice_get all p.number ≡ Some job
  pub content : Say p.pieces.items (terms_of (puts rest) job)
  pub have : HavePut all before rest

pub split_puts : (all : List Job) (ps before : List Put) (p : Put) (js : List Job) → ps ≡ before ++ p ∷ [] → HavePut all ps js → Split all p before js
split_puts all ps before p js e h = by_jobs js (subst (λ l. AreTerms all l js) (ap reverse e ∙ reverse-append before (p ∷ [])) h)
  where
    by_jobs : (is : List Job) → AreTerms all (p ∷ reverse before) is → Split all p before is
    by_jobs [] g = absurd g
    by_jobs (j ∷ is) g = record { job = j; rest = is; is = refl; numbered = g.0; content = g.1; have = g.2 }

pub no_puts : (all : List Job) (ps : List Put) (js : List Job) → length ps ≡ 0 → HavePut all ps js → js ≡ []
no_puts all [] [] e h = refl
no_puts all [] (j ∷ js) e h = absurd h
no_puts all (p ∷ ps) js e h = absurd (omega arith)

-- ---- the last of some of it
pub record SplitGiven (all : List Job) (ps : List Put) (a : ℕ) (before : List ℕ) (gs : List Given) : Type 0 where
  pub given : Given
  pub rest : List Given
  pub is : gs ≡ given ∷ rest
  pub numbered : IsGiven all (slice_get ps a) given
  pub have : HaveGiven all ps before rest

pub split_given : (all : List Job) (ps : List Put) (ns before : List ℕ) (a : ℕ) (gs : List Given) → ns ≡ before ++ a ∷ [] → HaveGiven all ps ns gs → SplitGiven all ps a before gs
split_given all ps ns before a gs e h = by_given gs (subst (λ l. AreGiven all ps l gs) (ap reverse e ∙ reverse-append before (a ∷ [])) h)
  where
    by_given : (hs : List Given) → AreGiven all ps (a ∷ reverse before) hs → SplitGiven all ps a before hs
    by_given [] g = absurd g
    by_given (d ∷ hs) g = record { given = d; rest = hs; is = refl; numbered = g.0; have = g.1 }

pub none_given : (all : List Job) (ps : List Put) (ns : List ℕ) (gs : List Given) → length ns ≡ 0 → HaveGiven all ps ns gs → gs ≡ []
none_given all ps [] [] e h = refl
none_given all ps [] (g ∷ gs) e h = absurd h
none_given all ps (a ∷ ns) gs e h = absurd (omega arith)

-- ---- one more, at a gap and in a place
pub gap_set : (g : Given) (gs : List Given) (n : Option Way) (w : Way) (i : ℕ) → (same_sheet g.0.sheet n && sets g.0.change (gap w i)) ≡ true
    → at_gap (g ∷ gs) n w i ≡ join g.1 (at_gap gs n w i)
gap_set g gs n w i h = by_change g.0.change h
  where
    by_change : (d : Change) → (same_sheet g.0.sheet n && sets d (gap w i)) ≡ true
        → or_own (cond (same_sheet g.0.sheet n && sets d (gap w i)) (Some (set_by d (gap w i) g.1 (laid gs n (gap w i)))) (laid gs n (gap w i))) nothing
        ≡ join g.1 (or_own (laid gs n (gap w i)) nothing)
    by_change (insert p k new) t = ap (λ b. or_own (cond b (Some (join g.1 (or_own (laid gs n (gap w i)) nothing))) (laid gs n (gap w i))) nothing) t
    by_change (replace f m new s) t = absurd (false≢true (and_parts (same_sheet g.0.sheet n) false t).1)

-- a spot of which it says nothing
pub spot_kept : (g : Given) (gs : List Given) (n : Option Way) (k : Spot) → (same_sheet g.0.sheet n && sets g.0.change k) ≡ false → laid (g ∷ gs) n k ≡ laid gs n k
spot_kept g gs n k h = ap (λ b. cond b (Some (set_by g.0.change k g.1 (laid gs n k))) (laid gs n k)) h

pub slot_set : (g : Given) (gs : List Given) (n : Option Way) (w : Way) → (same_sheet g.0.sheet n && sets g.0.change (slot w)) ≡ true
    → laid (g ∷ gs) n (slot w) ≡ Some (cond (same_way (first_way g.0.change) w) g.1 nothing)
slot_set g gs n w h = by_change g.0.change h
  where
    by_change : (d : Change) → (same_sheet g.0.sheet n && sets d (slot w)) ≡ true
        → cond (same_sheet g.0.sheet n && sets d (slot w)) (Some (set_by d (slot w) g.1 (laid gs n (slot w)))) (laid gs n (slot w))
        ≡ Some (cond (same_way (first_way d) w) g.1 nothing)
    by_change (insert p k new) t = absurd (false≢true (and_parts (same_sheet g.0.sheet n) false t).1)
    by_change (replace f m new s) t = ap (λ b. cond b (Some (cond (same_way f w) g.1 nothing)) (laid gs n (slot w))) t

-- ---- lists, one after another
pub join-nothing : (m : Marked) → join m nothing ≡ m
join-nothing nothing = refl
join-nothing (inner m k f r) = ap (λ x. inner m k f x) (join-nothing r)
join-nothing (token m l r) = ap (λ x. token m l x) (join-nothing r)

pub join-assoc : (m n o : Marked) → join (join m n) o ≡ join m (join n o)
join-assoc nothing n o = refl
join-assoc (inner m k f r) n o = ap (λ x. inner m k f x) (join-assoc r n o)
join-assoc (token m l r) n o = ap (λ x. token m l x) (join-assoc r n o)

-- ---- what is added
pub added-nothing : (t : Stand) → added nothing t ≡ t
added-nothing t = λ j. record { done = join-nothing t.done j; around = t.around }

pub after-append : (ps qs : List Piece) (s : Stand) → after (ps ++ qs) s ≡ after qs (after ps s)
after-append [] qs s = refl
after-append (p ∷ ps) qs s = after-append ps qs (after_piece p s)

pub adds-nothing : (ps : List Piece) → Adds ps ps nothing
adds-nothing ps = record { says = λ s. sym (added-nothing (after ps s)) }

pub adds-join : (ps qs rs : List Piece) (m n : Marked) → Adds ps qs m → Adds qs rs n → Adds ps rs (join m n)
adds-join ps qs rs m n a b =
    record { says = λ s. b.says s ∙ ap (added n) (a.says s) ∙ λ j. record { done = join-assoc (after ps s).done m n j; around = (after ps s).around } }

pub adds-pieces : (ps qs new : List Piece) (m : Marked) → qs ≡ ps ++ new → Say new m → Adds ps qs m
adds-pieces ps qs new m e h = record { says = λ s. ap (λ l. after l s) e ∙ after-append ps new s ∙ h.says (after ps s) }

pub adds-same : (ps qs : List Piece) (m n : Marked) → m ≡ n → Adds ps qs m → Adds ps qs n
adds-same ps qs m n e a = subst (λ x. Adds ps qs x) e a

-- one more at a gap, after what was added for later ones
pub gap_next : (g : Given) (is gs : List Given) (n : Option Way) (w : Way) (i : ℕ) (m whole : Marked) (b : Bool) → b ≡ (same_sheet g.0.sheet n && sets g.0.change (gap w i)) → is ≡ g ∷ gs
    → whole ≡ join m (at_gap is n w i) → whole ≡ join (join m (cond b g.1 nothing)) (at_gap gs n w i)
gap_next g is gs n w i m whole true e s h =
    h ∙ ap (λ l. join m (at_gap l n w i)) s ∙ ap (join m) (gap_set g gs n w i (sym e)) ∙ sym (join-assoc m g.1 (at_gap gs n w i))
gap_next g is gs n w i m whole false e s h =
    h ∙ ap (λ l. join m (at_gap l n w i)) s ∙ ap (λ o. join m (or_own o nothing)) (spot_kept g gs n (gap w i) (sym e)) ∙ ap (λ x. join x (at_gap gs n w i)) (sym (join-nothing m))

pub gap_end : (is : List Given) (n : Option Way) (w : Way) (i : ℕ) (m whole : Marked) → is ≡ [] → whole ≡ join m (at_gap is n w i) → m ≡ whole
gap_end is n w i m whole e h = sym (h ∙ ap (λ l. join m (at_gap l n w i)) e ∙ join-nothing m)

-- ---- one more change, which leaves a slot alone, or determines its contents
pub slot_next : (g : Given) (is gs : List Given) (n : Option Way) (w : Way) (o : Option Marked) → is ≡ g ∷ gs → (same_sheet g.0.sheet n && sets g.0.change (slot w)) ≡ false
    → o ≡ laid is n (slot w) → o ≡ laid gs n (slot w)
slot_next g is gs n w o s h e = e ∙ ap (λ l. laid l n (slot w)) s ∙ spot_kept g gs n (slot w) h

pub slot_here : (g : Given) (is gs : List Given) (n : Option Way) (w : Way) (o : Option Marked) (b : Bool) → is ≡ g ∷ gs → (same_sheet g.0.sheet n && sets g.0.change (slot w)) ≡ true
    → b ≡ same_way (first_way g.0.change) w → o ≡ laid is n (slot w) → o ≡ Some (cond b g.1 nothing)
slot_here g is gs n w o b s h f e =
    e ∙ ap (λ l. laid l n (slot w)) s ∙ slot_set g gs n w h ∙ ap (λ x. Some (cond x g.1 nothing)) (sym f)

pub slot_end : (is : List Given) (n : Option Way) (w : Way) (o : Option Marked) → is ≡ [] → o ≡ laid is n (slot w) → o ≡ None
slot_end is n w o s e = e ∙ ap (λ l. laid l n (slot w)) s

-- ---- changes that affect nothing below an element

-- the elements below the one at `v` are the same after both
abbrev pub SameBelow : List Given → List Given → Option Way → Way → Type 0
SameBelow gs is n v = (p : Way) → is_within v 0 p ≡ true → (i : ℕ) → (laid gs n (gap p i) ≡ laid is n (gap p i)) × (laid gs n (slot (i ∷ p)) ≡ laid is n (slot (i ∷ p)))

pub reaches_gap : (d : Change) (v p : Way) (i : ℕ) → is_within v 0 p ≡ true → sets d (gap p i) ≡ true → reaches v d ≡ true
reaches_gap (insert q k new) v p i h s = subst (λ x. is_within v 0 x ≡ true) (sym (same_way-sound q p (and_parts (same_way q p) _ s).0)) h
reaches_gap (replace f m new t) v p i h s = absurd (false≢true s)

pub reaches_slot : (d : Change) (v p : Way) (i : ℕ) → is_within v 0 p ≡ true → sets d (slot (i ∷ p)) ≡ true → reaches v d ≡ true
reaches_slot (insert q k new) v p i h s = absurd (false≢true s)
reaches_slot (replace [] m new t) v p i h s = absurd (false≢true s)
reaches_slot (replace (k ∷ q) m new t) v p i h s = subst (λ x. is_within v 0 x ≡ true) (sym (same_way-sound q p (and_parts (same_way q p) _ s).0)) h

pub unset : (m s r : Bool) → (s ≡ true → r ≡ true) → (m && r) ≡ false → (m && s) ≡ false
unset false s r f h = refl
unset true false r f h = refl
unset true true r f h = absurd (false≢true (sym h ∙ f refl))

pub below_next : (g : Given) (gs is rest : List Given) (n : Option Way) (v : Way) → is ≡ g ∷ rest → (same_sheet g.0.sheet n && reaches v g.0.change) ≡ false → SameBelow gs is n v → SameBelow gs rest n v
below_next g gs is rest n v s h e p w i =
    let none_gap = unset (same_sheet g.0.sheet n) (sets g.0.change (gap p i)) (reaches v g.0.change) (reaches_gap g.0.change v p i w) h in
    let none_slot = unset (same_sheet g.0.sheet n) (sets g.0.change (slot (i ∷ p))) (reaches v g.0.change) (reaches_slot g.0.change v p i w) h in (
      (e p w i).0 ∙ ap (λ l. laid l n (gap p i)) s ∙ spot_kept g rest n (gap p i) none_gap,
      (e p w i).1 ∙ ap (λ l. laid l n (slot (i ∷ p))) s ∙ spot_kept g rest n (slot (i ∷ p)) none_slot,
    )

pub below_end : (gs is : List Given) (n : Option Way) (v : Way) → is ≡ [] → SameBelow gs is n v → IsBlankBelow gs n v
below_end gs is n v s e p w i = ((e p w i).0 ∙ ap (λ l. laid l n (gap p i)) s, (e p w i).1 ∙ ap (λ l. laid l n (slot (i ∷ p))) s)

-- ---- nothing was added; or something, after nothing
pub adds-none : (ps qs : List Piece) (m : Marked) → qs ≡ ps → m ≡ nothing → Adds ps qs m
adds-none ps qs m e h = adds-same ps qs nothing m (sym h) (subst (λ x. Adds ps x nothing) (sym e) (adds-nothing ps))

pub adds-from : (ps qs rs : List Piece) (m n : Marked) → qs ≡ ps → m ≡ n → Adds qs rs m → Adds ps rs n
adds-from ps qs rs m n e h a = adds-same ps rs m n h (subst (λ x. Adds x rs m) e a)

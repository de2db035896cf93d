-- Lemmas about the lists of executed changes by payload.
use Rattle.std.proofs.Common.{◌≡◌, ℕ, zero, suc, ◌≤◌, ◌<◌, List, [], ◌∷◌, ◌++◌, length, reverse, Option, Some, None, Bool, true, false, cond, refl, ap, sym, ◌∙◌, arith, subst, slice_get, append_assoc, append-nil}
use Rattle.std.proofs.lemmas.List.{reverse-append}
use Rattle.syntax_tree.specs.Element.{Way, same_way}
use Rattle.tree_rewrite.specs.Rewrite.{Job, same_sheet, puts, terms_of}
use Rattle.tree_rewrite.specs.Fill.{Given, IsGiven, AreGiven}
use Rattle.tree_rewrite.specs.Below.{OnSheet}
use Rattle.tree_rewrite.specs.Listed.{count_to, IsChain, no_more, one_more, IsListedAt, IsListed}
use Rattle.tree_rewrite.specs.WayMap.{number_at}
use Rattle.tree_rewrite.specs.declared.piece.Put.{Put}
use Rattle.tree_rewrite.specs.declared.on_payloads.OnPayloads.{OnPayloads}
use Rattle.tree_rewrite.proofs.BelowLemmas.{sheet_told, sheet_left}
use Rattle.tree_rewrite.proofs.JobLemmas.{some_same}
use Rattle.tree_rewrite.proofs.OrderLemmas.{same_way-sound}
use Rattle.tree_rewrite.proofs.SheetLemmas.{split_puts}

-- ---- lists with one more
get_more : {X : Type 0} (xs : List X) (x v : X) (a : ℕ) → slice_get xs a ≡ Some v → slice_get (xs ++ x ∷ []) a ≡ Some v
get_more [] x v a h = absurd (cc)
get_more (y ∷ xs) x v zero h = h
get_more (y ∷ xs) x v (suc a) h = get_more xs x v a h

get_last : {X : Type 0} (xs : List X) (x : X) → slice_get (xs ++ x ∷ []) (length xs) ≡ Some x
get_last [] x = refl
get_last (y ∷ xs) x = get_last xs x

get_within : {X : Type 0} (xs : List X) (v : X) (a : ℕ) → slice_get xs a ≡ Some v → a < length xs
get_within [] v a h = absurd (cc)
get_within (y ∷ xs) v zero h = omega arith
get_within (y ∷ xs) v (suc a) h = omega (arith, get_within xs v a h)

length_more : {X : Type 0} (xs : List X) (x : X) → length (xs ++ x ∷ []) ≡ suc (length xs)
length_more [] x = refl
length_more (y ∷ xs) x = ap suc (length_more xs x)

-- ---- chains
chain_more : (bs : List (Option ℕ)) (x o : Option ℕ) (ns : List ℕ) → IsChain bs o ns → IsChain (bs ++ x ∷ []) o ns
chain_more bs x None ns (no_more is) = no_more is
chain_more bs x (Some a) ns (one_more {b = b} {rest = rest} at low c is) = one_more (get_more bs x b a at) low (chain_more bs x b rest c) is

chain_within : (bs : List (Option ℕ)) (o : Option ℕ) (ns : List ℕ) → IsChain bs o ns → count_to o ≤ length bs
chain_within bs None ns (no_more is) = omega arith
chain_within bs (Some a) ns (one_more {b = b} at low c is) = omega (arith, get_within bs b a at)

pub record ChainStep (bs : List (Option ℕ)) (a : ℕ) (b : Option ℕ) (ns : List ℕ) : Type 0 where
  pub rest : List ℕ
  pub low : count_to b ≤ a
  pub chain : IsChain bs b rest
  pub is : ns ≡ rest ++ a ∷ []

-- one number back
pub chain_step : (bs : List (Option ℕ)) (a : ℕ) (b : Option ℕ) (ns : List ℕ) → slice_get bs a ≡ Some b → IsChain bs (Some a) ns → ChainStep bs a b ns
chain_step bs a b ns h (one_more {b = c} {rest = rest} at low chain is) =
    let same : c ≡ b = some_same c b (sym at ∙ h) in
    let P : Option ℕ → Type 0 = λ o. count_to o ≤ a in
    let Q : Option ℕ → Type 0 = λ o. IsChain bs o rest in
    record { rest = rest; low = subst P same low; chain = subst Q same chain; is = is }

-- a number that has nothing noted ends no chain
pub chain_stands : (bs : List (Option ℕ)) (a : ℕ) (ns : List ℕ) → slice_get bs a ≡ None → IsChain bs (Some a) ns → ⊥
chain_stands bs a ns h (one_more at low chain is) = absurd (cc)

pub chain_end : (bs : List (Option ℕ)) (ns : List ℕ) → IsChain bs None ns → ns ≡ []
chain_end bs ns (no_more is) = is

-- ---- one put more
given_kept : (all : List Job) (ps : List Put) (p : Put) (a : ℕ) (g : Given) → IsGiven all (slice_get ps a) g → IsGiven all (slice_get (ps ++ p ∷ []) a) g
given_kept all ps p a g h = by_put (slice_get ps a) refl h
  where
    by_put : (o : Option Put) → slice_get ps a ≡ o → IsGiven all o g → IsGiven all (slice_get (ps ++ p ∷ []) a) g
    by_put None e h = absurd h
    by_put (Some q) e h = let P : Option Put → Type 0 = λ x. IsGiven all x g in subst P (sym (get_more ps p q a e)) h

are_kept : (all : List Job) (ps : List Put) (p : Put) (ns : List ℕ) (gs : List Given) → AreGiven all ps ns gs → AreGiven all (ps ++ p ∷ []) ns gs
are_kept all ps p [] [] h = h
are_kept all ps p [] (g ∷ gs) h = absurd h
are_kept all ps p (a ∷ ns) [] h = absurd h
are_kept all ps p (a ∷ ns) (g ∷ gs) h = (given_kept all ps p a g h.0, are_kept all ps p ns gs h.1)

on_kept : (all : List Job) (ps : List Put) (p : Put) (ns : List ℕ) (n : Option Way) (js : List Job) → OnSheet all ps ns n js → OnSheet all (ps ++ p ∷ []) ns n js
on_kept all ps p ns n js h = (h.0, are_kept all ps p (reverse ns) h.0 h.1, h.2)

module _ (all : List Job) (ps : List Put) (p : Put) (j : Job) (l m : OnPayloads) (x : Option ℕ) (numbered : slice_get all p.number ≡ Some j) (old : IsListed all ps l) (before : m.before.items ≡ l.before.items ++ x ∷ []) where
  count_more : length m.before.items ≡ length (ps ++ p ∷ [])
  count_more = ap length before ∙ length_more l.before.items x ∙ ap suc old.count ∙ sym (length_more ps p)

  -- on another sheet nothing changes
  at_other : (w : Way) → same_sheet j.sheet (Some w) ≡ false → number_at m.last w ≡ number_at l.last w → IsListedAt all (ps ++ p ∷ []) m w
  at_other w apart same =
      let own = old.lists w in
      let P : List (Option ℕ) → Type 0 = λ bs. IsChain bs (number_at l.last w) own.0 in
      let Q : Option ℕ → Type 0 = λ o. IsChain m.before.items o own.0 in (
        own.0,
        subst Q (sym same) (subst P (sym before) (chain_more l.before.items x (number_at l.last w) own.0 own.1)),
        λ js h.
            let s = split_puts all (ps ++ p ∷ []) ps p js refl h in
            let is : s.job ≡ j = some_same s.job j (sym s.numbered ∙ numbered) in
            let R : List Job → Type 0 = λ k. OnSheet all (ps ++ p ∷ []) own.0 (Some w) k in
            subst R (sym s.is) (sheet_left all (ps ++ p ∷ []) own.0 (Some w) s.job s.rest (ap (λ (i : Job). same_sheet i.sheet (Some w)) is ∙ apart) (on_kept all ps p own.0 (Some w) s.rest (own.2 s.rest s.have))),
      )

  -- on its own sheet it comes last
  at_own : (w : Way) → x ≡ number_at l.last w → number_at m.last w ≡ Some (length l.before.items) → IsListedAt all (ps ++ p ∷ []) m w
  at_own w was is_last =
      let own = old.lists w in
      let a = length l.before.items in
      let P : List (Option ℕ) → Type 0 = λ bs. IsChain bs (Some a) (own.0 ++ a ∷ []) in
      let Q : Option ℕ → Type 0 = λ o. IsChain m.before.items o (own.0 ++ a ∷ []) in
      let noted : slice_get (l.before.items ++ x ∷ []) a ≡ Some (number_at l.last w) = get_last l.before.items x ∙ ap Some was in
      let low = chain_within l.before.items (number_at l.last w) own.0 own.1 in
      let chain = one_more noted low (chain_more l.before.items x (number_at l.last w) own.0 own.1) refl in (
        own.0 ++ a ∷ [],
        subst Q (sym is_last) (subst P (sym before) chain),
        λ js h.
            let s = split_puts all (ps ++ p ∷ []) ps p js refl h in
            let here : slice_get (ps ++ p ∷ []) a ≡ Some p = ap (slice_get (ps ++ p ∷ [])) old.count ∙ get_last ps p in
            let G : Option Put → Type 0 = λ o. IsGiven all o (s.job, terms_of (puts s.rest) s.job) in
            let R : List Job → Type 0 = λ k. OnSheet all (ps ++ p ∷ []) (own.0 ++ a ∷ []) (Some w) k in
            subst R (sym s.is) (sheet_told all (ps ++ p ∷ []) own.0 a (Some w) s.job s.rest (subst G (sym here) (s.numbered, s.content)) (on_kept all ps p own.0 (Some w) s.rest (own.2 s.rest s.have))),
      )

-- a job made in the tree itself
pub listed_off : (all : List Job) (ps : List Put) (p : Put) (j : Job) (l m : OnPayloads) → slice_get all p.number ≡ Some j → j.sheet ≡ None → IsListed all ps l
    → m.before.items ≡ l.before.items ++ None ∷ [] → ((w : Way) → number_at m.last w ≡ number_at l.last w) → IsListed all (ps ++ p ∷ []) m
listed_off all ps p j l m numbered none old before last = record {
  count = count_more all ps p j l m None numbered old before;
  lists = λ w. at_other all ps p j l m None numbered old before w (ap (λ (s : Option Way). same_sheet s (Some w)) none) (last w);
}

-- a job made in a payload
pub listed_on : (all : List Job) (ps : List Put) (p : Put) (j : Job) (l m : OnPayloads) (v : Way) → slice_get all p.number ≡ Some j → j.sheet ≡ Some v → IsListed all ps l
    → m.before.items ≡ l.before.items ++ number_at l.last v ∷ [] → ((w : Way) → number_at m.last w ≡ cond (same_way v w) (Some (length l.before.items)) (number_at l.last w))
    → IsListed all (ps ++ p ∷ []) m
listed_on all ps p j l m v numbered own old before last = record {
  count = count_more all ps p j l m (number_at l.last v) numbered old before;
  lists = λ w. by_test w (same_way v w) refl;
}
  where
    by_test : (w : Way) (b : Bool) → same_way v w ≡ b → IsListedAt all (ps ++ p ∷ []) m w
    by_test w true t =
        let same : v ≡ w = same_way-sound v w t in
        at_own all ps p j l m (number_at l.last v) numbered old before w (ap (number_at l.last) same) (last w ∙ ap (λ (b : Bool). cond b (Some (length l.before.items)) (number_at l.last w)) t)
    by_test w false t =
        at_other all ps p j l m (number_at l.last v) numbered old before w (ap (λ (s : Option Way). same_sheet s (Some w)) own ∙ t) (last w ∙ ap (λ (b : Bool). cond b (Some (length l.before.items)) (number_at l.last w)) t)

-- ---- the numbers, the last first
pub all_left : (ns : List ℕ) → ns ≡ ns ++ reverse []
all_left ns = sym (append-nil ns)

pub one_taken : (ns rest acc : List ℕ) (a : ℕ) → ns ≡ (rest ++ a ∷ []) ++ reverse acc → ns ≡ rest ++ reverse (acc ++ a ∷ [])
one_taken ns rest acc a h = h ∙ append_assoc rest (a ∷ []) (reverse acc) ∙ ap (λ (l : List ℕ). rest ++ l) (sym (reverse-append acc (a ∷ [])))

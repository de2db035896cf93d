-- In a table that passes the test each call of a rule is followed: `meaning` has its equation without bounds.
use Rattle.std.proofs.Common.{◌≡◌, ℕ, zero, suc, ◌<◌, ◌≤◌, Bool, true, false, not, ◌&&◌, ◌||◌, List, [], ◌∷◌, length, drop, ◌==◌, nat_lt, refl, ap, sym, ◌∙◌, subst, arith, ◌⊎◌, inl, inr, if◌then◌else◌, true≢false}
use Rattle.std.proofs.lemmas.Bool.{ltb-true, or_cases}
use Rattle.std.proofs.lemmas.List.{length-drop}
use Rattle.parser_input.specs.Kinds.{EOF}
use Rattle.parser_events.specs.Forest.{Forest}
use Rattle.parser_input.specs.Input.{Token}
use Rattle.rust_grammar.specs.Rule.{Production, Rule, Look, Always, Never, Kind, Contextual, Joint, Whole, Left, InCondition, Given, Both, Either, Not, Nothing, One, Any, Then, Near, Or, Opt, Star, Node, Wrap, Want, Say, Skip, Split, When, Unless, Call, Continue, Mode, Lead, begins}
use Rattle.rust_grammar.specs.Meaning.{Reading, Table, read, look_of, Calls, meaning, calls, sees, fresh, after, node, wrapped, led, say, skip, split, leaf, turns, ahead}
use Rattle.rust_grammar.proofs.Fine.{takes, ranked, fails, ranked_at_end, fine}
use Rattle.rust_grammar.proofs.Unfolds.{meaning_unfolds}
use Rattle.rust_grammar.proofs.Followed.{call_followed}

pub and_l : (x y : Bool) → (x && y) ≡ true → x ≡ true
and_l true y e = refl
and_l false y e = e

pub and_r : (x y : Bool) → (x && y) ≡ true → y ≡ true
and_r true y e = e
and_r false y e = absurd (true≢false (sym e))

-- What a production gives is no longer, and shorter where it is claimed.
pub record Facts (g : Table) (f : Production → Bool) (x : Production) (c : Bool) (s : Reading) : Type 0 where
  pub shrinks : length (meaning g x c s).rest ≤ length s.rest
  pub took : f x ≡ true → 0 < length s.rest → length (meaning g x c s).rest < length s.rest

drops : (n : ℕ) (ts : List Token) → length (drop n ts) ≤ length ts
drops n ts = subst (λ m. m ≤ length ts) (sym (length-drop n ts)) (omega arith)

drops_some : (n : ℕ) (ts : List Token) → 0 < n → 0 < length ts → length (drop n ts) < length ts
drops_some n ts p q = subst (λ m. m < length ts) (sym (length-drop n ts)) (omega arith)

if-same : (b : Bool) (x y u v : Reading) → x ≡ u → y ≡ v → (if b then x else y) ≡ (if b then u else v)
if-same true x y u v p q = p
if-same false x y u v p q = q

if-le : (b : Bool) (u v : Reading) (m : ℕ) → length u.rest ≤ m → length v.rest ≤ m → length (if b then u else v).rest ≤ m
if-le true u v m p q = p
if-le false u v m p q = q

if-lt : (b : Bool) (u v : Reading) (m : ℕ) → length u.rest < m → length v.rest < m → length (if b then u else v).rest < m
if-lt true u v m p q = p
if-lt false u v m p q = q

pub some_or_none : (m : ℕ) → (0 < m) ⊎ (m ≤ 0)
some_or_none zero = inr (omega arith)
some_or_none (suc m) = inl (omega arith)

not_true : (b : Bool) → not b ≡ true → b ≡ false
not_true true e = sym e
not_true false e = refl

both_false : (a b : Bool) → b ≡ false → (if a then b else false) ≡ false
both_false true b e = e
both_false false b e = refl

none_left : (ts : List Token) → length ts ≤ 0 → ts ≡ []
none_left [] h = refl
none_left (t ∷ ts) h = absurd (omega arith)

-- where a call leads that was made for fewer than n tokens, or for n at a lower rank
abbrev pub IsBelow : Table → (x : Production) → (n : ℕ) → Production → Reading → Type 0
IsBelow g x n y t = (length t.rest < n) ⊎ ((length t.rest ≤ n) × (g.rank y < g.rank x))

-- These calls give there what the productions mean.
abbrev pub AgreesBelow : Table → (x : Production) → (n : ℕ) → Calls → Type 0
AgreesBelow g x n call = (y : Production) (d : Bool) (t : Reading) → IsBelow g x n y t → call y d t ≡ meaning g y d t

module _ (g : Table) (f : Production → Bool) (x : Production) (n : ℕ) (call : Calls) (agreed : AgreesBelow g x n call) where
  unfoldable pub low : Production → Bool
  low y = nat_lt (g.rank y) (g.rank x)

  abbrev pub Known : Type 0
  Known = (y : Production) (d : Bool) (t : Reading) → IsBelow g x n y t → Facts g f y d t

  pub record Same (c : Bool) (r : Rule) (s : Reading) : Type 0 where
    pub same : read (look_of g) call c r s ≡ read (look_of g) (meaning g) c r s
    pub shrinks : length (read (look_of g) (meaning g) c r s).rest ≤ length s.rest
    pub took : takes f r ≡ true → 0 < length s.rest → length (read (look_of g) (meaning g) c r s).rest < length s.rest

  same-turns : (k : ℕ) (t : Bool) (c : Bool) (test : Reading → Bool) (a : Rule) (s : Reading) →
      ((s : Reading) → length s.rest ≤ n → (t ≡ true → length s.rest < n) → Same c a s) →
      length s.rest ≤ n → (t ≡ true → length s.rest < n) →
      (turns k test (read (look_of g) call c a) s ≡ turns k test (read (look_of g) (meaning g) c a) s)
      × (length (turns k test (read (look_of g) (meaning g) c a) s).rest ≤ length s.rest)
  unfolding turns
  same-turns zero t c test a s each le lt = (refl, omega arith)
  same-turns (suc k) t c test a s each le lt =
      let p = each s le lt in
      let mid = read (look_of g) (meaning g) c a s in
      let q = same-turns k t c test a mid each (through p.shrinks le) (λ h. both (lt h) p.shrinks) in (
        if-same (test s) _ _ _ _
            (ap (λ (u : Reading). if nat_lt (length u.rest) (length s.rest) then turns k test (read (look_of g) call c a) u else u) p.same
            ∙ if-same (nat_lt (length mid.rest) (length s.rest)) _ _ _ _ q.0 refl) refl,
        if-le (test s) _ _ _ (if-le (nat_lt (length mid.rest) (length s.rest)) _ _ _ (through q.1 p.shrinks) p.shrinks) (omega arith),
      )
    where
      through : {a b m : ℕ} → a ≤ b → b ≤ m → a ≤ m
      through p q = omega arith

      both : {a b m : ℕ} → b < m → a ≤ b → a < m
      both p q = omega arith

  pub falls : (t : Bool) (y : Production) (s : Reading) → (t || low y) ≡ true → length s.rest ≤ n → (t ≡ true → length s.rest < n) →
      IsBelow g x n y s
  unfolding low
  falls t y s e le lt = elim (or_cases t (low y) e) [ inl p ↦ inl (lt p) | inr p ↦ inr (le, ltb-true _ _ p) ]

  pub fewer-after : (a : Rule) (t c : Bool) (s : Reading) → 0 < n → length s.rest ≤ n → (t ≡ true → length s.rest < n) → Same c a s →
      (t || takes f a) ≡ true → length (read (look_of g) (meaning g) c a s).rest < n
  fewer-after a t c s z le lt p e = elim (or_cases t (takes f a) e) [
    | inl h ↦ both (lt h) p.shrinks
    | inr h ↦ elim (some_or_none (length s.rest)) [
      | inl i ↦ later (p.took h i) le
      | inr i ↦ none z p.shrinks i
    ]
  ]
    where
      both : {a b m : ℕ} → b < m → a ≤ b → a < m
      both p q = omega arith

      later : {a b m : ℕ} → a < b → b ≤ m → a < m
      later p q = omega arith

      none : {a b m : ℕ} → 0 < m → a ≤ b → b ≤ 0 → a < m
      none p q r = omega arith

  took-two : (a b : Bool) (i j k : ℕ) → j ≤ i → k ≤ j → (a ≡ true → 0 < i → j < i) → (b ≡ true → 0 < j → k < j) → (a || b) ≡ true → 0 < i → k < i
  took-two a b i j k p q u v e z = elim (or_cases a b e) [
    | inl h ↦ first (u h z) q
    | inr h ↦ elim (some_or_none j) [
      | inl y ↦ second p (v h y)
      | inr y ↦ third q y z
    ]
  ]
    where
      first : {i j k : ℕ} → j < i → k ≤ j → k < i
      first p q = omega arith

      second : {i j k : ℕ} → j ≤ i → k < j → k < i
      second p q = omega arith

      third : {i j k : ℕ} → k ≤ j → j ≤ 0 → 0 < i → k < i
      third p q r = omega arith

  same-then : (a b : Rule) (t c : Bool) (s : Reading) → 0 < n → length s.rest ≤ n → (t ≡ true → length s.rest < n) → Same c a s →
      (length (read (look_of g) (meaning g) c a s).rest ≤ n → ((t || takes f a) ≡ true → length (read (look_of g) (meaning g) c a s).rest < n) → Same c b (read (look_of g) (meaning g) c a s)) →
      Same c (Then a b) s
  unfolding read takes
  same-then a b t c s z le lt p next =
      let q = next (through p.shrinks le) (fewer-after a t c s z le lt p) in
      record {
        same = ap (λ (u : Reading). read (look_of g) call c b u) p.same ∙ q.same;
        shrinks = through q.shrinks p.shrinks;
        took = took-two (takes f a) (takes f b) _ _ _ p.shrinks q.shrinks p.took q.took;
      }
    where
      through : {a b m : ℕ} → a ≤ b → b ≤ m → a ≤ m
      through p q = omega arith

  same-near : (w : ℕ) (a b : Rule) (c : Bool) (s : Reading) → Same c (Then a b) s → Same c (Near w a b) s
  unfolding read takes
  same-near w a b c s p = record { same = p.same; shrinks = p.shrinks; took = p.took }

  same-or : (a b : Rule) (c : Bool) (s : Reading) → Same c a s → Same c b s → Same c (Or a b) s
  unfolding read takes
  same-or a b c s p q = record {
    same = if-same (sees c s (begins (look_of g) a)) _ _ _ _ p.same q.same;
    shrinks = if-le (sees c s (begins (look_of g) a)) _ _ _ p.shrinks q.shrinks;
    took = λ h z. if-lt (sees c s (begins (look_of g) a)) _ _ _ (p.took (and_l _ _ h) z) (q.took (and_r _ _ h) z);
  }

  pub agrees : Known → 0 < n → (r : Rule) (t c : Bool) (s : Reading) → ranked f low t r ≡ true → length s.rest ≤ n → (t ≡ true → length s.rest < n) → Same c r s
  unfolding read ranked takes fresh node wrapped led after say skip split leaf
  agrees k z Nothing t c s e le lt = record { same = refl; shrinks = omega arith; took = λ p q. absurd (true≢false (sym p)) }
  agrees k z (One y) t c s e le lt = record { same = refl; shrinks = drops (length y.parts) s.rest; took = λ p q. drops_some (length y.parts) s.rest (ltb-true _ _ p) q }
  agrees k z Any t c s e le lt = record { same = refl; shrinks = drops 1 s.rest; took = λ p q. drops_some 1 s.rest (omega arith) q }
  agrees k z (Then a b) t c s e le lt = same-then a b t c s z le lt
      (agrees k z a t c s (and_l _ _ e) le lt)
      (λ i j. agrees k z b (t || takes f a) c (read (look_of g) (meaning g) c a s) (and_r _ _ e) i j)
  agrees k z (Near w a b) t c s e le lt = same-near w a b c s (same-then a b t c s z le lt
      (agrees k z a t c s (and_l _ _ e) le lt)
      (λ i j. agrees k z b (t || takes f a) c (read (look_of g) (meaning g) c a s) (and_r _ _ e) i j))
  agrees k z (Or a b) t c s e le lt = same-or a b c s (agrees k z a t c s (and_l _ _ e) le lt) (agrees k z b t c s (and_r _ _ e) le lt)
  agrees k z (Opt a) t c s e le lt =
      let p = agrees k z a t c s e le lt in
      record {
        same = if-same (sees c s (begins (look_of g) a)) _ _ _ _ p.same refl;
        shrinks = if-le (sees c s (begins (look_of g) a)) _ _ _ p.shrinks (omega arith);
        took = λ p q. absurd (true≢false (sym p));
      }
  agrees k z (Star a) t c s e le lt =
      let p = same-turns (length s.rest) t c (λ u. sees c u (begins (look_of g) a)) a s (λ u i j. agrees k z a t c u e i j) le lt in
      record { same = p.0; shrinks = p.1; took = λ p q. absurd (true≢false (sym p)) }
  agrees k z (Node kind a) t c s e le lt =
      let p = agrees k z a t c (fresh s) e le lt in
      record { same = ap (λ (u : Reading). node kind s u) p.same; shrinks = p.shrinks; took = p.took }
  agrees k z (Wrap kind a) t c s e le lt =
      let p = agrees k z a t c s e le lt in
      record { same = ap (λ (u : Reading). wrapped kind u) p.same; shrinks = p.shrinks; took = p.took }
  agrees k z (Want a m) t c s e le lt =
      let p = agrees k z a t c s e le lt in
      record {
        same = if-same (sees c s (begins (look_of g) a)) _ _ _ _ p.same refl;
        shrinks = if-le (sees c s (begins (look_of g) a)) _ _ _ p.shrinks (omega arith);
        took = λ p q. absurd (true≢false (sym p));
      }
  agrees k z (Say m) t c s e le lt = record { same = refl; shrinks = omega arith; took = λ p q. absurd (true≢false (sym p)) }
  agrees k z (Skip m) t c s e le lt = record { same = refl; shrinks = drops 1 s.rest; took = λ p q. drops_some 1 s.rest (omega arith) q }
  agrees k z Split t c s e le lt = record { same = refl; shrinks = drops 1 s.rest; took = λ p q. drops_some 1 s.rest (omega arith) q }
  agrees k z (When l a) t c s e le lt = let p = agrees k z a t c s e le lt in record { same = p.same; shrinks = p.shrinks; took = p.took }
  agrees k z (Unless l a) t c s e le lt = let p = agrees k z a t c s e le lt in record { same = p.same; shrinks = p.shrinks; took = p.took }
  agrees k z (Call y) t c s e le lt =
      let i = falls t y s e le lt in
      let h = k y c (fresh s) i in
      record { same = ap (λ (u : Reading). after s u) (agreed y c (fresh s) i); shrinks = h.shrinks; took = h.took }
  agrees k z (Continue y) t c s e le lt =
      let i = falls t y s e le lt in
      let h = k y c s i in
      record { same = agreed y c s i; shrinks = h.shrinks; took = h.took }
  agrees k z (Mode d a) t c s e le lt = let p = agrees k z a t d s e le lt in record { same = p.same; shrinks = p.shrinks; took = p.took }
  agrees k z (Lead a) t c s e le lt =
      let p = agrees k z a t c (fresh s) e le lt in
      record { same = ap (λ (u : Reading). led s u) p.same; shrinks = p.shrinks; took = p.took }

  turns-none : (k : ℕ) (test : Reading → Bool) (turn : Reading → Reading) (s : Reading) → k ≤ 0 → turns k test turn s ≡ s
  unfolding turns
  turns-none zero test turn s h = refl
  turns-none (suc k) test turn s h = absurd (omega arith)

  fails-nil : (l : Look) (c : Bool) (v : Forest) → fails l ≡ true → sees c (record { given = v; rest = [] }) l ≡ false
  unfolding fails sees ahead
  fails-nil Always c v e = absurd (true≢false (sym e))
  fails-nil Never c v e = refl
  fails-nil (Kind m k) c v e = not_true (EOF == k) e
  fails-nil (Contextual m k) c v e = not_true (EOF == k) e
  fails-nil (Joint m) c v e = refl
  fails-nil (Whole m) c v e = refl
  fails-nil Left c v e = refl
  fails-nil InCondition c v e = absurd (true≢false (sym e))
  fails-nil Given c v e = absurd (true≢false (sym e))
  fails-nil (Both a b) c v e = elim (or_cases (fails a) (fails b) e) [
    | inl h ↦ rw (fails-nil a c v h) refl
    | inr h ↦ both_false _ _ (fails-nil b c v h)
  ]
  fails-nil (Either a b) c v e = rw (fails-nil a c v (and_l _ _ e)) (fails-nil b c v (and_r _ _ e))
  fails-nil (Not a) c v e = absurd (true≢false (sym e))

  pub fails-sound : (l : Look) (c : Bool) (s : Reading) → length s.rest ≤ 0 → fails l ≡ true → sees c s l ≡ false
  fails-sound l c s h e = subst (λ (ts : List Token). sees c (record { given = s.given; rest = ts }) l ≡ false) (sym (none_left s.rest h)) (fails-nil l c s.given e)

  ends-then : (a b : Rule) (c : Bool) (s : Reading) → length s.rest ≤ 0 → Same c a s →
      (length (read (look_of g) (meaning g) c a s).rest ≤ 0 → Same c b (read (look_of g) (meaning g) c a s)) → Same c (Then a b) s
  unfolding read takes
  ends-then a b c s z p next =
      let q = next (through p.shrinks z) in
      record { same = ap (λ (u : Reading). read (look_of g) call c b u) p.same ∙ q.same; shrinks = through q.shrinks p.shrinks; took = λ p q. absurd (omega arith) }
    where
      through : {a b m : ℕ} → a ≤ b → b ≤ m → a ≤ m
      through p q = omega arith

  pub ends : Known → (r : Rule) (c : Bool) (s : Reading) → ranked_at_end (look_of g) low r ≡ true → length s.rest ≤ 0 → Same c r s
  unfolding read ranked_at_end takes fresh node wrapped led after say skip split leaf low
  ends k Nothing c s e z = record { same = refl; shrinks = omega arith; took = λ p q. absurd (true≢false (sym p)) }
  ends k (One y) c s e z = record { same = refl; shrinks = drops (length y.parts) s.rest; took = λ p q. absurd (omega arith) }
  ends k Any c s e z = record { same = refl; shrinks = drops 1 s.rest; took = λ p q. absurd (omega arith) }
  ends k (Then a b) c s e z = ends-then a b c s z (ends k a c s (and_l _ _ e) z) (λ i. ends k b c (read (look_of g) (meaning g) c a s) (and_r _ _ e) i)
  ends k (Near w a b) c s e z = same-near w a b c s (ends-then a b c s z (ends k a c s (and_l _ _ e) z) (λ i. ends k b c (read (look_of g) (meaning g) c a s) (and_r _ _ e) i))
  ends k (Or a b) c s e z =
      let q = ends k b c s (and_r _ _ e) z in
      elim (or_cases (fails (begins (look_of g) a)) (ranked_at_end (look_of g) low a) (and_l _ _ e)) [
        | inl h ↦ record { same = rw (fails-sound _ c s z h) q.same; shrinks = rw (fails-sound _ c s z h) q.shrinks; took = λ p q. absurd (omega arith) }
        | inr h ↦ same-or a b c s (ends k a c s h z) q
      ]
  ends k (Opt a) c s e z = elim (or_cases (fails (begins (look_of g) a)) (ranked_at_end (look_of g) low a) e) [
    | inl h ↦ record { same = rw (fails-sound _ c s z h) refl; shrinks = rw (fails-sound _ c s z h) (omega arith); took = λ p q. absurd (true≢false (sym p)) }
    | inr h ↦ let p = ends k a c s h z in record {
      same = if-same (sees c s (begins (look_of g) a)) _ _ _ _ p.same refl;
      shrinks = if-le (sees c s (begins (look_of g) a)) _ _ _ p.shrinks (omega arith);
      took = λ p q. absurd (true≢false (sym p));
    }
  ]
  ends k (Star a) c s e z = record {
    same = turns-none _ _ _ s z ∙ sym (turns-none _ _ _ s z);
    shrinks = subst (λ (u : Reading). length u.rest ≤ length s.rest) (sym (turns-none (length s.rest) (λ u. sees c u (begins (look_of g) a)) (read (look_of g) (meaning g) c a) s z)) (omega arith);
    took = λ p q. absurd (true≢false (sym p));
  }
  ends k (Node kind a) c s e z = let p = ends k a c (fresh s) e z in record { same = ap (λ (u : Reading). node kind s u) p.same; shrinks = p.shrinks; took = p.took }
  ends k (Wrap kind a) c s e z = let p = ends k a c s e z in record { same = ap (λ (u : Reading). wrapped kind u) p.same; shrinks = p.shrinks; took = p.took }
  ends k (Want a m) c s e z = elim (or_cases (fails (begins (look_of g) a)) (ranked_at_end (look_of g) low a) e) [
    | inl h ↦ record { same = rw (fails-sound _ c s z h) refl; shrinks = rw (fails-sound _ c s z h) (omega arith); took = λ p q. absurd (true≢false (sym p)) }
    | inr h ↦ let p = ends k a c s h z in record {
      same = if-same (sees c s (begins (look_of g) a)) _ _ _ _ p.same refl;
      shrinks = if-le (sees c s (begins (look_of g) a)) _ _ _ p.shrinks (omega arith);
      took = λ p q. absurd (true≢false (sym p));
    }
  ]
  ends k (Say m) c s e z = record { same = refl; shrinks = omega arith; took = λ p q. absurd (true≢false (sym p)) }
  ends k (Skip m) c s e z = record { same = refl; shrinks = drops 1 s.rest; took = λ p q. absurd (omega arith) }
  ends k Split c s e z = record { same = refl; shrinks = drops 1 s.rest; took = λ p q. absurd (omega arith) }
  ends k (When l a) c s e z = let p = ends k a c s e z in record { same = p.same; shrinks = p.shrinks; took = p.took }
  ends k (Unless l a) c s e z = let p = ends k a c s e z in record { same = p.same; shrinks = p.shrinks; took = p.took }
  ends k (Call y) c s e z =
      let i : IsBelow g x n y s = inr (omega arith, ltb-true _ _ e) in
      let h = k y c (fresh s) i in
      record { same = ap (λ (u : Reading). after s u) (agreed y c (fresh s) i); shrinks = h.shrinks; took = h.took }
  ends k (Continue y) c s e z =
      let i : IsBelow g x n y s = inr (omega arith, ltb-true _ _ e) in
      let h = k y c s i in
      record { same = agreed y c s i; shrinks = h.shrinks; took = h.took }
  ends k (Mode d a) c s e z = let p = ends k a d s e z in record { same = p.same; shrinks = p.shrinks; took = p.took }
  ends k (Lead a) c s e z = let p = ends k a c (fresh s) e z in record { same = ap (λ (u : Reading). led s u) p.same; shrinks = p.shrinks; took = p.took }

-- the test, taken apart
abbrev pub IsFine : Table → (Production → Bool) → Type 0
IsFine g f = (x : Production) → fine g f x ≡ true

pub fine-rank : (g : Table) (f : Production → Bool) → IsFine g f → (x : Production) → g.rank x < g.ranks
unfolding fine
fine-rank g f ok x = ltb-true _ _ (and_l _ _ (and_l _ _ (and_l _ _ (ok x))))

fine-takes : (g : Table) (f : Production → Bool) → IsFine g f → (x : Production) → f x ≡ true → takes f (g.rule x) ≡ true
unfolding fine
fine-takes g f ok x e = elim (or_cases (not (f x)) (takes f (g.rule x)) (and_r _ _ (and_l _ _ (and_l _ _ (ok x))))) [
  | inl h ↦ absurd (true≢false (sym e ∙ not_true (f x) h))
  | inr h ↦ h
]

-- the bounded calls, which `meaning` makes
bounded : (g : Table) (x : Production) (n : ℕ) → AgreesBelow g x n (calls g x n)
bounded g x n y d t i = call_followed g x y n d t i

pub plain_step : (g : Table) (f : Production → Bool) → IsFine g f → (x : Production) (c : Bool) (s : Reading) (call : Calls) (agreed : AgreesBelow g x (length s.rest) call) → Known g f x (length s.rest) call agreed → Same g f x (length s.rest) call agreed c (g.rule x) s
unfolding fine low
plain_step g f ok x c s call agreed k = elim (some_or_none (length s.rest)) [
  | inl z ↦ agrees g f x (length s.rest) call agreed k z (g.rule x) false c s (and_r _ _ (and_l _ _ (ok x))) (omega arith) (λ h. absurd (true≢false (sym h)))
  | inr z ↦ ends g f x (length s.rest) call agreed k (g.rule x) c s (and_r _ _ (ok x)) z
]

to_facts : (g : Table) (f : Production → Bool) → IsFine g f → (x : Production) (c : Bool) (s : Reading) → Same g f x (length s.rest) (calls g x (length s.rest)) (bounded g x (length s.rest)) c (g.rule x) s → Facts g f x c s
to_facts g f ok x c s p =
    let e : meaning g x c s ≡ read (look_of g) (meaning g) c (g.rule x) s = meaning_unfolds g x c s (fine-rank g f ok) ∙ p.same in
    record {
      shrinks = subst (λ (u : Reading). length u.rest ≤ length s.rest) (sym e) p.shrinks;
      took = λ h i. subst (λ (u : Reading). length u.rest < length s.rest) (sym e) (p.took (fine-takes g f ok x h) i);
    }

facts : (g : Table) (f : Production → Bool) → IsFine g f → (n k : ℕ) (x : Production) (c : Bool) (s : Reading) → length s.rest ≤ n → g.rank x < k → Facts g f x c s
facts g f ok n zero x c s le lt = absurd (omega arith)
facts g f ok zero (suc k) x c s le lt = to_facts g f ok x c s (plain_step g f ok x c s (calls g x (length s.rest)) (bounded g x (length s.rest)) (λ y d t h. elim h [
  | inl p ↦ absurd (omega arith)
  | inr p ↦ facts g f ok zero k y d t (weaker p.0 le) (lower p.1 lt)
]))
  where
    weaker : {a b m : ℕ} → a ≤ b → b ≤ m → a ≤ m
    weaker p q = omega arith

    lower : {a b m : ℕ} → a < b → b < suc m → a < m
    lower p q = omega arith
facts g f ok (suc n) (suc k) x c s le lt = to_facts g f ok x c s (plain_step g f ok x c s (calls g x (length s.rest)) (bounded g x (length s.rest)) (λ y d t h. elim h [
  | inl p ↦ facts g f ok n g.ranks y d t (fewer p le) (fine-rank g f ok y)
  | inr p ↦ facts g f ok (suc n) k y d t (weaker p.0 le) (lower p.1 lt)
]))
  where
    fewer : {a b m : ℕ} → a < b → b ≤ suc m → a ≤ m
    fewer p q = omega arith

    weaker : {a b m : ℕ} → a ≤ b → b ≤ m → a ≤ m
    weaker p q = omega arith

    lower : {a b m : ℕ} → a < b → b < suc m → a < m
    lower p q = omega arith

pub all_facts : (g : Table) (f : Production → Bool) → IsFine g f → (x : Production) (c : Bool) (s : Reading) → Facts g f x c s
all_facts g f ok x c s = facts g f ok (length s.rest) g.ranks x c s (omega arith) (fine-rank g f ok x)

-- THE law: a production gives what its rule gives, and each production that the rule calls gives what it means.
pub meaning_is_plain : (g : Table) (f : Production → Bool) → IsFine g f → (x : Production) (c : Bool) (s : Reading) →
    meaning g x c s ≡ read (look_of g) (meaning g) c (g.rule x) s
meaning_is_plain g f ok x c s = meaning_unfolds g x c s (fine-rank g f ok) ∙ (plain_step g f ok x c s (calls g x (length s.rest)) (bounded g x (length s.rest)) (λ y d t h. all_facts g f ok y d t)).same

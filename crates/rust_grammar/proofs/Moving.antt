-- A test of a table: where this is known, a rule takes a token.
use Rattle.std.proofs.Common.{◌≡◌, ℕ, zero, suc, ◌<◌, ◌≤◌, Bool, true, false, ◌&&◌, ◌||◌, List, length, drop, nat_lt, Option, Some, refl, sym, subst, ◌∙◌, arith, ◌⊎◌, inl, inr, if◌then◌else◌, true≢false}
use Rattle.std.proofs.lemmas.Bool.{cases_Bool, ltb-true, lt-ltb, or_cases}
use Rattle.std.proofs.lemmas.List.{length-drop}
use Rattle.parser_input.specs.Input.{Token}
use Rattle.rust_grammar.specs.Rule.{Production, Rule, Look, Always, Never, Nothing, One, Any, Then, Near, Or, Opt, Star, Node, Wrap, Want, Say, Skip, Split, When, Unless, Call, Continue, Mode, begins, from_start, Lead}
use Rattle.rust_grammar.specs.Meaning.{Reading, Calls, read, sees, fresh, leaf, say, skip, split, node, wrapped, after, turns, led}
use Rattle.rust_grammar.proofs.Plain.{and_l, and_r, some_or_none}
use Rattle.rust_grammar.proofs.Fine.{takes}
use Rattle.rust_grammar.proofs.Known.{either-if, implies, implied, cut, cut-seen}
use Rattle.rust_grammar.proofs.Elsewhere.{from_start-seen, without, without-seen, asked, asked-seen, IsMode}
use Rattle.rust_grammar.proofs.Spelling.{at}
use Rattle.rust_grammar.proofs.Spelled.{chosen, at-seen}
use Rattle.rust_grammar.proofs.Shrinks.{shorter-after, turns-shrink, no-turns}

-- What is taken as known of productions.
pub record Movers : Type 0 where
  -- where each begins
  pub looks : Production → Look
  -- it takes a token wherever one is left
  pub always : Production → Bool
  -- it takes a token where one is left and this is seen
  pub where_seen : Production → Look

-- what is known after a rule that took no token
unfoldable pub unmoved_calls : Movers → Option Bool → Look → Rule → Look
unmoved_calls g m k (Call y) = if g.always y then cut k (asked m (from_start (g.looks y))) else Always
unmoved_calls g m k a = Always

unfoldable pub unmoved_option : Movers → Option Bool → Look → Rule → Look
unmoved_option g m k a = if takes g.always a then cut k (asked m (begins g.looks a)) else Always

unfoldable pub unmoved : Movers → Option Bool → Look → Rule → Look
unmoved g m k (Opt a) = unmoved_option g m k a
unmoved g m k (Star a) = unmoved_calls g m k a
unmoved g m k a = Always

unfoldable pub moves : Movers → Option Bool → Look → Rule → Bool
moves g m k Nothing = false
moves g m k (One x) = nat_lt 0 (length x.parts)
moves g m k Any = true
moves g m k (Then a b) = let second = moves g m (unmoved g m k a) b in if moves g m k a then true else second
moves g m k (Near w a b) = let second = moves g m (unmoved g m k a) b in if moves g m k a then true else second
moves g m k (Or a b) = let l = asked m (begins g.looks a) in moves g m (at k l) a && moves g m (cut k l) b
moves g m k (When l a) = let part = moves g m k a in if implies k Never then true else part
moves g m k (Unless l a) = moves g m k a
moves g m k (Opt a) = let l = asked m (begins g.looks a) in implies k l && moves g m (at k l) a
moves g m k (Star a) = let l = asked m (begins g.looks a) in implies k l && moves g m (at k l) a
moves g m k (Node kind a) = moves g m (without true false k) a
moves g m k (Wrap kind a) = moves g m k a
moves g m k (Want a message) = let l = asked m (begins g.looks a) in implies k l && moves g m (at k l) a
moves g m k (Say message) = implies k Never
moves g m k (Skip message) = true
moves g m k Split = true
moves g m k (Call y) = let begun = implies k (from_start (asked m (g.where_seen y))) in if g.always y then true else begun
moves g m k (Continue y) = let begun = implies k (asked m (g.where_seen y)) in if g.always y then true else begun
moves g m k (Mode d a) = moves g (Some d) (without false true k) a
moves g m k (Lead a) = moves g m (without true false k) a

-- These calls are as it is claimed.
pub record Moved (g : Movers) (call : Calls) : Type 0 where
  pub no_longer : (y : Production) (d : Bool) (t : Reading) → length (call y d t).rest ≤ length t.rest
  pub always : (y : Production) (d : Bool) (t : Reading) → g.always y ≡ true → 0 < length t.rest → length (call y d t).rest < length t.rest
  pub where_seen : (y : Production) (d : Bool) (t : Reading) → sees d t (g.where_seen y) ≡ true → 0 < length t.rest → length (call y d t).rest < length t.rest

fewer : (n : ℕ) (ts : List Token) → 0 < n → 0 < length ts → length (drop n ts) < length ts
fewer n ts p q = omega (arith, length-drop n ts, p, q)

less-or-not : (m n : ℕ) → m ≤ n → (m < n) ⊎ (m ≡ n)
less-or-not m n h = elim (cases_Bool (nat_lt m n)) [
  | inl e ↦ inl (ltb-true m n e)
  | inr e ↦ inr (of (lt-ltb m n) e)
]
  where
    of : (m < n → nat_lt m n ≡ true) → nat_lt m n ≡ false → m ≡ n
    of f e = let g : m < n → ⊥ = λ p. true≢false (sym (f p) ∙ e) in omega (arith, g, h)

first-turn : (n : ℕ) (test : Reading → Bool) (turn : Reading → Reading) (s : Reading) → ((v : Reading) → length (turn v).rest ≤ length v.rest) → test s ≡ true → length (turn s).rest < length s.rest → length s.rest ≤ n → length (turns n test turn s).rest < length s.rest
unfolding turns
first-turn zero test turn s each e lt h = absurd (omega (arith, lt, h))
first-turn (suc n) test turn s each e lt h = rw (e, lt-ltb _ _ lt) (let rest = turns-shrink n test turn (length (turn s).rest) (turn s) each (omega arith) in omega (arith, rest, lt))

module _ (g : Movers) (call : Calls) (ok : Moved g call) where
  less : (r : Rule) (c : Bool) (s : Reading) → length (read g.looks call c r s).rest ≤ length s.rest
  less = shorter-after g.looks call ok.no_longer

  -- where an option took no token it was not there
  abbrev Unmoved : Look → Bool → Reading → Reading → Type 0
  Unmoved l c s t = length t.rest ≡ length s.rest → sees c t l ≡ true

  kept : (k l : Look) (m : Option Bool) (c : Bool) (s t u : Reading) (b : Bool) → IsMode m c → sees c s k ≡ true → (b ≡ true → length u.rest < length s.rest) → sees c s l ≡ b → Unmoved (cut k (asked m l)) c s (if b then u else s)
  kept k l m c s t u true mode h lt e = λ same. absurd (omega (arith, lt refl, same))
  kept k l m c s t u false mode h lt e = λ same. cut-seen c s k (asked m l) (asked-seen c s m l mode ∙ e) h

  claimed : (b : Bool) (l : Look) (c : Bool) (s t : Reading) → (b ≡ true → Unmoved l c s t) → Unmoved (if b then l else Always) c s t
  unfolding sees
  claimed true l c s t e = e refl
  claimed false l c s t e = λ same. refl

  call-moves : (y : Production) (c : Bool) (s : Reading) → g.always y ≡ true → 0 < length s.rest → length (after s (call y c (fresh s))).rest < length s.rest
  unfolding after fresh
  call-moves y c s e some = ok.always y c (fresh s) e some

  two-move : (a b : Rule) (c : Bool) (s : Reading) → (takes g.always a || takes g.always b) ≡ true → 0 < length s.rest → (takes g.always a ≡ true → length (read g.looks call c a s).rest < length s.rest) → (takes g.always b ≡ true → 0 < length (read g.looks call c a s).rest → length (read g.looks call c b (read g.looks call c a s)).rest < length (read g.looks call c a s).rest) → length (read g.looks call c b (read g.looks call c a s)).rest < length s.rest
  two-move a b c s e some one two =
      let t = read g.looks call c a s in
      let first = less a c s in
      let second = less b c t in
      elim (or_cases (takes g.always a) (takes g.always b) e) [
        | inl i ↦ let move = one i in omega (arith, move, second)
        | inr i ↦ elim (some_or_none (length t.rest)) [
          | inl z ↦ let move = two i z in omega (arith, move, first)
          | inr z ↦ omega (arith, z, second, some)
        ]
      ]

  -- what surely takes a token does
  surely-moves : (r : Rule) (c : Bool) (s : Reading) → takes g.always r ≡ true → 0 < length s.rest → length (read g.looks call c r s).rest < length s.rest
  unfolding takes read leaf say skip split fresh node wrapped led after
  surely-moves Nothing c s e some = absurd (true≢false (sym e))
  surely-moves (One x) c s e some = fewer (length x.parts) s.rest (ltb-true _ _ e) some
  surely-moves Any c s e some = fewer 1 s.rest (omega arith) some
  surely-moves (Then a b) c s e some = two-move a b c s e some (λ i. surely-moves a c s i some) (λ i z. surely-moves b c (read g.looks call c a s) i z)
  surely-moves (Near w a b) c s e some = two-move a b c s e some (λ i. surely-moves a c s i some) (λ i z. surely-moves b c (read g.looks call c a s) i z)
  surely-moves (Or a b) c s e some =
      chosen (λ (u : Reading). length u.rest < length s.rest) (sees c s (begins g.looks a)) _ _
      (λ i. surely-moves a c s (and_l (takes g.always a) (takes g.always b) e) some) (λ i. surely-moves b c s (and_r (takes g.always a) (takes g.always b) e) some)
  surely-moves (Opt a) c s e some = absurd (true≢false (sym e))
  surely-moves (Star a) c s e some = absurd (true≢false (sym e))
  surely-moves (Node kind a) c s e some = surely-moves a c (fresh s) e some
  surely-moves (Wrap kind a) c s e some = surely-moves a c s e some
  surely-moves (Want a m) c s e some = absurd (true≢false (sym e))
  surely-moves (Say m) c s e some = absurd (true≢false (sym e))
  surely-moves (Skip m) c s e some = fewer 1 s.rest (omega arith) some
  surely-moves Split c s e some = fewer 1 s.rest (omega arith) some
  surely-moves (When l a) c s e some = surely-moves a c s e some
  surely-moves (Unless l a) c s e some = surely-moves a c s e some
  surely-moves (Call y) c s e some = ok.always y c (fresh s) e some
  surely-moves (Continue y) c s e some = ok.always y c s e some
  surely-moves (Mode d a) c s e some = surely-moves a d s e some
  surely-moves (Lead a) c s e some = surely-moves a c (fresh s) e some

  option-kept : (a : Rule) (m : Option Bool) (k : Look) (c : Bool) (s : Reading) → IsMode m c → sees c s k ≡ true → 0 < length s.rest → Unmoved (unmoved_option g m k a) c s (read g.looks call c (Opt a) s)
  unfolding unmoved_option read
  option-kept a m k c s mode h some = claimed (takes g.always a) _ c s _ (λ e.
      kept k (begins g.looks a) m c s s (read g.looks call c a s) (sees c s (begins g.looks a)) mode h (λ f. surely-moves a c s e some) refl)

  star-kept : (a : Rule) (m : Option Bool) (k : Look) (c : Bool) (s : Reading) → IsMode m c → sees c s k ≡ true → 0 < length s.rest → Unmoved (unmoved_calls g m k a) c s (read g.looks call c (Star a) s)
  unfolding unmoved_calls read begins sees
  star-kept (Call y) m k c s mode h some = claimed (g.always y) _ c s _ (λ e.
      elim (cases_Bool (sees c s (from_start (g.looks y)))) [
        | inl f ↦ λ same. absurd (omega (arith, same, first-turn (length s.rest) (λ t. sees c t (from_start (g.looks y))) (λ v. after v (call y c (fresh v))) s (λ v. less (Call y) c v) f (call-moves y c s e some) (omega arith)))
        | inr f ↦ λ same. subst (λ (u : Reading). sees c u (cut k (asked m (from_start (g.looks y)))) ≡ true) (sym (no-turns (length s.rest) (λ t. sees c t (from_start (g.looks y))) (λ v. after v (call y c (fresh v))) s f)) (cut-seen c s k (asked m (from_start (g.looks y))) (asked-seen c s m (from_start (g.looks y)) mode ∙ f) h)
      ])
  star-kept a m k c s mode h some = λ same. refl

  unmoved-seen : (a : Rule) (m : Option Bool) (k : Look) (c : Bool) (s : Reading) → IsMode m c → sees c s k ≡ true → 0 < length s.rest → Unmoved (unmoved g m k a) c s (read g.looks call c a s)
  unfolding unmoved sees
  unmoved-seen (Opt a) m k c s mode h some = option-kept a m k c s mode h some
  unmoved-seen (Star a) m k c s mode h some = star-kept a m k c s mode h some
  unmoved-seen a m k c s mode h some = λ same. refl

  then-moves : (a b : Rule) (c : Bool) (s : Reading) → (length (read g.looks call c a s).rest ≡ length s.rest → length (read g.looks call c b (read g.looks call c a s)).rest < length (read g.looks call c a s).rest) → length (read g.looks call c b (read g.looks call c a s)).rest < length s.rest
  then-moves a b c s next =
      let t = read g.looks call c a s in
      let one = less a c s in
      let two = less b c t in
      elim (less-or-not (length t.rest) (length s.rest) one) [
        | inl p ↦ omega (arith, p, two)
        | inr p ↦ omega (arith, next p, one)
      ]

  pub takes-token : (r : Rule) (m : Option Bool) (k : Look) (c : Bool) (s : Reading) → moves g m k r ≡ true → IsMode m c → sees c s k ≡ true → 0 < length s.rest → length (read g.looks call c r s).rest < length s.rest
  unfolding moves read leaf say skip split fresh node wrapped led after sees
  takes-token Nothing m k c s e mode h some = absurd (true≢false (sym e))
  takes-token (One x) m k c s e mode h some = fewer (length x.parts) s.rest (ltb-true _ _ e) some
  takes-token Any m k c s e mode h some = fewer 1 s.rest (omega arith) some
  takes-token (Then a b) m k c s e mode h some = elim (either-if (moves g m k a) (moves g m (unmoved g m k a) b) e) [
    | inl i ↦ let one = takes-token a m k c s i mode h some in let two = less b c (read g.looks call c a s) in omega (arith, one, two)
    | inr i ↦ then-moves a b c s (λ same. takes-token b m (unmoved g m k a) c (read g.looks call c a s) i mode (unmoved-seen a m k c s mode h some same) (omega (arith, same, some)))
  ]
  takes-token (Near w a b) m k c s e mode h some = elim (either-if (moves g m k a) (moves g m (unmoved g m k a) b) e) [
    | inl i ↦ let one = takes-token a m k c s i mode h some in let two = less b c (read g.looks call c a s) in omega (arith, one, two)
    | inr i ↦ then-moves a b c s (λ same. takes-token b m (unmoved g m k a) c (read g.looks call c a s) i mode (unmoved-seen a m k c s mode h some same) (omega (arith, same, some)))
  ]
  takes-token (Or a b) m k c s e mode h some =
      let l = begins g.looks a in
      chosen (λ (u : Reading). length u.rest < length s.rest) (sees c s l) _ _
      (λ f. takes-token a m (at k (asked m l)) c s (and_l (moves g m (at k (asked m l)) a) (moves g m (cut k (asked m l)) b) e) mode (at-seen k l m c s mode h f) some)
      (λ f. takes-token b m (cut k (asked m l)) c s (and_r (moves g m (at k (asked m l)) a) (moves g m (cut k (asked m l)) b) e) mode (cut-seen c s k (asked m l) (asked-seen c s m l mode ∙ f) h) some)
  takes-token (When l a) m k c s e mode h some = elim (either-if (implies k Never) (moves g m k a) e) [
    | inl i ↦ absurd (true≢false (sym (implied c s k Never i h)))
    | inr i ↦ takes-token a m k c s i mode h some
  ]
  takes-token (Unless l a) m k c s e mode h some = takes-token a m k c s e mode h some
  takes-token (Opt a) m k c s e mode h some =
      let l = begins g.looks a in
      let f : sees c s l ≡ true = sym (asked-seen c s m l mode) ∙ implied c s k (asked m l) (and_l (implies k (asked m l)) (moves g m (at k (asked m l)) a) e) h in
      rw f (takes-token a m (at k (asked m l)) c s (and_r (implies k (asked m l)) (moves g m (at k (asked m l)) a) e) mode (at-seen k l m c s mode h f) some)
  takes-token (Want a message) m k c s e mode h some =
      let l = begins g.looks a in
      let f : sees c s l ≡ true = sym (asked-seen c s m l mode) ∙ implied c s k (asked m l) (and_l (implies k (asked m l)) (moves g m (at k (asked m l)) a) e) h in
      rw f (takes-token a m (at k (asked m l)) c s (and_r (implies k (asked m l)) (moves g m (at k (asked m l)) a) e) mode (at-seen k l m c s mode h f) some)
  takes-token (Star a) m k c s e mode h some =
      let l = begins g.looks a in
      let f : sees c s l ≡ true = sym (asked-seen c s m l mode) ∙ implied c s k (asked m l) (and_l (implies k (asked m l)) (moves g m (at k (asked m l)) a) e) h in
      first-turn (length s.rest) (λ t. sees c t l) (read g.looks call c a) s (λ v. less a c v) f
      (takes-token a m (at k (asked m l)) c s (and_r (implies k (asked m l)) (moves g m (at k (asked m l)) a) e) mode (at-seen k l m c s mode h f) some) (omega arith)
  takes-token (Node kind a) m k c s e mode h some =
      takes-token a m (without true false k) c (fresh s) e mode (without-seen c c s (fresh s) refl true false (λ f. absurd (true≢false f)) (λ f. refl) k h) some
  takes-token (Wrap kind a) m k c s e mode h some = takes-token a m k c s e mode h some
  takes-token (Say message) m k c s e mode h some = absurd (true≢false (sym (implied c s k Never e h)))
  takes-token (Skip message) m k c s e mode h some = fewer 1 s.rest (omega arith) some
  takes-token Split m k c s e mode h some = fewer 1 s.rest (omega arith) some
  takes-token (Call y) m k c s e mode h some = elim (either-if (g.always y) (implies k (from_start (asked m (g.where_seen y)))) e) [
    | inl i ↦ ok.always y c (fresh s) i some
    | inr i ↦ ok.where_seen y c (fresh s) (sym (asked-seen c (fresh s) m (g.where_seen y) mode) ∙ sym (from_start-seen c s (asked m (g.where_seen y))) ∙ implied c s k (from_start (asked m (g.where_seen y))) i h) some
  ]
  takes-token (Continue y) m k c s e mode h some = elim (either-if (g.always y) (implies k (asked m (g.where_seen y))) e) [
    | inl i ↦ ok.always y c s i some
    | inr i ↦ ok.where_seen y c s (sym (asked-seen c s m (g.where_seen y) mode) ∙ implied c s k (asked m (g.where_seen y)) i h) some
  ]
  takes-token (Mode d a) m k c s e mode h some = takes-token a (Some d) (without false true k) d s e refl (without-seen c d s s refl false true (λ f. refl) (λ f. absurd (true≢false f)) k h) some
  takes-token (Lead a) m k c s e mode h some =
      takes-token a m (without true false k) c (fresh s) e mode (without-seen c c s (fresh s) refl true false (λ f. absurd (true≢false f)) (λ f. refl) k h) some

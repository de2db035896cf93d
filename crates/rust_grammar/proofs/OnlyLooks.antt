-- What satisfies the equations of where productions begin is where they begin.
use Rattle.std.proofs.Common.{◌≡◌, ℕ, zero, suc, ◌<◌, Bool, true, false, not, ◌&&◌, ◌||◌, nat_lt, refl, ap, ◌∙◌, sym, arith, if◌then◌else◌, true≢false}
use Rattle.std.proofs.lemmas.Bool.{ltb-true}
use Rattle.rust_grammar.specs.Rule.{Production, Rule, Look, Both, Either, Not, Nothing, One, Any, Then, Near, Or, Opt, Star, Node, Wrap, Want, Say, Skip, Split, When, Unless, Call, Continue, Mode, Lead, begins, is_silent, passes, in_mode, from_start}
use Rattle.rust_grammar.specs.Meaning.{Table, look_of, begins_below}
use Rattle.rust_grammar.proofs.Plain.{and_l, and_r}

-- A sequence begins as its second part does, too, where the first asks nothing or may give nothing.
unfoldable pub reaches_second : Rule → Bool
reaches_second a = is_silent a || passes a

-- each production whose looks are among those of the rule is one of these
unfoldable pub asks_only : (Production → Bool) → Rule → Bool
asks_only low (Then a b) = (is_silent a || asks_only low a) && (not (reaches_second a) || asks_only low b)
asks_only low (Near w a b) = asks_only low a && asks_only low b
asks_only low (Or a b) = asks_only low a && asks_only low b
asks_only low (Unless l a) = asks_only low a
asks_only low (Opt a) = asks_only low a
asks_only low (Star a) = asks_only low a
asks_only low (Node k a) = asks_only low a
asks_only low (Wrap k a) = asks_only low a
asks_only low (Want a m) = asks_only low a
asks_only low (Call x) = low x
asks_only low (Continue x) = low x
asks_only low (Mode c a) = asks_only low a
asks_only low (Lead a) = asks_only low a
asks_only low a = true

sequence :
    (silent pass : Bool) (a b c d : Look) → (silent ≡ false → a ≡ c) → ((silent || pass) ≡ true → b ≡ d) →
    (if silent then b else (if pass then Either a b else a)) ≡ (if silent then d else (if pass then Either c d else c))
sequence true pass a b c d p q = q refl
sequence false true a b c d p q = rw (p refl, q refl) refl
sequence false false a b c d p q = p refl

pub unless : (b d : Bool) → (b || d) ≡ true → b ≡ false → d ≡ true
unless true d e f = absurd (true≢false f)
unless false d e f = e

pub wherever : (b d : Bool) → (not b || d) ≡ true → b ≡ true → d ≡ true
wherever true d e f = e
wherever false d e f = absurd (true≢false (sym f))

module _ (low : Production → Bool) (f h : Production → Look) (same : (y : Production) → low y ≡ true → f y ≡ h y) where
  same-begins : (r : Rule) → asks_only low r ≡ true → begins f r ≡ begins h r
  unfolding begins asks_only reaches_second
  same-begins Nothing e = refl
  same-begins (One x) e = refl
  same-begins Any e = refl
  same-begins (Then a b) e =
      sequence (is_silent a) (passes a) (begins f a) (begins f b) (begins h a) (begins h b)
      (λ z. same-begins a (unless (is_silent a) (asks_only low a) (and_l (is_silent a || asks_only low a) (not (reaches_second a) || asks_only low b) e) z))
      (λ z. same-begins b (wherever (reaches_second a) (asks_only low b) (and_r (is_silent a || asks_only low a) (not (reaches_second a) || asks_only low b) e) z))
  same-begins (Near w a b) e = rw (same-begins a (and_l (asks_only low a) (asks_only low b) e), same-begins b (and_r (asks_only low a) (asks_only low b) e)) refl
  same-begins (Or a b) e = rw (same-begins a (and_l (asks_only low a) (asks_only low b) e), same-begins b (and_r (asks_only low a) (asks_only low b) e)) refl
  same-begins (When l a) e = refl
  same-begins (Unless l a) e = ap (λ (m : Look). Both (Not l) m) (same-begins a e)
  same-begins (Opt a) e = same-begins a e
  same-begins (Star a) e = same-begins a e
  same-begins (Node kind a) e = ap from_start (same-begins a e)
  same-begins (Wrap kind a) e = same-begins a e
  same-begins (Want a m) e = same-begins a e
  same-begins (Say m) e = refl
  same-begins (Skip m) e = refl
  same-begins Split e = refl
  same-begins (Call x) e = ap from_start (same x e)
  same-begins (Continue x) e = same x e
  same-begins (Mode c a) e = ap (in_mode c) (same-begins a e)
  same-begins (Lead a) e = ap from_start (same-begins a e)

-- A production begins at tokens, or where productions of less depth do.
unfoldable pub asks_less : (depth : Production → ℕ) → Table → Production → Bool
asks_less depth g x = asks_only (λ (y : Production). nat_lt (depth y) (depth x)) (g.rule x)

module _ (depth : Production → ℕ) (g : Table) (asked : (x : Production) → asks_less depth g x ≡ true) (looks : Production → Look) (equation : (x : Production) → looks x ≡ begins looks (g.rule x)) where
  by_depth : (k : ℕ) (x : Production) → depth x < k → looks x ≡ begins_below g k x
  unfolding begins_below asks_less
  by_depth zero x lt = absurd (omega (arith, lt))
  by_depth (suc k) x lt =
      equation x
      ∙ same-begins (λ (y : Production). nat_lt (depth y) (depth x)) looks (begins_below g k)
      (λ y e. let less = ltb-true (depth y) (depth x) e in by_depth k y (omega (arith, less, lt))) (g.rule x) (asked x)

  -- what satisfies the equation of where productions begin is where they do
  pub only-looks : (x : Production) → depth x < g.ranks → looks x ≡ look_of g x
  unfolding look_of
  only-looks x lt = by_depth g.ranks x lt

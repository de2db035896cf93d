-- Looks where no token says that the whole language is read.
use Rattle.std.proofs.Common.{◌≡◌, ℕ, zero, suc, Bool, true, false, not, List, [], ◌∷◌, drop, refl, sym, ap, ◌∙◌, if◌then◌else◌}
use Rattle.parser_input.specs.Input.{Token}
use Rattle.rust_grammar.specs.Rule.{Look, Always, Never, Kind, Contextual, Joint, Whole, Left, InCondition, Given, Both, Either, Not}
use Rattle.rust_grammar.specs.Meaning.{Reading, ahead, sees}
use Rattle.rust_grammar.specs.Kept.{say_nothing}
use Rattle.rust_grammar.proofs.Plain.{and_l, and_r}
use Rattle.rust_grammar.proofs.Known.{is_never, never-seen, same_look, same-look}

unfoldable pub both_quiet : Look → Look → Look
both_quiet Never b = Never
both_quiet Always b = b
both_quiet a Never = Never
both_quiet a Always = a
both_quiet a b = Both a b

unfoldable pub either_quiet : Look → Look → Look
either_quiet Never b = b
either_quiet Always b = Always
either_quiet a Never = a
either_quiet a Always = Always
either_quiet a b = Either a b

unfoldable pub not_quiet : Look → Look
not_quiet Never = Always
not_quiet Always = Never
not_quiet a = Not a

-- what is left of a look
unfoldable pub quiet : Look → Look
quiet (Whole n) = Never
quiet (Both a b) = both_quiet (quiet a) (quiet b)
quiet (Either a b) = either_quiet (quiet a) (quiet b)
quiet (Not a) = not_quiet (quiet a)
quiet l = l

not-true : (b : Bool) → not b ≡ true → b ≡ false
not-true true e = sym e
not-true false e = refl

says-nothing : (n : ℕ) (ts : List Token) → say_nothing ts ≡ true → (ahead n ts).whole ≡ false
unfolding say_nothing ahead
says-nothing n [] e = refl
says-nothing zero (t ∷ ts) e = not-true t.whole (and_l (not t.whole) (say_nothing ts) e)
says-nothing (suc n) (t ∷ ts) e = says-nothing n ts (and_r (not t.whole) (say_nothing ts) e)

pub dropped-nothing : (n : ℕ) (ts : List Token) → say_nothing ts ≡ true → say_nothing (drop n ts) ≡ true
unfolding say_nothing
dropped-nothing zero ts e = e
dropped-nothing (suc n) [] e = e
dropped-nothing (suc n) (t ∷ ts) e = dropped-nothing n ts (and_r (not t.whole) (say_nothing ts) e)

if-false : (b : Bool) → (if b then false else false) ≡ false
if-false true = refl
if-false false = refl

if-self : (b : Bool) → (if b then true else false) ≡ b
if-self true = refl
if-self false = refl

if-true : (b : Bool) → (if b then true else true) ≡ true
if-true true = refl
if-true false = refl

module _ (c : Bool) (s : Reading) where
  both-seen : (a b : Look) → sees c s (both_quiet a b) ≡ (if sees c s a then sees c s b else false)
  unfolding both_quiet sees
  both-seen Never b = refl
  both-seen Always b = refl
  both-seen a Never = sym (if-false (sees c s a))
  both-seen a Always = sym (if-self (sees c s a))
  both-seen a b = refl

  either-seen : (a b : Look) → sees c s (either_quiet a b) ≡ (if sees c s a then true else sees c s b)
  unfolding either_quiet sees
  either-seen Never b = refl
  either-seen Always b = refl
  either-seen a Never = sym (if-self (sees c s a))
  either-seen a Always = sym (if-true (sees c s a))
  either-seen a b = refl

  not-seen : (a : Look) → sees c s (not_quiet a) ≡ not (sees c s a)
  unfolding not_quiet sees
  not-seen Never = refl
  not-seen Always = refl
  not-seen a = refl

  pub quiet-seen : (l : Look) → say_nothing s.rest ≡ true → sees c s (quiet l) ≡ sees c s l
  unfolding quiet sees
  quiet-seen (Whole n) e = sym (says-nothing n s.rest e)
  quiet-seen (Both a b) e = both-seen (quiet a) (quiet b) ∙ rw (quiet-seen a e, quiet-seen b e) refl
  quiet-seen (Either a b) e = either-seen (quiet a) (quiet b) ∙ rw (quiet-seen a e, quiet-seen b e) refl
  quiet-seen (Not a) e = not-seen (quiet a) ∙ ap not (quiet-seen a e)
  quiet-seen Always e = refl
  quiet-seen Never e = refl
  quiet-seen (Kind n k) e = refl
  quiet-seen (Contextual n k) e = refl
  quiet-seen (Joint n) e = refl
  quiet-seen Left e = refl
  quiet-seen InCondition e = refl
  quiet-seen Given e = refl

-- two looks between which only the whole language makes a difference
unfoldable pub alike : Look → Look → Bool
alike k l = same_look (quiet k) (quiet l)

pub alike-seen : (k l : Look) (c : Bool) (s : Reading) → alike k l ≡ true → say_nothing s.rest ≡ true → sees c s k ≡ sees c s l
unfolding alike
alike-seen k l c s e n = sym (quiet-seen c s k n) ∙ ap (λ (m : Look). sees c s m) (same-look (quiet k) (quiet l) e) ∙ quiet-seen c s l n

-- a look that is seen in the whole language alone
unfoldable pub is_new : Look → Bool
is_new l = is_never (quiet l)

pub new-unseen : (l : Look) (c : Bool) (s : Reading) → is_new l ≡ true → say_nothing s.rest ≡ true → sees c s l ≡ false
unfolding is_new
new-unseen l c s e n = sym (quiet-seen c s l n) ∙ never-seen c s (quiet l) e

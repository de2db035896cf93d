-- What is left of a look at another place: where something else is given, in another mode, further on.
use Rattle.std.proofs.Common.{◌≡◌, ℕ, ◌-◌, Bool, true, false, not, ◌&&◌, ◌==◌, List, length, drop, nat_lt, Option, Some, None, refl, sym, ap, ◌∙◌, inl, inr, if◌then◌else◌, true≢false}
use Rattle.std.proofs.lemmas.Bool.{cases_Bool}
use Rattle.parser_input.specs.Input.{Token}
use Rattle.rust_grammar.specs.Rule.{Look, Always, Never, Kind, Contextual, Joint, Whole, Left, InCondition, Given, Both, Either, Not, shift, in_mode, from_start}
use Rattle.rust_grammar.specs.Meaning.{Reading, ahead, sees, fresh, is_end}
use Rattle.rust_grammar.proofs.Plain.{and_l, and_r}
use Rattle.rust_grammar.proofs.Parts.{asks_tokens, shifted}
use Rattle.rust_grammar.proofs.Known.{either-if, both-if-l, both-if-r, if-first, if-second, if-both, neither-l, neither-r, same_look, same-look}

-- whether a look asks what is given, or for condition mode
unfoldable pub asks : (given condition : Bool) → Look → Bool
asks g d Given = g
asks g d InCondition = d
asks g d (Both a b) = if asks g d a then true else asks g d b
asks g d (Either a b) = if asks g d a then true else asks g d b
asks g d (Not a) = asks g d a
asks g d l = false

-- what is left of a look that must not ask so
unfoldable pub without : (given condition : Bool) → Look → Look
without g d Given = if g then Always else Given
without g d InCondition = if d then Always else InCondition
without g d (Both a b) = Both (without g d a) (without g d b)
without g d (Either a b) = Either (without g d a) (without g d b)
without g d (Not a) = if asks g d a then Always else Not a
without g d l = l

-- a lookahead from `n` tokens further on
unfoldable pub down : ℕ → Look → Look
down n (Kind m k) = Kind (m - n) k
down n (Contextual m k) = Contextual (m - n) k
down n (Joint m) = Joint (m - n)
down n (Whole m) = Whole (m - n)
down n (Both a b) = Both (down n a) (down n b)
down n (Either a b) = Either (down n a) (down n b)
down n (Not a) = Not (down n a)
down n l = l

unfoldable pub all_down : ℕ → Look → Look
all_down n l = let m = down n l in if same_look (shift n m) l && asks_tokens m then m else Always

-- the part of a lookahead that can still be asked after `n` tokens
unfoldable pub back : ℕ → Look → Look
back n (Both a b) = Both (back n a) (back n b)
back n (Either a b) = Either (back n a) (back n b)
back n l = all_down n l

-- the look where the mode is known
unfoldable pub asked : Option Bool → Look → Look
asked None l = l
asked (Some d) l = in_mode d l

abbrev pub IsMode : Option Bool → Bool → Type 0
IsMode None c = Unit {0}
IsMode (Some d) c = d ≡ c

module _ (c : Bool) (s : Reading) where
  pub from_start-seen : (l : Look) → sees c s (from_start l) ≡ sees c (fresh s) l
  unfolding from_start sees fresh is_end
  from_start-seen Given = refl
  from_start-seen (Both a b) = rw (from_start-seen a, from_start-seen b) refl
  from_start-seen (Either a b) = rw (from_start-seen a, from_start-seen b) refl
  from_start-seen (Not a) = ap not (from_start-seen a)
  from_start-seen Always = refl
  from_start-seen Never = refl
  from_start-seen (Kind n k) = refl
  from_start-seen (Contextual n k) = refl
  from_start-seen (Joint n) = refl
  from_start-seen (Whole n) = refl
  from_start-seen Left = refl
  from_start-seen InCondition = refl

  mode-seen : (l : Look) → sees c s (in_mode c l) ≡ sees c s l
  unfolding sees in_mode from_start
  mode-seen InCondition = of c
    where
      of : (b : Bool) → sees c s (if b then Always else Never) ≡ b
      of true = refl
      of false = refl
  mode-seen (Both a b) = rw (mode-seen a, mode-seen b) refl
  mode-seen (Either a b) = rw (mode-seen a, mode-seen b) refl
  mode-seen (Not a) = ap not (mode-seen a)
  mode-seen Always = refl
  mode-seen Never = refl
  mode-seen (Kind n k) = refl
  mode-seen (Contextual n k) = refl
  mode-seen (Joint n) = refl
  mode-seen (Whole n) = refl
  mode-seen Left = refl
  mode-seen Given = refl

  pub asked-seen : (m : Option Bool) (l : Look) → IsMode m c → sees c s (asked m l) ≡ sees c s l
  unfolding asked
  asked-seen None l i = refl
  asked-seen (Some d) l i = ap (λ (b : Bool). sees c s (in_mode b l)) i ∙ mode-seen l

-- From one place to another with the same tokens, where what is given is asked or is the same, and so the mode.
module _ (c d : Bool) (s t : Reading) (rest : t.rest ≡ s.rest) (g b : Bool) (given : g ≡ false → is_end t.given ≡ is_end s.given) (mode : b ≡ false → d ≡ c) where
  unasked : (l : Look) → asks g b l ≡ false → sees d t l ≡ sees c s l
  unfolding sees asks
  unasked Given e = ap not (given e)
  unasked InCondition e = mode e
  unasked (Both x y) e = rw (unasked x (neither-l (asks g b x) (asks g b y) e), unasked y (neither-r (asks g b x) (asks g b y) e)) refl
  unasked (Either x y) e = rw (unasked x (neither-l (asks g b x) (asks g b y) e), unasked y (neither-r (asks g b x) (asks g b y) e)) refl
  unasked (Not x) e = ap not (unasked x e)
  unasked Always e = refl
  unasked Never e = refl
  unasked (Kind n k) e = ap (λ (ts : List Token). (ahead n ts).kind == k) rest
  unasked (Contextual n k) e = ap (λ (ts : List Token). (ahead n ts).contextual == k) rest
  unasked (Joint n) e = ap (λ (ts : List Token). (ahead n ts).joint) rest
  unasked (Whole n) e = ap (λ (ts : List Token). (ahead n ts).whole) rest
  unasked Left e = ap (λ (ts : List Token). nat_lt 0 (length ts)) rest

  unless-dropped : (a : Bool) (l : Look) → (a ≡ false → sees d t l ≡ sees c s l) → sees c s l ≡ true → sees d t (if a then Always else l) ≡ true
  unfolding sees
  unless-dropped true l same h = refl
  unless-dropped false l same h = same refl ∙ h

  pub without-seen : (l : Look) → sees c s l ≡ true → sees d t (without g b l) ≡ true
  unfolding sees without asks
  without-seen Given h = unless-dropped g Given (unasked Given) h
  without-seen InCondition h = unless-dropped b InCondition (unasked InCondition) h
  without-seen (Both x y) h = if-both (sees d t (without g b x)) (sees d t (without g b y)) (without-seen x (both-if-l (sees c s x) (sees c s y) h)) (without-seen y (both-if-r (sees c s x) (sees c s y) h))
  without-seen (Either x y) h = elim (either-if (sees c s x) (sees c s y) h) [
    | inl i ↦ if-first (sees d t (without g b x)) (sees d t (without g b y)) (without-seen x i)
    | inr i ↦ if-second (sees d t (without g b x)) (sees d t (without g b y)) (without-seen y i)
  ]
  without-seen (Not x) h = unless-dropped (asks g b x) (Not x) (unasked (Not x)) h
  without-seen Always h = refl
  without-seen Never h = h
  without-seen (Kind n k) h = unasked (Kind n k) refl ∙ h
  without-seen (Contextual n k) h = unasked (Contextual n k) refl ∙ h
  without-seen (Joint n) h = unasked (Joint n) refl ∙ h
  without-seen (Whole n) h = unasked (Whole n) refl ∙ h
  without-seen Left h = unasked Left refl ∙ h

-- From a place to the one `n` tokens further on.
module _ (c : Bool) (s t : Reading) (n : ℕ) (rest : t.rest ≡ drop n s.rest) where
  further : (l : Look) → asks_tokens l ≡ true → sees c t l ≡ sees c (record { given = s.given; rest = drop n s.rest }) l
  unfolding sees asks_tokens
  further Always e = refl
  further Never e = refl
  further (Kind m k) e = ap (λ (ts : List Token). (ahead m ts).kind == k) rest
  further (Contextual m k) e = ap (λ (ts : List Token). (ahead m ts).contextual == k) rest
  further (Joint m) e = ap (λ (ts : List Token). (ahead m ts).joint) rest
  further (Whole m) e = ap (λ (ts : List Token). (ahead m ts).whole) rest
  further Left e = absurd (true≢false (sym e))
  further Given e = absurd (true≢false (sym e))
  further InCondition e = refl
  further (Both a b) e = rw (further a (and_l (asks_tokens a) (asks_tokens b) e), further b (and_r (asks_tokens a) (asks_tokens b) e)) refl
  further (Either a b) e = rw (further a (and_l (asks_tokens a) (asks_tokens b) e), further b (and_r (asks_tokens a) (asks_tokens b) e)) refl
  further (Not a) e = ap not (further a e)

  down-seen : (l : Look) → sees c s l ≡ true → sees c t (all_down n l) ≡ true
  unfolding all_down sees
  down-seen l h = elim (cases_Bool (same_look (shift n (down n l)) l && asks_tokens (down n l))) [
    | inl e ↦
        let same = same-look (shift n (down n l)) l (and_l (same_look (shift n (down n l)) l) (asks_tokens (down n l)) e) in
        let tokens = and_r (same_look (shift n (down n l)) l) (asks_tokens (down n l)) e in
        rw e (further (down n l) tokens ∙ sym (shifted c n (down n l) s tokens) ∙ ap (λ (k : Look). sees c s k) same ∙ h)
    | inr e ↦ rw e refl
  ]

  pub back-seen : (l : Look) → sees c s l ≡ true → sees c t (back n l) ≡ true
  unfolding back sees
  back-seen (Both a b) h = if-both (sees c t (back n a)) (sees c t (back n b)) (back-seen a (both-if-l (sees c s a) (sees c s b) h)) (back-seen b (both-if-r (sees c s a) (sees c s b) h))
  back-seen (Either a b) h = elim (either-if (sees c s a) (sees c s b) h) [
    | inl i ↦ if-first (sees c t (back n a)) (sees c t (back n b)) (back-seen a i)
    | inr i ↦ if-second (sees c t (back n a)) (sees c t (back n b)) (back-seen b i)
  ]
  back-seen Always h = down-seen Always h
  back-seen Never h = down-seen Never h
  back-seen (Kind m k) h = down-seen (Kind m k) h
  back-seen (Contextual m k) h = down-seen (Contextual m k) h
  back-seen (Joint m) h = down-seen (Joint m) h
  back-seen (Whole m) h = down-seen (Whole m) h
  back-seen Left h = down-seen Left h
  back-seen InCondition h = down-seen InCondition h
  back-seen Given h = down-seen Given h
  back-seen (Not a) h = down-seen (Not a) h

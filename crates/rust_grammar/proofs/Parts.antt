-- What holds of the parts of rules, and of looks, told by tests.
use Rattle.std.proofs.Common.{◌≡◌, ℕ, zero, suc, ◌+◌, ◌<◌, ◌≤◌, Bool, true, false, not, ◌&&◌, ◌||◌, List, [], ◌∷◌, length, drop, nat_lt, ◌==◌, refl, sym, ap, subst, ◌∙◌, arith, inl, inr, if◌then◌else◌, true≢false, All}
use Rattle.std.proofs.lemmas.Bool.{ltb-true, lt-ltb, or_cases}
use Rattle.std.proofs.lemmas.List.Elements.{All-nil, All-cons}
use Rattle.parser_input.specs.Kinds.{EOF}
use Rattle.parser_input.specs.Input.{Token}
use Rattle.parser_events.specs.Forest.{Forest}
use Rattle.rust_grammar.specs.Rule.{Rule, Look, Always, Never, Kind, Contextual, Joint, Whole, Left, InCondition, Given, Both, Either, Not, shift}
use Rattle.rust_grammar.specs.Meaning.{Reading, ahead, sees, fresh, turns}
use Rattle.rust_grammar.proofs.Plain.{and_l, and_r}

unfoldable pub every : (Rule → Bool) → List Rule → Bool
every p [] = true
every p (r ∷ rs) = p r && every p rs

pub all-from : (p : Rule → Bool) (P : Rule → Type 0) → ((r : Rule) → p r ≡ true → P r) → (rs : List Rule) → every p rs ≡ true → All P rs
unfolding every
all-from p P sound [] e = All-nil P
all-from p P sound (r ∷ rs) e = All-cons P r rs (sound r (and_l (p r) (every p rs) e)) (all-from p P sound rs (and_r (p r) (every p rs) e))

-- a look that surely answers this where no token is left
unfoldable pub at_end : Bool → Look → Bool
at_end true Always = true
at_end true (Kind n k) = EOF == k
at_end true (Contextual n k) = EOF == k
at_end true (Both a b) = at_end true a && at_end true b
at_end true (Either a b) = at_end true a || at_end true b
at_end true (Not a) = at_end false a
at_end true l = false
at_end false Never = true
at_end false (Kind n k) = not (EOF == k)
at_end false (Contextual n k) = not (EOF == k)
at_end false (Joint n) = true
at_end false (Whole n) = true
at_end false Left = true
at_end false (Both a b) = at_end false a || at_end false b
at_end false (Either a b) = at_end false a && at_end false b
at_end false (Not a) = at_end true a
at_end false l = false

is_not : (b : Bool) → not b ≡ true → b ≡ false
is_not true e = sym e
is_not false e = refl

or_true : (a b : Bool) → b ≡ true → (if a then true else b) ≡ true
or_true true b e = refl
or_true false b e = e

and_false : (a b : Bool) → b ≡ false → (if a then b else false) ≡ false
and_false true b e = e
and_false false b e = refl

seen : (b : Bool) (l : Look) (c : Bool) (v : Forest) → at_end b l ≡ true → sees c (record { given = v; rest = [] }) l ≡ b
unfolding at_end sees ahead
seen true Always c v e = refl
seen true Never c v e = absurd (true≢false (sym e))
seen true (Kind n k) c v e = e
seen true (Contextual n k) c v e = e
seen true (Joint n) c v e = absurd (true≢false (sym e))
seen true (Whole n) c v e = absurd (true≢false (sym e))
seen true Left c v e = absurd (true≢false (sym e))
seen true InCondition c v e = absurd (true≢false (sym e))
seen true Given c v e = absurd (true≢false (sym e))
seen true (Both a b) c v e = rw (seen true a c v (and_l (at_end true a) (at_end true b) e), seen true b c v (and_r (at_end true a) (at_end true b) e)) refl
seen true (Either a b) c v e = elim (or_cases (at_end true a) (at_end true b) e) [
  | inl h ↦ rw (seen true a c v h) refl
  | inr h ↦ or_true (sees c (record { given = v; rest = [] }) a) (sees c (record { given = v; rest = [] }) b) (seen true b c v h)
]
seen true (Not a) c v e = ap not (seen false a c v e)
seen false Always c v e = absurd (true≢false (sym e))
seen false Never c v e = refl
seen false (Kind n k) c v e = is_not (EOF == k) e
seen false (Contextual n k) c v e = is_not (EOF == k) e
seen false (Joint n) c v e = refl
seen false (Whole n) c v e = refl
seen false Left c v e = refl
seen false InCondition c v e = absurd (true≢false (sym e))
seen false Given c v e = absurd (true≢false (sym e))
seen false (Both a b) c v e = elim (or_cases (at_end false a) (at_end false b) e) [
  | inl h ↦ rw (seen false a c v h) refl
  | inr h ↦ and_false (sees c (record { given = v; rest = [] }) a) (sees c (record { given = v; rest = [] }) b) (seen false b c v h)
]
seen false (Either a b) c v e = rw (seen false a c v (and_l (at_end false a) (at_end false b) e), seen false b c v (and_r (at_end false a) (at_end false b) e)) refl
seen false (Not a) c v e = ap not (seen true a c v e)

none-left : (ts : List Token) → length ts ≡ 0 → ts ≡ []
none-left [] e = refl
none-left (t ∷ ts) e = absurd (omega (arith, e))

pub seen-at-end : (b : Bool) (l : Look) (c : Bool) (s : Reading) → length s.rest ≡ 0 → at_end b l ≡ true → sees c s l ≡ b
seen-at-end b l c s none e =
    subst (λ (ts : List Token). sees c (record { given = s.given; rest = ts }) l ≡ b) (sym (none-left s.rest none)) (seen b l c s.given e)

-- A repetition whose rule does not begin where no token is left is read turn by turn.
module _ (test : Reading → Bool) (turn : Reading → Reading) (ends : (t : Reading) → length t.rest ≡ 0 → test t ≡ false) where
  stays : (n : ℕ) (s : Reading) → test s ≡ false → turns n test turn s ≡ s
  unfolding turns
  stays zero s e = refl
  stays (suc n) s e = rw e refl

  both : (n m : ℕ) (s : Reading) (b d : Bool) → (d ≡ true → turns n test turn (turn s) ≡ turns m test turn (turn s)) →
      (if b then (if d then turns n test turn (turn s) else turn s) else s) ≡ (if b then (if d then turns m test turn (turn s) else turn s) else s)
  both n m s false d h = refl
  both n m s true false h = refl
  both n m s true true h = h refl

  -- more turns than tokens change nothing
  enough : (n m : ℕ) (s : Reading) → length s.rest ≤ n → length s.rest ≤ m → turns n test turn s ≡ turns m test turn s
  unfolding turns
  enough zero m s p q = sym (stays m s (ends s (omega (arith, p))))
  enough (suc n) zero s p q = stays (suc n) s (ends s (omega (arith, q)))
  enough (suc n) (suc m) s p q =
      both n m s (test s) (nat_lt (length (turn s).rest) (length s.rest)) (λ e.
      let less = ltb-true (length (turn s).rest) (length s.rest) e in
      enough n m (turn s) (omega (arith, p, less)) (omega (arith, q, less)))

  pub turn-by-turn : (s : Reading) →
      turns (length s.rest) test turn s
      ≡ (if test s then (if nat_lt (length (turn s).rest) (length s.rest) then turns (length (turn s).rest) test turn (turn s) else turn s) else s)
  unfolding turns
  turn-by-turn s = from (length s.rest) refl
    where
      from : (n : ℕ) → n ≡ length s.rest →
          turns n test turn s
          ≡ (if test s then (if nat_lt (length (turn s).rest) (length s.rest) then turns (length (turn s).rest) test turn (turn s) else turn s) else s)
      from zero is = rw (ends s (sym is)) refl
      from (suc n) is = both n (length (turn s).rest) s (test s) (nat_lt (length (turn s).rest) (length s.rest)) (λ e.
          let less = ltb-true (length (turn s).rest) (length s.rest) e in
          enough n (length (turn s).rest) (turn s) (omega (arith, is, less)) (omega arith))

-- a look that asks tokens alone
unfoldable pub asks_tokens : Look → Bool
asks_tokens Left = false
asks_tokens Given = false
asks_tokens (Both a b) = asks_tokens a && asks_tokens b
asks_tokens (Either a b) = asks_tokens a && asks_tokens b
asks_tokens (Not a) = asks_tokens a
asks_tokens l = true

past : (m n : ℕ) (ts : List Token) → ahead n (drop m ts) ≡ ahead (n + m) ts
unfolding ahead
past zero n ts = let none : n ≡ n + 0 = omega arith in ap (λ (k : ℕ). ahead k ts) none
past (suc m) n [] = refl
past (suc m) n (t ∷ ts) = let more : suc (n + m) ≡ n + suc m = omega arith in past m n ts ∙ ap (λ (k : ℕ). ahead k (t ∷ ts)) more

pub shifted : (c : Bool) (m : ℕ) (l : Look) (s : Reading) → asks_tokens l ≡ true → sees c s (shift m l) ≡ sees c (record { given = s.given; rest = drop m s.rest }) l
unfolding sees shift asks_tokens
shifted c m Always s e = refl
shifted c m Never s e = refl
shifted c m (Kind n k) s e = ap (λ (u : Token). u.kind == k) (sym (past m n s.rest))
shifted c m (Contextual n k) s e = ap (λ (u : Token). u.contextual == k) (sym (past m n s.rest))
shifted c m (Joint n) s e = ap (λ (u : Token). u.joint) (sym (past m n s.rest))
shifted c m (Whole n) s e = ap (λ (u : Token). u.whole) (sym (past m n s.rest))
shifted c m Left s e = absurd (true≢false (sym e))
shifted c m InCondition s e = refl
shifted c m Given s e = absurd (true≢false (sym e))
shifted c m (Both a b) s e = rw (shifted c m a s (and_l (asks_tokens a) (asks_tokens b) e), shifted c m b s (and_r (asks_tokens a) (asks_tokens b) e)) refl
shifted c m (Either a b) s e = rw (shifted c m a s (and_l (asks_tokens a) (asks_tokens b) e), shifted c m b s (and_r (asks_tokens a) (asks_tokens b) e)) refl
shifted c m (Not a) s e = ap not (shifted c m a s e)

-- a look that is there wherever a token is left
unfoldable pub is_sure : Look → Bool
is_sure Always = true
is_sure Left = true
is_sure (Either a b) = is_sure a || is_sure b
is_sure l = false

-- a look to which it makes no difference what was given, where a token is left
unfoldable pub ignores_given : Look → Bool
ignores_given Given = false
ignores_given (Both a b) = ignores_given a && ignores_given b
ignores_given (Either a b) = is_sure (Either a b) || (ignores_given a && ignores_given b)
ignores_given (Not a) = ignores_given a
ignores_given l = true

sure : (c : Bool) (s : Reading) → 0 < length s.rest → (l : Look) → is_sure l ≡ true → sees c s l ≡ true
unfolding sees is_sure
sure c s some Always e = refl
sure c s some Left e = lt-ltb 0 (length s.rest) some
sure c s some (Either a b) e = elim (or_cases (is_sure a) (is_sure b) e) [
  | inl h ↦ rw (sure c s some a h) refl
  | inr h ↦ or_true (sees c s a) (sees c s b) (sure c s some b h)
]
sure c s some Never e = absurd (true≢false (sym e))
sure c s some (Kind n k) e = absurd (true≢false (sym e))
sure c s some (Contextual n k) e = absurd (true≢false (sym e))
sure c s some (Joint n) e = absurd (true≢false (sym e))
sure c s some (Whole n) e = absurd (true≢false (sym e))
sure c s some InCondition e = absurd (true≢false (sym e))
sure c s some Given e = absurd (true≢false (sym e))
sure c s some (Both a b) e = absurd (true≢false (sym e))
sure c s some (Not a) e = absurd (true≢false (sym e))

pub given-ignored : (c : Bool) (s : Reading) → 0 < length s.rest → (l : Look) → ignores_given l ≡ true → sees c s l ≡ sees c (fresh s) l
unfolding sees ignores_given fresh
given-ignored c s some Always e = refl
given-ignored c s some Never e = refl
given-ignored c s some (Kind n k) e = refl
given-ignored c s some (Contextual n k) e = refl
given-ignored c s some (Joint n) e = refl
given-ignored c s some (Whole n) e = refl
given-ignored c s some Left e = refl
given-ignored c s some InCondition e = refl
given-ignored c s some Given e = absurd (true≢false (sym e))
given-ignored c s some (Both a b) e = rw (given-ignored c s some a (and_l (ignores_given a) (ignores_given b) e), given-ignored c s some b (and_r (ignores_given a) (ignores_given b) e)) refl
given-ignored c s some (Either a b) e = elim (or_cases (is_sure (Either a b)) (ignores_given a && ignores_given b) e) [
  | inl h ↦ sure c s some (Either a b) h ∙ sym (sure c (fresh s) some (Either a b) h)
  | inr h ↦ rw (given-ignored c s some a (and_l (ignores_given a) (ignores_given b) h), given-ignored c s some b (and_r (ignores_given a) (ignores_given b) h)) refl
]
given-ignored c s some (Not a) e = ap not (given-ignored c s some a e)

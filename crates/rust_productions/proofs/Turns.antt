-- Repetitions that are read turn by turn.
use Rattle.std.proofs.Common.{◌≡◌, ℕ, zero, suc, ◌<◌, ◌≤◌, Bool, true, false, length, nat_lt, refl, sym, ap, ◌∙◌, arith, true≢false, if◌then◌else◌}
use Rattle.std.proofs.lemmas.Bool.{ltb-true, lt-ltb, le-ltb}
use Rattle.parser_events.specs.View.{View}
use Rattle.rust_productions.specs.Stands.{left}
use Rattle.rust_grammar.specs.Rule.{Rule, Star, begins}
use Rattle.rust_grammar.specs.Meaning.{Reading, sees, read, look_of, meaning, turns}
use Rattle.rust_grammar.specs.Whole.{whole}
use Rattle.rust_productions.specs.Reads.{looks, Does, Reads, Saw, Condition, is_on}
use Rattle.rust_productions.specs.Turns.{TurnsFrom}
use Rattle.rust_productions.proofs.ByHand.{does-then, does-as}

module _ (test : Reading → Bool) (turn : Reading → Reading) (ends : (t : Reading) → length t.rest ≡ 0 → test t ≡ false) where
  stays : (n : ℕ) (s : Reading) → test s ≡ false → turns n test turn s ≡ s
  unfolding turns
  stays zero s e = refl
  stays (suc n) s e = rw e refl

  both :
      (n m : ℕ) (s : Reading) (b d : Bool) → (d ≡ true → turns n test turn (turn s) ≡ turns m test turn (turn s))
      → (if b then (if d then turns n test turn (turn s) else turn s) else s) ≡ (if b then (if d then turns m test turn (turn s) else turn s) else s)
  both n m s false d h = refl
  both n m s true false h = refl
  both n m s true true h = h refl

  -- turns for which no token is left change nothing
  enough : (n m : ℕ) (s : Reading) → length s.rest ≤ n → length s.rest ≤ m → turns n test turn s ≡ turns m test turn s
  unfolding turns
  enough zero m s p q = sym (stays m s (ends s (omega (arith, p))))
  enough (suc n) zero s p q = stays (suc n) s (ends s (omega (arith, q)))
  enough (suc n) (suc m) s p q =
      both n m s (test s) (nat_lt (length (turn s).rest) (length s.rest)) (λ e.
      let less = ltb-true (length (turn s).rest) (length s.rest) e in
      enough n m (turn s) (omega (arith, p, less)) (omega (arith, q, less)))

  -- a turn, and those after it
  pub one-turn : (s : Reading) → test s ≡ true → length (turn s).rest < length s.rest → turns (length s.rest) test turn s ≡ turns (length (turn s).rest) test turn (turn s)
  unfolding turns
  one-turn s e less = first (length s.rest) refl
    where
      first : (n : ℕ) → n ≡ length s.rest → turns n test turn s ≡ turns (length (turn s).rest) test turn (turn s)
      first zero is = absurd (omega (arith, is, less))
      first (suc n) is = rw (e, lt-ltb (length (turn s).rest) (length s.rest) less) (enough n (length (turn s).rest) (turn s) (omega (arith, is, less)) (omega arith))

  -- a turn that takes no token is the last
  pub once-only : (s : Reading) → test s ≡ true → length (turn s).rest ≡ length s.rest → turns (length s.rest) test turn s ≡ turn s
  unfolding turns
  once-only s e same = once (length s.rest) refl
    where
      once : (n : ℕ) → n ≡ length s.rest → turns n test turn s ≡ turn s
      once zero is = absurd (true≢false (sym e ∙ ends s (sym is)))
      once (suc n) is = rw (e, le-ltb (length (turn s).rest) (length s.rest) (omega (arith, same))) refl

  pub no-turn : (s : Reading) → test s ≡ false → turns (length s.rest) test turn s ≡ s
  no-turn s e = stays (length s.rest) s e

pub first-turn : {c : Condition} {a : Rule} {v : View} → TurnsFrom c a v v
first-turn = record { rest = λ end p. p }

-- The rule does not begin where no token is left.
abbrev pub EndsAtEnd : Condition → Rule → Type 0
EndsAtEnd c a = (t : Reading) → length t.rest ≡ 0 → sees (is_on c) t (begins looks a) ≡ false

module _ (c : Condition) (a : Rule) (ends : EndsAtEnd c a) where
  abbrev test : Reading → Bool
  test t = sees (is_on c) t (begins looks a)

  abbrev turn : Reading → Reading
  turn = read (look_of whole) (meaning whole) (is_on c) a

  -- one more turn, which takes a token
  pub next-turn : (entry now next : View) → TurnsFrom c a entry now → Saw c (begins looks a) now true → Reads c a now next → length (left next) < length (left now) → TurnsFrom c a entry next
  unfolding read
  next-turn entry now next at saw p less = record {
    rest = λ end q.
        at.rest end (record {
          does = does-as (λ s e. sym (one-turn test turn ends s (saw.at s e) (shorter s e))) (does-then p.does q.does);
        });
  }
    where
      shorter : (s : Reading) → left now ≡ s.rest → length (turn s).rest < length s.rest
      shorter s e = omega (arith, less, ap (λ ts. length ts) (p.does.rest s e), ap (λ ts. length ts) e)

  -- a turn that takes no token is the last
  pub idle-turn : (entry now next : View) → TurnsFrom c a entry now → Saw c (begins looks a) now true → Reads c a now next → length (left next) ≡ length (left now) → Reads c (Star a) entry next
  unfolding read
  idle-turn entry now next at saw p same = at.rest next (record { does = does-as (λ s e. sym (idle s (saw.at s e) (as-long s e))) p.does })
    where
      as-long : (s : Reading) → left now ≡ s.rest → length (turn s).rest ≡ length s.rest
      as-long s e = sym (ap (λ ts. length ts) (p.does.rest s e)) ∙ same ∙ ap (λ ts. length ts) e

      idle : (s : Reading) → test s ≡ true → length (turn s).rest ≡ length s.rest → turns (length s.rest) test turn s ≡ turn s
      idle s e same = once-only test turn ends s e same

  -- no turn is left
  pub last-turn : (entry now end : View) → TurnsFrom c a entry now → Saw c (begins looks a) now false → Does (λ s. s) now end → Reads c (Star a) entry end
  unfolding read
  last-turn entry now end at saw p = at.rest end (record { does = does-as (λ s e. sym (no-turn test turn ends s (saw.at s e))) p })

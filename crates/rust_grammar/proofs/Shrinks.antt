-- What a rule leaves is no longer than what it began with; a repetition ends where its rule does not begin.
use Rattle.std.proofs.Common.{◌≡◌, ℕ, zero, suc, ◌<◌, ◌≤◌, Bool, true, false, List, length, drop, nat_lt, refl, arith, inl, inr}
use Rattle.std.proofs.lemmas.Bool.{cases_Bool, lt-ltb}
use Rattle.std.proofs.lemmas.List.{length-drop}
use Rattle.parser_input.specs.Input.{Token}
use Rattle.rust_grammar.specs.Rule.{Production, Look, Rule, Nothing, One, Any, Then, Near, Or, Opt, Star, Node, Wrap, Want, Say, Skip, Split, When, Unless, Call, Continue, Mode, Lead, begins}
use Rattle.rust_grammar.specs.Meaning.{Reading, Calls, read, meaning, sees, look_of, leaf, say, skip, split, fresh, node, wrapped, led, after, turns}
use Rattle.rust_grammar.specs.Whole.{whole}
use Rattle.rust_grammar.proofs.Plain.{all_facts}
use Rattle.rust_grammar.proofs.WholeTable.{claim, all_fine}
use Rattle.rust_grammar.proofs.Spelled.{chosen}

shorter : (n : ℕ) (ts : List Token) → length (drop n ts) ≤ length ts
shorter n ts = omega (arith, length-drop n ts)

pub turns-shrink : (n : ℕ) (test : Reading → Bool) (turn : Reading → Reading) (m : ℕ) (s : Reading) → ((v : Reading) → length (turn v).rest ≤ length v.rest) → length s.rest ≤ m → length (turns n test turn s).rest ≤ m
unfolding turns
turns-shrink zero test turn m s each h = h
turns-shrink (suc n) test turn m s each h =
    let one : length (turn s).rest ≤ m = omega (arith, each s, h) in
    chosen (λ (u : Reading). length u.rest ≤ m) (test s) _ _
    (λ e. chosen (λ (u : Reading). length u.rest ≤ m) (nat_lt (length (turn s).rest) (length s.rest)) _ _ (λ f. turns-shrink n test turn m (turn s) each one) (λ f. one))
    (λ e. h)

module _ (looks : Production → Look) (call : Calls) (less : (y : Production) (d : Bool) (t : Reading) → length (call y d t).rest ≤ length t.rest) where
  pub shorter-after : (r : Rule) (c : Bool) (s : Reading) → length (read looks call c r s).rest ≤ length s.rest
  unfolding read leaf say skip split fresh node wrapped led after
  shorter-after Nothing c s = omega arith
  shorter-after (One x) c s = shorter (length x.parts) s.rest
  shorter-after Any c s = shorter 1 s.rest
  shorter-after (Then a b) c s = omega (arith, shorter-after a c s, shorter-after b c (read looks call c a s))
  shorter-after (Near w a b) c s = omega (arith, shorter-after a c s, shorter-after b c (read looks call c a s))
  shorter-after (Or a b) c s = chosen (λ (u : Reading). length u.rest ≤ length s.rest) (sees c s (begins looks a)) _ _ (λ e. shorter-after a c s) (λ e. shorter-after b c s)
  shorter-after (When l a) c s = shorter-after a c s
  shorter-after (Unless l a) c s = shorter-after a c s
  shorter-after (Opt a) c s = chosen (λ (u : Reading). length u.rest ≤ length s.rest) (sees c s (begins looks a)) _ _ (λ e. shorter-after a c s) (λ e. omega arith)
  shorter-after (Star a) c s = turns-shrink (length s.rest) (λ t. sees c t (begins looks a)) (read looks call c a) (length s.rest) s (λ v. shorter-after a c v) (omega arith)
  shorter-after (Node k a) c s = shorter-after a c (fresh s)
  shorter-after (Wrap k a) c s = shorter-after a c s
  shorter-after (Want a m) c s = chosen (λ (u : Reading). length u.rest ≤ length s.rest) (sees c s (begins looks a)) _ _ (λ e. shorter-after a c s) (λ e. omega arith)
  shorter-after (Say m) c s = omega arith
  shorter-after (Skip m) c s = shorter 1 s.rest
  shorter-after Split c s = shorter 1 s.rest
  shorter-after (Call y) c s = less y c (fresh s)
  shorter-after (Continue y) c s = less y c s
  shorter-after (Mode d a) c s = shorter-after a d s
  shorter-after (Lead a) c s = shorter-after a c (fresh s)

pub shrinks : (r : Rule) (c : Bool) (s : Reading) → length (read (look_of whole) (meaning whole) c r s).rest ≤ length s.rest
shrinks r c s = shorter-after (look_of whole) (meaning whole) (λ y d t. (all_facts whole claim all_fine y d t).shrinks) r c s

-- turns that each take a token end where the rule does not begin
pub turns-end :
    (n : ℕ) (test : Reading → Bool) (turn : Reading → Reading) (s : Reading) → ((v : Reading) → test v ≡ true → length (turn v).rest < length v.rest) → length s.rest ≤ n → test (turns n test turn s) ≡ false
unfolding turns
turns-end zero test turn s each h = elim (cases_Bool (test s)) [ inl e ↦ absurd (omega (arith, each s e, h)) | inr e ↦ e ]
turns-end (suc n) test turn s each h = elim (cases_Bool (test s)) [
  | inl e ↦ rw (e, lt-ltb _ _ (each s e)) (turns-end n test turn (turn s) each (omega (arith, each s e, h)))
  | inr e ↦ rw e e
]

-- no turn
pub no-turns : (n : ℕ) (test : Reading → Bool) (turn : Reading → Reading) (s : Reading) → test s ≡ false → turns n test turn s ≡ s
unfolding turns
no-turns zero test turn s e = refl
no-turns (suc n) test turn s e = rw e refl

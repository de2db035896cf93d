-- A word that is next, or the one after another.
use Rattle.std.proofs.Common.{◌≡◌, ◌≢◌, ℕ, ◌≤◌, ◌==◌, Bool, true, false, refl, sym, ◌∙◌, arith, if◌then◌else◌}
use Rattle.std.proofs.lemmas.Bool.{eqb-true}
use Rattle.parser_input.specs.Kinds.{EOF}
use Rattle.parser_events.specs.Forest as forest
use Rattle.parser_events.specs.View.{View}
use Rattle.rust_grammar.specs.Rule.{Look, Always, Both, Either, Kind}
use Rattle.rust_grammar.specs.Meaning.{Reading, ahead, sees}
use Rattle.rust_productions.specs.Looks.{tokens}
use Rattle.rust_productions.specs.Reads.{Saw, Condition, is_on}
use Rattle.rust_productions.specs.Stands.{left}
use Rattle.rust_productions.proofs.Looking.{few-left}

pub saw-both : {c : Condition} {b : Bool} {l m : Look} {v : View} → Saw c l v true → Saw c m v b → Saw c (Both l m) v b
unfolding sees
saw-both f g = record { at = λ s e. rw (f.at s e) (g.at s e) }

-- a token of one kind is of no other
pub saw-other : {c : Condition} {n a b : ℕ} {v : View} → a ≢ b → Saw c (Kind n a) v true → Saw c (Kind n b) v false
unfolding sees
saw-other {c} {n} {a} {b} {v} differs saw = record { at = λ s e. other (ahead n s.rest).kind (eqb-true _ _ (saw.at s e)) ((ahead n s.rest).kind == b) refl }
  where
    other : (k : ℕ) → k ≡ a → (d : Bool) → (k == b) ≡ d → (k == b) ≡ false
    other k is true e = absurd (differs (sym is ∙ eqb-true k b e))
    other k is false e = e

-- Where the word is not next, the other one is, and the word is the one after it.
parts : (p q r : Bool) → p ≡ false → (if (if p then true else false) then true else (if q then (if r then true else false) else false)) ≡ true → (q ≡ true) × (r ≡ true)
parts true q r e f = absurd (let z : true ≡ false = e in cc)
parts false true true e f = (refl, refl)
parts false true false e f = absurd (let z : false ≡ true = f in cc)
parts false false r e f = absurd (let z : false ≡ true = f in cc)

pub saw-first : {c : Condition} {a b d : Look} {v : View} → Saw c a v false → Saw c (Either (Both a Always) (Both b (Both d Always))) v true → Saw c b v true
unfolding sees
saw-first {c} {a} {b} {d} none saw = record { at = λ s e. (parts (sees (is_on c) s a) (sees (is_on c) s b) (sees (is_on c) s d) (none.at s e) (saw.at s e)).0 }

pub saw-second : {c : Condition} {a b d : Look} {v : View} → Saw c a v false → Saw c (Either (Both a Always) (Both b (Both d Always))) v true → Saw c d v true
unfolding sees
saw-second {c} {a} {b} {d} none saw = record { at = λ s e. (parts (sees (is_on c) s a) (sees (is_on c) s b) (sees (is_on c) s d) (none.at s e) (saw.at s e)).1 }

pub two-left : {c : Condition} {w : ℕ} {v : View} → w ≢ EOF → Saw c (Kind 1 w) v true → 2 ≤ tokens v
unfolding sees tokens
two-left {c} {w} {v} inside saw =
    let here : Reading = record { given = forest.End; rest = left v } in
    let many = few-left 1 (left v) w (eqb-true _ _ (saw.at here refl)) inside in
    omega (arith, many)

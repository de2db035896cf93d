-- The operators: each is taken in its own layer, and stops the layers below.
use Rattle.std.proofs.Common.{◌≡◌, Bool, true, false, List, ◌∷◌, refl, ◌==◌}
use Rattle.parser_input.specs.Input.{Token}
use Rattle.parser_input.specs.Kinds.{AMP}
use Rattle.parser_events.specs.Forest.{Forest, End, ◌then◌}
use Rattle.core_language.specs.Expressions.{is_bit_and}
use Rattle.core_language.specs.Operators.{BitAnd, BitOr, BitXor, Divide, Equal, Greater, GreaterOrEqual, Less, LessOrEqual, LogicalAnd, LogicalOr, Minus, NotEqual, Operator, Pipe, Plus, Remainder, ShiftLeft, ShiftRight, Times, operator_tree}
use Rattle.core_language.proofs.Places.{Calm, Stops, ops, turn, under, is_calm, stops_at, calm-of, stops-of}
use Rattle.core_language.proofs.Rules.{at, begins_at, idle, reads, table}
use Rattle.core_language.proofs.Starts.{Free}
use Rattle.core_language.proofs.Flagged.{operator_tokens}

-- An operator between two operands, of which the second begins with the token t.
pub record Between (flag : Bool) (o : Operator) (j : Bool) (t : Token) (ts : List Token) : Type 0 where
  pub there : (g : Forest) → begins_at (turn (under o)) (at g (operator_tokens flag o j (t ∷ ts))) ≡ true
  pub taken : (g : Forest) → reads (ops (under o)) (at g (operator_tokens flag o j (t ∷ ts))) ≡ at (g then operator_tree o End) (t ∷ ts)
  pub stops : Stops (under o) (operator_tokens flag o j (t ∷ ts))
  pub calm : Calm flag (operator_tokens flag o j (t ∷ ts))

-- an `&` that touches the next token is not before another one
abbrev pub NotBoth : Operator → Bool → Token → Type 0
NotBoth o j t = is_bit_and o ≡ true → j ≡ true → (t.kind == AMP) ≡ false

-- `Between` from tests that compute
found : (flag : Bool) → {o : Operator} {j : Bool} {t : Token} {ts : List Token} →
    ((g : Forest) → begins_at (turn (under o)) (at g (operator_tokens flag o j (t ∷ ts))) ≡ true) →
    ((g : Forest) → reads (ops (under o)) (at g (operator_tokens flag o j (t ∷ ts))) ≡ at (g then operator_tree o End) (t ∷ ts)) →
    ((g : Forest) → stops_at (under o) g (operator_tokens flag o j (t ∷ ts)) ≡ true) →
    ((i : Bool) (g : Forest) → is_calm flag i g (operator_tokens flag o j (t ∷ ts)) ≡ true) → Between flag o j t ts
found flag {o = o} there taken stops calm = record { there = there; taken = taken; stops = stops-of (under o) _ stops; calm = calm-of flag _ calm }

pub between : (flag : Bool) (o : Operator) (j : Bool) (t : Token) (ts : List Token) → Free t → NotBoth o j t → Between flag o j t ts
unfolding table
between flag Pipe true t ts f n = found flag (λ g. refl) (λ g. refl) (λ g. refl) (λ i g. rw (idle flag) refl)
between flag Pipe false t ts f n = found flag (λ g. refl) (λ g. refl) (λ g. refl) (λ i g. rw (idle flag) refl)
between flag LogicalOr true t ts f n = found flag (λ g. refl) (λ g. refl) (λ g. refl) (λ i g. rw (idle flag) refl)
between flag LogicalOr false t ts f n = found flag (λ g. refl) (λ g. refl) (λ g. refl) (λ i g. rw (idle flag) refl)
between flag LogicalAnd true t ts f n = found flag (λ g. refl) (λ g. refl) (λ g. refl) (λ i g. rw (idle flag) refl)
between flag LogicalAnd false t ts f n = found flag (λ g. refl) (λ g. refl) (λ g. refl) (λ i g. rw (idle flag) refl)
between flag Equal true t ts f n = found flag (λ g. refl) (λ g. refl) (λ g. refl) (λ i g. rw (idle flag) refl)
between flag Equal false t ts f n = found flag (λ g. refl) (λ g. refl) (λ g. refl) (λ i g. rw (idle flag) refl)
between flag NotEqual true t ts f n = found flag (λ g. refl) (λ g. refl) (λ g. refl) (λ i g. rw (idle flag) refl)
between flag NotEqual false t ts f n = found flag (λ g. refl) (λ g. refl) (λ g. refl) (λ i g. rw (idle flag) refl)
between flag Less true t ts f n = found flag (λ g. rw (f.eq, f.lt) refl) (λ g. rw (f.eq, f.lt) refl) (λ g. rw (f.lt) refl) (λ i g. rw (idle flag) refl)
between flag Less false t ts f n = found flag (λ g. refl) (λ g. refl) (λ g. refl) (λ i g. rw (idle flag) refl)
between flag Greater true t ts f n = found flag (λ g. rw (f.eq, f.gt) refl) (λ g. rw (f.eq, f.gt) refl) (λ g. rw (f.gt) refl) (λ i g. rw (idle flag) refl)
between flag Greater false t ts f n = found flag (λ g. refl) (λ g. refl) (λ g. refl) (λ i g. rw (idle flag) refl)
between flag LessOrEqual true t ts f n = found flag (λ g. refl) (λ g. refl) (λ g. refl) (λ i g. rw (idle flag) refl)
between flag LessOrEqual false t ts f n = found flag (λ g. refl) (λ g. refl) (λ g. refl) (λ i g. rw (idle flag) refl)
between flag GreaterOrEqual true t ts f n = found flag (λ g. refl) (λ g. refl) (λ g. refl) (λ i g. rw (idle flag) refl)
between flag GreaterOrEqual false t ts f n = found flag (λ g. refl) (λ g. refl) (λ g. refl) (λ i g. rw (idle flag) refl)
between flag BitOr true t ts f n = found flag (λ g. rw (f.eq, f.pipe) refl) (λ g. refl) (λ g. refl) (λ i g. rw (idle flag) refl)
between flag BitOr false t ts f n = found flag (λ g. refl) (λ g. refl) (λ g. refl) (λ i g. rw (idle flag) refl)
between flag BitXor true t ts f n = found flag (λ g. rw (f.eq) refl) (λ g. refl) (λ g. refl) (λ i g. rw (idle flag) refl)
between flag BitXor false t ts f n = found flag (λ g. refl) (λ g. refl) (λ g. refl) (λ i g. rw (idle flag) refl)
between flag BitAnd true t ts f n = found flag (λ g. rw (f.eq, n refl refl) refl) (λ g. refl) (λ g. refl) (λ i g. rw (idle flag) refl)
between flag BitAnd false t ts f n = found flag (λ g. refl) (λ g. refl) (λ g. refl) (λ i g. rw (idle flag) refl)
between flag ShiftLeft true t ts f n = found flag (λ g. rw (f.eq) refl) (λ g. rw (f.eq) refl) (λ g. refl) (λ i g. rw (idle flag) refl)
between flag ShiftLeft false t ts f n = found flag (λ g. refl) (λ g. refl) (λ g. refl) (λ i g. rw (idle flag) refl)
between flag ShiftRight true t ts f n = found flag (λ g. rw (f.eq) refl) (λ g. refl) (λ g. refl) (λ i g. rw (idle flag) refl)
between flag ShiftRight false t ts f n = found flag (λ g. refl) (λ g. refl) (λ g. refl) (λ i g. rw (idle flag) refl)
between flag Plus true t ts f n = found flag (λ g. rw (f.eq) refl) (λ g. rw (f.eq) refl) (λ g. refl) (λ i g. rw (idle flag) refl)
between flag Plus false t ts f n = found flag (λ g. refl) (λ g. refl) (λ g. refl) (λ i g. rw (idle flag) refl)
between flag Minus true t ts f n = found flag (λ g. rw (f.eq) refl) (λ g. refl) (λ g. refl) (λ i g. rw (idle flag) refl)
between flag Minus false t ts f n = found flag (λ g. refl) (λ g. refl) (λ g. refl) (λ i g. rw (idle flag) refl)
between flag Times true t ts f n = found flag (λ g. rw (f.eq) refl) (λ g. rw (f.eq) refl) (λ g. refl) (λ i g. rw (idle flag) refl)
between flag Times false t ts f n = found flag (λ g. refl) (λ g. refl) (λ g. refl) (λ i g. rw (idle flag) refl)
between flag Divide true t ts f n = found flag (λ g. rw (f.eq) refl) (λ g. rw (f.eq) refl) (λ g. refl) (λ i g. rw (idle flag) refl)
between flag Divide false t ts f n = found flag (λ g. refl) (λ g. refl) (λ g. refl) (λ i g. rw (idle flag) refl)
between flag Remainder true t ts f n = found flag (λ g. rw (f.eq) refl) (λ g. refl) (λ g. refl) (λ i g. rw (idle flag) refl)
between flag Remainder false t ts f n = found flag (λ g. refl) (λ g. refl) (λ g. refl) (λ i g. rw (idle flag) refl)

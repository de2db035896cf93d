-- Ranges that no text has.
use Rattle.std.proofs.Common.{◌≡◌, ℕ, zero, suc, ◌<◌, Bool, true, false, ◌&&◌, nat_le, List, [], ◌∷◌, length, refl, ap, ◌∙◌, arith}
use Rattle.std.proofs.lemmas.Bool.{lt-leb}
use Rattle.rust_document.specs.Edit.{is_boundary, can_edit}

-- after its end
outside : (stop : ℕ) (text : List ℕ) → length text < stop → is_boundary stop text ≡ false
unfolding is_boundary
outside zero text past = absurd (omega arith)
outside (suc stop) [] past = refl
outside (suc stop) (b ∷ bs) past = outside stop bs (omega arith)

never : (a : Bool) → (a && false) ≡ false
never true = refl
never false = refl

pub ends-outside : (text shown : List ℕ) (start stop : ℕ) → shown ≡ text → length shown < stop → can_edit text start stop ≡ false
ends-outside text shown start stop same past =
    ap (λ b. (nat_le start stop && is_boundary start text) && b) (outside stop text (omega (arith, past, ap length same)))
    ∙ never (nat_le start stop && is_boundary start text)

-- a range whose end is before its start
pub turned : (text : List ℕ) (start stop : ℕ) → stop < start → can_edit text start stop ≡ false
turned text start stop below = ap (λ b. (b && is_boundary start text) && is_boundary stop text) (lt-leb start stop below)

-- The floor of an offset is a boundary.
use Rattle.std.proofs.Common.{◌≡◌, ℕ, zero, suc, List, get_or, true, false, refl, arith, inl, inr}
use Rattle.std.specs.Prelude.{IsCharBoundary, IsUtf8}
use Rattle.std.proofs.lemmas.Bool.{cases_Bool, and_parts, or_cases, leb-true, ltb-true}
use Rattle.std.proofs.lemmas.Str.{IsCharBoundary-start}
use Rattle.line_index.specs.Columns.{is_boundary, floor}

boundary-from : (text : List ℕ) (n : ℕ) → is_boundary text n ≡ true → IsCharBoundary text n
boundary-from text n q =
    let p = and_parts _ _ q in (
      leb-true _ _ p.0,
      λ l big. elim (or_cases _ _ p.1) [
        | inl low ↦ absurd (omega (arith, big, ltb-true (get_or text n 0) 128 low))
        | inr high ↦ leb-true _ _ high
      ],
    )

floor-zero : (text : List ℕ) → floor text 0 ≡ 0
unfolding floor
floor-zero text = refl

floor-here : (text : List ℕ) (n : ℕ) → is_boundary text (suc n) ≡ true → floor text (suc n) ≡ suc n
unfolding floor
floor-here text n q = rw (q, floor) refl

floor-below : (text : List ℕ) (n : ℕ) → is_boundary text (suc n) ≡ false → floor text (suc n) ≡ floor text n
unfolding floor
floor-below text n q = rw (q, floor) refl

pub floor-cuts : (text : List ℕ) (n : ℕ) → IsUtf8 text → IsCharBoundary text (floor text n)
floor-cuts text zero u = rw (floor-zero text) (IsCharBoundary-start text u)
floor-cuts text (suc n) u =
    elim (cases_Bool (is_boundary text (suc n))) [
      | inl q ↦ rw (floor-here text n q) (boundary-from text (suc n) q)
      | inr q ↦ rw (floor-below text n q) (floor-cuts text n u)
    ]

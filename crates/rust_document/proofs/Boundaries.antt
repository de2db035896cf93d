-- Boundaries of characters, as a test.
use Rattle.std.proofs.Common.{◌≡◌, ℕ, zero, suc, ◌≤◌, Bool, true, false, ◌&&◌, nat_le, List, [], ◌∷◌, refl, sym, ◌∙◌, arith, rules}
use Rattle.std.proofs.lemmas.Bool.{le-leb, leb-true}
use Rattle.std.specs.Prelude.{◌↔◌, IsTrue}
use Rattle.std.specs.Str.{IsCharBoundary}
use Rattle.rust_document.specs.Edit.{is_boundary, can_edit}

-- where the test holds, a boundary is
boundary-from : (i : ℕ) (bs : List ℕ) → is_boundary i bs ≡ true → IsCharBoundary bs i
unfolding is_boundary
boundary-from zero [] is = (omega arith, λ within _. absurd (omega arith))
boundary-from zero (b ∷ bs) is = search (rules, arith)
boundary-from (suc i) [] is = absurd (cc)
boundary-from (suc i) (b ∷ bs) is = let h = boundary-from i bs is in (omega (arith, h.0), λ within high. h.1 (omega arith) high)

-- and the other way round
pub boundary-to : (i : ℕ) (bs : List ℕ) → IsCharBoundary bs i → is_boundary i bs ≡ true
unfolding is_boundary
boundary-to zero [] h = refl
boundary-to zero (b ∷ bs) h = search (rules, arith)
boundary-to (suc i) [] h = absurd (omega (arith, h.0))
boundary-to (suc i) (b ∷ bs) h = boundary-to i bs (omega (arith, h.0), λ within high. h.1 (omega arith) high)

-- a test that says whether a boundary is, is the test
decided : (i : ℕ) (bs : List ℕ) (b : Bool) → IsTrue b ↔ IsCharBoundary bs i → b ≡ is_boundary i bs
decided i bs true h = sym (boundary-to i bs (h.0 refl))
decided i bs false h = fails (is_boundary i bs) refl
  where
    fails : (t : Bool) → is_boundary i bs ≡ t → false ≡ is_boundary i bs
    fails false is = sym is
    fails true is = h.1 (boundary-from i bs is) ∙ sym is

pub decided-at : (i j : ℕ) (bs text : List ℕ) (b : Bool) → IsTrue b ↔ IsCharBoundary bs i → bs ≡ text → i ≡ j → b ≡ is_boundary j text
decided-at i j bs text b h same at = rw (← same, ← at) (decided i bs b h)

both : (a b : Bool) → (a && b) ≡ true → (a ≡ true) × (b ≡ true)
both true true e = (refl, refl)
both true false e = (refl, e)
both false b e = absurd (cc)

-- a range that can be edited begins and ends at a boundary
pub at-start : (text : List ℕ) (start end n : ℕ) → can_edit text start end ≡ true → n ≡ start → IsCharBoundary text n
at-start text start end n can is =
    let ends = both (nat_le start end && is_boundary start text) (is_boundary end text) can in
    rw is (boundary-from start text (both (nat_le start end) (is_boundary start text) ends.0).1)

pub at-end : (text : List ℕ) (start end n : ℕ) → can_edit text start end ≡ true → n ≡ end → IsCharBoundary text n
at-end text start end n can is =
    let ends = both (nat_le start end && is_boundary start text) (is_boundary end text) can in
    rw is (boundary-from end text ends.1)

-- a range in order that begins at a boundary can be edited where it ends at one
pub told-by-end : (text : List ℕ) (start end : ℕ) (b : Bool) → start ≤ end → is_boundary start text ≡ true → b ≡ is_boundary end text → b ≡ can_edit text start end
told-by-end text start end b ordered first second = rw (le-leb start end ordered, first) second

-- and one that does not can't
pub told-by-start : (text : List ℕ) (start end : ℕ) → start ≤ end → is_boundary start text ≡ false → false ≡ can_edit text start end
told-by-start text start end ordered first = rw (le-leb start end ordered, first) refl

-- a range in order whose ends are boundaries
pub editable : (text : List ℕ) (start end : ℕ) → start ≤ end → is_boundary start text ≡ true → is_boundary end text ≡ true → can_edit text start end ≡ true
editable text start end ordered first second = rw (le-leb start end ordered, first) second

pub in-order : (text : List ℕ) (start end : ℕ) → can_edit text start end ≡ true → start ≤ end
in-order text start end can = leb-true start end (both (nat_le start end) (is_boundary start text) (both (nat_le start end && is_boundary start text) (is_boundary end text) can).0).0

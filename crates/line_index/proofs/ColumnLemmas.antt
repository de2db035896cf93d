-- Lemmas on columns.
use Rattle.std.proofs.Common.{◌≡◌, ℕ, zero, suc, ◌+◌, ◌-◌, ◌*◌, ◌<◌, ◌≤◌, ◌==◌, ◌&&◌, ◌||◌, Bool, true, false, nat_le, nat_lt, min, List, [], ◌∷◌, length, get_or, take, drop, refl, ap, sym, add-one, ◌∙◌, arith, inl, inr}
use Rattle.std.specs.Prelude.{IsCharBoundary}
use Rattle.std.proofs.lemmas.Bool.{cases_Bool, cases_lt, cases_eq, leb-true, ltb-true, lt-leb, le-leb, lt-ltb, and_parts, and_from, or_cases, or_left, or_right, true≢false}
use Rattle.std.proofs.lemmas.List.{get_or_past}
use Rattle.std.proofs.lemmas.Bool.Decides.{nat_tests}
use Rattle.line_index.specs.declared.encoding.Encoding.{Encoding}
use Rattle.line_index.specs.declared.encoding.Encoding.TheVariants.{Utf8, Utf16, Utf32}
use Rattle.line_index.specs.Columns.{width, units, reach, is_boundary, floor}

pub units-nil : (e : Encoding) → units e [] ≡ 0
unfolding units
units-nil e = refl

pub units-cons : (e : Encoding) (b : ℕ) (bs : List ℕ) → units e (b ∷ bs) ≡ width e b + units e bs
unfolding units
units-cons e b bs = refl

pub units-bytes : (bs : List ℕ) → units Utf8 bs ≡ length bs
units-bytes [] = units-nil Utf8
units-bytes (b ∷ bs) = units-cons Utf8 b bs ∙ (let r = units-bytes bs in omega arith)

units-suc : (e : Encoding) (i : ℕ) (bs : List ℕ) → i < length bs → units e (take (suc i) bs) ≡ units e (take i bs) + width e (get_or bs i 0)
units-suc e i [] h = absurd (omega arith)
units-suc e zero (b ∷ bs) h = units-cons e b [] ∙ (let z = units-nil e in omega arith)
units-suc e (suc i) (b ∷ bs) h =
    let r = units-suc e i bs (omega arith) in
    rw (units-cons e b (take (suc i) bs), units-cons e b (take i bs)) (omega arith)

pub units-more : (e : Encoding) (i : ℕ) (bs : List ℕ) → i < length bs → units e (take (i + 1) bs) ≡ units e (take i bs) + width e (get_or bs i 0)
units-more e i bs h = rw add-one (units-suc e i bs h)

pub reach-nil : (e : Encoding) (col : ℕ) → reach e col [] ≡ 0
unfolding reach
reach-nil e col = refl

pub reach-step : (e : Encoding) (col b : ℕ) (bs : List ℕ) → width e b ≤ col → reach e col (b ∷ bs) ≡ suc (reach e (col - width e b) bs)
unfolding reach
reach-step e col b bs h = rw (le-leb (width e b) col h, reach) refl

pub reach-stop : (e : Encoding) (col b : ℕ) (bs : List ℕ) → col < width e b → reach e col (b ∷ bs) ≡ 0
unfolding reach
reach-stop e col b bs h = rw (lt-leb (width e b) col h, reach) refl

pub reach-bytes : (col : ℕ) (bs : List ℕ) → reach Utf8 col bs ≡ min col (length bs)
reach-bytes col [] = reach-nil Utf8 col ∙ omega arith
reach-bytes zero (b ∷ bs) = reach-stop Utf8 0 b bs (omega arith) ∙ omega arith
reach-bytes (suc col) (b ∷ bs) =
    let same : suc col - 1 ≡ col = omega arith in
    let r = reach-bytes col bs in
    reach-step Utf8 (suc col) b bs (omega arith) ∙ ap (λ n. suc (reach Utf8 n bs)) same ∙ omega arith

-- a front leads back to its length, where a character starts behind it
pub reach-units : (e : Encoding) (n : ℕ) (bs : List ℕ) → n ≤ length bs → (n < length bs → 0 < width e (get_or bs n 0)) → reach e (units e (take n bs)) bs ≡ n
reach-units e zero [] l h = reach-nil e _
reach-units e (suc n) [] l h = absurd (omega arith)
reach-units e zero (b ∷ bs) l h =
    let z = units-nil e in let w : 0 < width e b = h (omega arith) in reach-stop e (units e []) b bs (omega arith)
reach-units e (suc n) (b ∷ bs) l h =
    let u = units-cons e b (take n bs) in
    let same : units e (b ∷ take n bs) - width e b ≡ units e (take n bs) = omega arith in
    let r = reach-units e n bs (omega arith) (λ k. h (omega arith)) in
    reach-step e (units e (b ∷ take n bs)) b bs (omega arith) ∙ ap (λ m. suc (reach e m bs)) same ∙ ap suc r

-- more units than there are lead to the end
pub reach-all : (e : Encoding) (col : ℕ) (bs : List ℕ) → units e bs ≤ col → reach e col bs ≡ length bs
reach-all e col [] h = reach-nil e col
reach-all e col (b ∷ bs) h =
    let u = units-cons e b bs in
    let r = reach-all e (col - width e b) bs (omega arith) in
    reach-step e col b bs (omega arith) ∙ ap suc r

pub reach-le : (e : Encoding) (col : ℕ) (bs : List ℕ) → reach e col bs ≤ length bs
reach-le e col [] = let r = reach-nil e col in omega arith
reach-le e col (b ∷ bs) =
    elim (cases_lt col (width e b)) [
      | inl low ↦ let r = reach-stop e col b bs low in omega arith
      | inr high ↦ let r = reach-step e col b bs high in let s = reach-le e (col - width e b) bs in omega arith
    ]

-- boundaries
boundary-from : (text : List ℕ) (n : ℕ) → is_boundary text n ≡ true → IsCharBoundary text n
boundary-from text n q =
    let p = and_parts _ _ q in (
      leb-true _ _ p.0,
      λ l big. elim (or_cases _ _ p.1) [
        | inl low ↦ absurd (omega (arith, big, ltb-true (get_or text n 0) 128 low))
        | inr high ↦ leb-true _ _ high
      ],
    )

boundary-to : (text : List ℕ) (n : ℕ) → IsCharBoundary text n → is_boundary text n ≡ true
boundary-to text n h =
    and_from _ _ (le-leb n (length text) h.0)
    (elim (cases_lt (get_or text n 0) 128) [
      | inl low ↦ or_left _ _ (lt-ltb _ 128 low)
      | inr high ↦
          elim (cases_lt n (length text)) [
            | inl l ↦ or_right _ _ (le-leb 192 _ (h.1 l high))
            | inr past ↦ let z = get_or_past text n 0 past in absurd (omega arith)
          ]
    ])

floor-zero : (text : List ℕ) → floor text 0 ≡ 0
unfolding floor
floor-zero text = refl

floor-here : (text : List ℕ) (n : ℕ) → is_boundary text (suc n) ≡ true → floor text (suc n) ≡ suc n
unfolding floor
floor-here text n q = rw (q, floor) refl

floor-below : (text : List ℕ) (n : ℕ) → is_boundary text (suc n) ≡ false → floor text (suc n) ≡ floor text n
unfolding floor
floor-below text n q = rw (q, floor) refl

-- a boundary is its own floor
pub floor-boundary : (text : List ℕ) (n : ℕ) → IsCharBoundary text n → floor text n ≡ n
floor-boundary text zero h = floor-zero text
floor-boundary text (suc n) h = floor-here text n (boundary-to text (suc n) h)

-- the last boundary is the floor
pub floor-is : (text : List ℕ) (n r : ℕ) → r ≤ n → IsCharBoundary text r → ((i : ℕ) → r < i → i ≤ n → IsCharBoundary text i → ⊥) → r ≡ floor text n
floor-is text zero r le b none = let z = floor-zero text in omega arith
floor-is text (suc n) r le b none =
    elim (cases_Bool (is_boundary text (suc n))) [
      | inl q ↦
          let here = floor-here text n q in
          elim (cases_lt r (suc n)) [
            | inl less ↦ absurd (none (suc n) less (omega arith) (boundary-from text (suc n) q))
            | inr same ↦ omega arith
          ]
      | inr q ↦
          elim (cases_eq r (suc n)) [
            | inl same ↦ absurd (true≢false (sym (boundary-to text (suc n) (rw same at b)) ∙ q))
            | inr other ↦
                floor-is text n r (omega arith) b (λ i above below. none i above (omega arith)) ∙ sym (floor-below text n q)
          ]
    ]

-- a character starts at a boundary before the end
pub width-boundary : (e : Encoding) (text : List ℕ) (n : ℕ) → IsCharBoundary text n → n < length text → 0 < width e (get_or text n 0)
width-boundary Utf8 text n h l = omega arith
width-boundary Utf16 text n h l = let k = h.1 l in grind (arith, nat_tests)
width-boundary Utf32 text n h l = let k = h.1 l in grind (arith, nat_tests)

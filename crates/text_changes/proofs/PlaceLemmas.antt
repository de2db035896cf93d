-- Lemmas on places that an editor tells.
use Rattle.std.proofs.Common.{◌≡◌, ℕ, suc, ◌+◌, ◌-◌, ◌<◌, ◌≤◌, ◌==◌, nat_le, nat_lt, List, Some, None, length, take, drop, refl, sym, ap, subst, ◌∙◌, arith, inl, inr}
use Rattle.std.specs.Prelude.{◌&&◌, IsCharBoundary, IsUtf8, slice_range, slice_index, if◌then◌else◌}
use Rattle.std.proofs.lemmas.Bool.{cases_lt, cases_eq, cases_Bool, and_parts, ne_eqb, eq-eqb, eqb-true, le-leb, lt-leb, lt-ltb, le-ltb, ltb-true}
use Rattle.std.proofs.lemmas.List.{take-take}
use Rattle.std.proofs.lemmas.Str.{IsCharBoundary-end, IsCharBoundary-before_ascii}
use Rattle.line_index.specs.declared.encoding.Encoding.{Encoding}
use Rattle.line_index.specs.declared.line_col.LineCol.{LineCol}
use Rattle.line_index.specs.Lines.{feeds, line_start, line_end, line_text}
use Rattle.line_index.specs.Columns.{units, line_col, offset, reach}
use Rattle.line_index.proofs.LineLemmas.{feeds-take, starts_before, starts_beyond, line_len-inner}
use Rattle.line_index.proofs.ColumnLemmas.{floor-boundary}
use Rattle.line_index.proofs.EncodeLemmas.{units-take}
use Rattle.line_index.proofs.PlaceLemmas.{line_end-le, line_end-boundary, offset-in-line, place-back}
use Rattle.text_changes.proofs.FloorLemmas.{floor-cuts}
use Rattle.text_changes.specs.Places.{at_column, before_return, offset_in}

-- where a line ends is in that line
line-of-end : (line : ℕ) (text : List ℕ) → line ≤ feeds text → feeds (take (line_end line text) text) ≡ line
line-of-end line text h =
    let le = line_end-le line text h in
    elim (cases_lt (feeds (take (line_end line text) text)) line) [
      | inl below ↦ let b = starts_beyond line (line_end line text) text below h in absurd (omega arith)
      | inr from ↦
          elim (cases_lt line (feeds (take (line_end line text) text))) [
            | inl above ↦
                let all = feeds-take (line_end line text) text in
                let next = line_len-inner line text (omega arith) in
                let b = starts_before (suc line) (line_end line text) text le above in
                absurd (omega arith)
            | inr to ↦ omega arith
          ]
    ]

-- the column of where a line ends
pub end-col : (e : Encoding) (line : ℕ) (text : List ℕ) → line ≤ feeds text →
    (line_col e text (line_end line text)).col ≡ units e (line_text line text)
end-col e line text h =
    rw (floor-boundary text (line_end line text) (line_end-boundary line text h), line-of-end line text h) refl

-- a column past the end of its line
far-line : (e : Encoding) (text : List ℕ) (p : LineCol) → p.line ≤ feeds text → units e (line_text p.line text) < p.col →
    Some (before_return (line_end p.line text) text) ≡ offset_in e text p
far-line e text p h far = rw (le-leb p.line (feeds text) h, lt-ltb (units e (line_text p.line text)) p.col far) refl

pub past-line : (e : Encoding) (text : List ℕ) (p : LineCol) → p.line ≤ feeds text →
    (line_col e text (line_end p.line text)).col < p.col →
    Some (before_return (line_end p.line text) text) ≡ offset_in e text p
past-line e text p h past = far-line e text p h (rw (end-col e p.line text h) at past)

-- a column in its line
near-line : (e : Encoding) (text : List ℕ) (p : LineCol) → p.line ≤ feeds text → p.col ≤ units e (line_text p.line text) →
    at_column e text p (offset e text p) ≡ offset_in e text p
near-line e text p h near = rw (le-leb p.line (feeds text) h, le-ltb (units e (line_text p.line text)) p.col near) refl

pub in-line : (e : Encoding) (text : List ℕ) (p : LineCol) → p.line ≤ feeds text →
    p.col ≤ (line_col e text (line_end p.line text)).col →
    at_column e text p (offset e text p) ≡ offset_in e text p
in-line e text p h within = near-line e text p h (rw (end-col e p.line text h) at within)

-- whether the column is that of the place
pub same-column : (e : Encoding) (text : List ℕ) (p : LineCol) (at : ℕ) → (line_col e text at).col ≡ p.col → Some at ≡ at_column e text p at
same-column e text p at h = rw (eq-eqb (line_col e text at).col p.col h) refl

pub other-column : (e : Encoding) (text : List ℕ) (p : LineCol) (at : ℕ) → ((line_col e text at).col ≡ p.col → ⊥) → None ≡ at_column e text p at
other-column e text p at h = rw (ne_eqb (line_col e text at).col p.col h) refl

-- a line past the last one
pub past-lines : (e : Encoding) (text : List ℕ) (p : LineCol) →
    None ≡ (if nat_le p.line (feeds text) then Some (line_end p.line text) else None) → Some (length text) ≡ offset_in e text p
past-lines e text p h =
    elim (cases_lt (feeds text) p.line) [
      | inl past ↦ rw (lt-leb p.line (feeds text) past) refl
      | inr within ↦ let no : None ≡ Some (line_end p.line text) = (rw (le-leb p.line (feeds text) within) at h) in absurd (cc)
    ]

-- line and column of a boundary lead back to it
pub place-found : (e : Encoding) (text : List ℕ) (n : ℕ) → IsCharBoundary text n → offset_in e text (line_col e text n) ≡ Some n
place-found e text n h =
    let f = floor-boundary text n h in
    let line : ℕ = feeds (take n text) in
    let start : ℕ = line_start line text in
    let p : LineCol = line_col e text n in
    let le = feeds-take n text in
    let to = offset-in-line n text h.0 in
    let cut : take (n - start) (line_text line text) ≡ slice_range text start n = take-take (n - start) (line_end line text - start) (drop start text) (omega arith) in
    let short : units e (slice_range text start n) ≤ units e (line_text line text) = subst (λ bs. units e bs ≤ units e (line_text line text)) cut (units-take e (n - start) (line_text line text)) in
    let is-line : p.line ≡ line = ap (λ m. feeds (take m text)) f in
    let is-col : p.col ≡ units e (slice_range text start n) = ap (λ m. units e (slice_range text (line_start (feeds (take m text)) text) m)) f in
    let placed : units e (slice_range text start n) ≤ units e (line_text p.line text) = subst (λ l. units e (slice_range text start n) ≤ units e (line_text l text)) (sym is-line) short in
    let near : p.col ≤ units e (line_text p.line text) = subst (λ m. m ≤ units e (line_text p.line text)) (sym is-col) placed in
    let within : p.line ≤ feeds text = subst (λ l. l ≤ feeds text) (sym is-line) le in
    sym (near-line e text p within near) ∙ (ap (λ m. at_column e text p m) (place-back e text n h) ∙ sym (same-column e text p n refl))

-- in front of a carriage return, and where a line ends, is a boundary
return-cuts : (line : ℕ) (text : List ℕ) → line ≤ feeds text → IsCharBoundary text (before_return (line_end line text) text)
return-cuts line text h =
    let end : ℕ = line_end line text in
    elim (cases_Bool (nat_lt 0 end && (nat_lt end (length text) && (slice_index text (end - 1) == 13)))) [
      | inl is ↦
          let some = and_parts _ _ is in
          let inner = and_parts _ _ some.1 in
          let low = ltb-true 0 end some.0 in
          let high = ltb-true end (length text) inner.0 in
          let byte = eqb-true (slice_index text (end - 1)) 13 inner.1 in
          rw is (IsCharBoundary-before_ascii text (end - 1) (omega arith) (omega arith))
      | inr not ↦ rw not (line_end-boundary line text h)
    ]

-- an offset with the column of a place
column-at : (e : Encoding) (text : List ℕ) (p : LineCol) (at n : ℕ) → at_column e text p at ≡ Some n → at ≡ n
column-at e text p at n h =
    elim (cases_eq (line_col e text at).col p.col) [
      | inl same ↦ let is : Some at ≡ Some n = same-column e text p at same ∙ h in cc
      | inr other ↦ let no : None ≡ Some n = other-column e text p at other ∙ h in absurd (cc)
    ]

offset-cuts : (e : Encoding) (text : List ℕ) (p : LineCol) → IsUtf8 text → p.line ≤ feeds text → IsCharBoundary text (offset e text p)
offset-cuts e text p u within = rw (le-leb p.line (feeds text) within) (floor-cuts text (line_start p.line text + reach e p.col (line_text p.line text)) u)

-- a place that has an offset leads to a boundary
pub place-cuts : (e : Encoding) (text : List ℕ) (p : LineCol) (n : ℕ) → IsUtf8 text → offset_in e text p ≡ Some n → IsCharBoundary text n
place-cuts e text p n u h =
    elim (cases_lt (feeds text) p.line) [
      | inl past ↦
          let is : Some (length text) ≡ Some n = (rw (lt-leb p.line (feeds text) past) at h) in
          let same : length text ≡ n = cc in
          subst (λ m. IsCharBoundary text m) same (IsCharBoundary-end text)
      | inr within ↦
          elim (cases_lt (units e (line_text p.line text)) p.col) [
            | inl far ↦
                let is : Some (before_return (line_end p.line text) text) ≡ Some n = far-line e text p within far ∙ h in
                let same : before_return (line_end p.line text) text ≡ n = cc in
                subst (λ m. IsCharBoundary text m) same (return-cuts p.line text within)
            | inr near ↦
                let same = column-at e text p (offset e text p) n (near-line e text p within near ∙ h) in
                subst (λ m. IsCharBoundary text m) same (offset-cuts e text p u within)
          ]
    ]

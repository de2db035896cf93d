-- Lemmas on texts that agree at both ends.
use Rattle.std.proofs.Common.{◌≡◌, ℕ, ◌+◌, ◌-◌, ◌<◌, ◌≤◌, List, ◌++◌, length, get_or, take, drop, refl, sym, ap, subst, ◌∙◌, arith, inl, inr}
use Rattle.std.specs.Prelude.{IsCharBoundary, slice_range}
use Rattle.std.specs.List.{replace_range}
use Rattle.std.proofs.lemmas.Bool.{cases_eq}
use Rattle.std.proofs.lemmas.List.{get_or-take, get_or-drop, drop-drop, drop-take, take-take, take-append-drop}
use Rattle.std.proofs.lemmas.Str.{IsCharBoundary-end}
use Rattle.text_changes.specs.Differences.{IsDifference}

-- a byte of a common front
front-byte : (n i : ℕ) (old new : List ℕ) → take n old ≡ take n new → i < n → get_or old i 0 ≡ get_or new i 0
front-byte n i old new h l = sym (get_or-take n old i 0 l) ∙ (ap (λ bs. get_or bs i 0) h ∙ get_or-take n new i 0 l)

-- a shorter common front
pub front-of-front : (n m : ℕ) (old new : List ℕ) → m ≤ n → take n old ≡ take n new → take m old ≡ take m new
front-of-front n m old new l h = sym (take-take m n old l) ∙ (ap (λ bs. take m bs) h ∙ take-take m n new l)

-- a boundary of the new text, before one of the old text in the common front or there, is one of the old text
pub front-cuts : (old new : List ℕ) (front mid start : ℕ) → front ≤ length old → front ≤ length new → take front old ≡ take front new →
    mid ≤ front → IsCharBoundary old mid → start ≤ mid → IsCharBoundary new start → IsCharBoundary old start
front-cuts old new front mid start fits-old fits-new same within cuts-old le cuts-new =
    elim (cases_eq start mid) [
      | inl at ↦ subst (λ n. IsCharBoundary old n) (sym at) cuts-old
      | inr before ↦
          let byte = front-byte front start old new same (omega arith) in
          (omega arith, λ inside high. rw byte (cuts-new.1 (omega arith) (rw byte at high)))
    ]

-- a shorter common back
back-of-back : (old new : List ℕ) (back k : ℕ) → back ≤ length old → back ≤ length new → k ≤ back →
    drop (length old - back) old ≡ drop (length new - back) new → drop (length old - k) old ≡ drop (length new - k) new
back-of-back old new back k fits-old fits-new le h = sym (short old fits-old) ∙ (ap (λ bs. drop (back - k) bs) h ∙ short new fits-new)
  where
    short : (text : List ℕ) → back ≤ length text → drop (back - k) (drop (length text - back) text) ≡ drop (length text - k) text
    short text fits =
        let same : length text - back + (back - k) ≡ length text - k = omega arith in
        drop-drop (back - k) (length text - back) text ∙ ap (λ n. drop n text) same

-- a boundary of the new text in the common back leads to one of the old text
back-cuts : (old new : List ℕ) (k mid end : ℕ) → k ≤ length old → end ≤ length new → k ≡ length new - end →
    drop (length old - k) old ≡ drop end new → IsCharBoundary old mid → mid ≤ length old - k → IsCharBoundary new end → IsCharBoundary old (length old - k)
back-cuts old new k mid end fits within is same cuts-old le cuts-new =
    elim (cases_eq k 0) [
      | inl none ↦
          let all : length old - k ≡ length old = omega arith in
          subst (λ n. IsCharBoundary old n) (sym all) (IsCharBoundary-end old)
      | inr some ↦
          let from-old : get_or (drop (length old - k) old) 0 0 ≡ get_or old (length old - k) 0 = get_or-drop (length old - k) old 0 0 ∙ ap (λ n. get_or old n 0) (omega arith) in
          let from-new : get_or (drop end new) 0 0 ≡ get_or new end 0 = get_or-drop end new 0 0 ∙ ap (λ n. get_or new n 0) (omega arith) in
          let byte : get_or old (length old - k) 0 ≡ get_or new end 0 = sym from-old ∙ (ap (λ bs. get_or bs 0 0) same ∙ from-new) in
          (omega arith, λ inside high. rw byte (cuts-new.1 (omega arith) (rw byte at high)))
    ]

-- a front in two parts
in-two : (start end : ℕ) (text : List ℕ) → start ≤ end → take start text ++ take (end - start) (drop start text) ≡ take end text
in-two start end text le =
    let sum : end ≡ start + (end - start) = omega arith in
    let later : drop start (take end text) ≡ take (end - start) (drop start text) = ap (λ n. drop start (take n text)) sum ∙ drop-take start (end - start) text in
    ap (λ bs. take start text ++ bs) (sym later)
    ∙ (ap (λ bs. bs ++ drop start (take end text)) (sym (take-take start end text le)) ∙ take-append-drop start (take end text))

-- the new text is the old one with what is between the common ends replaced
replaced : (old new : List ℕ) (start old_end end : ℕ) → start ≤ end → take start old ≡ take start new → drop old_end old ≡ drop end new →
    replace_range old start old_end (slice_range new start end) ≡ new
replaced old new start old_end end le front back =
    ap (λ bs. (bs ++ slice_range new start end) ++ drop old_end old) front
    ∙ (ap (λ bs. bs ++ drop old_end old) (in-two start end new le)
    ∙ (ap (λ bs. take end new ++ bs) back ∙ take-append-drop end new))

pub is-difference : (old new : List ℕ) (start back mid end : ℕ) → take start old ≡ take start new →
    IsCharBoundary old start → IsCharBoundary new start → back ≤ length old - start → back ≤ length new - start →
    drop (length old - back) old ≡ drop (length new - back) new → length old - back ≤ mid → IsCharBoundary old mid →
    length new - (length old - mid) ≤ end → IsCharBoundary new end →
    IsDifference old new start (length old - (length new - end)) end
is-difference old new start back mid end front cuts-old cuts-new fits-old fits-new same le-mid cuts-mid le-end cuts-end =
    let in-old = cuts-old.0 in
    let in-new = cuts-new.0 in
    let in-mid = cuts-mid.0 in
    let in-end = cuts-end.0 in
    let k : ℕ = length new - end in
    let few : k ≤ back = omega arith in
    let at-end : length new - k ≡ end = omega arith in
    let tails : drop (length old - k) old ≡ drop end new = back-of-back old new back k (omega arith) (omega arith) few same ∙ ap (λ n. drop n new) at-end in
    record {
      old_order = omega arith;
      new_order = omega arith;
      cuts_old_start = cuts-old;
      cuts_new_start = cuts-new;
      cuts_old_end = back-cuts old new k mid end (omega arith) in-end refl tails cuts-mid (omega arith) cuts-end;
      cuts_new_end = cuts-end;
      replaced = replaced old new start (length old - k) end (omega arith) front tails;
    }

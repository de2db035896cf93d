-- Lemmas on numbers in digits.
use Rattle.std.proofs.Common.{◌≡◌, ℕ, ◌+◌, ◌<◌, ◌≤◌, List, [], ◌∷◌, length, get_or, drop, refl, sym, ◌∙◌, arith, Some, None}
use Rattle.std.proofs.lemmas.List.{at_drop_more, at_drop_all}
use Rattle.message_frames.specs.Numbers.{number, with_digit, written}

pub written-nil : (n : ℕ) → written n [] ≡ Some n
unfolding written
written-nil n = refl

pub written-some : (n m b : ℕ) (bs : List ℕ) → with_digit n b ≡ Some m → written n (b ∷ bs) ≡ written m bs
unfolding written
written-some n m b bs e = rw (e, written) refl

pub written-none : (n b : ℕ) (bs : List ℕ) → with_digit n b ≡ None → written n (b ∷ bs) ≡ None
unfolding written
written-none n b bs e = rw (e, written) refl

number-is : (ds : List ℕ) → 0 < length ds → number ds ≡ written 0 ds
number-is [] some = absurd (omega arith)
number-is (d ∷ ds) some = refl

-- with one more digit
pub step : (ds : List ℕ) (i n m : ℕ) → i < length ds → Some m ≡ with_digit n (get_or ds i 0) →
    written n (drop i ds) ≡ written 0 ds → written m (drop (i + 1) ds) ≡ written 0 ds
step ds i n m l e h =
    sym (written-some n m (get_or ds i 0) (drop (i + 1) ds) (sym e)) ∙ (sym (at_drop_more (λ bs. written n bs) ds i 0 l) ∙ h)

-- at a byte that is no digit, or a number that is too large
pub stop : (ds : List ℕ) (i n : ℕ) → i < length ds → None ≡ with_digit n (get_or ds i 0) →
    written n (drop i ds) ≡ written 0 ds → None ≡ number ds
stop ds i n l e h =
    sym (written-none n (get_or ds i 0) (drop (i + 1) ds) (sym e))
    ∙ (sym (at_drop_more (λ bs. written n bs) ds i 0 l) ∙ (h ∙ sym (number-is ds (omega arith))))

-- behind the last digit
pub done : (ds : List ℕ) (i n : ℕ) → length ds ≤ i → 0 < length ds → written n (drop i ds) ≡ written 0 ds → Some n ≡ number ds
done ds i n past some h =
    sym (written-nil n) ∙ (sym (at_drop_all (λ bs. written n bs) ds i past) ∙ (h ∙ sym (number-is ds some)))

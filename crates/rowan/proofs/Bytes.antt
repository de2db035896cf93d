-- The comparison of bytes with a text that is made of terms.
use Rattle.std.proofs.Common.{◌≡◌, ℕ, ◌-◌, ◌≤◌, List, [], ◌∷◌, ◌++◌, length, take, drop, refl, sym, ◌∙◌, ap, arith, Bool, true, false, ◌&&◌, Decides}
use Rattle.std.specs.Prelude.{nat_eq}
use Rattle.std.specs.Str.{bytes_eq}
use Rattle.std.specs.Cmp.{unsigned_Decides}
use lib.Pointwise.{pointwise_decides}
use Rattle.std.proofs.lemmas.List.{take-append-drop}
use Rattle.rowan_green.specs.Term.{Term, texts_of, text_of}
use Rattle.rowan.proofs.Texts.{skip_first}
use Rattle.rowan.proofs.Parts.{texts_are}

bytes_decide : (x y : List ℕ) → Decides (bytes_eq x y) (x ≡ y)
bytes_decide = pointwise_decides unsigned_Decides

pub bytes_same : (x y : List ℕ) → x ≡ y → bytes_eq x y ≡ true
bytes_same x y = (bytes_decide x y).1

pub same_bytes : (x y : List ℕ) → bytes_eq x y ≡ true → x ≡ y
same_bytes x y = (bytes_decide x y).0

false_from : (b : Bool) → (b ≡ true → ⊥) → b ≡ false
false_from true h = absurd (h refl)
false_from false h = refl

pub bytes_differ : (x y : List ℕ) → (x ≡ y → ⊥) → bytes_eq x y ≡ false
bytes_differ x y h = false_from (bytes_eq x y) (λ e. h (same_bytes x y e))

and_assoc : (a b c : Bool) → (a && (b && c)) ≡ ((a && b) && c)
and_assoc true b c = refl
and_assoc false b c = refl

-- texts in two parts, the first ones of one length
parts_eq : (a b h k : List ℕ) → length a ≡ length h → bytes_eq (a ++ b) (h ++ k) ≡ (bytes_eq a h && bytes_eq b k)
parts_eq [] b [] k e = refl
parts_eq [] b (y ∷ h) k e = absurd (omega arith)
parts_eq (x ∷ a) b [] k e = absurd (omega arith)
parts_eq (x ∷ a) b (y ∷ h) k e = ap (λ v. nat_eq x y && v) (parts_eq a b h k (omega arith)) ∙ and_assoc (nat_eq x y) (bytes_eq a h) (bytes_eq b k)

-- the bytes of a range in two parts, and what is to be there
pub next_bytes : (range piece rest left here after : List ℕ) (k : ℕ) → range ≡ piece ++ rest → length piece ≡ length here → here ≡ take k left → after ≡ drop k left → bytes_eq range left ≡ (bytes_eq piece here && bytes_eq rest after)
next_bytes range piece rest left here after k e n p q =
    let w : left ≡ here ++ after = sym (take-append-drop k left) ∙ ap (λ v. v ++ drop k left) (sym p) ∙ ap (λ v. here ++ v) (sym q) in
    ap (λ v. bytes_eq v left) e ∙ ap (λ v. bytes_eq (piece ++ rest) v) w ∙ parts_eq piece rest here after n

module _ (s t : List Term) (e : Term) (y : s ≡ e ∷ t) (size offset : ℕ) (z : size ≡ length (text_of e)) where
  pub passed_bytes : (n : ℕ) → size ≤ offset → take n (drop offset (texts_of s)) ≡ take n (drop (offset - size) (texts_of t))
  passed_bytes n h =
      ap (λ v. take n (drop offset v)) (texts_are s t e y)
      ∙ skip_first (text_of e) (texts_of t) offset n (omega arith)
      ∙ ap (λ m. take n (drop (offset - m) (texts_of t))) (sym z)

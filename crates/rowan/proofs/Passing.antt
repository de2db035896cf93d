-- Children that precede a range, and the first that has some of its bytes.
use Rattle.std.proofs.Common.{◌≡◌, ℕ, zero, suc, ◌+◌, ◌-◌, ◌<◌, ◌≤◌, min, List, [], ◌∷◌, ◌++◌, length, take, drop, slice_get, None, refl, sym, ◌∙◌, ap, subst, arith}
use Rattle.std.proofs.lemmas.List.{take-append-drop}
use Rattle.rowan_green.specs.Forest.{forest_count}
use Rattle.rowan_green.specs.Term.{Term, text_of, texts_of, forest_of, texts_of-append}
use Rattle.rowan.specs.Text.{IsPart}
use Rattle.rowan.specs.ChildParts.{IsPassed, IsNext}
use Rattle.rowan.proofs.Texts.{drop_over, split_first, part_after}
use Rattle.rowan.proofs.Parts.{texts_are, count_falls, passed_part, read_within, read_after}

pub passed-none : (es : List Term) (skip : ℕ) → IsPassed es skip es skip
passed-none es skip = record { bytes = refl; count = omega arith; whole = λ len h. h }

-- one more is passed
pub passed-more : (es s t : List Term) (e : Term) (skip left size : ℕ) → s ≡ e ∷ t → size ≡ length (text_of e) → size ≤ left → IsPassed es skip s left → IsPassed es skip t (left - size)
passed-more es s t e skip left size y z h p = record {
  bytes =
      p.bytes
      ∙ ap (λ v. drop left v) (texts_are s t e y)
      ∙ drop_over (text_of e) (texts_of t) left (omega arith)
      ∙ ap (λ n. drop (left - n) (texts_of t)) (sym z);
  count = omega (arith, count_falls s t e y, p.count);
  whole = λ len q. passed_part s t e y size left len z (p.whole len q) h;
}

count_drop : (i : ℕ) (es : List Term) → forest_count (forest_of (drop i es)) ≤ forest_count (forest_of es)
count_drop zero es = omega arith
count_drop (suc i) [] = omega arith
count_drop (suc i) (e ∷ es) = omega (arith, count_drop i es, count_falls (e ∷ es) es e refl)

-- all before a child are passed
pub passed-to : (es : List Term) (i skip start : ℕ) → start ≡ length (texts_of (take i es)) → start ≤ skip → IsPassed es skip (drop i es) (skip - start)
passed-to es i skip start e h =
    let w : texts_of es ≡ texts_of (take i es) ++ texts_of (drop i es) = ap texts_of (sym (take-append-drop i es)) ∙ texts_of-append (take i es) (drop i es) in record {
      bytes =
          ap (λ v. drop skip v) w
          ∙ drop_over (texts_of (take i es)) (texts_of (drop i es)) skip (omega arith)
          ∙ ap (λ n. drop (skip - n) (texts_of (drop i es))) (sym e);
      count = count_drop i es;
      whole = λ len p.
          subst (λ n. IsPart (texts_of (drop i es)) (skip - n) (skip - n + len)) (sym e)
          (part_after (texts_of (take i es)) (texts_of (drop i es)) skip len (omega arith) (subst (λ v. IsPart v skip (skip + len)) w p));
    }

pub past : (es : List Term) (i : ℕ) → length es ≤ i → drop i es ≡ []
past [] zero h = refl
past [] (suc i) h = refl
past (e ∷ es) zero h = absurd (omega arith)
past (e ∷ es) (suc i) h = past es i (omega arith)

-- there is no child from this number on
pub past_all : (es : List Term) (i : ℕ) → None ≡ slice_get es i → drop i es ≡ []
past_all [] zero h = refl
past_all [] (suc i) h = refl
past_all (e ∷ es) zero h = absurd (cc)
past_all (e ∷ es) (suc i) h = past_all es i h

-- the first that is not passed has the next part of the range
pub next-part : (es s t : List Term) (e : Term) (skip len start size taken : ℕ) → s ≡ e ∷ t → size ≡ length (text_of e) → IsPassed es skip s start → start < size → 0 < len → taken ≡ min len (size - start)
    → IsNext (record { children = es; skip = skip; len = len }) (record { child = e; start = start; len = taken }) (record { children = t; skip = 0; len = len - taken })
next-part es s t e skip len start size taken y z p h l m = record {
  some = omega arith;
  within = omega arith;
  len = omega arith;
  count = omega (arith, count_falls s t e y, p.count);
  bytes =
      ap (take len) p.bytes
      ∙ ap (λ v. take len (drop start v)) (texts_are s t e y)
      ∙ split_first (text_of e) (texts_of t) start len taken (omega arith) (m ∙ ap (λ n. min len (n - start)) z);
  part = λ q. read_within s t e y size start len z (p.whole len q) taken m h;
  rest = λ q. read_after s t e y size start len z (p.whole len q) taken m h;
}

-- The text of rows.
use Rattle.std.proofs.Common.{◌≡◌, ℕ, zero, suc, ◌+◌, ◌-◌, ◌<◌, ◌≤◌, min, List, [], ◌∷◌, ◌++◌, length, map, take, drop, refl, ap, sym, ◌∙◌, arith, inl, inr, length-drop, append_assoc}
use Rattle.std.specs.Prelude.{slice_range}
use Rattle.std.specs.List.{flat_map}
use Rattle.std.proofs.lemmas.Bool.{cases_lt}
use Rattle.std.proofs.lemmas.List.{take-map, length-map, take_all, drop_all}
use Rattle.text_diff.specs.declared.change.Change.{Change}
use Rattle.text_diff.specs.Lines.{Line}
use Rattle.text_diff.specs.Hunks.{Row, context, removed, added, rows_in}
use Rattle.text_diff.specs.Unified.{marked, row_text}
use Rattle.text_diff.proofs.PatchLemmas.{rows_in-nil, rows_in-cons}

map-drop : {X Y : Type 0} (f : X → Y) (n : ℕ) (xs : List X) → map f (drop n xs) ≡ drop n (map f xs)
map-drop f zero xs = refl
map-drop f (suc n) [] = refl
map-drop f (suc n) (x ∷ xs) = map-drop f n xs

-- a part with its ends moved into the list
clamped : (xs : List Line) (from to t s : ℕ) → t ≡ min to (length xs) → s ≡ min from t → take (t - s) (drop s xs) ≡ slice_range xs from to
clamped xs from to t s is-t is-s =
    elim (cases_lt t from) [
      | inl past ↦
          let none : t - s ≡ 0 = omega arith in
          ap (λ n. take n (drop s xs)) none ∙ (
          elim (cases_lt (length xs) to) [
            | inl long ↦ let e : drop from xs ≡ [] = drop_all from xs (omega arith) in rw e (sym (take_all (to - from) [] (omega arith)))
            | inr short ↦ let e : to - from ≡ 0 = omega arith in rw e refl
          ])
      | inr within ↦
          let here : s ≡ from = omega arith in
          rw here (
          elim (cases_lt (length xs) to) [
            | inl long ↦
                take_all (t - from) (drop from xs) (omega (arith, length-drop from xs)) ∙ sym (take_all (to - from) (drop from xs) (omega (arith, length-drop from xs)))
            | inr short ↦ let e : t - from ≡ to - from = omega arith in ap (λ n. take n (drop from xs)) e
          ])
    ]

pub part-is : {X : Type 0} (f : X → Line) (xs : List X) (from to t s : ℕ) → t ≡ min to (length xs) → s ≡ min from t → map f (take (t - s) (drop s xs)) ≡ slice_range (map f xs) from to
part-is f xs from to t s is-t is-s =
    let len = length-map xs f in
    sym (take-map f (t - s) (drop s xs)) ∙ ap (λ v. take (t - s) v) (map-drop f s xs) ∙ clamped (map f xs) from to t s (omega arith) is-s

texts-append : (xs ys : List Row) → flat_map row_text (xs ++ ys) ≡ flat_map row_text xs ++ flat_map row_text ys
texts-append [] ys = refl
texts-append (x ∷ xs) ys = ap (λ v. row_text x ++ v) (texts-append xs ys) ∙ sym (append_assoc (row_text x) (flat_map row_text xs) (flat_map row_text ys))

texts-context : (ls : List Line) → flat_map row_text (map context ls) ≡ flat_map (λ l. marked 32 l) ls
texts-context [] = refl
texts-context (l ∷ ls) = ap (λ v. marked 32 l ++ v) (texts-context ls)

texts-removed : (ls : List Line) → flat_map row_text (map removed ls) ≡ flat_map (λ l. marked 45 l) ls
texts-removed [] = refl
texts-removed (l ∷ ls) = ap (λ v. marked 45 l ++ v) (texts-removed ls)

texts-added : (ls : List Line) → flat_map row_text (map added ls) ≡ flat_map (λ l. marked 43 l) ls
texts-added [] = refl
texts-added (l ∷ ls) = ap (λ v. marked 43 l ++ v) (texts-added ls)

pub rows-text-nil : (old new : List Line) (at to : ℕ) → flat_map row_text (rows_in old new at [] to) ≡ flat_map (λ l. marked 32 l) (slice_range old at to)
rows-text-nil old new at to = ap (λ v. flat_map row_text v) (rows_in-nil old new at to) ∙ texts-context (slice_range old at to)

pub rows-text-cons : (old new : List Line) (at : ℕ) (c : Change) (cs : List Change) (to : ℕ) → flat_map row_text (rows_in old new at (c ∷ cs) to)
    ≡ flat_map (λ l. marked 32 l) (slice_range old at c.old_start)
    ++ (flat_map (λ l. marked 45 l) (slice_range old c.old_start c.old_end)
    ++ (flat_map (λ l. marked 43 l) (slice_range new c.new_start c.new_end) ++ flat_map row_text (rows_in old new c.old_end cs to)))
rows-text-cons old new at c cs to =
    let a : List Line = slice_range old at c.old_start in
    let b : List Line = slice_range old c.old_start c.old_end in
    let d : List Line = slice_range new c.new_start c.new_end in
    let r : List Row = rows_in old new c.old_end cs to in
    ap (λ v. flat_map row_text v) (rows_in-cons old new at c cs to)
    ∙ rw (texts-append (map context a) (map removed b ++ (map added d ++ r)), texts-append (map removed b) (map added d ++ r), texts-append (map added d) r, texts-context a, texts-removed b, texts-added d) refl

-- one more change is appended
pub group-step : (text shown changed whole : List ℕ) (old new : List Line) (at : ℕ) (c : Change) (cs : List Change) (to : ℕ) →
    shown ≡ text ++ flat_map (λ l. marked 32 l) (slice_range old at c.old_start) →
    changed ≡ shown ++ (flat_map (λ l. marked 45 l) (slice_range old c.old_start c.old_end) ++ flat_map (λ l. marked 43 l) (slice_range new c.new_start c.new_end)) →
    text ++ flat_map row_text (rows_in old new at (c ∷ cs) to) ≡ whole → changed ++ flat_map row_text (rows_in old new c.old_end cs to) ≡ whole
group-step text shown changed whole old new at c cs to is-shown is-changed e =
    rw (is-changed, is-shown) (simp append_assoc (ap (λ v. text ++ v) (sym (rows-text-cons old new at c cs to)) ∙ e))

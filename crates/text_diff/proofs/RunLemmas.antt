-- Lemmas on runs of changes.
use Rattle.std.proofs.Common.{◌≡◌, ℕ, zero, suc, ◌+◌, ◌-◌, ◌<◌, ◌≤◌, min, Bool, true, false, List, [], ◌∷◌, ◌++◌, length, get_or, take, drop, refl, ap, ap₂, sym, subst, add-one, ◌∙◌, arith, inl, inr, length-take, length-drop, append_assoc}
use Rattle.std.specs.Prelude.{All, slice_range}
use Rattle.std.proofs.lemmas.List.{take_more, drop-drop, get_or-drop, take-append-drop, take_all}
use Rattle.text_diff.specs.declared.change.Change.{Change}
use Rattle.text_diff.specs.Lines.{Line}
use Rattle.text_diff.specs.Script.{AreSame, IsChange, IsRun}

-- a slice in two parts
pub slice-cut : (xs : List Line) (i m p : ℕ) → i ≤ m → m ≤ p → p ≤ length xs → slice_range xs i p ≡ slice_range xs i m ++ slice_range xs m p
slice-cut xs i m p a b l =
    let size : p - i ≡ (m - i) + (p - m) = omega arith in
    let there : i + (m - i) ≡ m = omega arith in
    let at : drop (m - i) (drop i xs) ≡ drop m xs = drop-drop (m - i) i xs ∙ ap (λ n. drop n xs) there in
    ap (λ n. take n (drop i xs)) size ∙ parts (m - i) (p - m) (drop i xs) ∙ ap (λ w. take (m - i) (drop i xs) ++ take (p - m) w) at
  where
    parts : (a b : ℕ) (ys : List Line) → take (a + b) ys ≡ take a ys ++ take b (drop a ys)
    parts zero b ys = let e : 0 + b ≡ b = omega arith in ap (λ n. take n ys) e
    parts (suc a) b [] = take_all (suc a + b) [] (omega arith) ∙ sym (take_all b [] (omega arith))
    parts (suc a) b (y ∷ ys) =
        let e : suc a + b ≡ suc (a + b) = omega arith in
        rw e (ap (λ v. y ∷ v) (parts a b ys))

pub length-slice : (xs : List Line) (i p : ℕ) → i ≤ p → p ≤ length xs → length (slice_range xs i p) ≡ p - i
length-slice xs i p a l = omega (arith, length-take (p - i) (drop i xs), length-drop i xs)

slice-none : (xs : List Line) (i : ℕ) → slice_range xs i i ≡ []
slice-none xs i = let e : i - i ≡ 0 = omega arith in ap (λ n. take n (drop i xs)) e

slice-one : (xs : List Line) (i : ℕ) → i < length xs → slice_range xs i (i + 1) ≡ get_or xs i [] ∷ []
slice-one xs i l = let e : i + 1 - i ≡ 1 = omega arith in ap (λ n. take n (drop i xs)) e ∙ first i xs l
  where
    first : (i : ℕ) (xs : List Line) → i < length xs → take 1 (drop i xs) ≡ get_or xs i [] ∷ []
    first i [] l = absurd (omega arith)
    first zero (x ∷ xs) l = refl
    first (suc i) (x ∷ xs) l = first i xs (omega arith)

-- as many old lines as new ones
pub same-lengths : {old new : List Line} {i j p q : ℕ} → AreSame old new i j p q → p - i ≡ q - j
same-lengths {old} {new} {i} {j} {p} {q} s =
    sym (length-slice old i p s.old_order s.old_end) ∙ ap length s.same ∙ length-slice new j q s.new_order s.new_end

pub same-none : (old new : List Line) (i j : ℕ) → i ≤ length old → j ≤ length new → AreSame old new i j i j
same-none old new i j a b = record {
  old_order = omega arith;
  new_order = omega arith;
  old_end = a;
  new_end = b;
  same = slice-none old i ∙ sym (slice-none new j);
}

pub same-join : {old new : List Line} {i j m n p q : ℕ} → AreSame old new i j m n → AreSame old new m n p q → AreSame old new i j p q
same-join {old} {new} {i} {j} {m} {n} {p} {q} s t = record {
  old_order = omega (arith, s.old_order, t.old_order);
  new_order = omega (arith, s.new_order, t.new_order);
  old_end = t.old_end;
  new_end = t.new_end;
  same =
      slice-cut old i m p s.old_order t.old_order t.old_end ∙ ap₂ (λ (u v : List Line). u ++ v) s.same t.same
      ∙ sym (slice-cut new j n q s.new_order t.new_order t.new_end);
}

pub same-step : (old new : List Line) (i j : ℕ) → i < length old → j < length new → get_or old i [] ≡ get_or new j [] → AreSame old new i j (i + 1) (j + 1)
same-step old new i j a b e = record {
  old_order = omega arith;
  new_order = omega arith;
  old_end = omega arith;
  new_end = omega arith;
  same = slice-one old i a ∙ ap (λ x. x ∷ []) e ∙ sym (slice-one new j b);
}

-- a run that goes on with lines that are the same
pub run-extend : (old new : List Line) (i j : ℕ) (cs : List Change) (m n p q : ℕ) → IsRun old new i j cs m n → AreSame old new m n p q → IsRun old new i j cs p q
run-extend old new i j [] m n p q r s = same-join r s
run-extend old new i j (c ∷ cs) m n p q r s = (r.0, r.1, run-extend old new c.old_end c.new_end cs m n p q r.2 s)

-- a run that goes on with a change
pub run-push : (old new : List Line) (i j : ℕ) (cs : List Change) (c : Change) → IsRun old new i j cs c.old_start c.new_start → IsChange old new c →
    IsRun old new i j (cs ++ c ∷ []) c.old_end c.new_end
run-push old new i j [] c r h = (r, h, same-none old new c.old_end c.new_end h.old_end h.new_end)
run-push old new i j (d ∷ ds) c r h = (r.0, r.1, run-push old new d.old_end d.new_end ds c r.2 h)

-- where lines are the same they may be cut
pub same-cut : (old new : List Line) (i j m p q : ℕ) → AreSame old new i j p q → i ≤ m → m ≤ p →
    AreSame old new i j m (j + (m - i)) × AreSame old new m (j + (m - i)) p q
same-cut old new i j m p q s a b =
    let n : ℕ = j + (m - i) in
    let len = same-lengths s in
    let l = s.old_order in let k = s.new_order in let e = s.old_end in let f = s.new_end in
    let below : n ≤ q = omega arith in
    let left = length-slice old i m a (omega arith) in
    let right = length-slice new j n (omega arith) (omega arith) in
    let whole : slice_range old i m ++ slice_range old m p ≡ slice_range new j n ++ slice_range new n q =
    sym (slice-cut old i m p a b e) ∙ s.same ∙ slice-cut new j n q (omega arith) below f in
    let both = parts (slice_range old i m) (slice_range new j n) (slice_range old m p) (slice_range new n q) (omega arith) whole in (
      record { old_order = a; new_order = omega arith; old_end = omega arith; new_end = omega arith; same = both.0 },
      record { old_order = b; new_order = below; old_end = e; new_end = f; same = both.1 },
    )
  where
    parts : (us vs cs ds : List Line) → length us ≡ length vs → us ++ cs ≡ vs ++ ds → (us ≡ vs) × (cs ≡ ds)
    parts [] [] cs ds l e = (refl, e)
    parts [] (b ∷ vs) cs ds l e = absurd (omega arith)
    parts (a ∷ us) [] cs ds l e = absurd (omega arith)
    parts (a ∷ us) (b ∷ vs) cs ds l e =
        let head : a ≡ b = cc in
        let tail : us ++ cs ≡ vs ++ ds = cc in
        let r = parts us vs cs ds (omega arith) tail in
        (ap₂ (λ (x : Line) (xs : List Line). x ∷ xs) head r.0, r.1)

-- what holds of the only element
pub all-one : {A : Type 0} (P : A → Type 0) (x : A) → P x → All P (x ∷ [])
all-one P x p zero d l = p
all-one P x p (suc k) d l = absurd (omega arith)

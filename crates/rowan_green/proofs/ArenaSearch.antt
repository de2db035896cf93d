-- Lemmas on the search for the child at an offset, which halves the list of children.
use Rattle.std.proofs.Common.{◌≡◌, ℕ, zero, suc, ◌+◌, ◌-◌, ◌*◌, ◌/◌, ◌≤◌, ◌<◌, ◌^◌, List, length, take, refl, ap, sym, arith, subst, get_or}
use Rattle.std.proofs.lemmas.List.{take-map, length-map}
use Rattle.std.proofs.Math.Seq.{take-length}
use Rattle.std.proofs.Math.Nat.{pow-suc}
use Rattle.rowan_green.specs.Term.{Term, texts_of}
use Rattle.rowan_green.specs.ChildAt.{IsChildAt}
use Rattle.rowan_green.specs.Arena.{Item, terms_at, IsRow}
use Rattle.rowan_green.proofs.ArenaRows.{row_len, row_at, row_some}

-- the child is one from `low` to before `high`, after `looks` starts were read
pub record Halving (xs : List Item) (start : ℕ) (target : ℕ) (low : ℕ) (low_start : ℕ) (high : ℕ) (looks : ℕ) : Type 0 where
  pub order : low < high
  pub within : high ≤ length xs
  pub begins : low_start ≡ start + row_len (take low xs)
  pub from : low_start ≤ target
  pub before_end : target < start + row_len (take high xs)
  pub bound : (d : ℕ) → length xs ≤ 2 ^ d → (looks ≤ d) × (high - low ≤ 2 ^ (d - looks))

pub halving_init : (xs : List Item) (s o : ℕ) → o < row_len xs → Halving xs s (s + o) 0 s (length xs) 0
halving_init xs s o h =
    let all : row_len (take (length xs) xs) ≡ row_len xs = ap row_len (take-length xs) in
    let none : row_len (take 0 xs) ≡ 0 = refl in
    record {
      order = omega (arith, row_some xs o h);
      within = omega arith;
      begins = omega (arith, none);
      from = omega arith;
      before_end = omega (arith, h, all);
      bound = λ d p. (omega arith, (let e : d ≡ d - 0 = omega arith in subst (λ (k : ℕ). length xs - 0 ≤ 2 ^ k) e (omega (arith, p))));
    }

-- half of what is between two powers of two
halved : (k w v : ℕ) → w ≤ 2 ^ k → 1 < w → 2 * v ≤ w + 1 → (1 ≤ k) × (v ≤ 2 ^ (k - 1))
halved zero w v p q r = (let e : 2 ^ zero ≡ 1 = refl in absurd (omega (arith, p, q, e)))
halved (suc k) w v p q r =
    let e : suc k - 1 ≡ k = omega arith in
    (omega arith, subst (λ (j : ℕ). v ≤ 2 ^ j) (sym e) (omega (arith, p, r, pow-suc 2 k)))

halved_looks : (d looks w v : ℕ) → (looks ≤ d) × (w ≤ 2 ^ (d - looks)) → 1 < w → 2 * v ≤ w + 1 → (looks + 1 ≤ d) × (v ≤ 2 ^ (d - (looks + 1)))
halved_looks d looks w v p q r =
    let h = halved (d - looks) w v p.1 q r in
    let e : (d - looks) - 1 ≡ d - (looks + 1) = omega arith in
    (omega (arith, p.0, h.0), subst (λ (j : ℕ). v ≤ 2 ^ j) e h.1)

pub halving_low : (xs : List Item) (s t low low_start high looks middle m : ℕ) (d : Item) → Halving xs s t low low_start high looks → 1 < high - low → middle ≡ low + (high - low) / 2 → IsRow s xs → m ≡ (get_or xs middle d).start → m ≤ t → Halving xs s t middle m high (looks + 1)
halving_low xs s t low low_start high looks middle m d p q e r w h =
    let a : middle < high = omega (arith, e, q) in
    let b = row_at s middle d xs r (omega (arith, a, p.within)) in
    let c : 2 * (high - middle) ≤ (high - low) + 1 = omega (arith, e, q) in
    record {
      order = a;
      within = p.within;
      begins = omega (arith, b, w);
      from = h;
      before_end = p.before_end;
      bound = λ k z. halved_looks k looks (high - low) (high - middle) (p.bound k z) q c;
    }

pub halving_high : (xs : List Item) (s t low low_start high looks middle m : ℕ) (d : Item) → Halving xs s t low low_start high looks → 1 < high - low → middle ≡ low + (high - low) / 2 → IsRow s xs → m ≡ (get_or xs middle d).start → t < m → Halving xs s t low low_start middle (looks + 1)
halving_high xs s t low low_start high looks middle m d p q e r w h =
    let a : middle < high = omega (arith, e, q) in
    let b = row_at s middle d xs r (omega (arith, a, p.within)) in
    let c : 2 * (middle - low) ≤ (high - low) + 1 = omega (arith, e, q) in
    record {
      order = omega (arith, e, q);
      within = omega (arith, a, p.within);
      begins = p.begins;
      from = p.from;
      before_end = omega (arith, b, w, h);
      bound = λ k z. halved_looks k looks (high - low) (middle - low) (p.bound k z) q c;
    }

pub halving_found : (xs : List Item) (s o t low low_start high looks : ℕ) → t ≡ s + o → Halving xs s t low low_start high looks → high - low ≤ 1 → IsChildAt (terms_at xs) o low (low_start - s)
halving_found xs s o t low low_start high looks q p h =
    let e : high ≡ low + 1 = omega (arith, p.order, h) in
    let a : length (texts_of (take low (terms_at xs))) ≡ row_len (take low xs) = ap (λ (ys : List Term). length (texts_of ys)) (take-map (λ x. x.term) low xs) in
    let b : length (texts_of (take (low + 1) (terms_at xs))) ≡ row_len (take (low + 1) xs) = ap (λ (ys : List Term). length (texts_of ys)) (take-map (λ x. x.term) (low + 1) xs) in
    let c : row_len (take high xs) ≡ row_len (take (low + 1) xs) = ap (λ (n : ℕ). row_len (take n xs)) e in
    record {
      present = omega (arith, p.order, p.within, length-map xs (λ (x : Item). x.term));
      begins = omega (arith, p.begins, a);
      from = omega (arith, p.from, q);
      before_end = omega (arith, p.before_end, q, b, c);
    }

-- Lemmas on lists of children: their sums, their heights, and places in them.
use Rattle.std.proofs.Common.{◌≡◌, ℕ, zero, suc, ◌+◌, ◌*◌, ◌-◌, ◌/◌, ◌≤◌, ◌<◌, ◌^◌, max, List, ◌++◌, length, take, drop, refl, arith, ap, sym, ◌∙◌, subst, inl, inr, length-append, length-take, length-drop, sum_by}
use Rattle.std.proofs.lemmas.Bool.{cases_order, cases_lt}
use Rattle.std.proofs.lemmas.List.{take-append-drop, take-append-le}
use Rattle.std.proofs.Math.Seq.{take-add, take-append_seam, drop-append_seam}
use Rattle.std.proofs.Math.Pow.{pow-lt}
use Rattle.std.proofs.Math.Nat.{pow-suc}
use Rattle.rowan_green.specs.Term.{Term, texts_of, texts_of-append, FitsNode}
use Rattle.rowan_green.specs.ChildAt.{IsChildAt}
use Rattle.std.specs.declared.rc.Rc.{Rc}
use Rattle.std.specs.declared.alloc.Global.{Global}
use Rattle.std.proofs.Common.{get_or, Vec}
use Rattle.rowan_green.specs.Balanced.{fewest, IsFork, IsBalanced, IsSummed, terms_in, height_of, middle_of, half_of, IsBlock}
use Rattle.rowan_green.specs.Term.{text_of, term_len}
use Rattle.rowan_green.specs.declared.element_list.Part.{Part}
use Rattle.rowan_green.specs.declared.element_list.Link.{Link}
use Rattle.rowan_green.specs.declared.element_list.Link.TheVariants.{Block, Fork}
use Rattle.rowan_green.proofs.Lengths.{length-texts_of, texts_more}

-- the lengths of the texts of two lists add up
pub texts_append : (xs ys : List Term) → length (texts_of (xs ++ ys)) ≡ length (texts_of xs) + length (texts_of ys)
texts_append xs ys = ap length (texts_of-append xs ys) ∙ length-append (texts_of xs) (texts_of ys)

pub texts_split : (i : ℕ) (es : List Term) → length (texts_of es) ≡ length (texts_of (take i es)) + length (texts_of (drop i es))
texts_split i es = ap (λ xs. length (texts_of xs)) (sym (take-append-drop i es)) ∙ texts_append (take i es) (drop i es)

-- ---- heights

fewest_rises : (h : ℕ) → fewest h ≤ fewest (suc h)
fewest_rises zero = omega arith
fewest_rises (suc zero) = omega arith
fewest_rises (suc (suc h)) = omega (arith, fewest_rises h)

fewest_doubles : (h : ℕ) → fewest (suc h) ≤ 2 * fewest h
fewest_doubles zero = omega arith
fewest_doubles (suc zero) = omega arith
fewest_doubles (suc (suc h)) = omega (arith, fewest_doubles h)

fewest_some : (h : ℕ) → 8 ≤ fewest h
fewest_some zero = omega arith
fewest_some (suc zero) = omega arith
fewest_some (suc (suc h)) = omega (arith, fewest_some h)

above_both : (h n m : ℕ) → fewest h ≤ n → fewest h ≤ m → fewest (suc h) ≤ n + m
above_both h n m u v = omega (arith, fewest_doubles h)

above_higher : (h n m : ℕ) → fewest (suc h) ≤ n → fewest h ≤ m → fewest (suc (suc h)) ≤ n + m
above_higher h n m u v = omega (arith, fewest_rises h)

-- a fork has as many terms as its height asks for
pub fewest_fork : (a b n m : ℕ) → a ≤ b + 1 → b ≤ a + 1 → fewest a ≤ n → fewest b ≤ m → fewest (max a b + 1) ≤ n + m
fewest_fork a b n m p q u v =
    let At : ℕ → Type 0 = λ h. fewest h ≤ n + m in
    elim (cases_order a b) [
      | inl e ↦
          let k : suc a ≡ max a b + 1 = omega arith in
          let w : fewest a ≤ m = subst (λ (x : ℕ). fewest x ≤ m) (sym e) v in
          subst At k (above_both a n m u w)
      | inr (inl less) ↦
          let k : suc (suc a) ≡ max a b + 1 = omega arith in
          let w : fewest (suc a) ≤ m = (let e : b ≡ suc a = omega arith in subst (λ (x : ℕ). fewest x ≤ m) e v) in
          subst At k (let z = above_higher a m n w u in omega (arith, z))
      | inr (inr more) ↦
          let k : suc (suc b) ≡ max a b + 1 = omega arith in
          let w : fewest (suc b) ≤ n = (let e : a ≡ suc b = omega arith in subst (λ (x : ℕ). fewest x ≤ n) e u) in
          subst At k (above_higher b n m w v)
    ]

pub below_power : (k d n : ℕ) → 2 ^ k ≤ n → n < 2 ^ d → k < d
below_power k d n p q =
    elim (cases_order k d) [
      | inl e ↦ let w : 2 ^ k ≡ 2 ^ d = ap (λ x. 2 ^ x) e in absurd (omega arith)
      | inr (inl less) ↦ less
      | inr (inr more) ↦ let w : 2 ^ d < 2 ^ k = pow-lt more in absurd (omega arith)
    ]

-- a list with at least 8 terms and fewer than 2^d is not high
pub height_bound : (h d n : ℕ) → fewest h ≤ n → n < 2 ^ d → h + 10 ≤ 2 * d + 2
height_bound zero d n p q = let k : 3 < d = below_power 3 d n p q in omega arith
height_bound (suc zero) d n p q = let k : 4 < d = below_power 4 d n p q in omega arith
height_bound (suc (suc h)) zero n p q = absurd (omega (arith, fewest_some h))
height_bound (suc (suc h)) (suc d) n p q =
    let k : fewest h < 2 ^ d = omega (arith, pow-suc 2 d) in
    let z = height_bound h d (fewest h) (omega arith) k in
    omega (arith, z)

few_digits : (d n : ℕ) → n < 8 → n < 2 ^ d → n + 1 ≤ 2 * d + 2
few_digits zero n p q = omega arith
few_digits (suc zero) n p q = omega arith
few_digits (suc (suc zero)) n p q = omega arith
few_digits (suc (suc (suc d))) n p q = omega arith

-- how many lengths a search looks at, that of the whole text among them
pub looks_bound : (d n h looks : ℕ) → (n < 8 → looks ≤ n) → looks ≤ h + 9 → (8 ≤ n → fewest h ≤ n) → n < 2 ^ d → looks + 1 ≤ 2 * d + 2
looks_bound d n h looks few some many p =
    elim (cases_lt n 8) [
      | inl less ↦ let a = few less in let z = few_digits d n less p in omega (arith, a, z)
      | inr more ↦ let z = height_bound h d n (many more) p in omega (arith, z)
    ]

-- ---- places

pub child_left : (xs ys : List Term) (o i s : ℕ) → IsChildAt xs o i s → IsChildAt (xs ++ ys) o i s
child_left xs ys o i s p =
    let h : i ≤ length xs = omega (arith, p.present) in
    let k : i + 1 ≤ length xs = omega (arith, p.present) in
    let e : take i (xs ++ ys) ≡ take i xs = take-append-le i xs ys h in
    let f : take (i + 1) (xs ++ ys) ≡ take (i + 1) xs = take-append-le (i + 1) xs ys k in
    record { present = omega (arith, p.present, length-append xs ys); begins = rw e p.begins; from = p.from; before_end = rw f p.before_end }

pub take_right : (xs ys : List Term) (i : ℕ) → take (length xs + i) (xs ++ ys) ≡ xs ++ take i ys
take_right xs ys i = take-add (length xs) i (xs ++ ys) ∙ ap (λ zs. zs ++ take i (drop (length xs) (xs ++ ys))) (take-append_seam xs ys) ∙ ap (λ zs. xs ++ take i zs) (drop-append_seam xs ys)

pub child_right : (xs ys : List Term) (half o i s : ℕ) → half ≡ length (texts_of xs) → half ≤ o → IsChildAt ys (o - half) i s → IsChildAt (xs ++ ys) o (length xs + i) (half + s)
child_right xs ys half o i s e h p =
    let a : length (texts_of (take (length xs + i) (xs ++ ys))) ≡ half + length (texts_of (take i ys)) = ap (λ zs. length (texts_of zs)) (take_right xs ys i) ∙ texts_append xs (take i ys) ∙ ap (λ n. n + length (texts_of (take i ys))) (sym e) in
    let same : (length xs + i) + 1 ≡ length xs + (i + 1) = omega arith in
    let b : length (texts_of (take ((length xs + i) + 1) (xs ++ ys))) ≡ half + length (texts_of (take (i + 1) ys)) = ap (λ n. length (texts_of (take n (xs ++ ys)))) same ∙ ap (λ zs. length (texts_of zs)) (take_right xs ys (i + 1)) ∙ texts_append xs (take (i + 1) ys) ∙ ap (λ n. n + length (texts_of (take (i + 1) ys))) (sym e) in
    record { present = omega (arith, p.present, length-append xs ys); begins = omega (arith, a, p.begins); from = omega (arith, p.from); before_end = omega (arith, b, p.before_end) }

-- a scan that has come to a term whose text ends after the offset
pub scan_found : (es : List Term) (o i s : ℕ) (d : Term) → i < length es → d ≡ get_or es i d → s ≡ sum_by term_len (take i es) → s ≤ o → o < s + term_len d → IsChildAt es o i s
scan_found es o i s d h e k p q =
    let a : s ≡ length (texts_of (take i es)) = k ∙ sym (length-texts_of (take i es)) in
    let b : length (texts_of (take (i + 1) es)) ≡ length (texts_of (take i es)) + term_len d = ap length (texts_more es i d h e) ∙ length-append (texts_of (take i es)) (text_of d) in
    record { present = h; begins = a; from = p; before_end = omega (arith, a, b) }

-- ---- what is known of a list once its link is seen

pub record AtFork (d : List Term × ℕ) (xs : List Term) (a : ℕ) (ys : List Term) (b : ℕ) (n : ℕ) (h : ℕ) (half : ℕ) : Type 0 where
  pub terms : d.0 ≡ xs ++ ys
  pub height : d.1 ≡ h
  pub fork : IsFork xs a ys b n h
  pub before : half ≡ length (texts_of xs)
  pub texts : length (texts_of d.0) ≡ length (texts_of xs) + length (texts_of ys)
  pub counts : length d.0 ≡ length xs + length ys
  pub fits : FitsNode d.0
  pub low : h + 10 ≤ 66
  pub above : (a < h) × (b < h)

pub at_fork : {link : Link} {half : ℕ} {d : List Term × ℕ} {l r : Rc Part Global} {n k : ℕ} → (terms_in link, height_of link) ≡ d → IsSummed link → link ≡ Fork half l r n k → AtFork d l.value.0 l.value.1 r.value.0 r.value.1 n k half
at_fork {link} {half} {d} {l} {r} {n} {k} v p e =
    let terms : d.0 ≡ l.value.0 ++ r.value.0 = sym (ap (λ x. x.0) v) ∙ ap terms_in e in
    let fork : IsFork l.value.0 l.value.1 r.value.0 r.value.1 n k = subst IsBalanced e p.balanced in
    let fits : FitsNode d.0 = subst FitsNode (ap (λ x. x.0) v) p.fits in
    let counts : length d.0 ≡ length l.value.0 + length r.value.0 = ap length terms ∙ length-append l.value.0 r.value.0 in
    let seam : length (texts_of (take (middle_of link) (terms_in link))) ≡ length (texts_of l.value.0) =
    ap (λ x. length (texts_of (take (middle_of x) (terms_in x)))) e ∙ ap (λ xs. length (texts_of xs)) (take-append_seam l.value.0 r.value.0) in
    let z = height_bound k 32 n fork.many (omega (arith, fork.count, counts, fits.count)) in
    record {
      terms = terms;
      height = sym (ap (λ x. x.1) v) ∙ ap height_of e;
      fork = fork;
      before = sym (ap half_of e) ∙ p.before_middle ∙ seam;
      texts = ap (λ xs. length (texts_of xs)) terms ∙ texts_append l.value.0 r.value.0;
      counts = counts;
      fits = fits;
      low = z;
      above = (omega (arith, fork.height), omega (arith, fork.height));
    }

pub record AtBlock (d : List Term × ℕ) (xs : List Term) (half : ℕ) : Type 0 where
  pub terms : d.0 ≡ xs
  pub height : d.1 ≡ 0
  pub few : length xs ≤ 16
  pub before : half ≡ length (texts_of (take (length xs / 2) xs))
  pub fits : FitsNode xs

pub at_block : {link : Link} {half : ℕ} {d : List Term × ℕ} {v : Vec Term Global} → (terms_in link, height_of link) ≡ d → IsSummed link → link ≡ Block half v → AtBlock d v.items half
at_block {link} {half} {d} {v} w p e =
    let b : IsBlock v.items = subst IsBalanced e p.balanced in
    record {
      terms = sym (ap (λ x. x.0) w) ∙ ap terms_in e;
      height = sym (ap (λ x. x.1) w) ∙ ap height_of e;
      few = b.few;
      before = sym (ap half_of e) ∙ p.before_middle ∙ ap (λ x. length (texts_of (take (middle_of x) (terms_in x)))) e;
      fits = subst (λ x. FitsNode (terms_in x)) e p.fits;
    }

pub new_fork : (d e : List Term × ℕ) (a b m n k : ℕ) → 8 ≤ length d.0 → 8 ≤ length e.0 → d.1 ≤ e.1 + 1 → e.1 ≤ d.1 + 1 → a ≡ d.1 → b ≡ e.1 → (8 ≤ length d.0 → fewest a ≤ length d.0) → (8 ≤ length e.0 → fewest b ≤ length e.0) → m ≡ max a b → n ≡ length d.0 → k ≡ length e.0 → IsFork d.0 d.1 e.0 e.1 (n + k) (m + 1)
new_fork d e a b m n k p q x y s t u v w i j =
    let h : m + 1 ≡ max a b + 1 = omega arith in
    let z : fewest (max a b + 1) ≤ length d.0 + length e.0 = fewest_fork a b (length d.0) (length e.0) (omega arith) (omega arith) (u p) (v q) in
    let g : fewest (m + 1) ≤ length d.0 + length e.0 = subst (λ (o : ℕ). fewest o ≤ length d.0 + length e.0) (sym h) z in
    record { left = p; right = q; left_low = x; right_low = y; count = omega arith; height = omega arith; many = omega (arith, g) }

-- ---- halves

pub power_halves : (h : ℕ) → (h ≡ 0 → ⊥) → 2 ^ h ≡ 2 * 2 ^ (h - 1)
power_halves zero p = absurd (p refl)
power_halves (suc h) p = let e : suc h - 1 ≡ h = omega arith in rw e (omega (arith, pow-suc 2 h))

pub fits_take : (i : ℕ) (es : List Term) → FitsNode es → FitsNode (take i es)
fits_take i es f = record { count = omega (arith, f.count, length-take i es); text = omega (arith, f.text, texts_split i es) }

pub fits_drop : (i : ℕ) (es : List Term) → FitsNode es → FitsNode (drop i es)
fits_drop i es f = record { count = omega (arith, f.count, length-drop i es); text = omega (arith, f.text, texts_split i es) }

pub ruleset sums = (texts_append, texts_split, fits_take, fits_drop)

-- Lemmas on runs: entries of an arena in a row, and their halves.
use Rattle.std.proofs.Common.{◌≡◌, ℕ, zero, suc, ◌+◌, ◌*◌, ◌-◌, ◌/◌, ◌≤◌, ◌<◌, ◌^◌, List, [], ◌∷◌, ◌++◌, length, take, drop, refl, ap, sym, ◌∙◌, arith, subst, get_or, string_bytes}
use Rattle.std.proofs.lemmas.List.{take-take, drop-take, drop-drop, map-append, length-map}
use Rattle.std.proofs.lemmas.Nat.{pow_pos}
use Rattle.std.proofs.lemmas.Option.{get_or_from_slice_get}
use Rattle.std.proofs.Math.Seq.{take-add}
use Rattle.std.proofs.Math.Nat.{pow-suc}
use Rattle.std.specs.Prelude.{slice_get, Some}
use Rattle.rowan_green.specs.Term.{Term, texts_of, FitsNode}
use Rattle.rowan_green.specs.Balanced.{fewest, IsJoined, IsBalanced, IsSummed, terms_in, height_of}
use Rattle.rowan_green.specs.declared.element_list.Link.{Link}
use Rattle.rowan_green.specs.declared.element_list.Link.TheVariants.{Run}
use Rattle.rowan_green.specs.declared.arena.Arena.{Arena}
use Rattle.rowan_green.specs.declared.arena.Entry.{Entry}
use Rattle.rowan_green.specs.Arena.{Item, terms_at, piece, row_start, item_end, items_in, item_in, items_over, IsRow, IsSound, ArePlaced, IsChildRange}
use Rattle.rowan_green.specs.Run.{run_terms, IsRun, HasHeight, AreHalves}
use Rattle.rowan_green.proofs.ArenaItems.{length-items_after, pieces_are, pieces_placed}
use Rattle.rowan_green.proofs.ArenaRows.{row_len, row_take, row_drop, length_piece}
use Rattle.rowan_green.proofs.ArenaReading.{last_end, element_item}
use Rattle.rowan_green.proofs.FlatRefLemmas.{slice_get-between, piece_terms}
use Rattle.rowan_green.proofs.Joining.{fits_front, fits_back}
use Rattle.rowan_green.proofs.Summing.{below_power, power_halves}

-- ---- heights

fewest_low : (h : ℕ) → fewest h ≤ 8 * 2 ^ h
fewest_low zero = omega arith
fewest_low (suc zero) = omega arith
fewest_low (suc (suc h)) = omega (arith, fewest_low h, pow-suc 2 (suc h), pow-suc 2 h)

pub height_many : (n h : ℕ) → HasHeight n h → fewest h ≤ n
height_many n h p = omega (arith, fewest_low h, p.many)

pub height_few : (n h : ℕ) → HasHeight n h → n < 16 → h ≡ 0
height_few n zero p q = refl
height_few n (suc h) p q = absurd (omega (arith, p.many, q, pow-suc 2 h, pow_pos h))

pub height_some : (n h : ℕ) → HasHeight n h → 8 ≤ n
height_some n h p = omega (arith, p.many, pow_pos h)

pub height_block : (n h : ℕ) → HasHeight n h → h ≡ 0 → n ≤ 16
height_block n h p e = let q : 2 ^ h ≡ 1 = ap (λ k. 2 ^ k) e in omega (arith, p.few, q)

pub height_low : (n h : ℕ) → HasHeight n h → n < 2 ^ 32 → h < 32
height_low n h p q = below_power h 32 n (omega (arith, p.many)) q

-- a run of height `h` has at most as many entries as a search of `h + 4` steps tells apart
pub height_room : (n h : ℕ) → HasHeight n h → n ≤ 2 ^ (h + 4)
height_room n h p =
    let e : suc (suc (suc (suc h))) ≡ h + 4 = omega arith in
    subst (λ (k : ℕ). n ≤ 2 ^ k) e (omega (arith, p.few, pow-suc 2 h, pow-suc 2 (suc h), pow-suc 2 (suc (suc h)), pow-suc 2 (suc (suc (suc h)))))

pub height_front : (n h : ℕ) → HasHeight n h → 1 ≤ h → HasHeight (n / 2) (h - 1)
height_front n h p q =
    let e = power_halves h (λ z. omega (arith, q, z)) in
    record { many = omega (arith, e, p.many); few = omega (arith, e, p.few) }

pub height_back : (n h : ℕ) → HasHeight n h → 1 ≤ h → HasHeight (n - n / 2) (h - 1)
height_back n h p q =
    let e = power_halves h (λ z. omega (arith, q, z)) in
    record { many = omega (arith, e, p.many); few = omega (arith, e, p.few) }

-- the halves of a run may lie below a fork
pub halves_joined : (d l r : List Term × ℕ) → AreHalves d l r → FitsNode d.0 → IsJoined d l r
halves_joined d l r p f = record {
  terms = p.terms;
  height = omega (arith, p.left_height, p.right_height);
  left = height_some _ _ p.left;
  right = height_some _ _ p.right;
  left_low = omega (arith, p.left_height, p.right_height);
  right_low = omega (arith, p.left_height, p.right_height);
  fits = f;
}

pub half_fits_front : (d l r : List Term × ℕ) → AreHalves d l r → FitsNode d.0 → FitsNode l.0
half_fits_front d l r p f = fits_front l.0 r.0 (subst FitsNode p.terms f)

pub half_fits_back : (d l r : List Term × ℕ) → AreHalves d l r → FitsNode d.0 → FitsNode r.0
half_fits_back d l r p f = fits_back l.0 r.0 (subst FitsNode p.terms f)

-- ---- parts of a run

row_own : (s : ℕ) (xs : List Item) → IsRow s xs → IsRow (row_start xs) xs
row_own s [] p = tt
row_own s (x ∷ xs) p = (refl, p.1)

pub run_front : (a : Arena) (f n m : ℕ) → IsRun a f n → m ≤ n → IsRun a f m
run_front a f n m r h =
    let s = row_start (piece (items_in a) f n) in
    let e : take m (piece (items_in a) f n) ≡ piece (items_in a) f m = take-take m n (drop f (items_in a)) h in
    let q : IsRow s (piece (items_in a) f m) = subst (λ (ys : List Item). IsRow s ys) e (row_take s m (piece (items_in a) f n) r.row) in
    record { sound = r.sound; within = omega (arith, r.within, h); row = row_own s _ q }

pub run_back : (a : Arena) (f n m : ℕ) → IsRun a f n → m ≤ n → IsRun a (f + m) (n - m)
run_back a f n m r h =
    let xs = items_in a in
    let s = row_start (piece xs f n) in
    let t = s + row_len (take m (piece xs f n)) in
    let k : n ≡ m + (n - m) = omega (arith, h) in
    let e : drop m (piece xs f n) ≡ piece xs (f + m) (n - m) =
    ap (λ (j : ℕ). drop m (take j (drop f xs))) k ∙ drop-take m (n - m) (drop f xs) ∙ ap (take (n - m)) (drop-drop m f xs) in
    let q : IsRow t (piece xs (f + m) (n - m)) = subst (λ (ys : List Item). IsRow t ys) e (row_drop s m (piece xs f n) r.row) in
    record { sound = r.sound; within = omega (arith, r.within, h); row = row_own t _ q }

pub run_split : (a : Arena) (f n m : ℕ) → m ≤ n → run_terms a f n ≡ run_terms a f m ++ run_terms a (f + m) (n - m)
run_split a f n m h =
    let xs = items_in a in
    let k : n ≡ m + (n - m) = omega (arith, h) in
    ap (λ (j : ℕ). terms_at (piece xs f j)) k
    ∙ ap terms_at (take-add m (n - m) (drop f xs))
    ∙ map-append (λ (x : Item). x.term) (take m (drop f xs)) (take (n - m) (drop m (drop f xs)))
    ∙ ap (λ (ys : List Item). run_terms a f m ++ terms_at (take (n - m) ys)) (drop-drop m f xs)

pub run_length : (a : Arena) (f n : ℕ) → IsRun a f n → length (run_terms a f n) ≡ n
run_length a f n r =
    let m = length-items_after (string_bytes a.text) a.records.items [] a.entries.items in
    length-map (piece (items_in a) f n) (λ (x : Item). x.term) ∙ length_piece (items_in a) f n (omega (arith, m, r.within))

-- what is known of a run and its height
pub record AtRun (d : List Term × ℕ) (n : ℕ) (h : ℕ) : Type 0 where
  pub count : length d.0 ≡ n
  pub height : d.1 ≡ h
  pub fits : HasHeight (length d.0) d.1
  pub low : h < 32
  pub some : 8 ≤ n

pub at_run : (a : Arena) (f n h : ℕ) (d : List Term × ℕ) → (run_terms a f n, h) ≡ d → IsRun a f n → HasHeight n h → AtRun d n h
at_run a f n h d v r p =
    let count : length d.0 ≡ n = ap (λ (x : List Term × ℕ). length x.0) (sym v) ∙ run_length a f n r in
    let height : d.1 ≡ h = ap (λ (x : List Term × ℕ). x.1) (sym v) in
    record {
      count = count;
      height = height;
      fits = subst (λ (k : ℕ). HasHeight (length d.0) k) (sym height) (subst (λ (k : ℕ). HasHeight k h) (sym count) p);
      low = height_low n h p (omega (arith, r.within, r.sound.count));
      some = height_some n h p;
    }

pub halves_of : (a b c : Arena) (f n h : ℕ) (d : List Term × ℕ) → (run_terms a f n, h) ≡ d → b ≡ a → c ≡ a → IsRun a f n → HasHeight n h → 1 ≤ h → AreHalves d (run_terms b f (n / 2), h - 1) (run_terms c (f + n / 2) (n - n / 2), h - 1)
halves_of a b c f n h d v p q r s t =
    let m = n / 2 in
    let le : m ≤ n = omega arith in
    let back : List Term = run_terms a (f + m) (n - m) in
    let x : run_terms b f m ≡ run_terms a f m = ap (λ (y : Arena). run_terms y f m) p in
    let y : run_terms c (f + m) (n - m) ≡ back = ap (λ (z : Arena). run_terms z (f + m) (n - m)) q in
    let i : length (run_terms b f m) ≡ m = ap length x ∙ run_length a f m (run_front a f n m r le) in
    let j : length (run_terms c (f + m) (n - m)) ≡ n - m = ap length y ∙ run_length a (f + m) (n - m) (run_back a f n m r le) in
    let e : d.1 ≡ h = ap (λ (z : List Term × ℕ). z.1) (sym v) in
    record {
      terms = ap (λ (z : List Term × ℕ). z.0) (sym v) ∙ run_split a f n m le ∙ ap (λ (ts : List Term). ts ++ back) (sym x) ∙ ap (λ (ts : List Term). run_terms b f m ++ ts) (sym y);
      left = subst (λ (k : ℕ). HasHeight k (h - 1)) (sym i) (height_front n h s t);
      right = subst (λ (k : ℕ). HasHeight k (h - 1)) (sym j) (height_back n h s t);
      left_height = omega (arith, e, t);
      right_height = omega (arith, e, t);
    }

-- ---- what is read of a run

pub record AreRunEntries (a : Arena) (f : ℕ) (n : ℕ) (es : List Entry) : Type 0 where
  pub sound : IsSound a es
  pub items : items_over a es ≡ piece (items_in a) f n
  pub count : length es ≡ n

pub run_read : (a : Arena) (f n : ℕ) (es : List Entry) → IsRun a f n → es ≡ piece a.entries.items f n → AreRunEntries a f n es
run_read a f n es r q =
    let t = string_bytes a.text in
    let rs = a.records.items in
    let all = a.entries.items in
    record {
      sound = record { text = r.sound.text; count = r.sound.count; ordered = r.sound.ordered; placed = subst (λ (y : List Entry). ArePlaced t rs (items_in a) y) (sym q) (pieces_placed t rs all f n r.sound.ordered) };
      items = ap (items_over a) q ∙ pieces_are t rs all f n r.sound.ordered;
      count = ap length q ∙ length_piece all f n r.within;
    }

first_of : (xs : List Item) (d : Item) → 1 ≤ length xs → (get_or xs 0 d).start ≡ row_start xs
first_of [] d h = absurd (omega (arith, h))
first_of (x ∷ xs) d h = refl

-- the texts of a run's entries lie in a row from the start of its first entry on
pub run_row : (a : Arena) (f n s : ℕ) (es : List Entry) (x : Entry) → IsRun a f n → AreRunEntries a f n es → 1 ≤ n → x ≡ get_or es 0 x → s ≡ (item_in a x).start → IsRow s (items_over a es)
run_row a f n s es x r p h q e =
    let d = item_in a x in
    let some : 0 < length es = omega (arith, p.count, h) in
    let n_is : length (items_over a es) ≡ length es = length-map es (item_in a) in
    let at : s ≡ row_start (items_over a es) =
    e ∙ ap (λ (y : Item). y.start) (element_item a es 0 x d some q) ∙ first_of (items_over a es) d (omega (arith, n_is, some)) in
    let own : IsRow (row_start (items_over a es)) (items_over a es) =
    subst (λ (ys : List Item). IsRow (row_start ys) ys) (sym p.items) r.row in
    subst (λ (k : ℕ). IsRow k (items_over a es)) (sym at) own

pub run_end : (a : Arena) (f n s e : ℕ) (es : List Entry) (x y : Entry) → IsRun a f n → AreRunEntries a f n es → 1 ≤ n → x ≡ get_or es 0 x → s ≡ (item_in a x).start → y ≡ get_or es (length es - 1) y → e ≡ item_end (item_in a y) → e ≡ s + length (texts_of (run_terms a f n))
run_end a f n s e es x y r p h q i w j =
    let d = item_in a y in
    let k = length es - 1 in
    let z : k < length es = omega (arith, p.count, h) in
    let xs = items_over a es in
    let n_is : length xs ≡ length es = length-map es (item_in a) in
    let last : item_end (get_or xs k d) ≡ s + row_len xs = last_end s k d xs (run_row a f n s es x r p h q i) (omega (arith, n_is, z)) in
    j ∙ ap item_end (element_item a es k y d z w) ∙ last ∙ ap (λ (ys : List Item). s + row_len ys) p.items

pub run_at : (a : Arena) (f n j : ℕ) (x : Term) → j < n → slice_get (terms_at (items_in a)) (f + j) ≡ Some x → x ≡ get_or (run_terms a f n) j x
run_at a f n j x h p =
    let q = slice_get-between (terms_at (items_in a)) f n j x h p in
    let w : slice_get (run_terms a f n) j ≡ Some x = ap (λ (ts : List Term). slice_get ts j) (sym (piece_terms a f n)) ∙ q in
    sym (get_or_from_slice_get (run_terms a f n) j x x w)

-- ---- the children of an entry, as a run

pub run_of_range : (a : Arena) (e : Entry) (f n : ℕ) → IsSound a [] → IsChildRange a e f n → IsRun a f n
run_of_range a e f n s p = record { sound = s; within = p.within; row = row_own (item_in a e).start _ p.row }

-- ---- a run as a list

pub record AtListRun (d : List Term × ℕ) (r : List Term × ℕ) : Type 0 where
  pub terms : d.0 ≡ r.0
  pub height : d.1 ≡ r.1
  pub fits : HasHeight (length r.0) r.1
  pub many : fewest d.1 ≤ length d.0
  pub some : 8 ≤ length d.0

pub at_list_run : {link : Link} {d r : List Term × ℕ} → (terms_in link, height_of link) ≡ d → IsSummed link → link ≡ Run r → AtListRun d r
at_list_run {link} {d} {r} v p e =
    let terms : d.0 ≡ r.0 = sym (ap (λ x. x.0) v) ∙ ap terms_in e in
    let height : d.1 ≡ r.1 = sym (ap (λ x. x.1) v) ∙ ap height_of e in
    let fits : HasHeight (length r.0) r.1 = subst IsBalanced e p.balanced in
    let n : length d.0 ≡ length r.0 = ap length terms in
    let many : fewest d.1 ≤ length r.0 = subst (λ (k : ℕ). fewest k ≤ length r.0) (sym height) (height_many (length r.0) r.1 fits) in
    record {
      terms = terms;
      height = height;
      fits = fits;
      many = omega (arith, many, n);
      some = omega (arith, n, height_some (length r.0) r.1 fits);
    }

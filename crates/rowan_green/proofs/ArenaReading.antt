-- Lemmas on one entry of an arena: its record, its children, its text.
use Rattle.std.proofs.Common.{◌≡◌, ℕ, zero, suc, ◌+◌, ◌-◌, ◌≤◌, ◌<◌, ◌^◌, List, [], ◌∷◌, length, take, drop, refl, ap, sym, ◌∙◌, arith, subst, get_or, string_bytes, take_all}
use Rattle.std.proofs.lemmas.List.{get_or-take, get_or-drop, get_or_default, get_or-map, length-map, take-map}
use Rattle.std.proofs.Math.Seq.{drop-cons}
use Rattle.std.specs.Prelude.{IsCharBoundary, slice_get, Some}
use Rattle.rowan_green.specs.Term.{Term, texts_of, text_of, term_len, terms-forest_of}
use Rattle.rowan_green.specs.declared.arena.Entry.{Entry}
use Rattle.rowan_green.specs.declared.arena.Entry.TheVariants.{Short, Few, Long, Many}
use Rattle.rowan_green.specs.declared.arena.Record.{Record}
use Rattle.rowan_green.specs.declared.arena.Arena.{Arena}
use Rattle.rowan_green.specs.Arena.{Item, terms_at, item_end, piece, row_start, record_at, node_item, items_in, item_in, items_over, term_in, terms_over, child_terms, IsRow, IsTextRange, IsFew, IsLong, IsMany, IsPlaced, ArePlaced, IsSound, IsChildRange}
use Rattle.rowan_green.proofs.ArenaItems.{reach, EntryAt, entry_at, length-items_after, pieces_are, pieces_placed}
use Rattle.rowan_green.proofs.ArenaRows.{row_len, row_at, row_len-more, length_piece, LiesIn, sound_lies}

-- no end of a text is past what a number of 32 bits can be
pub end_fits : (a : Arena) (e : Entry) → IsSound a (e ∷ []) → item_end (item_in a e) < 2 ^ 32
end_fits a e s =
    let l : LiesIn (string_bytes a.text) (item_in a e) = sound_lies a e s in
    let h : item_end (item_in a e) ≤ length (string_bytes a.text) = l.range.to.0 in
    omega (arith, h, s.text)

-- what is known of an entry as one of the four
placed_as : (a : Arena) (e x : Entry) → IsSound a (e ∷ []) → e ≡ x → IsPlaced (string_bytes a.text) a.records.items (items_in a) x
placed_as a e x s q = subst (λ (y : Entry). IsPlaced (string_bytes a.text) a.records.items (items_in a) y) q s.placed.0

-- a short token
pub short_end : (a : Arena) (e : Entry) (n k s : ℕ) → IsSound a (e ∷ []) → e ≡ Short n k s → item_end (item_in a e) ≡ s + n
short_end a e n k s p q =
    let r : IsTextRange (string_bytes a.text) s n = placed_as a e (Short n k s) p q in
    let h : s + n ≤ length (string_bytes a.text) = r.to.0 in
    ap (λ (y : Entry). item_end (item_in a y)) q ∙ ap (λ (y : ℕ). s + y) (length_piece (string_bytes a.text) s n h)

pub short_start : (a : Arena) (e : Entry) (n k s : ℕ) → e ≡ Short n k s → s ≡ (item_in a e).start
short_start a e n k s q = sym (ap (λ (y : Entry). (item_in a y).start) q)

-- a record that is read is that of the entry
pub record RecordOf (a : Arena) (e : Entry) (r : Record) : Type 0 where
  pub start : r.start ≡ (item_in a e).start
  pub end : r.start + r.len ≡ item_end (item_in a e)
  pub fits : r.start + r.len < 2 ^ 32

pub long_present : (a : Arena) (e : Entry) (k i : ℕ) → IsSound a (e ∷ []) → e ≡ Long k i → i < length a.records.items
long_present a e k i s q =
    let p : IsLong (string_bytes a.text) a.records.items i = placed_as a e (Long k i) s q in
    p.present

pub many_present : (a : Arena) (e : Entry) (k i : ℕ) → IsSound a (e ∷ []) → e ≡ Many k i → i < length a.records.items
many_present a e k i s q =
    let p : IsMany (string_bytes a.text) a.records.items (items_in a) i = placed_as a e (Many k i) s q in
    p.present

record_read : (rs : List Record) (i : ℕ) (r : Record) → i < length rs → r ≡ get_or rs i r → r ≡ record_at rs i
record_read rs i r h q = q ∙ get_or_default rs i r _ h

record_of : (a : Arena) (e : Entry) (r : Record) → IsSound a (e ∷ []) → r.start ≡ (item_in a e).start → r.len ≡ term_len (item_in a e).term → RecordOf a e r
record_of a e r s p q =
    let f : item_end (item_in a e) < 2 ^ 32 = end_fits a e s in
    record { start = p; end = omega (arith, p, q); fits = omega (arith, p, q, f) }

pub long_record : (a : Arena) (e : Entry) (k i : ℕ) (r : Record) → IsSound a (e ∷ []) → e ≡ Long k i → r ≡ get_or a.records.items i r → RecordOf a e r
long_record a e k i r s q w =
    let t = string_bytes a.text in
    let rs = a.records.items in
    let p : IsLong t rs i = placed_as a e (Long k i) s q in
    let z : r ≡ record_at rs i = record_read rs i r p.present w in
    let x = record_at rs i in
    let h : x.start + x.len ≤ length t = p.range.to.0 in
    record_of a e r s
    (ap (λ (y : Record). y.start) z ∙ sym (ap (λ (y : Entry). (item_in a y).start) q))
    (ap (λ (y : Record). y.len) z ∙ sym (length_piece t x.start x.len h) ∙ sym (ap (λ (y : Entry). term_len (item_in a y).term) q))

pub many_record : (a : Arena) (e : Entry) (k i : ℕ) (r : Record) → IsSound a (e ∷ []) → e ≡ Many k i → r ≡ get_or a.records.items i r → RecordOf a e r
many_record a e k i r s q w =
    let rs = a.records.items in
    let p : IsMany (string_bytes a.text) rs (items_in a) i = placed_as a e (Many k i) s q in
    let z : r ≡ record_at rs i = record_read rs i r p.present w in
    record_of a e r s
    (ap (λ (y : Record). y.start) z ∙ sym (ap (λ (y : Entry). (item_in a y).start) q))
    (ap (λ (y : Record). y.len) z ∙ p.node.len ∙ sym (ap (λ (y : Entry). term_len (item_in a y).term) q))

-- ---- the first and the last child

pub few_within : (a : Arena) (e : Entry) (n k f : ℕ) → IsSound a (e ∷ []) → e ≡ Few n k f → (1 ≤ n) × (f + n ≤ length a.entries.items)
few_within a e n k f s q =
    let p : IsFew (items_in a) f n = placed_as a e (Few n k f) s q in
    let h = length-items_after (string_bytes a.text) a.records.items [] a.entries.items in
    (p.some, omega (arith, h, p.children.within))

first_start : (xs : List Item) (f n : ℕ) (d : Item) → 1 ≤ n → f < length xs → row_start (piece xs f n) ≡ (get_or xs f d).start
first_start xs f zero d p h = absurd (omega (arith, p))
first_start xs f (suc n) d p h = ap (λ (ys : List Item). row_start (take (suc n) ys)) (drop-cons xs f d h)

-- the last of a row ends where the row does
pub last_end : (s j : ℕ) (d : Item) (xs : List Item) → IsRow s xs → suc j ≡ length xs → item_end (get_or xs j d) ≡ s + row_len xs
last_end s j d xs p h =
    let a = row_at s j d xs p (omega (arith, h)) in
    let b = row_len-more j d xs (omega (arith, h)) in
    let c : row_len (take (suc j) xs) ≡ row_len xs = ap row_len (take_all (suc j) xs (omega (arith, h))) in
    omega (arith, a, b, c)

-- from a node to a child at one of its ends
pub record Step (a : Arena) (e : Entry) (x : Entry) : Type 0 where
  pub sound : IsSound a (x ∷ [])
  pub falls : reach x < reach e

pub record StepFirst (a : Arena) (e : Entry) (x : Entry) : Type 0 where
  pub step : Step a e x
  pub start : (item_in a x).start ≡ (item_in a e).start

pub record StepLast (a : Arena) (e : Entry) (x : Entry) : Type 0 where
  pub step : Step a e x
  pub end : item_end (item_in a x) ≡ item_end (item_in a e)

pub step_first : (a : Arena) (e x : Entry) (n k f : ℕ) → IsSound a (e ∷ []) → e ≡ Few n k f → x ≡ get_or a.entries.items f x → StepFirst a e x
step_first a e x n k f s q w =
    let b = few_within a e n k f s q in
    let z = entry_at a (e ∷ []) f x s (omega (arith, b.0, b.1)) w in
    let d = item_in a x in
    let m = length-items_after (string_bytes a.text) a.records.items [] a.entries.items in
    let r : reach e ≡ f + n = ap reach q in
    record {
      step = record { sound = z.sound; falls = omega (arith, z.reach, r, b.0) };
      start = ap (λ (y : Item). y.start) (z.item d) ∙ sym (first_start (items_in a) f n d b.0 (omega (arith, b.0, b.1, m)))
          ∙ sym (ap (λ (y : Entry). (item_in a y).start) q);
    }

pub step_last : (a : Arena) (e x : Entry) (n k f i : ℕ) → IsSound a (e ∷ []) → e ≡ Few n k f → suc i ≡ f + n → x ≡ get_or a.entries.items i x → StepLast a e x
step_last a e x n k f i s q l w =
    let b = few_within a e n k f s q in
    let z = entry_at a (e ∷ []) i x s (omega (arith, b.1, l)) w in
    let d = item_in a x in
    let p : IsFew (items_in a) f n = placed_as a e (Few n k f) s q in
    let xs = piece (items_in a) f n in
    let m : length xs ≡ n = length_piece (items_in a) f n p.children.within in
    let r : reach e ≡ f + n = ap reach q in
    let j = n - 1 in
    let i_is : f + j ≡ i = omega (arith, l, b.0) in
    let same : get_or xs j d ≡ item_in a x =
    get_or-take n (drop f (items_in a)) j d (omega (arith, b.0)) ∙ get_or-drop f (items_in a) j d
    ∙ ap (λ (y : ℕ). get_or (items_in a) y d) i_is ∙ sym (z.item d) in
    record {
      step = record { sound = z.sound; falls = omega (arith, z.reach, r, l) };
      end = ap item_end (sym same) ∙ last_end (row_start xs) j d xs p.children.row (omega (arith, m, b.0))
          ∙ sym (ap (λ (y : Entry). item_end (item_in a y)) q);
    }

-- ---- all children

pub short_range : (a : Arena) (e : Entry) (n k s : ℕ) → e ≡ Short n k s → IsChildRange a e 0 0
short_range a e n k s q = record { within = omega arith; children = ap (λ (y : Entry). child_terms (item_in a y).term) (sym q); row = tt }

pub long_range : (a : Arena) (e : Entry) (k i : ℕ) → e ≡ Long k i → IsChildRange a e 0 0
long_range a e k i q = record { within = omega arith; children = ap (λ (y : Entry). child_terms (item_in a y).term) (sym q); row = tt }

range_of : (a : Arena) (e x : Entry) (k s f n : ℕ) → e ≡ x → item_in a x ≡ node_item k s (piece (items_in a) f n) → f + n ≤ length (items_in a) → IsRow s (piece (items_in a) f n) → IsChildRange a e f n
range_of a e x k s f n q i w r =
    let xs = piece (items_in a) f n in
    let m = length-items_after (string_bytes a.text) a.records.items [] a.entries.items in
    let same : item_in a e ≡ node_item k s xs = ap (λ (y : Entry). item_in a y) q ∙ i in
    record {
      within = omega (arith, m, w);
      children = sym (terms-forest_of (terms_at xs)) ∙ ap (λ (y : Item). child_terms y.term) (sym same);
      row = subst (λ (y : ℕ). IsRow y xs) (sym (ap (λ (y : Item). y.start) same)) r;
    }

pub few_range : (a : Arena) (e : Entry) (n k f : ℕ) → IsSound a (e ∷ []) → e ≡ Few n k f → IsChildRange a e f n
few_range a e n k f s q =
    let p : IsFew (items_in a) f n = placed_as a e (Few n k f) s q in
    range_of a e (Few n k f) k (row_start (piece (items_in a) f n)) f n q refl p.children.within p.children.row

pub many_range : (a : Arena) (e : Entry) (k i : ℕ) (r : Record) → IsSound a (e ∷ []) → e ≡ Many k i → r ≡ get_or a.records.items i r → IsChildRange a e r.first r.count
many_range a e k i r s q w =
    let rs = a.records.items in
    let p : IsMany (string_bytes a.text) rs (items_in a) i = placed_as a e (Many k i) s q in
    let x = record_at rs i in
    let z : r ≡ x = record_read rs i r p.present w in
    subst (λ (y : Record). IsChildRange a e y.first y.count) (sym z)
    (range_of a e (Many k i) k x.start x.first x.count q refl p.node.children.within p.node.children.row)

-- the entries of such a range
pub record AreChildrenOf (a : Arena) (e : Entry) (es : List Entry) : Type 0 where
  pub sound : IsSound a es
  pub children : terms_over a es ≡ child_terms (term_in a e)
  pub row : IsRow (item_in a e).start (items_over a es)
  pub count : length es < 2 ^ 32

pub range_read : (a : Arena) (e : Entry) (f n : ℕ) (es : List Entry) → IsSound a (e ∷ []) → IsChildRange a e f n → es ≡ piece a.entries.items f n → AreChildrenOf a e es
range_read a e f n es s p q =
    let t = string_bytes a.text in
    let rs = a.records.items in
    let all = a.entries.items in
    let same : items_over a es ≡ piece (items_in a) f n = ap (items_over a) q ∙ pieces_are t rs all f n s.ordered in
    record {
      sound = record { text = s.text; count = s.count; ordered = s.ordered; placed = subst (λ (y : List Entry). ArePlaced t rs (items_in a) y) (sym q) (pieces_placed t rs all f n s.ordered) };
      children = ap terms_at same ∙ p.children;
      row = subst (λ (y : List Item). IsRow (item_in a e).start y) (sym same) p.row;
      count = omega (arith, ap length q, length_piece all f n p.within, p.within, s.count);
    }

-- ---- one of several entries

pub element_placed : (t : List ℕ) (rs : List Record) (b : List Item) (es : List Entry) (i : ℕ) (d : Entry) → ArePlaced t rs b es → i < length es → IsPlaced t rs b (get_or es i d)
element_placed t rs b [] i d p h = absurd (omega (arith, h))
element_placed t rs b (e ∷ es) zero d p h = p.0
element_placed t rs b (e ∷ es) (suc i) d p h = element_placed t rs b es i d p.1 (omega (arith, h))

pub element_sound : (a : Arena) (es : List Entry) (i : ℕ) (x : Entry) → IsSound a es → i < length es → x ≡ get_or es i x → IsSound a (x ∷ [])
element_sound a es i x s h q =
    let t = string_bytes a.text in
    let rs = a.records.items in
    let p : IsPlaced t rs (items_in a) x = subst (λ (y : Entry). IsPlaced t rs (items_in a) y) (sym q) (element_placed t rs (items_in a) es i x s.placed h) in
    record { text = s.text; count = s.count; ordered = s.ordered; placed = (p, tt) }

pub element_item : (a : Arena) (es : List Entry) (i : ℕ) (x : Entry) (d : Item) → i < length es → x ≡ get_or es i x → item_in a x ≡ get_or (items_over a es) i d
element_item a es i x d h q = ap (item_in a) q ∙ sym (get_or-map (item_in a) es i x d h)

-- no end of a row of entries is past what a number of 32 bits can be
pub row_fits : (a : Arena) (es : List Entry) (s : ℕ) → IsSound a es → IsRow s (items_over a es) → 1 ≤ length es → s + row_len (items_over a es) < 2 ^ 32
row_fits a es s p r h =
    let j = length es - 1 in
    let z : j < length es = omega (arith, h) in
    let x = get_or es j (Short 0 0 0) in
    let q : x ≡ get_or es j x = get_or_default es j (Short 0 0 0) x z in
    let w : IsSound a (x ∷ []) = element_sound a es j x p z q in
    let d = item_in a x in
    let n = length-map es (item_in a) in
    let e : item_end (get_or (items_over a es) j d) ≡ s + row_len (items_over a es) = last_end s j d (items_over a es) r (omega (arith, h, n)) in
    let f : item_end d ≡ item_end (get_or (items_over a es) j d) = ap item_end (element_item a es j x d z q) in
    omega (arith, e, f, end_fits a x w)

-- ---- what is read

pub text_from : (a : Arena) (e : Entry) (bytes : List ℕ) (i : ℕ) → IsSound a (e ∷ []) → bytes ≡ string_bytes a.text → i ≡ (item_in a e).start → IsCharBoundary bytes i
text_from a e bytes i s p q =
    let l = sound_lies a e s in
    let b : IsCharBoundary (string_bytes a.text) i = subst (λ (n : ℕ). IsCharBoundary (string_bytes a.text) n) (sym q) l.range.from in
    subst (λ (t : List ℕ). IsCharBoundary t i) (sym p) b

pub text_to : (a : Arena) (e : Entry) (bytes : List ℕ) (i : ℕ) → IsSound a (e ∷ []) → bytes ≡ string_bytes a.text → i ≡ item_end (item_in a e) → IsCharBoundary bytes i
text_to a e bytes i s p q =
    let l = sound_lies a e s in
    let b : IsCharBoundary (string_bytes a.text) i = subst (λ (n : ℕ). IsCharBoundary (string_bytes a.text) n) (sym q) l.range.to in
    subst (λ (t : List ℕ). IsCharBoundary t i) (sym p) b

pub text_read : (a : Arena) (e : Entry) (bytes : List ℕ) (i j : ℕ) → IsSound a (e ∷ []) → bytes ≡ string_bytes a.text → i ≡ (item_in a e).start → j ≡ item_end (item_in a e) → take (j - i) (drop i bytes) ≡ text_of (term_in a e)
text_read a e bytes i j s p q w =
    let l = sound_lies a e s in
    let n : j - i ≡ term_len (term_in a e) = omega (arith, q, w) in
    ap (λ (t : List ℕ). take (j - i) (drop i t)) p ∙ ap (λ (y : ℕ). take y (drop i (string_bytes a.text))) n
    ∙ ap (λ (y : ℕ). piece (string_bytes a.text) y (term_len (term_in a e))) q ∙ l.text

pub slice_is : (xs ys : List Entry) (f n : ℕ) → xs ≡ ys → take ((f + n) - f) (drop f xs) ≡ piece ys f n
slice_is xs ys f n e =
    let h : (f + n) - f ≡ n = omega arith in
    ap (λ (k : ℕ). take k (drop f xs)) h ∙ ap (λ (zs : List Entry). piece zs f n) e

pub slice_get_at : (xs : List Term) (i : ℕ) (d : Term) → i < length xs → slice_get xs i ≡ Some (get_or xs i d)
slice_get_at [] i d h = absurd (omega (arith, h))
slice_get_at (x ∷ xs) zero d h = refl
slice_get_at (x ∷ xs) (suc i) d h = slice_get_at xs i d (omega (arith, h))

pub term_read : (a : Arena) (i : ℕ) (e : Entry) → EntryAt a i e → i < length a.entries.items → slice_get (terms_at (items_in a)) i ≡ Some (term_in a e)
term_read a i e z h =
    let d = item_in a e in
    let m = length-items_after (string_bytes a.text) a.records.items [] a.entries.items in
    let n : i < length (terms_at (items_in a)) = omega (arith, h, m, length-map (items_in a) (λ (x : Item). x.term)) in
    let k : i < length (items_in a) = omega (arith, h, m) in
    slice_get_at (terms_at (items_in a)) i d.term n
    ∙ ap (λ (t : Term). Some t) (get_or-map (λ (x : Item). x.term) (items_in a) i d d.term k ∙ ap (λ (x : Item). x.term) (sym (z.item d)))

-- where a child of a row starts in the text of the row
pub child_starts : (a : Arena) (es : List Entry) (s i n : ℕ) (x : Entry) → IsRow s (items_over a es) → i < length es → x ≡ get_or es i x → n ≡ (item_in a x).start → n ≡ s + length (texts_of (take i (terms_over a es)))
child_starts a es s i n x r h q e =
    let xs = items_over a es in
    let d = item_in a x in
    let z : (item_in a x).start ≡ (get_or xs i d).start = ap (λ (y : Item). y.start) (element_item a es i x d h q) in
    let w = row_at s i d xs r (omega (arith, h, length-map es (item_in a))) in
    let m : length (texts_of (take i (terms_over a es))) ≡ row_len (take i xs) = ap (λ (ts : List Term). length (texts_of ts)) (take-map (λ (y : Item). y.term) i xs) in
    omega (arith, e, z, w, m)

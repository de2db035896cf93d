-- The character at a byte of a text that is made of terms.
use Rattle.std.proofs.Common.{◌≡◌, ℕ, ◌+◌, ◌-◌, ◌<◌, ◌≤◌, min, List, [], ◌∷◌, ◌++◌, length, take, drop, length-append, length-take, sym, ◌∙◌, ap, subst, arith, inl, inr, Option, Some, None, zero, suc, slice_get, length-drop}
use Rattle.std.proofs.lemmas.List.{take_min, take-append-drop, drop-append-le}
use Rattle.std.proofs.Math.Seq.{take-append-add, drop-append_seam}
use Rattle.std.proofs.lemmas.Str.{IsCharBoundary-start}
use Rattle.std.specs.Char.{encode_utf8}
use Rattle.std.specs.Str.{IsUtf8, IsCharBoundary}
use Rattle.std.specs.Str.Pattern.{HasCharAt}
use Rattle.std.specs.Prelude.{MatchOption}
use Rattle.rowan_green.specs.ChildAt.{IsChildAt}
use Rattle.rowan_green.specs.Term.{Term, texts_of, text_of, texts_of-append}
use Rattle.rowan.specs.Place.{text_in}
use Rattle.rowan.specs.Text.{IsCut, IsPart, StandsAt, FirstAt, Lacks, IsCharAt}
use Rattle.rowan.specs.Reading.{stands_after, stands_before}
use Rattle.rowan.proofs.Texts.{lt_or_ge, cut_first, cut_rest, cut_of_part, take_over}
use Rattle.rowan.proofs.Parts.{texts_are}
use Rattle.rowan.proofs.Places.{len_next}

-- a text may be cut where it may be sliced
pub boundary_of_cut : (bs : List ℕ) (n : ℕ) → IsUtf8 bs → IsCut bs n → IsCharBoundary bs n
boundary_of_cut bs zero u c = IsCharBoundary-start bs u
boundary_of_cut bs (suc n) u c = (c.0, λ l g. c.1 (omega arith) l g)

-- the first character of what begins at a byte
pub first_char : (text rest u : List ℕ) (byte : ℕ) (r : Option ℕ) (X : Type 0) → rest ≡ drop byte text → byte ≤ length text → MatchOption r ((length rest ≡ 0) × X) (λ c. rest ≡ encode_utf8 c ++ u) → IsCharAt text byte r
first_char text rest u byte None X e h m = λ q. absurd (omega (arith, q.0, m.0, ap length e, length-drop byte text))
first_char text rest u byte (Some c) X e h m = record {
  before = take byte text;
  after = u;
  splits = sym (take-append-drop byte text) ∙ ap (λ v. take byte text ++ v) (sym e ∙ m);
  place = omega (arith, length-take byte text);
}

-- the first of these characters, by a search in one piece
pub first_found : (c : ℕ) (s : List ℕ) (i j : ℕ) → i ≤ length s → Lacks c (take i s) → HasCharAt c s i j → FirstAt c s i
first_found c s i j l n h = record {
  stands = record {
    before = take i s;
    after = drop j s;
    splits = sym (take-append-drop i s) ∙ ap (λ v. take i s ++ v) h.split;
    place = omega (arith, length-take i s);
  };
  first = n;
}

-- a character at offset `length a + n` of `a ++ v` is at offset `n` of `v`
stands_in : (a v : List ℕ) (c n : ℕ) → StandsAt c (a ++ v) (length a + n) → StandsAt c v n
stands_in a v c n s = record {
  before = drop (length a) s.before;
  after = s.after;
  splits = sym (drop-append_seam a v) ∙ ap (λ t. drop (length a) t) s.splits ∙ drop-append-le (length a) s.before (encode_utf8 c ++ s.after) (omega (arith, s.place));
  place = omega (arith, s.place, length-drop (length a) s.before);
}

char_in_rest : (a v : List ℕ) (n : ℕ) (r : Option ℕ) → (IsCut v n → IsCut (a ++ v) (length a + n)) → IsCharAt (a ++ v) (length a + n) r → IsCharAt v n r
char_in_rest a v n None k h = λ q. h (omega (arith, q.0, length-append a v), k q.1)
char_in_rest a v n (Some c) k h = stands_in a v c n h

pub char_of_part : (bs v : List ℕ) (start len n : ℕ) (r : Option ℕ) → IsPart bs start (start + len) → take len (drop start bs) ≡ v → IsCharAt (take (start + len) bs) (start + n) r → IsCharAt v n r
char_of_part bs v start len n r h e p =
    let a : length (take start bs) ≡ start = omega (arith, length-take start bs, h.begins.0) in
    let m : start + len - start ≡ len = omega arith in
    let w : take start bs ++ drop start bs ≡ bs = take-append-drop start bs in
    let x : take (start + len) bs ≡ take start bs ++ v =
    ap (λ t. take (start + len) t) (sym w) ∙ ap (λ k. take (k + len) (take start bs ++ drop start bs)) (sym a)
    ∙ take-append-add (take start bs) (drop start bs) len ∙ ap (λ t. take start bs ++ t) e in
    let y : take (start + len) bs ++ drop (start + len) bs ≡ bs = take-append-drop (start + len) bs in
    let o : length (take (start + len) bs) ≡ start + len = omega (arith, length-take (start + len) bs, h.ends.0) in
    char_in_rest (take start bs) v n r
    (λ (q : IsCut v n).
    let u : IsCut bs (start + n) = cut_of_part bs v start (start + len) h (ap (λ k. take k (drop start bs)) m ∙ e) n q in
    let i : length v ≡ len = omega (arith, o, a, ap length x, length-append (take start bs) v) in
    let d : IsCut (take (start + len) bs) (start + n) = cut_first (take (start + len) bs) (drop (start + len) bs) (start + n) (omega (arith, q.0)) (subst (λ t. IsCut t (start + n)) (sym y) u) in
    subst (λ t. IsCut t (length (take start bs) + n)) x (subst (λ k. IsCut (take (start + len) bs) (k + n)) (sym a) d))
    (subst (λ t. IsCharAt t (length (take start bs) + n) r) x (subst (λ k. IsCharAt (take (start + len) bs) (k + n) r) (sym a) p))

char_after : (a b : List ℕ) (k : ℕ) (r : Option ℕ) → IsCharAt b k r → IsCharAt (a ++ b) (length a + k) r
char_after a b k None h = λ q. h (omega (arith, q.0, length-append a b), cut_rest a b k q.1)
char_after a b k (Some c) h = stands_after c k a b h

char_before : (a b : List ℕ) (k : ℕ) (r : Option ℕ) → k < length a → IsCharAt a k r → IsCharAt (a ++ b) k r
char_before a b k None l h = λ q. h (l, cut_first a b k (omega arith) q.1)
char_before a b k (Some c) l h = stands_before c k a b h

module _ (s t : List Term) (e : Term) (y : s ≡ e ∷ t) (size left : ℕ) (z : size ≡ length (text_of e)) (c : IsCut (texts_of s) left) where
  cut_here : IsCut (text_of e ++ texts_of t) left
  cut_here = subst (λ v. IsCut v left) (texts_are s t e y) c

  pub passed_cut : size ≤ left → IsCut (texts_of t) (left - size)
  passed_cut h =
      let n : left ≡ length (text_of e) + (left - size) = omega arith in
      cut_rest (text_of e) (texts_of t) (left - size) (subst (λ m. IsCut (text_of e ++ texts_of t) m) n cut_here)

  pub within_cut : IsCut (text_of e) (min left size)
  within_cut = elim (lt_or_ge left (length (text_of e))) [
    | inl k ↦ let n : left ≡ min left size = omega arith in subst (λ m. IsCut (text_of e) m) n (cut_first (text_of e) (texts_of t) left (omega arith) cut_here)
    | inr k ↦ let n : length (text_of e) ≡ min left size = omega arith in subst (λ m. IsCut (text_of e) m) n (omega arith, λ a b. absurd (omega arith))
  ]

  split_here : take left (texts_of s) ≡ take (min left size) (text_of e) ++ take (left - size) (texts_of t)
  split_here =
      let n : min left (length (text_of e)) ≡ min left size = omega arith in
      ap (λ v. take left v) (texts_are s t e y) ∙ take_over (text_of e) (texts_of t) left
      ∙ ap (λ v. v ++ take (left - length (text_of e)) (texts_of t)) (sym (take_min left (text_of e)) ∙ ap (λ k. take k (text_of e)) n)
      ∙ ap (λ k. take (min left size) (text_of e) ++ take (left - k) (texts_of t)) (sym z)

  pub passed_char : (offset : ℕ) (r : Option ℕ) → size ≤ offset → offset < left → IsCharAt (take (left - size) (texts_of t)) (offset - size) r → IsCharAt (take left (texts_of s)) offset r
  passed_char offset r h k p =
      let n : length (take (min left size) (text_of e)) + (offset - size) ≡ offset = omega (arith, length-take (min left size) (text_of e)) in
      subst (λ v. IsCharAt v offset r) (sym split_here) (subst (λ m. IsCharAt (take (min left size) (text_of e) ++ take (left - size) (texts_of t)) m r) n (char_after (take (min left size) (text_of e)) (take (left - size) (texts_of t)) (offset - size) r p))

  pub within_char : (offset : ℕ) (r : Option ℕ) → offset < size → offset < left → IsCharAt (take (min left size) (text_of e)) offset r → IsCharAt (take left (texts_of s)) offset r
  within_char offset r h k p =
      subst (λ v. IsCharAt v offset r) (sym split_here) (char_before (take (min left size) (text_of e)) (take (left - size) (texts_of t)) offset r (omega (arith, length-take (min left size) (text_of e))) p)

-- ---- after the text before them

module _ (a b : List ℕ) (n left : ℕ) (z : n ≡ length a) where
  skip_cut : IsCut (a ++ b) left → n ≤ left → IsCut b (left - n)
  skip_cut c h = let m : left ≡ length a + (left - n) = omega arith in cut_rest a b (left - n) (subst (λ k. IsCut (a ++ b) k) m c)

  skip_char : (offset : ℕ) (r : Option ℕ) → n ≤ offset → offset < left → IsCharAt (take (left - n) b) (offset - n) r → IsCharAt (take left (a ++ b)) offset r
  skip_char offset r h k p =
      let m : length (take left a) + (offset - n) ≡ offset = omega (arith, length-take left a) in
      let w : take left (a ++ b) ≡ take left a ++ take (left - n) b = take_over a b left ∙ ap (λ k. take left a ++ take (left - k) b) (sym z) in
      subst (λ v. IsCharAt v offset r) (sym w) (subst (λ m. IsCharAt (take left a ++ take (left - n) b) m r) m (char_after (take left a) (take (left - n) b) (offset - n) r p))

get_drop : (es : List Term) (i : ℕ) (e : Term) → Some e ≡ slice_get es i → drop i es ≡ e ∷ drop (suc i) es
get_drop [] i e h = absurd (cc)
get_drop (x ∷ es) zero e h = let k : e ≡ x = cc in ap (λ y. y ∷ es) (sym k)
get_drop (x ∷ es) (suc i) e h = get_drop es i e h

-- a byte of a child that a search by an offset found
module _ (es : List Term) (i start byte size end : ℕ) (e : Term) (h : Some e ≡ slice_get es i) (c : IsChildAt es byte i start) (z : size ≡ length (text_of e)) (u : IsCut (texts_of es) end) (l : byte < end) where
  parts : texts_of es ≡ texts_of (take i es) ++ texts_of (drop i es)
  parts = ap texts_of (sym (take-append-drop i es)) ∙ texts_of-append (take i es) (drop i es)

  cut_rest_of : IsCut (texts_of (drop i es)) (end - start)
  cut_rest_of = skip_cut (texts_of (take i es)) (texts_of (drop i es)) start end c.begins (subst (λ v. IsCut v end) parts u) (omega (arith, c.from, l))

  next_is : length (texts_of (take (i + 1) es)) ≡ start + size
  next_is =
      let k : i + 1 ≡ suc i = omega arith in
      let s = len_next es i in
      let v : length (text_in (slice_get es i)) ≡ length (text_of e) = ap (λ o. length (text_in o)) (sym h) in
      let w = ap (λ m. length (texts_of (take m es))) k in
      omega (arith, s, v, w, z, c.begins)

  pub before_size : byte - start < size
  before_size = omega (arith, next_is, c.before_end, c.from)

  pub before_within : byte - start < min (end - start) size
  before_within = omega (arith, before_size, l, c.from)

  pub child_cut : IsCut (text_of e) (min (end - start) size)
  child_cut = within_cut (drop i es) (drop (suc i) es) e (get_drop es i e h) size (end - start) z cut_rest_of

  pub child_char : (r : Option ℕ) → IsCharAt (take (min (end - start) size) (text_of e)) (byte - start) r → IsCharAt (take end (texts_of es)) byte r
  child_char r p =
      let q = within_char (drop i es) (drop (suc i) es) e (get_drop es i e h) size (end - start) z cut_rest_of (byte - start) r before_size (omega (arith, l, c.from)) p in
      subst (λ v. IsCharAt (take end v) byte r) (sym parts) (skip_char (texts_of (take i es)) (texts_of (drop i es)) start end c.begins byte r c.from l q)

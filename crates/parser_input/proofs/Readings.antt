-- Where the leaves of a text stand in its bytes.
use Rattle.std.proofs.Common.{◌≡◌, ◌∙◌, ◌≤◌, ◌<◌, ◌+◌, ◌-◌, ℕ, zero, suc, List, [], ◌∷◌, ◌++◌, length, take, drop, get_or, refl, sym, subst, ap, arith, chars, length-drop, length-take, append_assoc, append-nil, slice_range}
use Rattle.std.specs.Str.{IsUtf8, IsCharBoundary}
use Rattle.std.specs.List.{flat_map}
use Rattle.std.proofs.Math.Seq.{drop-length}
use Rattle.std.proofs.lemmas.List.{drop-drop, take-append-drop}
use Rattle.std.proofs.lemmas.Str.{IsUtf8-drop, IsUtf8-take, IsCharBoundary-from_drop, chars-append, chars-nil}
use Rattle.rustc_lexer.specs.Characters.{size}
use Rattle.rustc_lexer.proofs.Sizes.{size-append, size-chars}
use Rattle.parser_input.specs.Lexed.{Lexed}
use Rattle.parser_input.specs.Stored.{AreSpans, end_from, offset, seen_from}
use Rattle.parser_input.specs.declared.lexed_str.StoredLeaf.{StoredLeaf}
use Rattle.parser_input.proofs.LexedSteps.{at-size, seen-length}

abbrev texts : List Lexed → List ℕ
texts ls = flat_map (λ l. l.leaf.text) ls

-- a piece between two boundaries is the front of what is left, in bytes and as a text
record Piece (text : List ℕ) (a b : ℕ) : Type 0 where
  pub bytes : size (chars (slice_range text a b)) ≡ b - a
  pub split : chars (drop a text) ≡ chars (slice_range text a b) ++ chars (drop b text)

piece-at : (text : List ℕ) (a b : ℕ) → IsUtf8 text → a ≤ b → IsCharBoundary text a → IsCharBoundary text b → Piece text a b
piece-at text a b u order at to =
    let rest = drop a text in
    let back : IsUtf8 rest = IsUtf8-drop text a u at in
    let after : drop (b - a) rest ≡ drop b text = drop-drop (b - a) a text ∙ ap (λ (k : ℕ). drop k text) (let z : a + (b - a) ≡ b = omega arith in z) in
    let past : IsUtf8 (drop (b - a) rest) = subst (λ (l : List ℕ). IsUtf8 l) (sym after) (IsUtf8-drop text b u to) in
    let inside : b - a ≤ length rest = omega (arith, length-drop a text, to.0) in
    let here = IsCharBoundary-from_drop rest (b - a) inside past in
    let own : IsUtf8 (take (b - a) rest) = IsUtf8-take rest (b - a) back here in
    let bytes = size-chars (take (b - a) rest) own in
    record {
      bytes = omega (arith, bytes, length-take (b - a) rest, inside);
      split =
          ap (λ (l : List ℕ). chars l) (sym (take-append-drop (b - a) rest)) ∙ chars-append (take (b - a) rest) (drop (b - a) rest) own
          ∙ ap (λ (l : List ℕ). chars (take (b - a) rest) ++ chars l) after;
    }

-- where a stored leaf ends
end-offset : (text : List ℕ) (start : ℕ) (ps : List StoredLeaf) (i : ℕ) (d : StoredLeaf) → IsUtf8 text → IsCharBoundary text start → AreSpans text start ps → i < length ps → start + offset (seen_from text start ps) (suc i) ≡ (get_or ps i d).end
end-offset text start [] i d u at s h = absurd (omega arith)
end-offset text start (p ∷ ps) zero d u at s h =
    let here = piece-at text start p.end u s.0 at s.1 in omega (arith, here.bytes, s.0)
end-offset text start (p ∷ ps) (suc i) d u at s h =
    let here = piece-at text start p.end u s.0 at s.1 in
    let rest = end-offset text p.end ps i d u s.1 s.2 (omega arith) in
    omega (arith, rest, here.bytes, s.0)

-- the leaves' texts, joined, are the text
seen-joined : (text : List ℕ) (start : ℕ) (ps : List StoredLeaf) → IsUtf8 text → IsCharBoundary text start → AreSpans text start ps → end_from start ps ≡ length text → chars (drop start text) ≡ texts (seen_from text start ps)
seen-joined text start [] u at s e =
    ap (λ (k : ℕ). chars (drop k text)) e ∙ ap (λ (l : List ℕ). chars l) (drop-length text) ∙ chars-nil
seen-joined text start (p ∷ ps) u at s e =
    let here = piece-at text start p.end u s.0 at s.1 in
    here.split ∙ ap (λ (l : List ℕ). chars (slice_range text start p.end) ++ l) (seen-joined text p.end ps u s.1 s.2 e)

-- the bytes of the first leaves are those of their texts
offset-joined : (ls : List Lexed) (n : ℕ) → offset ls n ≡ size (texts (take n ls))
unfolding size
offset-joined ls zero = refl
offset-joined [] (suc n) = refl
offset-joined (l ∷ ls) (suc n) =
    omega (arith, offset-joined ls n, size-append l.leaf.text (texts (take n ls)))

texts-append : (xs ys : List Lexed) → texts (xs ++ ys) ≡ texts xs ++ texts ys
texts-append [] ys = refl
texts-append (x ∷ xs) ys = ap (λ (l : List ℕ). x.leaf.text ++ l) (texts-append xs ys) ∙ sym (append_assoc x.leaf.text (texts xs) (texts ys))

own_take : (xs ys : List ℕ) → take (length xs) (xs ++ ys) ≡ xs
own_take [] ys = refl
own_take (x ∷ xs) ys = ap (λ (l : List ℕ). x ∷ l) (own_take xs ys)

own_drop : (xs ys : List ℕ) → drop (length xs) (xs ++ ys) ≡ ys
own_drop [] ys = refl
own_drop (x ∷ xs) ys = own_drop xs ys

-- the bytes of a front of a text, by what it is
pub record Front (bs : List ℕ) (x y : List ℕ) : Type 0 where
  pub boundary : IsCharBoundary bs (size x)
  pub front : chars (take (size x) bs) ≡ x
  pub left : chars (drop (size x) bs) ≡ y
  pub left_utf8 : IsUtf8 (drop (size x) bs)

pub front-at : (bs x y : List ℕ) → IsUtf8 bs → chars bs ≡ x ++ y → Front bs x y
front-at bs x y u e =
    let n = length x in
    let a = at-size bs n u in
    let own : take n (chars bs) ≡ x = ap (λ (l : List ℕ). take n l) e ∙ own_take x y in
    let back : drop n (chars bs) ≡ y = ap (λ (l : List ℕ). drop n l) e ∙ own_drop x y in
    let s : size (take n (chars bs)) ≡ size x = ap size own in
    record {
      boundary = subst (λ (k : ℕ). IsCharBoundary bs k) s a.boundary;
      front = ap (λ (k : ℕ). chars (take k bs)) (sym s) ∙ a.front ∙ own;
      left = ap (λ (k : ℕ). chars (drop k bs)) (sym s) ∙ a.left ∙ back;
      left_utf8 = subst (λ (k : ℕ). IsUtf8 (drop k bs)) s a.left_utf8;
    }

-- the text of a row of leaves, from where the first starts to where the last ends
pub record Range (text : List ℕ) (ls : List Lexed) (a b : ℕ) : Type 0 where
  pub order : offset ls a ≤ offset ls b
  pub begins : IsCharBoundary text (offset ls a)
  pub ends : IsCharBoundary text (offset ls b)
  pub own : chars (slice_range text (offset ls a) (offset ls b)) ≡ flat_map (λ l. l.leaf.text) (slice_range ls a b)

none_taken : (n : ℕ) (ls : List Lexed) → ls ≡ [] → ls ≡ take n ls
none_taken zero ls e = e
none_taken (suc n) [] e = refl
none_taken (suc n) (l ∷ ls) e = absurd (cc)

take-split : (ls : List Lexed) (a b n : ℕ) → a + n ≡ b → take b ls ≡ take a ls ++ take n (drop a ls)
take-split ls zero b n h = let z : b ≡ n = omega arith in ap (λ (k : ℕ). take k ls) z
take-split ls (suc a) zero n h = absurd (omega arith)
take-split [] (suc a) (suc b) n h = none_taken n [] refl
take-split (l ∷ ls) (suc a) (suc b) n h = ap (λ (x : List Lexed). l ∷ x) (take-split ls a b n (omega arith))

pub range-of : (text : List ℕ) (ls : List Lexed) (a b : ℕ) → IsUtf8 text → chars text ≡ texts ls → a ≤ b → Range text ls a b
range-of text ls a b u e order =
    let x = texts (take a ls) in
    let y = texts (slice_range ls a b) in
    let z = texts (drop b ls) in
    let middle : take b ls ≡ take a ls ++ slice_range ls a b = take-split ls a b (b - a) (omega arith) in
    let xy : texts (take b ls) ≡ x ++ y = ap (λ (l : List Lexed). texts l) middle ∙ texts-append (take a ls) (slice_range ls a b) in
    let whole : chars text ≡ (x ++ y) ++ z = e ∙ ap (λ (l : List Lexed). texts l) (sym (take-append-drop b ls)) ∙ texts-append (take b ls) (drop b ls) ∙ ap (λ (l : List ℕ). l ++ z) xy in
    let first = front-at text x (y ++ z) u (whole ∙ append_assoc x y z) in
    let both = front-at text (x ++ y) z u whole in
    let second = front-at (drop (size x) text) y z first.left_utf8 first.left in
    let n : offset ls a ≡ size x = offset-joined ls a in
    let m : offset ls b ≡ size (x ++ y) = offset-joined ls b ∙ ap size xy in
    let more : size (x ++ y) ≡ size x + size y = size-append x y in
    let width : offset ls b - offset ls a ≡ size y = omega (arith, n, m, more) in
    record {
      order = omega (arith, n, m, more);
      begins = subst (λ (k : ℕ). IsCharBoundary text k) (sym n) first.boundary;
      ends = subst (λ (k : ℕ). IsCharBoundary text k) (sym m) both.boundary;
      own = ap (λ (k : ℕ). chars (take (offset ls b - k) (drop k text))) n ∙ ap (λ (k : ℕ). chars (take k (drop (size x) text))) (let w : offset ls b - size x ≡ size y = omega (arith, n, m, more) in w) ∙ second.front;
    }

-- The readings of a text whose leaves are stored.

zero-boundary : (text : List ℕ) → IsUtf8 text → IsCharBoundary text 0
zero-boundary text u = IsCharBoundary-from_drop text 0 (omega arith) u

pub end-at : (text : List ℕ) (ps : List StoredLeaf) (ls : List Lexed) (i : ℕ) (d : StoredLeaf) → seen_from text 0 ps ≡ ls → IsUtf8 text → AreSpans text 0 ps → i < length ls → (get_or ps i d).end ≡ offset ls (i + 1)
end-at text ps ls i d is u s h =
    let long : i < length ps = omega (arith, h, ap (λ (l : List Lexed). length l) is, seen-length text 0 ps) in
    let at = end-offset text 0 ps i d u (zero-boundary text u) s long in
    let more : suc i ≡ i + 1 = omega arith in
    omega (arith, at, ap (λ (l : List Lexed). offset l (suc i)) is, ap (λ (n : ℕ). offset ls n) more)

pub range-at : (text : List ℕ) (ps : List StoredLeaf) (ls : List Lexed) (a b : ℕ) → seen_from text 0 ps ≡ ls → IsUtf8 text → AreSpans text 0 ps → end_from 0 ps ≡ length text → a ≤ b → Range text ls a b
range-at text ps ls a b is u s end order =
    range-of text ls a b u (seen-joined text 0 ps u (zero-boundary text u) s end ∙ ap (λ (l : List Lexed). texts l) is) order

-- the bytes of one leaf more
pub offset-more : (ls : List Lexed) (i : ℕ) (e : Lexed) → i < length ls → offset ls (i + 1) ≡ offset ls i + size (get_or ls i e).leaf.text
offset-more ls i e h =
    let more : i + 1 ≡ suc i = omega arith in ap (λ (n : ℕ). offset ls n) more ∙ go ls i h
  where
    go : (ls : List Lexed) (i : ℕ) → i < length ls → offset ls (suc i) ≡ offset ls i + size (get_or ls i e).leaf.text
    go [] i h = absurd (omega arith)
    go (l ∷ ls) zero h = omega arith
    go (l ∷ ls) (suc i) h = omega (arith, go ls i (omega arith))

-- a row of one leaf
one_taken : (ls : List Lexed) (i : ℕ) (e : Lexed) → i < length ls → flat_map (λ l. l.leaf.text) (take 1 (drop i ls)) ≡ (get_or ls i e).leaf.text
one_taken [] i e h = absurd (omega arith)
one_taken (l ∷ ls) zero e h = append-nil l.leaf.text
one_taken (l ∷ ls) (suc i) e h = one_taken ls i e (omega arith)

pub text-one : (ls : List Lexed) (i : ℕ) (e : Lexed) → i < length ls → flat_map (λ l. l.leaf.text) (slice_range ls i (i + 1)) ≡ (get_or ls i e).leaf.text
text-one ls i e h =
    let one : i + 1 - i ≡ 1 = omega arith in
    ap (λ (n : ℕ). flat_map (λ l. l.leaf.text) (take n (drop i ls))) one ∙ one_taken ls i e h

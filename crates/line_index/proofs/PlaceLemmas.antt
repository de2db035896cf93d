-- Lemmas on places: lines are cut at boundaries, and places lead back.
use Rattle.std.proofs.Common.{◌≡◌, ℕ, zero, suc, ◌+◌, ◌-◌, ◌<◌, ◌≤◌, ◌==◌, Bool, true, false, nat_le, leb, cond, List, [], ◌∷◌, length, get_or, take, drop, refl, ap, sym, subst, add-one, ◌∙◌, arith, inl, inr}
use Rattle.std.specs.Prelude.{IsCharBoundary, IsUtf8, slice_range}
use Rattle.std.specs.List.Sorted.{IsPartitionPoint, IsPartitionedBy}
use Rattle.std.proofs.lemmas.Bool.{cases_Bool, cases_lt, cases_order, eqb-true, leb-true, leb-false, le-leb}
use Rattle.std.proofs.lemmas.List.{take_all, length-take-le, take-take, get_or-take, get_or-drop, length-drop}
use Rattle.std.proofs.lemmas.Str.{IsCharBoundary-start, IsCharBoundary-end, IsCharBoundary-before_ascii, IsCharBoundary-after_ascii}
use Rattle.line_index.specs.declared.encoding.Encoding.{Encoding}
use Rattle.line_index.specs.declared.line_col.LineCol.{LineCol}
use Rattle.line_index.specs.Lines.{line_feed, feeds, line_start, line_len, line_end, line_text, line_starts}
use Rattle.line_index.specs.Columns.{width, units, reach, floor, line_col, offset}
use Rattle.line_index.proofs.Bytes.{feeds-feed, feeds-other, line_start-feed, line_start-other, line_start-zero}
use Rattle.line_index.proofs.LineLemmas.{feeds-nil, feeds-take, starts_before, starts_beyond, line_len-inner, line_len-last, line_starts-at, length-line_starts}
use Rattle.line_index.proofs.ColumnLemmas.{floor-boundary, reach-units, reach-all, width-boundary}

pub line_start-le : (line : ℕ) (text : List ℕ) → line ≤ feeds text → line_start line text ≤ length text
line_start-le line text h =
    let same : take (length text) text ≡ text = take_all (length text) text (omega arith) in
    starts_before line (length text) text (omega arith) (rw same h)

pub line_end-le : (line : ℕ) (text : List ℕ) → line ≤ feeds text → line_end line text ≤ length text
line_end-le line text h =
    elim (cases_lt line (feeds text)) [
      | inl inner ↦ let e = line_len-inner line text inner in let l = line_start-le (suc line) text (omega arith) in omega arith
      | inr last ↦
          let same : line ≡ feeds text = omega arith in
          rw same (let e = line_len-last text in omega arith)
    ]

-- the byte before the start of a later line is a line feed
feed-before : (line k : ℕ) (text : List ℕ) → suc line ≤ feeds text → line_start (suc line) text ≡ suc k → get_or text k 0 ≡ line_feed
feed-before line k [] h e = let h' = rw feeds-nil at h in absurd (omega arith)
feed-before zero k (b ∷ bs) h e =
    elim (cases_Bool (b == line_feed)) [
      | inl q ↦
          let e' : 0 ≡ k = (let f = rw (line_start-feed 0 b bs q, line_start-zero) at e in omega arith) in
          rw (← e') (eqb-true b line_feed q)
      | inr q ↦
          let h' = rw (feeds-other b bs q) at h in
          later 0 k b bs h' (let f = rw (line_start-other 0 b bs q) at e in omega arith) (λ k' is. feed-before 0 k' bs h' is)
    ]
  where
    later : (line k b : ℕ) (bs : List ℕ) → suc line ≤ feeds bs → line_start (suc line) bs ≡ k →
        ((k' : ℕ) → line_start (suc line) bs ≡ suc k' → get_or bs k' 0 ≡ line_feed) → get_or (b ∷ bs) k 0 ≡ line_feed
    later line zero b bs h e r = let above = starts_beyond (suc line) 0 bs (rw feeds-nil (omega arith)) h in absurd (omega arith)
    later line (suc k) b bs h e r = r k e
feed-before (suc line) k (b ∷ bs) h e =
    elim (cases_Bool (b == line_feed)) [
      | inl q ↦
          let h' = rw (feeds-feed b bs q) at h in
          let i : suc line ≤ feeds bs = omega arith in
          past line k b bs i (let f = rw (line_start-feed (suc line) b bs q) at e in omega arith) (λ k' is. feed-before line k' bs i is)
      | inr q ↦
          let h' = rw (feeds-other b bs q) at h in
          past (suc line) k b bs h' (let f = rw (line_start-other (suc line) b bs q) at e in omega arith) (λ k' is. feed-before (suc line) k' bs h' is)
    ]
  where
    past : (line k b : ℕ) (bs : List ℕ) → suc line ≤ feeds bs → line_start (suc line) bs ≡ k →
        ((k' : ℕ) → line_start (suc line) bs ≡ suc k' → get_or bs k' 0 ≡ line_feed) → get_or (b ∷ bs) k 0 ≡ line_feed
    past line zero b bs h e r = let above = starts_beyond (suc line) 0 bs (rw feeds-nil (omega arith)) h in absurd (omega arith)
    past line (suc k) b bs h e r = r k e

-- lines are cut at boundaries
pub line_start-boundary : (line : ℕ) (text : List ℕ) → IsUtf8 text → line ≤ feeds text → IsCharBoundary text (line_start line text)
line_start-boundary zero text u h = rw line_start-zero (IsCharBoundary-start text u)
line_start-boundary (suc line) text u h =
    let above = starts_beyond (suc line) 0 text (rw feeds-nil (omega arith)) h in
    let le = line_start-le (suc line) text h in
    let k : ℕ = line_start (suc line) text - 1 in
    let e : line_start (suc line) text ≡ suc k = omega arith in
    let f = feed-before line k text h e in
    let same : k + 1 ≡ line_start (suc line) text = omega arith in
    subst (λ n. IsCharBoundary text n) same (IsCharBoundary-after_ascii text k u (omega arith) (omega arith))

pub line_end-boundary : (line : ℕ) (text : List ℕ) → line ≤ feeds text → IsCharBoundary text (line_end line text)
line_end-boundary line text h =
    elim (cases_lt line (feeds text)) [
      | inl inner ↦
          let e = line_len-inner line text inner in
          let le = line_start-le (suc line) text (omega arith) in
          let f = feed-before line (line_end line text) text (omega arith) (sym e) in
          IsCharBoundary-before_ascii text (line_end line text) (omega arith) (omega arith)
      | inr last ↦
          let same : line ≡ feeds text = omega arith in
          rw (same, line_len-last text) (IsCharBoundary-end text)
    ]

-- an offset is within the line that it is in
pub offset-in-line : (n : ℕ) (text : List ℕ) → n ≤ length text → n ≤ line_end (feeds (take n text)) text
offset-in-line n text l =
    let f = feeds-take n text in
    elim (cases_lt (feeds (take n text)) (feeds text)) [
      | inl inner ↦
          let e = line_len-inner (feeds (take n text)) text inner in
          let b = starts_beyond (suc (feeds (take n text))) n text (omega arith) (omega arith) in
          omega arith
      | inr last ↦
          let same : feeds (take n text) ≡ feeds text = omega arith in
          rw same (let e = line_len-last text in omega arith)
    ]

-- line and column lead back
pub place-back : (e : Encoding) (text : List ℕ) (n : ℕ) → IsCharBoundary text n → offset e text (line_col e text n) ≡ n
place-back e text n h =
    let f = floor-boundary text n h in
    let line : ℕ = feeds (take n text) in
    let le = feeds-take n text in
    let start : ℕ = line_start line text in
    let from = starts_before line n text h.0 (omega arith) in
    let to = offset-in-line n text h.0 in
    let rest : List ℕ = drop start text in
    let len : line_end line text - start ≡ line_len rest = omega arith in
    let cut : take (n - start) (line_text line text) ≡ slice_range text start n = take-take (n - start) (line_end line text - start) rest (omega arith) in
    let all = line_end-le line text le in
    let long : length (line_text line text) ≡ line_end line text - start = length-take-le (line_end line text - start) rest (omega (arith, length-drop start text)) in
    let inside : n - start < length (line_text line text) → 0 < width e (get_or (line_text line text) (n - start) 0) = λ k.
    let same : start + (n - start) ≡ n = omega arith in
    rw (get_or-take (line_end line text - start) rest (n - start) 0 (omega arith), get_or-drop start text (n - start) 0, same) (width-boundary e text n h (omega arith)) in
    let back = reach-units e (n - start) (line_text line text) (omega arith) inside in
    rw (f, le-leb line (feeds text) le)
    (ap (λ m. floor text (start + m)) (ap (λ bs. reach e (units e bs) (line_text line text)) (sym cut) ∙ back)
    ∙ ap (λ m. floor text m) (omega arith) ∙ f)

-- a column past the end of its line leads to that end
pub long-column : (e : Encoding) (text : List ℕ) (p : LineCol) → p.line ≤ feeds text → units e (line_text p.line text) ≤ p.col → offset e text p ≡ line_end p.line text
long-column e text p le far =
    let start : ℕ = line_start p.line text in
    let all = line_end-le p.line text le in
    let long : length (line_text p.line text) ≡ line_end p.line text - start = length-take-le (line_end p.line text - start) (drop start text) (omega (arith, length-drop start text)) in
    let r = reach-all e p.col (line_text p.line text) far in
    rw (le-leb p.line (feeds text) le)
    (ap (λ m. floor text m) (omega arith) ∙ floor-boundary text (line_end p.line text) (line_end-boundary p.line text le))

-- the lines that start at or before an offset
pub starts-part : (text : List ℕ) (n : ℕ) → IsPartitionedBy (λ y. leb y n) (line_starts text)
starts-part text n i j d le l h =
    let size = length-line_starts text in
    let low = rw (line_starts-at text j d (omega arith)) at (leb-true (get_or (line_starts text) j d) n h) in
    rw (line_starts-at text i d (omega arith)) (le-leb (line_start i text) n (below i j n text low le (omega arith)))
  where
    below : (i j n : ℕ) (text : List ℕ) → line_start j text ≤ n → i ≤ j → j ≤ feeds text → line_start i text ≤ n
    below i j n text h le l =
        elim (cases_lt (feeds (take n text)) i) [
          | inl above ↦ let b = starts_beyond j n text (omega arith) l in absurd (omega arith)
          | inr within ↦
              elim (cases_lt (length text) n) [
                | inl past ↦ let s = line_start-le i text (omega arith) in omega arith
                | inr fits ↦ starts_before i n text fits within
              ]
        ]

pub starts-point : (text : List ℕ) (n r : ℕ) → n ≤ length text → r ≤ length (line_starts text) →
    IsPartitionPoint (λ y. leb y n ≡ true) (λ y. leb y n ≡ false) (line_starts text) r → r ≡ suc (feeds (take n text))
starts-point text n r l bound h =
    let size = length-line_starts text in
    let line : ℕ = feeds (take n text) in
    let le = feeds-take n text in
    elim (cases_order r (suc line)) [
      | inl same ↦ same
      | inr other ↦
          elim other [
            | inl low ↦
                let no = rw (line_starts-at text line 0 le) at (leb-false (get_or (line_starts text) line 0) n (h.1 line 0 (omega arith) (omega arith))) in
                let yes = starts_before line n text l (omega arith) in
                absurd (omega arith)
            | inr high ↦
                let yes = rw (line_starts-at text (suc line) 0 (omega arith)) at (leb-true (get_or (line_starts text) (suc line) 0) n (h.0 (suc line) 0 (omega arith) (omega arith))) in
                let no = starts_beyond (suc line) n text (omega arith) (omega arith) in
                absurd (omega arith)
          ]
    ]

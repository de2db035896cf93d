-- Lemmas on the starts of lines.
use Rattle.std.proofs.Common.{◌≡◌, ℕ, zero, suc, ◌+◌, ◌<◌, ◌≤◌, ◌==◌, Bool, true, false, List, [], ◌∷◌, ◌++◌, length, get_or, take, drop, refl, ap, sym, ◌∙◌, arith, inl, inr, append-nil}
use Rattle.std.proofs.lemmas.Bool.{cases_Bool}
use Rattle.line_index.specs.Lines.{line_feed, feeds, line_start, line_len, starts_after, line_starts}
use Rattle.line_index.proofs.Bytes.{feeds-feed, feeds-other, line_start-feed, line_start-other, line_start-zero, line_len-feed, line_len-other, starts_after-feed, starts_after-other}

pub feeds-nil : feeds [] ≡ 0
unfolding feeds
feeds-nil = refl

pub starts_after-nil : (at : ℕ) → starts_after at [] ≡ []
unfolding starts_after
starts_after-nil at = refl

-- as many starts after the first as line feeds
pub length-starts_after : (at : ℕ) (text : List ℕ) → length (starts_after at text) ≡ feeds text
unfolding starts_after feeds
length-starts_after at [] = refl
length-starts_after at (b ∷ bs) =
    elim (cases_Bool (b == line_feed)) [
      | inl q ↦ rw (starts_after-feed at b bs q, feeds-feed b bs q) (ap suc (length-starts_after (at + 1) bs))
      | inr q ↦ rw (starts_after-other at b bs q, feeds-other b bs q) (length-starts_after (at + 1) bs)
    ]

pub starts_after-append : (at : ℕ) (xs ys : List ℕ) → starts_after at (xs ++ ys) ≡ starts_after at xs ++ starts_after (at + length xs) ys
starts_after-append at [] ys = rw starts_after-nil (ap (λ n. starts_after n ys) (omega arith))
starts_after-append at (b ∷ bs) ys =
    let e : at + 1 + length bs ≡ at + length (b ∷ bs) = omega arith in
    let r = starts_after-append (at + 1) bs ys in
    elim (cases_Bool (b == line_feed)) [
      | inl q ↦
          rw (starts_after-feed at b (bs ++ ys) q, starts_after-feed at b bs q)
          (ap (λ v. (at + 1) ∷ v) (r ∙ ap (λ n. starts_after (at + 1) bs ++ starts_after n ys) e))
      | inr q ↦
          rw (starts_after-other at b (bs ++ ys) q, starts_after-other at b bs q)
          (r ∙ ap (λ n. starts_after (at + 1) bs ++ starts_after n ys) e)
    ]

pub starts_after-at : (at : ℕ) (text : List ℕ) (k d : ℕ) → k < feeds text → get_or (starts_after at text) k d ≡ at + line_start (suc k) text
starts_after-at at [] k d h = let h' = rw feeds-nil at h in absurd (omega arith)
starts_after-at at (b ∷ bs) zero d h =
    elim (cases_Bool (b == line_feed)) [
      | inl q ↦ rw (starts_after-feed at b bs q, line_start-feed 0 b bs q, line_start-zero) (omega arith)
      | inr q ↦
          let r = starts_after-at (at + 1) bs 0 d (rw (feeds-other b bs q) at h) in
          rw (starts_after-other at b bs q, line_start-other 0 b bs q) (omega arith)
    ]
starts_after-at at (b ∷ bs) (suc k) d h =
    elim (cases_Bool (b == line_feed)) [
      | inl q ↦
          let h' = rw (feeds-feed b bs q) at h in
          let r = starts_after-at (at + 1) bs k d (omega arith) in
          rw (starts_after-feed at b bs q, line_start-feed (suc k) b bs q) (omega arith)
      | inr q ↦
          let r = starts_after-at (at + 1) bs (suc k) d (rw (feeds-other b bs q) at h) in
          rw (starts_after-other at b bs q, line_start-other (suc k) b bs q) (omega arith)
    ]

-- the starts by number
pub length-line_starts : (text : List ℕ) → length (line_starts text) ≡ suc (feeds text)
length-line_starts text = ap suc (length-starts_after 0 text)

pub line_starts-at : (text : List ℕ) (line d : ℕ) → line ≤ feeds text → get_or (line_starts text) line d ≡ line_start line text
line_starts-at text zero d h = sym (line_start-zero text)
line_starts-at text (suc line) d h = starts_after-at 0 text line d (omega arith) ∙ omega arith

-- which lines start at or before an offset
pub starts_before : (line n : ℕ) (text : List ℕ) → n ≤ length text → line ≤ feeds (take n text) → line_start line text ≤ n
starts_before zero n text l h = rw line_start-zero (omega arith)
starts_before (suc line) zero text l h = let h' = rw feeds-nil at h in absurd (omega arith)
starts_before (suc line) (suc n) [] l h = absurd (omega arith)
starts_before (suc line) (suc n) (b ∷ bs) l h =
    elim (cases_Bool (b == line_feed)) [
      | inl q ↦
          let h' = rw (feeds-feed b (take n bs) q) at h in
          let r = starts_before line n bs (omega arith) (omega arith) in
          rw (line_start-feed line b bs q) (omega arith)
      | inr q ↦
          let h' = rw (feeds-other b (take n bs) q) at h in
          let r = starts_before (suc line) n bs (omega arith) h' in
          rw (line_start-other line b bs q) (omega arith)
    ]

pub starts_beyond : (line n : ℕ) (text : List ℕ) → feeds (take n text) < line → line ≤ feeds text → n < line_start line text
starts_beyond zero n text h l = absurd (omega arith)
starts_beyond (suc line) n [] h l = let l' = rw feeds-nil at l in absurd (omega arith)
starts_beyond (suc line) zero (b ∷ bs) h l =
    elim (cases_Bool (b == line_feed)) [
      | inl q ↦ rw (line_start-feed line b bs q) (omega arith)
      | inr q ↦ rw (line_start-other line b bs q) (omega arith)
    ]
starts_beyond (suc line) (suc n) (b ∷ bs) h l =
    elim (cases_Bool (b == line_feed)) [
      | inl q ↦
          let h' = rw (feeds-feed b (take n bs) q) at h in
          let l' = rw (feeds-feed b bs q) at l in
          let r = starts_beyond line n bs (omega arith) (omega arith) in
          rw (line_start-feed line b bs q) (omega arith)
      | inr q ↦
          let h' = rw (feeds-other b (take n bs) q) at h in
          let l' = rw (feeds-other b bs q) at l in
          let r = starts_beyond (suc line) n bs h' l' in
          rw (line_start-other line b bs q) (omega arith)
    ]

pub feeds-take : (n : ℕ) (text : List ℕ) → feeds (take n text) ≤ feeds text
feeds-take zero text = rw feeds-nil (omega arith)
feeds-take (suc n) [] = omega arith
feeds-take (suc n) (b ∷ bs) =
    elim (cases_Bool (b == line_feed)) [
      | inl q ↦ let r = feeds-take n bs in rw (feeds-feed b (take n bs) q, feeds-feed b bs q) (omega arith)
      | inr q ↦ let r = feeds-take n bs in rw (feeds-other b (take n bs) q, feeds-other b bs q) (omega arith)
    ]

-- a line ends before the feed that starts the next one, the last one at the end of the text
pub line_len-inner : (line : ℕ) (text : List ℕ) → line < feeds text → suc (line_start line text + line_len (drop (line_start line text) text)) ≡ line_start (suc line) text
line_len-inner line [] h = let h' = rw feeds-nil at h in absurd (omega arith)
line_len-inner zero (b ∷ bs) h =
    elim (cases_Bool (b == line_feed)) [
      | inl q ↦ rw (line_start-zero, line_len-feed b bs q, line_start-feed 0 b bs q, line_start-zero) (omega arith)
      | inr q ↦
          let h' = rw (feeds-other b bs q) at h in
          let r = rw line_start-zero at (line_len-inner 0 bs h') in
          rw (line_start-zero, line_len-other b bs q, line_start-other 0 b bs q) (omega arith)
    ]
line_len-inner (suc line) (b ∷ bs) h =
    elim (cases_Bool (b == line_feed)) [
      | inl q ↦
          let h' = rw (feeds-feed b bs q) at h in
          let r = line_len-inner line bs (omega arith) in
          rw (line_start-feed line b bs q, line_start-feed (suc line) b bs q) (omega arith)
      | inr q ↦
          let h' = rw (feeds-other b bs q) at h in
          let r = line_len-inner (suc line) bs (omega arith) in
          rw (line_start-other line b bs q, line_start-other (suc line) b bs q) (omega arith)
    ]

-- the last line ends with the text
line_len-rest : (line : ℕ) (text : List ℕ) → feeds text ≡ line → line_start line text + line_len (drop (line_start line text) text) ≡ length text
unfolding line_start line_len
line_len-rest zero [] h = refl
line_len-rest (suc line) [] h = let h' = rw feeds-nil at h in absurd (omega arith)
line_len-rest zero (b ∷ bs) h =
    elim (cases_Bool (b == line_feed)) [
      | inl q ↦ let h' = rw (feeds-feed b bs q) at h in absurd (omega arith)
      | inr q ↦
          let h' = rw (feeds-other b bs q) at h in
          let r = rw line_start-zero at (line_len-rest 0 bs h') in
          rw (line_start-zero, line_len-other b bs q) (omega arith)
    ]
line_len-rest (suc line) (b ∷ bs) h =
    elim (cases_Bool (b == line_feed)) [
      | inl q ↦
          let h' = rw (feeds-feed b bs q) at h in
          let r = line_len-rest line bs (omega arith) in
          rw (line_start-feed line b bs q) (omega arith)
      | inr q ↦
          let h' = rw (feeds-other b bs q) at h in
          let r = line_len-rest (suc line) bs h' in
          rw (line_start-other line b bs q) (omega arith)
    ]

pub line_len-last : (text : List ℕ) → line_start (feeds text) text + line_len (drop (line_start (feeds text) text) text) ≡ length text
line_len-last text = line_len-rest (feeds text) text refl

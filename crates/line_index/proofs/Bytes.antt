-- The definitions of lines at a first byte.
use Rattle.std.proofs.Common.{◌≡◌, ℕ, suc, ◌+◌, ◌==◌, Bool, true, false, List, ◌∷◌, refl}
use Rattle.line_index.specs.Lines.{line_feed, feeds, line_start, line_len, starts_after}

pub feeds-feed : (b : ℕ) (bs : List ℕ) → (b == line_feed) ≡ true → feeds (b ∷ bs) ≡ suc (feeds bs)
unfolding feeds
feeds-feed b bs q = rw (q, feeds) refl

pub feeds-other : (b : ℕ) (bs : List ℕ) → (b == line_feed) ≡ false → feeds (b ∷ bs) ≡ feeds bs
unfolding feeds
feeds-other b bs q = rw (q, feeds) refl

pub line_start-feed : (line b : ℕ) (bs : List ℕ) → (b == line_feed) ≡ true → line_start (suc line) (b ∷ bs) ≡ suc (line_start line bs)
unfolding line_start
line_start-feed line b bs q = rw (q, line_start) refl

pub line_start-other : (line b : ℕ) (bs : List ℕ) → (b == line_feed) ≡ false → line_start (suc line) (b ∷ bs) ≡ suc (line_start (suc line) bs)
unfolding line_start
line_start-other line b bs q = rw (q, line_start) refl

pub line_start-zero : (text : List ℕ) → line_start 0 text ≡ 0
unfolding line_start
line_start-zero text = refl

pub line_len-feed : (b : ℕ) (bs : List ℕ) → (b == line_feed) ≡ true → line_len (b ∷ bs) ≡ 0
unfolding line_len
line_len-feed b bs q = rw (q, line_len) refl

pub line_len-other : (b : ℕ) (bs : List ℕ) → (b == line_feed) ≡ false → line_len (b ∷ bs) ≡ suc (line_len bs)
unfolding line_len
line_len-other b bs q = rw (q, line_len) refl

pub starts_after-feed : (at b : ℕ) (bs : List ℕ) → (b == line_feed) ≡ true → starts_after at (b ∷ bs) ≡ (at + 1) ∷ starts_after (at + 1) bs
unfolding starts_after
starts_after-feed at b bs q = rw (q, starts_after) refl

pub starts_after-other : (at b : ℕ) (bs : List ℕ) → (b == line_feed) ≡ false → starts_after at (b ∷ bs) ≡ starts_after (at + 1) bs
unfolding starts_after
starts_after-other at b bs q = rw (q, starts_after) refl

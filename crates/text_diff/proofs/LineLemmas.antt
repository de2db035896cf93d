-- Lemmas on lines.
use Rattle.std.proofs.Common.{◌≡◌, ℕ, zero, suc, ◌+◌, ◌-◌, ◌<◌, ◌≤◌, ◌==◌, Bool, true, false, List, [], ◌∷◌, ◌++◌, length, get_or, take, drop, refl, ap, sym, add-one, ◌∙◌, arith, inl, inr, append_assoc, append-nil, length-drop}
use Rattle.std.proofs.lemmas.Bool.{cases_Bool, ne_eqb, eq-eqb}
use Rattle.std.proofs.lemmas.List.{drop-drop, get_or-drop, drop_all}
use Rattle.text_diff.specs.Lines.{line_feed, Line, onto_first, lines, joined}

pub lines-nil : lines [] ≡ []
unfolding lines
lines-nil = refl

pub lines-feed : (b : ℕ) (bs : List ℕ) → (b == line_feed) ≡ true → lines (b ∷ bs) ≡ (b ∷ []) ∷ lines bs
unfolding lines
lines-feed b bs q = rw (q, lines) refl

pub lines-other : (b : ℕ) (bs : List ℕ) → (b == line_feed) ≡ false → lines (b ∷ bs) ≡ onto_first b (lines bs)
unfolding lines
lines-other b bs q = rw (q, lines) refl

joined-onto : (b : ℕ) (ls : List Line) → joined (onto_first b ls) ≡ b ∷ joined ls
joined-onto b [] = refl
joined-onto b (l ∷ ls) = refl

pub lines-join : (text : List ℕ) → joined (lines text) ≡ text
lines-join [] = rw lines-nil refl
lines-join (b ∷ bs) =
    elim (cases_Bool (b == line_feed)) [
      | inl q ↦ rw (lines-feed b bs q) (ap (λ v. b ∷ v) (lines-join bs))
      | inr q ↦ rw (lines-other b bs q, joined-onto b (lines bs)) (ap (λ v. b ∷ v) (lines-join bs))
    ]

-- the first line ends at the first feed
pub lines-first : (n : ℕ) (text : List ℕ) → n < length text → ((k : ℕ) → k < n → get_or text k 0 ≡ line_feed → ⊥) → get_or text n 0 ≡ line_feed →
    lines text ≡ take (suc n) text ∷ lines (drop (suc n) text)
lines-first n [] l none h = absurd (omega arith)
lines-first zero (b ∷ bs) l none h = lines-feed b bs (eq-eqb b line_feed h)
lines-first (suc n) (b ∷ bs) l none h =
    let r = lines-first n bs (omega arith) (λ k below. none (suc k) (omega arith)) h in
    lines-other b bs (ne_eqb b line_feed (none 0 (omega arith))) ∙ ap (λ v. onto_first b v) r

-- without a feed there is one line
pub lines-last : (text : List ℕ) → 0 < length text → ((k : ℕ) → k < length text → get_or text k 0 ≡ line_feed → ⊥) → lines text ≡ text ∷ []
lines-last [] l none = absurd (omega arith)
lines-last (b ∷ []) l none = lines-other b [] (ne_eqb b line_feed (none 0 (omega arith))) ∙ ap (λ v. onto_first b v) lines-nil
lines-last (b ∷ c ∷ bs) l none =
    let r = lines-last (c ∷ bs) (omega arith) (λ k below. none (suc k) (omega arith)) in
    lines-other b (c ∷ bs) (ne_eqb b line_feed (none 0 (omega arith))) ∙ ap (λ v. onto_first b v) r

-- a line is split off at its feed
pub line-split : (text : List ℕ) (start i : ℕ) (before : List Line) → start ≤ i → i < length text → ((k : ℕ) → start ≤ k → k < i → get_or text k 0 ≡ line_feed → ⊥) → get_or text i 0 ≡ line_feed →
    before ++ lines (drop start text) ≡ lines text → (before ++ take (i + 1 - start) (drop start text) ∷ []) ++ lines (drop (i + 1) text) ≡ lines text
line-split text start i before a l none h e =
    let n : ℕ = i - start in
    let there : start + n ≡ i = omega arith in
    let inside : n < length (drop start text) = omega (arith, length-drop start text) in
    let feed : get_or (drop start text) n 0 ≡ line_feed = get_or-drop start text n 0 ∙ ap (λ m. get_or text m 0) there ∙ h in
    let clear : (k : ℕ) → k < n → get_or (drop start text) k 0 ≡ line_feed → ⊥ =
    λ k below is. none (start + k) (omega arith) (omega arith) (sym (get_or-drop start text k 0) ∙ is) in
    let first = lines-first n (drop start text) inside clear feed in
    let size : i + 1 - start ≡ suc n = omega arith in
    let past : start + suc n ≡ i + 1 = omega arith in
    let rest : drop (suc n) (drop start text) ≡ drop (i + 1) text = drop-drop (suc n) start text ∙ ap (λ m. drop m text) past in
    append_assoc before (take (i + 1 - start) (drop start text) ∷ []) (lines (drop (i + 1) text))
    ∙ ap (λ v. before ++ (take v (drop start text) ∷ lines (drop (i + 1) text))) size
    ∙ ap (λ v. before ++ (take (suc n) (drop start text) ∷ lines v)) (sym rest)
    ∙ ap (λ v. before ++ v) (sym first) ∙ e

-- the last line, without a feed
pub line-last : (text : List ℕ) (start : ℕ) (before : List Line) → start < length text → ((k : ℕ) → start ≤ k → k < length text → get_or text k 0 ≡ line_feed → ⊥) →
    before ++ lines (drop start text) ≡ lines text → before ++ drop start text ∷ [] ≡ lines text
line-last text start before l none e =
    let inside : 0 < length (drop start text) = omega (arith, length-drop start text) in
    let clear : (k : ℕ) → k < length (drop start text) → get_or (drop start text) k 0 ≡ line_feed → ⊥ =
    λ k below is. none (start + k) (omega arith) (omega (arith, length-drop start text)) (sym (get_or-drop start text k 0) ∙ is) in
    ap (λ v. before ++ v) (sym (lines-last (drop start text) inside clear)) ∙ e

pub line-none : (text : List ℕ) (start : ℕ) (before : List Line) → length text ≤ start → before ++ lines (drop start text) ≡ lines text → before ≡ lines text
line-none text start before l e =
    sym (append-nil before) ∙ ap (λ v. before ++ v) (sym lines-nil) ∙ ap (λ v. before ++ lines v) (sym (drop_all start text l)) ∙ e

-- What the functions of an index return, from its starts.
use Rattle.std.proofs.Common.{◌≡◌, ℕ, suc, ◌+◌, ◌-◌, ◌<◌, ◌≤◌, nat_le, Option, None, Some, List, length, get_or, take, drop, refl, ap, sym, add-one, ◌∙◌, arith, if◌then◌else◌, Bor, inl, inr, [], ◌∷◌, ◌++◌, append-nil, ◌^◌, length-take, length-drop}
use Rattle.std.proofs.lemmas.List.{take_more, length-take-le, take-take, drop-take, take-append-drop, drop-drop}
use Rattle.std.proofs.lemmas.Str.{IsUtf8-between}
use Rattle.line_index.specs.declared.encoding.Encoding.{Encoding}
use Rattle.line_index.specs.declared.line_col.LineCol.{LineCol}
use Rattle.line_index.specs.Columns.{units, reach, floor, line_col, offset}
use Rattle.line_index.proofs.Bytes.{starts_after-feed, starts_after-other}
use Rattle.line_index.proofs.EncodeLemmas.{units-append, units-bound}
use Rattle.std.specs.Prelude.{IsUtf8, IsCharBoundary}
use Rattle.std.specs.Option.{option_copied}
use Rattle.std.specs.Slice.{IsItemAt}
use Rattle.std.proofs.lemmas.Bool.{cases_lt, ltb-true, ltb-false, le-leb, lt-leb, eq-eqb, ne_eqb}
use Rattle.line_index.specs.Lines.{line_feed, feeds, line_start, line_end, line_starts, starts_after}
use Rattle.line_index.proofs.LineLemmas.{length-line_starts, line_starts-at, line_len-inner, line_len-last, starts_after-append, starts_after-nil, feeds-take, starts_before}

pub start-copied : (text : List ℕ) (line : ℕ) (r : Option (Bor ℕ)) → IsItemAt (line_starts text) line r →
    option_copied r ≡ (if nat_le line (feeds text) then Some (line_start line text) else None)
start-copied text line None h =
    let size = length-line_starts text in
    let past = ltb-false line (length (line_starts text)) (sym h.0) in
    rw (lt-leb line (feeds text) (omega arith)) refl
start-copied text line (Some x) h =
    let size = length-line_starts text in
    let within = ltb-true line (length (line_starts text)) (sym h.0) in
    rw (le-leb line (feeds text) (omega arith)) (ap Some (h.1 ∙ line_starts-at text line x.now (omega arith)))

pub end-inner : (text : List ℕ) (line d : ℕ) → line + 1 < length (line_starts text) →
    (1 ≤ get_or (line_starts text) (line + 1) d)
    × (Some (get_or (line_starts text) (line + 1) d - 1) ≡ (if nat_le line (feeds text) then Some (line_end line text) else None))
end-inner text line d h =
    let size = length-line_starts text in
    let inner = line_len-inner line text (omega arith) in
    let next : get_or (line_starts text) (line + 1) d ≡ suc (line_end line text) =
    rw add-one (line_starts-at text (suc line) d (omega arith) ∙ sym inner) in
    rw (next, le-leb line (feeds text) (omega arith)) (omega arith, ap Some (omega arith))

pub end-last : (text : List ℕ) (line : ℕ) → line < length (line_starts text) → length (line_starts text) ≤ line + 1 →
    Some (length text) ≡ (if nat_le line (feeds text) then Some (line_end line text) else None)
end-last text line h k =
    let size = length-line_starts text in
    let same : line ≡ feeds text = omega arith in
    rw (le-leb line (feeds text) (omega arith), same) (ap Some (sym (line_len-last text)))

pub end-none : (text : List ℕ) (line : ℕ) → length (line_starts text) ≤ line →
    None ≡ (if nat_le line (feeds text) then Some (line_end line text) else None)
end-none text line h =
    let size = length-line_starts text in
    rw (lt-leb line (feeds text) (omega arith)) refl

-- what a value that is returned up to the last line tells
pub some-within : (line last x y : ℕ) → Some y ≡ (if nat_le line last then Some x else None) → (line ≤ last) × (y ≡ x)
some-within line last x y h =
    elim (cases_lt last line) [
      | inl past ↦ let no : Some y ≡ None = (rw (lt-leb line last past) at h) in absurd (cc)
      | inr within ↦ let yes : Some y ≡ Some x = (rw (le-leb line last within) at h) in (within, cc)
    ]

-- one more byte
pub starts-more : (text : List ℕ) (i : ℕ) → i < length text →
    line_starts (take (i + 1) text) ≡ line_starts (take i text) ++ starts_after i (get_or text i 0 ∷ [])
starts-more text i h =
    let long : length (take i text) ≡ i = length-take-le i text (omega arith) in
    rw (take_more text i 0 h)
    (ap (λ v. 0 ∷ v) (starts_after-append 0 (take i text) (get_or text i 0 ∷ []) ∙
    ap (λ n. starts_after 0 (take i text) ++ starts_after n (get_or text i 0 ∷ [])) (omega arith)))

pub starts-feed : (text : List ℕ) (i : ℕ) → i < length text → get_or text i 0 ≡ line_feed →
    line_starts (take (i + 1) text) ≡ line_starts (take i text) ++ (i + 1) ∷ []
starts-feed text i h is =
    starts-more text i h ∙
    ap (λ v. line_starts (take i text) ++ v)
    (starts_after-feed i (get_or text i 0) [] (eq-eqb (get_or text i 0) line_feed is)
    ∙ ap (λ v. (i + 1) ∷ v) (starts_after-nil (i + 1)))

pub starts-other : (text : List ℕ) (i : ℕ) → i < length text → (get_or text i 0 ≡ line_feed → ⊥) →
    line_starts (take (i + 1) text) ≡ line_starts (take i text)
starts-other text i h not =
    starts-more text i h ∙
    ap (λ v. line_starts (take i text) ++ v)
    (starts_after-other i (get_or text i 0) [] (ne_eqb (get_or text i 0) line_feed not) ∙ starts_after-nil (i + 1))
    ∙ append-nil (line_starts (take i text))

-- the place of an offset, from the number of starts at or before it
pub place-parts : (text : List ℕ) (at r : ℕ) → at ≤ length text → r ≡ suc (feeds (take at text)) →
    (1 ≤ r) × (r - 1 ≡ feeds (take at text)) × (r - 1 < length (line_starts text)) × (get_or (line_starts text) (r - 1) 0 ≡ line_start (feeds (take at text)) text)
    × (line_start (feeds (take at text)) text ≤ at)
place-parts text at r l h =
    let size = length-line_starts text in
    let le = feeds-take at text in
    let one : r - 1 ≡ feeds (take at text) = omega arith in
    (omega arith, one, omega arith, rw one (line_starts-at text (feeds (take at text)) 0 le), starts_before (feeds (take at text)) at text l (omega arith))

-- the units of a part that is cut at boundaries
pub units-fit : (e : Encoding) (text : List ℕ) (from to : ℕ) → IsUtf8 text → to < 2 ^ 64 → from ≤ to → IsCharBoundary text from → IsCharBoundary text to →
    units e (take (to - from) (drop from text)) < 2 ^ 64
units-fit e text from to u small le f t =
    let b = units-bound e (take (to - from) (drop from text)) (IsUtf8-between text from to u le f t) in
    omega (arith, length-take (to - from) (drop from text), length-drop from text)

-- the units of a part that is cut in two
pub units-split : (e : Encoding) (text : List ℕ) (start mid to : ℕ) → start ≤ mid → mid ≤ to →
    units e (take (to - start) (drop start text)) ≡ units e (take (mid - start) (drop start text)) + units e (take (to - mid) (drop mid text))
units-split e text start mid to h k =
    let a : ℕ = mid - start in
    let b : ℕ = to - mid in
    let xs : List ℕ = drop start text in
    let all : to - start ≡ a + b = omega arith in
    let whole : take a (take (a + b) xs) ++ drop a (take (a + b) xs) ≡ take (a + b) xs = take-append-drop a (take (a + b) xs) in
    let front : take a (take (a + b) xs) ≡ take a xs = take-take a (a + b) xs (omega arith) in
    let rest : drop a (take (a + b) xs) ≡ take b (drop a xs) = drop-take a b xs in
    let at : start + a ≡ mid = omega arith in
    let far : drop a xs ≡ drop mid text = drop-drop a start text ∙ ap (λ n. drop n text) at in
    rw (all, ← whole, front, rest, far) (units-append e (take a xs) (take b (drop mid text)))

-- the place of an offset, from its parts
pub line_col-from : (e : Encoding) (text : List ℕ) (n at line start col : ℕ) → at ≡ floor text n → line ≡ feeds (take at text) →
    start ≡ line_start line text → col ≡ units e (take (at - start) (drop start text)) →
    ◌≡◌ {A = LineCol} (record { line = line; col = col }) (line_col e text n)
line_col-from e text n at line start col is-at is-line is-start is-col = rw (is-col, is-start, is-line, is-at) refl

-- a column is counted on from a known place of the same line
pub col-on : (e : Encoding) (text : List ℕ) (n known at : ℕ) (p : LineCol) → known ≡ floor text n → p ≡ line_col e text n →
    feeds (take at text) ≡ p.line → known ≤ at → at ≤ length text →
    p.col + units e (take (at - known) (drop known text)) ≡ units e (take (at - line_start (feeds (take at text)) text) (drop (line_start (feeds (take at text)) text) text))
col-on e text n known at p is-known is-p same h k =
    let line : ℕ = feeds (take known text) in
    let start : ℕ = line_start line text in
    let is-line : p.line ≡ line = ap (λ q. LineCol.line q) is-p ∙ ap (λ m. feeds (take m text)) (sym is-known) in
    let is-col : p.col ≡ units e (take (known - start) (drop start text)) =
    ap (λ q. LineCol.col q) is-p ∙ ap (λ m. units e (take (m - line_start (feeds (take m text)) text) (drop (line_start (feeds (take m text)) text) text))) (sym is-known) in
    let from : start ≤ known = starts_before line known text (omega arith) (omega arith) in
    rw (same ∙ is-line, is-col) (sym (units-split e text start known at from h))

-- the offset of a place, from its parts
pub offset-from : (e : Encoding) (text : List ℕ) (p : LineCol) (start end found at : ℕ) → p.line ≤ feeds text →
    start ≡ line_start p.line text → end ≡ line_end p.line text → found ≡ reach e p.col (take (end - start) (drop start text)) →
    at ≡ floor text (start + found) → at ≡ offset e text p
offset-from e text p start end found at le is-start is-end is-found is-at =
    rw (le-leb p.line (feeds text) le) (is-at ∙ rw (is-found, is-end, is-start) refl)

pub offset-past : (e : Encoding) (text : List ℕ) (p : LineCol) →
    None ≡ (if nat_le p.line (feeds text) then Some (line_end p.line text) else None) → length text ≡ offset e text p
offset-past e text p h =
    elim (cases_lt (feeds text) p.line) [
      | inl past ↦ rw (lt-leb p.line (feeds text) past) refl
      | inr within ↦ let no : None ≡ Some (line_end p.line text) = (rw (le-leb p.line (feeds text) within) at h) in absurd (cc)
    ]

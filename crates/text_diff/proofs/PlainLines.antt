-- Lines that end at their only line feed, and lines that have none.
use Rattle.std.proofs.Common.{◌≡◌, ℕ, zero, suc, ◌+◌, ◌-◌, ◌≤◌, ◌==◌, Bool, true, false, List, [], ◌∷◌, ◌++◌, length, map, take, drop, refl, ap, sym, subst, ◌∙◌, arith, inl, inr, append_assoc, append-nil}
use Rattle.std.specs.Prelude.{◌||◌, ◌⊎◌, slice_range}
use Rattle.std.proofs.lemmas.Bool.{cases_Bool, eqb-true, or_from, or_parts, or_right}
use Rattle.text_diff.specs.declared.change.Change.{Change}
use Rattle.text_diff.specs.Lines.{Line, line_feed, lines, onto_first}
use Rattle.text_diff.specs.Hunks.{Row, context, removed, added, rows_in}
use Rattle.text_diff.specs.Unified.{is_ended}
use Rattle.text_diff.proofs.LineLemmas.{lines-nil, lines-feed, lines-other}
use Rattle.text_diff.proofs.PatchLemmas.{rows_in-nil, rows_in-cons}

-- the line feed is the last byte, and the only one
pub record IsEnded (l : Line) : Type 0 where
  pub body : List ℕ
  pub plain : is_ended body ≡ false
  pub is : l ≡ body ++ (line_feed ∷ [])

abbrev pub IsLine : Line → Type 0
IsLine l = IsEnded l ⊎ (is_ended l ≡ false)

abbrev pub AreLines : List Line → Type 0
AreLines [] = Unit {0}
AreLines (l ∷ ls) = IsLine l × AreLines ls

abbrev pub line_in : Row → Line
line_in (context l) = l
line_in (removed l) = l
line_in (added l) = l

abbrev pub AreRows : List Row → Type 0
AreRows [] = Unit {0}
AreRows (r ∷ rs) = IsLine (line_in r) × AreRows rs

-- ---- bytes without a line feed

pub plain-append : (xs ys : List ℕ) → is_ended xs ≡ false → is_ended ys ≡ false → is_ended (xs ++ ys) ≡ false
plain-append [] ys p q = q
plain-append (x ∷ xs) ys p q =
    let both = or_parts (x == line_feed) (is_ended xs) p in
    or_from (x == line_feed) (is_ended (xs ++ ys)) both.0 (plain-append xs ys both.1 q)

pub ended-last : (xs : List ℕ) → is_ended (xs ++ (line_feed ∷ [])) ≡ true
ended-last [] = refl
ended-last (x ∷ xs) = or_right (x == line_feed) (is_ended (xs ++ (line_feed ∷ []))) (ended-last xs)

pub ended-behind : (xs : List ℕ) (l : Line) → is_ended xs ≡ false → IsEnded l → IsEnded (xs ++ l)
ended-behind xs l p h = record {
  body = xs ++ h.body;
  plain = plain-append xs h.body p h.plain;
  is = ap (λ (v : List ℕ). xs ++ v) h.is ∙ sym (append_assoc xs h.body (line_feed ∷ []));
}

-- ---- lines of a text

lines-plain : (l rest : List ℕ) → is_ended l ≡ false → lines (l ++ (line_feed ∷ rest)) ≡ (l ++ (line_feed ∷ [])) ∷ lines rest
lines-plain [] rest p = lines-feed line_feed rest refl
lines-plain (b ∷ bs) rest p =
    let both = or_parts (b == line_feed) (is_ended bs) p in
    lines-other b (bs ++ (line_feed ∷ rest)) both.0 ∙ ap (onto_first b) (lines-plain bs rest both.1)

-- an ended line is the first one
pub lines-ended : (l rest : List ℕ) → IsEnded l → lines (l ++ rest) ≡ l ∷ lines rest
lines-ended l rest h =
    ap (λ (v : List ℕ). lines (v ++ rest)) h.is ∙ ap lines (append_assoc h.body (line_feed ∷ []) rest)
    ∙ lines-plain h.body rest h.plain ∙ ap (λ (v : Line). v ∷ lines rest) (sym h.is)

onto-line : (b : ℕ) (l : Line) → (b == line_feed) ≡ false → IsLine l → IsLine (b ∷ l)
onto-line b l other h = elim h [
  | inl ended ↦
      inl
      (record {
        body = b ∷ ended.body;
        plain = or_from (b == line_feed) (is_ended ended.body) other ended.plain;
        is = ap (λ (v : Line). b ∷ v) ended.is;
      })
  | inr plain ↦ inr (or_from (b == line_feed) (is_ended l) other plain)
]

onto-lines : (b : ℕ) (ls : List Line) → (b == line_feed) ≡ false → AreLines ls → AreLines (onto_first b ls)
onto-lines b [] other h = (inr (or_from (b == line_feed) false other refl), tt)
onto-lines b (l ∷ ls) other h = (onto-line b l other h.0, h.1)

feed-line : (b : ℕ) → (b == line_feed) ≡ true → IsLine (b ∷ [])
feed-line b feed = inl (record { body = []; plain = refl; is = ap (λ (x : ℕ). x ∷ []) (eqb-true b line_feed feed) })

pub lines-are : (text : List ℕ) → AreLines (lines text)
lines-are [] = rw lines-nil tt
lines-are (b ∷ bs) = elim (cases_Bool (b == line_feed)) [
  | inl feed ↦ rw (lines-feed b bs feed) (feed-line b feed, lines-are bs)
  | inr other ↦ rw (lines-other b bs other) (onto-lines b (lines bs) other (lines-are bs))
]

length-onto : (b : ℕ) (ls : List Line) → length (onto_first b ls) ≤ 1 + length ls
length-onto b [] = omega arith
length-onto b (l ∷ ls) = omega arith

pub lines-count : (text : List ℕ) → length (lines text) ≤ length text
lines-count [] = rw lines-nil (omega arith)
lines-count (b ∷ bs) = elim (cases_Bool (b == line_feed)) [
  | inl feed ↦ rw (lines-feed b bs feed) (let below = lines-count bs in omega arith)
  | inr other ↦ rw (lines-other b bs other) (let below = lines-count bs in let onto = length-onto b (lines bs) in omega arith)
]

-- ---- parts of lines, and their rows

lines-take : (n : ℕ) (ls : List Line) → AreLines ls → AreLines (take n ls)
lines-take zero ls h = tt
lines-take (suc n) [] h = tt
lines-take (suc n) (l ∷ ls) h = (h.0, lines-take n ls h.1)

lines-drop : (n : ℕ) (ls : List Line) → AreLines ls → AreLines (drop n ls)
lines-drop zero ls h = h
lines-drop (suc n) [] h = tt
lines-drop (suc n) (l ∷ ls) h = lines-drop n ls h.1

lines-slice : (ls : List Line) (i p : ℕ) → AreLines ls → AreLines (slice_range ls i p)
lines-slice ls i p h = lines-take (p - i) (drop i ls) (lines-drop i ls h)

rows-by : (row : Line → Row) → ((l : Line) → line_in (row l) ≡ l) → (ls : List Line) (rs : List Row) → AreLines ls → AreRows rs → AreRows (map row ls ++ rs)
rows-by row same [] rs h k = k
rows-by row same (l ∷ ls) rs h k = (subst IsLine (sym (same l)) h.0, rows-by row same ls rs h.1 k)

pub rows-are : (old new : List Line) (at : ℕ) (cs : List Change) (to : ℕ) → AreLines old → AreLines new → AreRows (rows_in old new at cs to)
rows-are old new at [] to a b =
    let shown : List Line = slice_range old at to in
    rw rows_in-nil (subst AreRows (append-nil (map context shown)) (rows-by context (λ l. refl) shown [] (lines-slice old at to a) tt))
rows-are old new at (c ∷ cs) to a b =
    rw rows_in-cons
    (rows-by context (λ l. refl) (slice_range old at c.old_start) _ (lines-slice old at c.old_start a)
    (rows-by removed (λ l. refl) (slice_range old c.old_start c.old_end) _ (lines-slice old c.old_start c.old_end a)
    (rows-by added (λ l. refl) (slice_range new c.new_start c.new_end) _ (lines-slice new c.new_start c.new_end b) (rows-are old new c.old_end cs to a b))))

-- What is written of hunks is read as these hunks.
use Rattle.std.proofs.Common.{◌≡◌, ℕ, zero, suc, ◌+◌, ◌-◌, ◌*◌, ◌/◌, ◌%◌, ◌^◌, ◌<◌, ◌≤◌, ◌==◌, ◌&&◌, Bool, true, false, List, [], ◌∷◌, ◌++◌, Option, None, Some, length, take, drop, refl, ap, sym, subst, ◌∙◌, arith, inl, inr, append_assoc, append-nil, if◌then◌else◌}
use Rattle.std.specs.Prelude.{codes, not, option_and_then}
use Rattle.std.specs.List.{flat_map}
use Rattle.std.specs.Fmt.{decimal}
use Rattle.std.specs.Str.{bytes_eq}
use Rattle.std.proofs.lemmas.Bool.{and_from, cases_Bool, eq-eqb, eqb-false, le-leb, ne_eqb, or_from}
use Rattle.std.proofs.lemmas.Fmt.{decimal_by_steps}
use Rattle.std.proofs.lemmas.Slice.Eq.{bytes_eq-Decides}
use Rattle.text_diff.specs.Lines.{Line, line_feed, lines}
use Rattle.text_diff.specs.Hunks.{Row, context, removed, added, Hunk}
use Rattle.text_diff.specs.Patch.{old_count, new_count}
use Rattle.text_diff.specs.Unified.{header_text, hunk_text, is_ended, marked, range_text, row_text}
use Rattle.text_diff.specs.DiffText.{Header, Range, Read, header_behind, header_of, header_to, header_with, is_digit, line_of_text, number_from, range_behind, range_of, range_to, read, read_header, read_line, read_lines, read_marked, row_by, start_of, without_last}
use Rattle.text_diff.proofs.LineLemmas.{lines-nil}
use Rattle.text_diff.proofs.PlainLines.{AreRows, IsEnded, IsLine, ended-behind, ended-last, line_in, lines-ended, plain-append}

equal : (l : Line) → bytes_eq l l ≡ true
equal l = (bytes_eq-Decides l l).1 refl

-- ---- numbers

digit-is : (k : ℕ) → k < 10 → is_digit (48 + k) ≡ true
digit-is k small = and_from _ _ (le-leb 48 (48 + k) (omega arith)) (le-leb (48 + k) 57 (omega arith))

number-on : (n b : ℕ) (bs : List ℕ) → is_digit b ≡ true → number_from n (b ∷ bs) ≡ number_from (10 * n + (b - 48)) bs
number-on n b bs digit = ap (λ (v : Bool). if v then number_from (10 * n + (b - 48)) bs else (n, b ∷ bs)) digit

number-ends : (n b : ℕ) (bs : List ℕ) → is_digit b ≡ false → number_from n (b ∷ bs) ≡ (n, b ∷ bs)
number-ends n b bs other = ap (λ (v : Bool). if v then number_from (10 * n + (b - 48)) bs else (n, b ∷ bs)) other

abbrev Counts : ℕ → List ℕ → Type 0
Counts n ds = (tail : List ℕ) → number_from 0 (ds ++ tail) ≡ number_from n tail

counts-one : (n : ℕ) → n < 10 → Counts n ((48 + n) ∷ [])
counts-one n small = λ tail.
    let e : 10 * 0 + (48 + n - 48) ≡ n = omega arith in
    number-on 0 (48 + n) tail (digit-is n small) ∙ ap (λ (k : ℕ). number_from k tail) e

counts-more : (n : ℕ) (ds : List ℕ) → 10 ≤ n → Counts (n / 10) ds → Counts n (ds ++ ((48 + n % 10) ∷ []))
counts-more n ds large front = λ tail.
    let small : n % 10 < 10 = omega arith in
    let e : 10 * (n / 10) + (48 + n % 10 - 48) ≡ n = omega arith in
    ap (number_from 0) (append_assoc ds ((48 + n % 10) ∷ []) tail)
    ∙ front ((48 + n % 10) ∷ tail) ∙ number-on (n / 10) (48 + n % 10) tail (digit-is (n % 10) small) ∙ ap (λ (k : ℕ). number_from k tail) e

number-read : (n : ℕ) (tail : List ℕ) → n < 2 ^ 64 → number_from 0 (decimal n ++ tail) ≡ number_from n tail
number-read n tail fits = decimal_by_steps Counts counts-one counts-more n fits tail

abbrev Plain : ℕ → List ℕ → Type 0
Plain n ds = is_ended ds ≡ false

plain-digit : (k : ℕ) → is_ended ((48 + k) ∷ []) ≡ false
plain-digit k = or_from (48 + k == line_feed) false (ne_eqb (48 + k) line_feed (λ same. omega arith)) refl

number-plain : (n : ℕ) → n < 2 ^ 64 → is_ended (decimal n) ≡ false
number-plain n fits =
    decimal_by_steps Plain (λ k small. plain-digit k) (λ k ds large front. plain-append ds ((48 + k % 10) ∷ []) front (plain-digit (k % 10))) n fits

-- ---- ranges and headers

abbrev first_of : ℕ → ℕ → ℕ
first_of start count = if count == 0 then start else start + 1

first-fits : (start count : ℕ) → start + count < 2 ^ 64 → first_of start count < 2 ^ 64
first-fits start count fits = elim (cases_Bool (count == 0)) [
  | inl none ↦ rw none (omega arith)
  | inr some ↦ rw some (let more = eqb-false count 0 some in omega arith)
]

start-is : (start count : ℕ) → start_of (first_of start count) count ≡ start
start-is start count = elim (cases_Bool (count == 0)) [
  | inl none ↦ rw none refl
  | inr some ↦ rw some (omega arith)
]

abbrev range : ℕ → ℕ → List ℕ → Range
range start count rest = record { start = start; count = count; rest = rest }

range-read : (start count b : ℕ) (rest : List ℕ) → start + count < 2 ^ 64 → is_digit b ≡ false → range_of (range_text start count ++ (b ∷ rest)) ≡ range start count (b ∷ rest)
range-read start count b rest fits other =
    let first : ℕ = first_of start count in
    let tail : List ℕ = decimal count ++ (b ∷ rest) in
    let small : count < 2 ^ 64 = omega arith in
    let front : number_from 0 (range_text start count ++ (b ∷ rest)) ≡ (first, 44 ∷ tail) =
    ap (number_from 0) (append_assoc (decimal first) (44 ∷ decimal count) (b ∷ rest)) ∙ number-read first (44 ∷ tail) (first-fits start count fits) ∙ number-ends first 44 tail refl in
    let back : number_from 0 tail ≡ (count, b ∷ rest) = number-read count (b ∷ rest) small ∙ number-ends count b rest other in
    ap range_behind front ∙ ap (range_to first) back ∙ ap (λ (s : ℕ). range s count (b ∷ rest)) (start-is start count)

abbrev header : ℕ → ℕ → ℕ → ℕ → Header
header s n t m = record { old_start = s; old_count = n; new_start = t; new_count = m }

header-read : (s n t m : ℕ) → s + n < 2 ^ 64 → t + m < 2 ^ 64 → header_of (header_text s n t m) ≡ Some (header s n t m)
header-read s n t m old_fits new_fits =
    let line : Line = header_text s n t m in
    let end : List ℕ = 32 ∷ 64 ∷ 64 ∷ 10 ∷ [] in
    let back : List ℕ = range_text t m ++ end in
    let old : range_of (drop 4 line) ≡ range s n (32 ∷ 43 ∷ back) = range-read s n 32 (43 ∷ back) old_fits refl in
    let new : range_of back ≡ range t m end = range-read t m 32 (64 ∷ 64 ∷ 10 ∷ []) new_fits refl in
    ap (header_behind line) old ∙ ap (header_to line (range s n (32 ∷ 43 ∷ back))) new
    ∙ ap (λ (v : Bool). if v then Some (header s n t m) else None) (equal line)

range-plain : (s n : ℕ) → s + n < 2 ^ 64 → is_ended (range_text s n) ≡ false
range-plain s n fits =
    let small : n < 2 ^ 64 = omega arith in
    plain-append (decimal (first_of s n)) (44 ∷ decimal n) (number-plain (first_of s n) (first-fits s n fits)) (number-plain n small)

header-ended : (s n t m : ℕ) → s + n < 2 ^ 64 → t + m < 2 ^ 64 → IsEnded (header_text s n t m)
header-ended s n t m old_fits new_fits =
    let end : IsEnded (codes " @@\n") = record { body = codes " @@"; plain = refl; is = refl } in
    let new = ended-behind (range_text t m) (codes " @@\n") (range-plain t m new_fits) end in
    let gap = ended-behind (codes " +") (range_text t m ++ codes " @@\n") refl new in
    let old = ended-behind (range_text s n) (codes " +" ++ (range_text t m ++ codes " @@\n")) (range-plain s n old_fits) gap in
    ended-behind (codes "@@ -") (range_text s n ++ (codes " +" ++ (range_text t m ++ codes " @@\n"))) refl old

-- ---- rows

-- the text is read as these rows and hunks
abbrev IsRead : List ℕ → List Row → List Hunk → Type 0
IsRead text rows hunks = read_lines (lines text) ≡ Some (read rows false hunks)

pub last-off : (body : List ℕ) → without_last (body ++ (line_feed ∷ [])) ≡ body
last-off [] = refl
last-off (b ∷ []) = refl
last-off (b ∷ c ∷ bs) = ap (λ (v : Line). b ∷ v) (last-off (c ∷ bs))

-- a mark that is of a kind of rows, and no line feed
record IsMark (mark : ℕ) (row : Line → Row) : Type 0 where
  pub is : (l : Line) → row_by mark l ≡ Some (row l)
  pub plain : (mark == line_feed) ≡ false

ended-read : (mark : ℕ) (row : Line → Row) → IsMark mark row → (l : Line) → IsEnded l → (text : List ℕ) (rows : List Row) (hunks : List Hunk) → IsRead text rows hunks →
    IsRead (marked mark l ++ text) (row l ∷ rows) hunks
ended-read mark row m l h text rows hunks e =
    let ended : is_ended l ≡ true = ap is_ended h.is ∙ ended-last h.body in
    let written : marked mark l ≡ mark ∷ l = ap (λ (v : Bool). mark ∷ (if v then l else l ++ codes "\n\\ No newline at end of file\n")) ended in
    let whole : IsEnded (mark ∷ l) = ended-behind (mark ∷ []) l (or_from (mark == line_feed) false m.plain refl) h in
    ap (λ (v : List ℕ). read_lines (lines (v ++ text))) written ∙ ap read_lines (lines-ended (mark ∷ l) text whole)
    ∙ ap (option_and_then (read_line (mark ∷ l))) e ∙ ap (λ o. read_marked o mark (mark ∷ l) (read rows false hunks)) (m.is l)

note-ended : IsEnded (codes "\\ No newline at end of file\n")
note-ended = record { body = codes "\\ No newline at end of file"; plain = refl; is = refl }

open-read : (mark : ℕ) (row : Line → Row) → IsMark mark row → (l : Line) → is_ended l ≡ false → (text : List ℕ) (rows : List Row) (hunks : List Hunk) → IsRead text rows hunks →
    IsRead (marked mark l ++ text) (row l ∷ rows) hunks
open-read mark row m l unended text rows hunks e =
    let note : Line = codes "\\ No newline at end of file\n" in
    let line : Line = l ++ (line_feed ∷ []) in
    let written : marked mark l ≡ mark ∷ (l ++ (line_feed ∷ note)) = ap (λ (v : Bool). mark ∷ (if v then l else l ++ codes "\n\\ No newline at end of file\n")) unended in
    let apart : l ++ (line_feed ∷ note) ≡ line ++ note = sym (append_assoc l (line_feed ∷ []) note) in
    let split : marked mark l ++ text ≡ (mark ∷ line) ++ (note ++ text) =
    ap (λ (v : List ℕ). v ++ text) (written ∙ ap (λ (v : List ℕ). mark ∷ v) apart) ∙ append_assoc (mark ∷ line) note text in
    let ended : IsEnded line = record { body = l; plain = unended; is = refl } in
    let whole : IsEnded (mark ∷ line) = ended-behind (mark ∷ []) line (or_from (mark == line_feed) false m.plain refl) ended in
    let noted : read_lines (lines (note ++ text)) ≡ Some (read rows true hunks) = ap read_lines (lines-ended note text note-ended) ∙ ap (option_and_then (read_line note)) e in
    ap (λ (v : List ℕ). read_lines (lines v)) split ∙ ap read_lines (lines-ended (mark ∷ line) (note ++ text) whole)
    ∙ ap (option_and_then (read_line (mark ∷ line))) noted
    ∙ ap (λ (v : Line). read_marked (row_by mark v) mark (mark ∷ line) (read rows true hunks)) (last-off l)
    ∙ ap (λ o. read_marked o mark (mark ∷ line) (read rows true hunks)) (m.is l)

line-read : (mark : ℕ) (row : Line → Row) → IsMark mark row → (l : Line) → IsLine l → (text : List ℕ) (rows : List Row) (hunks : List Hunk) → IsRead text rows hunks →
    IsRead (marked mark l ++ text) (row l ∷ rows) hunks
line-read mark row m l h text rows hunks e = elim h [
  | inl ended ↦ ended-read mark row m l ended text rows hunks e
  | inr unended ↦ open-read mark row m l unended text rows hunks e
]

row-read : (r : Row) → IsLine (line_in r) → (text : List ℕ) (rows : List Row) (hunks : List Hunk) → IsRead text rows hunks → IsRead (row_text r ++ text) (r ∷ rows) hunks
row-read (context l) h text rows hunks e = line-read 32 context (record { is = λ l. refl; plain = refl }) l h text rows hunks e
row-read (removed l) h text rows hunks e = line-read 45 removed (record { is = λ l. refl; plain = refl }) l h text rows hunks e
row-read (added l) h text rows hunks e = line-read 43 added (record { is = λ l. refl; plain = refl }) l h text rows hunks e

rows-read : (rs : List Row) → AreRows rs → (text : List ℕ) (rows : List Row) (hunks : List Hunk) → IsRead text rows hunks → IsRead (flat_map row_text rs ++ text) (rs ++ rows) hunks
rows-read [] h text rows hunks e = e
rows-read (r ∷ rs) h text rows hunks e =
    ap (λ (v : List ℕ). read_lines (lines v)) (append_assoc (row_text r) (flat_map row_text rs) text)
    ∙ row-read r h.0 (flat_map row_text rs ++ text) (rs ++ rows) hunks (rows-read rs h.1 text rows hunks e)

-- ---- hunks

-- Its rows are lines, and its numbers fit.
pub record IsGood (h : Hunk) : Type 0 where
  pub rows : AreRows h.rows
  pub old_fits : h.old_start + old_count h.rows < 2 ^ 64
  pub new_fits : h.new_start + new_count h.rows < 2 ^ 64

abbrev pub AreGood : List Hunk → Type 0
AreGood [] = Unit {0}
AreGood (h ∷ hs) = IsGood h × AreGood hs

counted : (h : Hunk) (hunks : List Hunk) → read_header (Some (header h.old_start (old_count h.rows) h.new_start (new_count h.rows))) (read h.rows false hunks) ≡ Some (read [] false (h ∷ hunks))
counted h hunks =
    ap (λ (v : Bool). if v then Some (read [] false (h ∷ hunks)) else None)
    (and_from _ _ (eq-eqb (old_count h.rows) (old_count h.rows) refl) (eq-eqb (new_count h.rows) (new_count h.rows) refl))

hunk-read : (h : Hunk) → IsGood h → (text : List ℕ) (hunks : List Hunk) → IsRead text [] hunks → IsRead (hunk_text h ++ text) [] (h ∷ hunks)
unfolding hunk_text
hunk-read h good text hunks e =
    let line : Line = header_text h.old_start (old_count h.rows) h.new_start (new_count h.rows) in
    let body : List ℕ = flat_map row_text h.rows in
    let rows : IsRead (body ++ text) h.rows hunks =
    rows-read h.rows good.rows text [] hunks e ∙ ap (λ (v : List Row). Some (read v false hunks)) (append-nil h.rows) in
    ap (λ (v : List ℕ). read_lines (lines v)) (append_assoc line body text)
    ∙ ap read_lines (lines-ended line (body ++ text) (header-ended h.old_start (old_count h.rows) h.new_start (new_count h.rows) good.old_fits good.new_fits))
    ∙ ap (option_and_then (read_line line)) rows
    ∙ ap (λ (o : Option Header). read_header o (read h.rows false hunks)) (header-read h.old_start (old_count h.rows) h.new_start (new_count h.rows) good.old_fits good.new_fits)
    ∙ counted h hunks

pub hunks-read : (hs : List Hunk) → AreGood hs → read_lines (lines (flat_map hunk_text hs)) ≡ Some (read [] false hs)
hunks-read [] good = ap read_lines lines-nil
hunks-read (h ∷ hs) good = hunk-read h good.0 (flat_map hunk_text hs) hs (hunks-read hs good.1)

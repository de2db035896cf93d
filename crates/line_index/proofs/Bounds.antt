-- Bounds on lines and columns.
use Rattle.std.proofs.Common.{ℕ, ◌+◌, ◌-◌, ◌<◌, ◌≤◌, ◌^◌, ◌==◌, List, [], ◌∷◌, length, take, drop, inl, inr, arith}
use Rattle.std.proofs.lemmas.Bool.{cases_Bool}
use Rattle.std.proofs.lemmas.Grind.{common_steps}
use Rattle.std.proofs.lemmas.List.{length-take, length-drop}
use Rattle.line_index.specs.declared.encoding.Encoding.TheVariants.{Utf32}
use Rattle.line_index.specs.Lines.{line_feed, line_start, feeds}
use Rattle.line_index.specs.Columns.{width, units, floor, line_col}
use Rattle.line_index.proofs.Bytes.{feeds-feed, feeds-other}
use Rattle.line_index.proofs.LineLemmas.{feeds-nil, feeds-take}
use Rattle.line_index.proofs.ColumnLemmas.{units-nil, units-cons}

feeds-le : (text : List ℕ) → feeds text ≤ length text
feeds-le [] = rw feeds-nil (omega arith)
feeds-le (b ∷ bs) = elim (cases_Bool (b == line_feed)) [
  | inl y ↦ rw (feeds-feed b bs y) (let h = feeds-le bs in omega (arith, h))
  | inr n ↦ rw (feeds-other b bs n) (let h = feeds-le bs in omega (arith, h))
]

width-le : (b : ℕ) → width Utf32 b ≤ 1
width-le b = grind (arith, common_steps)

units-le : (bs : List ℕ) → units Utf32 bs ≤ length bs
units-le [] = rw (units-nil Utf32) (omega arith)
units-le (b ∷ bs) = rw (units-cons Utf32 b bs) (omega (arith, units-le bs, width-le b))

pub line-within : (text : List ℕ) (offset : ℕ) → (line_col Utf32 text offset).line ≤ feeds text
line-within text offset = feeds-take (floor text offset) text

pub line-fits : (text : List ℕ) (offset : ℕ) → length text < 2 ^ 32 → (line_col Utf32 text offset).line + 1 < 2 ^ 64
line-fits text offset small = omega (arith, line-within text offset, feeds-le text)

pub col-fits : (text : List ℕ) (offset : ℕ) → length text < 2 ^ 32 → (line_col Utf32 text offset).col + 1 < 2 ^ 64
col-fits text offset small =
    let at = floor text offset in
    let start = line_start (feeds (take at text)) text in
    omega (arith, units-le (take (at - start) (drop start text)), length-take (at - start) (drop start text), length-drop start text)

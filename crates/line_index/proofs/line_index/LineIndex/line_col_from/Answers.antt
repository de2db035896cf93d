use Rattle.std.proofs.Common.{◌≡◌, ◌∙◌, ◌+◌, ◌-◌, sym, ap, arith, take, drop}
use Rattle.line_index.specs.Lines.{feeds, line_start}
use Rattle.line_index.specs.Columns.{units}
use Rattle.line_index.proofs.LineLemmas.{feeds-take, starts_before}
use Rattle.line_index.proofs.ColumnLemmas.{floor-is}
use Rattle.line_index.proofs.PlaceLemmas.{line_start-boundary}
use Rattle.line_index.proofs.IndexLemmas.{col-on, line_col-from, units-fit}
use Rattle.line_index.proofs.line_index.LineIndex.line_col_from.Goals as goal
use Rattle.line_index.proofs.line_index.LineIndex.line_col_from.Goals.{After-struct_known-2-1}

pub units-between-requires : goal.units-between-requires
units-between-requires c =
    let known = rw c.text-text.ensures at c.floor_char_boundary-known.ensures.boundary in
    let at = rw c.text-text.ensures at c.floor_char_boundary-to.ensures.boundary in
    let u = rw c.text-text.ensures at c.text-text.utf8 in
    rw (c.as_bytes.ensures.value, c.text-text.ensures)
    (units-fit c.args.encoding c.args.self.now c.floor_char_boundary-known.result c.floor_char_boundary-to.result u (omega arith) (omega arith) known at)

-- the known column and the units between are those from the start of the line
counted : (c : After-struct_known-2-1) →
    c.args.place.col + c.units-between.result
    ≡ units c.args.encoding (take (c.floor_char_boundary-to.result - line_start (feeds (take c.floor_char_boundary-to.result c.args.self.now)) c.args.self.now) (drop (line_start (feeds (take c.floor_char_boundary-to.result c.args.self.now)) c.args.self.now) c.args.self.now))
counted c =
    let known = rw c.text-text.ensures at c.floor_char_boundary-known.ensures.boundary in
    let none = rw c.text-text.ensures at c.floor_char_boundary-known.ensures.nearest in
    let floored = floor-is c.args.self.now c.args.from c.floor_char_boundary-known.result c.floor_char_boundary-known.ensures.bound known none in
    let at = rw c.text-text.ensures at c.floor_char_boundary-to.ensures.boundary in
    let col = rw (c.as_bytes.ensures.value, c.text-text.ensures) at c.units-between.ensures in
    rw col
    (col-on c.args.encoding c.args.self.now c.args.from c.floor_char_boundary-known.result c.floor_char_boundary-to.result c.args.place floored c.requires
    (sym c.line_of-line.ensures ∙ c.if-line-place.false) (omega arith) at.0)

pub overflow_add-result : goal.overflow_add-result
overflow_add-result c =
    let at = rw c.text-text.ensures at c.floor_char_boundary-to.ensures.boundary in
    let u = rw c.text-text.ensures at c.text-text.utf8 in
    let line = feeds-take c.floor_char_boundary-to.result c.args.self.now in
    let from = starts_before (feeds (take c.floor_char_boundary-to.result c.args.self.now)) c.floor_char_boundary-to.result c.args.self.now at.0 (omega arith) in
    let start = line_start-boundary (feeds (take c.floor_char_boundary-to.result c.args.self.now)) c.args.self.now u line in
    let fits = units-fit c.args.encoding c.args.self.now _ c.floor_char_boundary-to.result u (omega arith) from start at in
    let sum = counted c in
    omega (arith, fits, sum)

pub returns : goal.returns
returns c =
    let at = rw c.text-text.ensures at c.floor_char_boundary-to.ensures.boundary in
    let none = rw c.text-text.ensures at c.floor_char_boundary-to.ensures.nearest in
    let floored = floor-is c.args.self.now c.args.offset c.floor_char_boundary-to.result c.floor_char_boundary-to.ensures.bound at none in
    line_col-from c.args.encoding c.args.self.now c.args.offset c.floor_char_boundary-to.result c.line_of-line.result _ _
    floored c.line_of-line.ensures (ap (λ l. line_start l c.args.self.now) (sym c.line_of-line.ensures)) (counted c)

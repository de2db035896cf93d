use Rattle.std.proofs.Common.{◌≡◌, ◌∙◌, ◌≤◌, sym, ap, arith, rules, length, take, subst}
use Rattle.std.specs.Prelude.{IsUtf8, IsCharBoundary}
use Rattle.line_index.specs.Lines.{feeds, line_start}
use Rattle.line_index.specs.Columns.{floor}
use Rattle.line_index.proofs.LineLemmas.{feeds-take, starts_before}
use Rattle.line_index.proofs.ColumnLemmas.{floor-is}
use Rattle.line_index.proofs.PlaceLemmas.{line_start-boundary}
use Rattle.line_index.proofs.IndexLemmas.{line_col-from, units-fit}
use Rattle.line_index.proofs.line_index.LineIndex.line_col.Goals as goal

pub start_of-start-requires : goal.start_of-start-requires
start_of-start-requires c = rw c.line_of-line.ensures (feeds-take c.floor_char_boundary-at.result c.args.self.now)

begins : (c : goal.After-as_bytes) → c.start_of-start.result ≤ c.floor_char_boundary-at.result
begins c =
    let at = rw c.text-text.ensures at c.floor_char_boundary-at.ensures.boundary in
    rw (c.start_of-start.ensures, c.line_of-line.ensures)
    (starts_before (feeds (take c.floor_char_boundary-at.result c.args.self.now)) c.floor_char_boundary-at.result c.args.self.now at.0 (omega arith))

pub slice_bounds-units-count : goal.slice_bounds-units-count
slice_bounds-units-count c = begins c

pub slice_bounds-units-start : goal.slice_bounds-units-start
slice_bounds-units-start c = begins c

pub units-requires : goal.units-requires
units-requires c =
    let at = rw c.text-text.ensures at c.floor_char_boundary-at.ensures.boundary in
    let u = rw c.text-text.ensures at c.text-text.utf8 in
    let line = feeds-take c.floor_char_boundary-at.result c.args.self.now in
    let from = starts_before (feeds (take c.floor_char_boundary-at.result c.args.self.now)) c.floor_char_boundary-at.result c.args.self.now at.0 (omega arith) in
    let start = line_start-boundary (feeds (take c.floor_char_boundary-at.result c.args.self.now)) c.args.self.now u line in
    rw (c.as_bytes.ensures.value, c.text-text.ensures, c.start_of-start.ensures, c.line_of-line.ensures)
    (units-fit c.args.encoding c.args.self.now _ c.floor_char_boundary-at.result u (omega arith) from start at)

pub returns : goal.returns
returns c =
    let at = rw c.text-text.ensures at c.floor_char_boundary-at.ensures.boundary in
    let none = rw c.text-text.ensures at c.floor_char_boundary-at.ensures.nearest in
    let floored = floor-is c.args.self.now c.args.offset c.floor_char_boundary-at.result c.floor_char_boundary-at.ensures.bound at none in
    let col = rw (c.as_bytes.ensures.value, c.text-text.ensures) at c.units.ensures in
    line_col-from c.args.encoding c.args.self.now c.args.offset c.floor_char_boundary-at.result c.line_of-line.result c.start_of-start.result c.units.result
    floored c.line_of-line.ensures c.start_of-start.ensures col

use Rattle.std.proofs.Common.{◌≡◌, ◌∙◌, ◌≤◌, sym, ap, arith, rules, length, length-take, take, drop, ◌-◌, subst}
use Rattle.line_index.specs.Lines.{feeds, line_start, line_end}
use Rattle.line_index.specs.Columns.{floor}
use Rattle.line_index.proofs.PlaceLemmas.{line_start-boundary, line_end-le}
use Rattle.line_index.proofs.ColumnLemmas.{floor-is, reach-le}
use Rattle.line_index.proofs.IndexLemmas.{offset-from, offset-past, some-within}
use Rattle.line_index.proofs.line_index.LineIndex.offset.Goals as goal

pub slice_bounds-line-end : goal.slice_bounds-line-end
slice_bounds-line-end c =
    let end = some-within _ _ _ c.in-Some.end c.in-Some.ensures in
    let le : c.in-Some.end ≤ length c.as_bytes.result.now = rw (c.as_bytes.ensures.value, c.text-text.ensures, end.1) (line_end-le c.args.place.line c.args.self.now end.0) in
    le

pub overflow_add-start : goal.overflow_add-start
overflow_add-start c =
    let end = some-within _ _ _ c.in-Some.end c.in-Some.ensures in
    let le : c.in-Some.end ≤ length c.as_bytes.result.now = rw (c.as_bytes.ensures.value, c.text-text.ensures, end.1) (line_end-le c.args.place.line c.args.self.now end.0) in
    let most = reach-le c.args.encoding c.args.place.col (take (c.in-Some.end - c.start_of-start.result) (drop c.start_of-start.result c.as_bytes.result.now)) in
    let part = length-take (c.in-Some.end - c.start_of-start.result) (drop c.start_of-start.result c.as_bytes.result.now) in
    let from : c.start_of-start.result ≤ c.in-Some.end = omega (arith, c.start_of-start.ensures, end.1) in
    omega arith

pub returns : goal.returns
returns c =
    let end = some-within _ _ _ c.in-Some.end c.in-Some.ensures in
    let found = rw (c.as_bytes.ensures.value, c.text-text.ensures) at c.reach.ensures in
    let at = rw c.text-text.ensures at c.floor_char_boundary.ensures.boundary in
    let none = rw c.text-text.ensures at c.floor_char_boundary.ensures.nearest in
    offset-from c.args.encoding c.args.self.now c.args.place c.start_of-start.result c.in-Some.end c.reach.result c.floor_char_boundary.result end.0
    c.start_of-start.ensures end.1 found
    (floor-is c.args.self.now _ c.floor_char_boundary.result c.floor_char_boundary.ensures.bound at none)

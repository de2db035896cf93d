use Rattle.std.proofs.Common.{◌≡◌, sym, ap}
use Rattle.line_index.proofs.IndexLemmas.{some-within}
use Rattle.line_index.proofs.PlaceLemmas.{line_start-boundary, line_end-boundary}
use Rattle.line_index.proofs.line_index.LineIndex.line.Goals as goal

pub range-requires-clause-start_boundary : goal.range-requires-clause-start_boundary
range-requires-clause-start_boundary c =
    let start = some-within _ _ _ c.in_ok-start.start c.in_ok-start.ensures in
    let u = rw c.text-text.ensures at c.text-text.utf8 in
    λ _. rw (c.text-text.ensures, start.1) (line_start-boundary c.args.line c.args.self.now u start.0)

pub range-requires-clause-end_boundary : goal.range-requires-clause-end_boundary
range-requires-clause-end_boundary c =
    let end = some-within _ _ _ c.in_ok-end.end c.in_ok-end.ensures in
    rw (c.text-text.ensures, end.1) (line_end-boundary c.args.line c.args.self.now end.0)

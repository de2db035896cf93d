use Rattle.line_index.proofs.Bounds.{line-fits, col-fits}
use Rattle.match_rows.proofs.rows.push_row.Goals as goal

pub row_of-requires-clause-line : goal.row_of-requires-clause-line
row_of-requires-clause-line c = rw c.line_col-place.ensures (line-fits c.args.index.now c.start-start.result.0 c.requires)

pub row_of-requires-clause-col : goal.row_of-requires-clause-col
row_of-requires-clause-col c = rw c.line_col-place.ensures (col-fits c.args.index.now c.start-start.result.0 c.requires)

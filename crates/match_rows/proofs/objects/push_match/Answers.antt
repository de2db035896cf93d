use Rattle.line_index.proofs.Bounds.{line-fits, col-fits}
use Rattle.match_rows.proofs.objects.push_match.Goals as goal

pub place_members-requires-clause-line : goal.place_members-requires-clause-line
place_members-requires-clause-line c = rw c.line_col-place.ensures (line-fits c.args.index.now c.start-start.result.0 c.requires)

pub place_members-requires-clause-col : goal.place_members-requires-clause-col
place_members-requires-clause-col c = rw c.line_col-place.ensures (col-fits c.args.index.now c.start-start.result.0 c.requires)

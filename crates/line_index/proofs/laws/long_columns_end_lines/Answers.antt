use Rattle.line_index.proofs.PlaceLemmas.{long-column}
use Rattle.line_index.proofs.laws.long_columns_end_lines.Goals as goal

pub returns : goal.returns
returns c = λ e text p u le far. long-column e text p le far

use Rattle.text_diff.proofs.LineLemmas.{lines-join}
use Rattle.text_diff.proofs.laws.lines_join.Goals as goal

pub returns : goal.returns
returns c = lines-join

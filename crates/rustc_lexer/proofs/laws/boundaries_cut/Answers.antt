use Rattle.rustc_lexer.proofs.Cutting.{tokens-after}
use Rattle.rustc_lexer.proofs.laws.boundaries_cut.Goals as goal

pub returns : goal.returns
returns c = tokens-after

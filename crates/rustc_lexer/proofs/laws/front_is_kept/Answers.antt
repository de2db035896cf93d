use Rattle.rustc_lexer.proofs.Cutting.{front-kept}
use Rattle.rustc_lexer.proofs.laws.front_is_kept.Goals as goal

pub returns : goal.returns
returns c = front-kept

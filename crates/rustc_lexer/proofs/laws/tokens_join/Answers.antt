use Rattle.rustc_lexer.proofs.Cutting.{tokens-joined}
use Rattle.rustc_lexer.proofs.laws.tokens_join.Goals as goal

pub returns : goal.returns
returns c = tokens-joined

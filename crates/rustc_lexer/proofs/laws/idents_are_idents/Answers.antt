use Rattle.rustc_lexer.proofs.Identifiers.{tokens-idents}
use Rattle.rustc_lexer.proofs.laws.idents_are_idents.Goals as goal

pub returns : goal.returns
returns c = tokens-idents

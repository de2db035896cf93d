use Rattle.rustc_lexer.proofs.StringEnds.{strings-close}
use Rattle.rustc_lexer.proofs.RawEnds.{raw-ends}
use Rattle.rustc_lexer.proofs.laws.strings_close.Goals as goal

pub returns-clause-plain : goal.returns-clause-plain
returns-clause-plain c = strings-close

pub returns-clause-raw : goal.returns-clause-raw
returns-clause-raw c = raw-ends

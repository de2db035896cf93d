use Rattle.plain_names.proofs.BlindLexeme.{lexemes-blind}
use Rattle.plain_names.proofs.laws.lexemes_ignore_names.Goals as goal

pub returns : goal.returns
returns c = lexemes-blind

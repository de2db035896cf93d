use Rattle.plain_names.proofs.CalmLexeme.{space-ends}
use Rattle.plain_names.proofs.laws.space_ends_tokens.Goals as goal

pub returns : goal.returns
returns c = space-ends

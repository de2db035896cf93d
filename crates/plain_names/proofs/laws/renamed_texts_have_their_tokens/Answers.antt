use Rattle.plain_names.proofs.RenamedTexts.{renamed-texts}
use Rattle.plain_names.proofs.laws.renamed_texts_have_their_tokens.Goals as goal

pub returns : goal.returns
returns c = renamed-texts

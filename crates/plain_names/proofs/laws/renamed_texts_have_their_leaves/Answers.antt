use Rattle.plain_names.proofs.RenamedLeaves.{leaves-renamed}
use Rattle.plain_names.proofs.laws.renamed_texts_have_their_leaves.Goals as goal

pub returns : goal.returns
returns c = leaves-renamed

-- The law is a lemma on the definitions.
use Rattle.renamer.proofs.Undone.{renamings-undone}
use Rattle.renamer.proofs.laws.renamings_are_undone.Goals as goal

pub returns : goal.returns
returns c = renamings-undone

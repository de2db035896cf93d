-- The law is a lemma on the definitions.
use Rattle.tree_indent.proofs.Replacing.{dedenting-replaces}
use Rattle.tree_indent.proofs.laws.dedenting_replaces.Goals as goal

pub returns : goal.returns
returns c = dedenting-replaces

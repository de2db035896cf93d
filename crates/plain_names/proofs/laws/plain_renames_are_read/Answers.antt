use Rattle.plain_names.proofs.Numbered.{keeps-leaves, keeps-inputs}
use Rattle.plain_names.proofs.PlainTrees.{renames-trees, renames-texts, renamed-scalars}
use Rattle.plain_names.proofs.laws.plain_renames_are_read.Goals as goal

pub returns-clause-leaves : goal.returns-clause-leaves
returns-clause-leaves c = keeps-leaves

pub returns-clause-input : goal.returns-clause-input
returns-clause-input c = keeps-inputs

pub returns-clause-tree : goal.returns-clause-tree
returns-clause-tree c = renames-trees

pub returns-clause-text : goal.returns-clause-text
returns-clause-text c = renames-texts

pub returns-clause-scalars : goal.returns-clause-scalars
returns-clause-scalars c = renamed-scalars

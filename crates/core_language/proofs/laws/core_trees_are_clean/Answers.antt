-- The laws are three lemmas.
use Rattle.core_language.proofs.Clean.{files-clean, types-clean, expressions-clean}
use Rattle.core_language.proofs.laws.core_trees_are_clean.Goals as goal

pub returns-clause-files : goal.returns-clause-files
returns-clause-files c = files-clean

pub returns-clause-types : goal.returns-clause-types
returns-clause-types c = types-clean

pub returns-clause-expressions : goal.returns-clause-expressions
returns-clause-expressions c = expressions-clean

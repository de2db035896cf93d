-- The laws are three lemmas.
use Rattle.core_language.proofs.Respaced.{files-spaced, types-spaced, expressions-spaced}
use Rattle.core_language.proofs.laws.spaced_core_trees_are_core.Goals as goal

pub returns-clause-files : goal.returns-clause-files
returns-clause-files c = files-spaced

pub returns-clause-types : goal.returns-clause-types
returns-clause-types c = types-spaced

pub returns-clause-expressions : goal.returns-clause-expressions
returns-clause-expressions c = expressions-spaced

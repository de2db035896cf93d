-- The laws are three lemmas.
use Rattle.core_language.proofs.Read.{files-one, types-one, expressions-one}
use Rattle.core_language.proofs.laws.core_lists_have_one_tree.Goals as goal

pub returns-clause-files : goal.returns-clause-files
returns-clause-files c = files-one

pub returns-clause-types : goal.returns-clause-types
returns-clause-types c = types-one

pub returns-clause-expressions : goal.returns-clause-expressions
returns-clause-expressions c = expressions-one

-- The laws are three lemmas.
use Rattle.core_language.proofs.OneItem.{one-file, one-type, one-expression}
use Rattle.core_language.proofs.laws.core_lists_have_one_derivation.Goals as goal

pub returns-clause-files : goal.returns-clause-files
returns-clause-files c = one-file

pub returns-clause-types : goal.returns-clause-types
returns-clause-types c = one-type

pub returns-clause-expressions : goal.returns-clause-expressions
returns-clause-expressions c = one-expression

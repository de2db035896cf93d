-- The laws are three lemmas.
use Rattle.core_language.proofs.Read.{files-read, types-read, expressions-read}
use Rattle.core_language.proofs.laws.core_lists_are_read.Goals as goal

pub returns-clause-files : goal.returns-clause-files
returns-clause-files c = files-read

pub returns-clause-types : goal.returns-clause-types
returns-clause-types c = types-read

pub returns-clause-expressions : goal.returns-clause-expressions
returns-clause-expressions c = expressions-read

-- The laws are three lemmas.
use Rattle.core_language.proofs.Read.{whole-reads-files, whole-reads-types, whole-reads-expressions}
use Rattle.core_language.proofs.laws.whole_language_reads_core_lists.Goals as goal

pub returns-clause-files : goal.returns-clause-files
returns-clause-files c = whole-reads-files

pub returns-clause-types : goal.returns-clause-types
returns-clause-types c = whole-reads-types

pub returns-clause-expressions : goal.returns-clause-expressions
returns-clause-expressions c = whole-reads-expressions

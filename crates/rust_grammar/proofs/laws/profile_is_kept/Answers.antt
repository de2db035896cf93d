-- The law is three lemmas on both tables.
use Rattle.rust_grammar.proofs.Kept.{begins-as-before, entries-as-before, reads-as-before}
use Rattle.rust_grammar.proofs.laws.profile_is_kept.Goals as goal

pub returns-clause-begin : goal.returns-clause-begin
returns-clause-begin c = begins-as-before

pub returns-clause-read : goal.returns-clause-read
returns-clause-read c = reads-as-before

pub returns-clause-entries : goal.returns-clause-entries
returns-clause-entries c = entries-as-before

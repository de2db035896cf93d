-- One after the other.
use Rattle.rust_productions.proofs.ByHand.{reads-then}
use Rattle.rust_productions.proofs.grammar.fields.name_after_ref.Goals as goal

pub returns-clause-reads : goal.returns-clause-reads
returns-clause-reads c cond = reads-then cond (c.take.ensures.reads cond) (reads-then cond (c.eat.ensures.reads cond) (c.expect_name.ensures.reads cond))

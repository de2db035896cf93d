-- Each path reads what the rule comes to there.
use Rattle.rust_grammar.specs.Rule.{begins, in_mode, from_start, is_silent, passes, shift, there_at}
use Rattle.rust_grammar.specs.Rule as rules
use Rattle.rust_productions.proofs.ByHand.{after-look, reads-call}
use Rattle.rust_productions.proofs.Choices.{reads-here}
use Rattle.rust_productions.proofs.Facts.{begun, nothing, saw-so}
use Rattle.rust_productions.proofs.Seen.{saw-after}
use Rattle.rust_productions.proofs.grammar.use_trees.expect_use_tree.Goals as goal

pub returns-then-at_use_tree-clause-reads : goal.returns-then-at_use_tree-clause-reads
returns-then-at_use_tree-clause-reads c = λ cond. reads-here (begun rules.use_tree (saw-so (c.at_use_tree.ensures.sees cond) c.if-at_use_tree.true) nothing) (after-look cond c.at_use_tree.ensures.peeks.same (reads-call cond (c.use_tree.ensures.gives cond)))

pub returns-clause-reads : goal.returns-clause-reads
returns-clause-reads c = λ cond. reads-here (begun rules.use_tree (saw-so (c.at_use_tree.ensures.sees cond) c.if-at_use_tree.false) nothing) (after-look cond c.at_use_tree.ensures.peeks.same (c.error.ensures.reads cond))

pub use_tree-requires-clause-begins : goal.use_tree-requires-clause-begins
use_tree-requires-clause-begins c = λ cond. saw-after c.at_use_tree.ensures.peeks.same (saw-so (c.at_use_tree.ensures.sees cond) c.if-at_use_tree.true)

-- A token tree, or a message.
use Rattle.rust_grammar.specs.Rule as rules
use Rattle.rust_grammar.specs.Rule.{begins, in_mode, from_start, is_silent, passes, shift, there_at}
use Rattle.rust_productions.proofs.ByHand.{after-look, reads-call}
use Rattle.rust_productions.proofs.Choices.{reads-here}
use Rattle.rust_productions.proofs.Facts.{begun, nothing, saw-so}
use Rattle.rust_productions.proofs.grammar.token_trees.expect_token_tree.Goals as goal

pub returns-then-at_token_tree-clause-reads : goal.returns-then-at_token_tree-clause-reads
returns-then-at_token_tree-clause-reads c = λ cond. reads-here (begun rules.token_tree (saw-so (c.at_token_tree.ensures.sees cond) c.if-at_token_tree.true) nothing) (after-look cond c.at_token_tree.ensures.peeks.same (reads-call cond (c.token_tree.ensures.gives cond)))

pub returns-clause-reads : goal.returns-clause-reads
returns-clause-reads c = λ cond. reads-here (begun rules.token_tree (saw-so (c.at_token_tree.ensures.sees cond) c.if-at_token_tree.false) nothing) (after-look cond c.at_token_tree.ensures.peeks.same (c.error.ensures.reads cond))

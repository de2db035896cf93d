-- What is read in the nodes.
use Rattle.std.proofs.Common.{arith}
use Rattle.rust_productions.specs.declared.condition.Condition.TheVariants.{On}
use Rattle.rust_productions.proofs.ByHand.{reads-call, reads-node, reads-then}
use Rattle.rust_productions.proofs.Seen.{saw-inside}
use Rattle.rust_productions.proofs.grammar.expression_words.macro_block.Goals as goal

pub word_path-requires : goal.word_path-requires
word_path-requires c = record { begins = record { sees = λ cond. saw-inside c.start-call.ensures.opens (saw-inside c.start-node.ensures.opens (c.requires.begins cond)); some = omega arith } }

pub complete-requires : goal.complete-requires
complete-requires c = (c.token_tree.ensures.gives On).does.innermost _ ((c.take.ensures.reads On).does.innermost _ ((c.word_path.ensures.gives On).does.innermost _ c.start-call.ensures.marker))

pub complete-requires-2 : goal.complete-requires-2
complete-requires-2 c = c.complete.ensures.closes.innermost _ ((c.token_tree.ensures.gives On).does.innermost _ ((c.take.ensures.reads On).does.innermost _ ((c.word_path.ensures.gives On).does.innermost _ (c.start-call.ensures.opens.innermost _ c.start-node.ensures.marker))))

pub returns-clause-reads : goal.returns-clause-reads
returns-clause-reads c cond = reads-node cond c.start-node.ensures.opens (reads-node cond c.start-call.ensures.opens (reads-then cond (reads-call cond (c.word_path.ensures.gives cond)) (reads-then cond (c.take.ensures.reads cond) (reads-call cond (c.token_tree.ensures.gives cond)))) c.complete.ensures.closes) c.complete-2.ensures.closes

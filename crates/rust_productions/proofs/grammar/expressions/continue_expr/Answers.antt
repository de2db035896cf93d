-- The keyword and an optional label, in a node.
use Rattle.rust_productions.specs.declared.condition.Condition.TheVariants.{On}
use Rattle.rust_productions.proofs.ByHand.{reads-node, reads-then}
use Rattle.rust_productions.proofs.grammar.expressions.continue_expr.Goals as goal

pub complete-requires : goal.complete-requires
complete-requires c = (c.opt_jump_label.ensures.reads On).does.innermost _ ((c.take.ensures.reads On).does.innermost _ c.start-node.ensures.marker)

pub returns-clause-reads : goal.returns-clause-reads
returns-clause-reads c = λ cond. reads-node cond c.start-node.ensures.opens (reads-then cond (c.take.ensures.reads cond) (c.opt_jump_label.ensures.reads cond)) c.complete.ensures.closes

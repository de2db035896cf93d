-- What is read in two nodes.
use Rattle.rust_productions.specs.declared.condition.Condition.TheVariants.{On}
use Rattle.rust_productions.proofs.ByHand.{reads-node}
use Rattle.rust_productions.proofs.Seen.{saw-inside}
use Rattle.rust_productions.proofs.grammar.fields.shorthand.Goals as goal

pub bound_name-requires-clause-begins : goal.bound_name-requires-clause-begins
bound_name-requires-clause-begins c = λ cond. saw-inside c.start-pattern.ensures.opens (saw-inside c.start-field.ensures.opens (c.requires.begins cond))

pub complete-requires : goal.complete-requires
complete-requires c = (c.bound_name.ensures.reads On).does.innermost _ c.start-pattern.ensures.marker

pub complete-requires-2 : goal.complete-requires-2
complete-requires-2 c = c.complete.ensures.closes.innermost _ ((c.bound_name.ensures.reads On).does.innermost _ (c.start-pattern.ensures.opens.innermost _ c.start-field.ensures.marker))

pub returns-clause-reads : goal.returns-clause-reads
returns-clause-reads c cond = reads-node cond c.start-field.ensures.opens (reads-node cond c.start-pattern.ensures.opens (c.bound_name.ensures.reads cond) c.complete.ensures.closes) c.complete-2.ensures.closes

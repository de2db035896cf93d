-- Each path reads what the rule comes to there.
-- Each path reads what the rule comes to there.
use Rattle.rust_grammar.specs.Expressions.{expressions}
use Rattle.rust_grammar.specs.Items.{items}
use Rattle.rust_grammar.specs.Meaning.{begins_below, look_of}
use Rattle.rust_grammar.specs.Notation.{any_of, is_longer, no_longer, longest, one_of, row}
use Rattle.rust_grammar.specs.Paths.{paths}
use Rattle.rust_grammar.specs.Patterns.{patterns}
use Rattle.rust_grammar.specs.Rule.{begins, in_mode, from_start, is_silent, passes, shift, there_at}
use Rattle.rust_grammar.specs.Statements.{statements}
use Rattle.rust_grammar.specs.Types.{types}
use Rattle.rust_grammar.specs.Whole.{rule, whole}
use Rattle.rust_grammar.specs.Rule as rules
use Rattle.rust_productions.specs.declared.condition.Condition.TheVariants.{On}
use Rattle.rust_productions.proofs.ByHand.{reads-node, reads-then}
use Rattle.rust_productions.proofs.grammar.generic_args.dots_args.Goals as goal

pub returns-clause-reads : goal.returns-clause-reads
returns-clause-reads c = λ cond. reads-node cond c.start-list.ensures.opens (reads-then cond (c.take.ensures.reads cond) (reads-then cond (c.take_pair.ensures.reads cond _ _) (c.expect.ensures.reads cond))) c.complete.ensures.closes

pub complete-requires : goal.complete-requires
complete-requires c = (c.expect.ensures.reads On).does.innermost _ ((c.take_pair.ensures.reads On 0 0).does.innermost _ ((c.take.ensures.reads On).does.innermost _ (c.start-list.ensures.marker)))

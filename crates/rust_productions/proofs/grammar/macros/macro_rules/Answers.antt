-- Each path reads what the rule comes to there.
-- Each path reads what the rule comes to there.
use Rattle.rust_grammar.specs.Expressions.{expressions}
use Rattle.rust_grammar.specs.Items.{items}
use Rattle.rust_grammar.specs.Meaning.{begins_below, look_of}
use Rattle.rust_grammar.specs.Notation.{any_of, is_longer, no_longer, longest, one_of, row}
use Rattle.rust_grammar.specs.Paths.{paths}
use Rattle.rust_grammar.specs.Patterns.{patterns}
use Rattle.rust_grammar.specs.Rule.{begins, in_mode, from_start, is_silent, passes, shift, there_at}
use Rattle.rust_grammar.specs.Statements.{statements}
use Rattle.rust_grammar.specs.Types.{types}
use Rattle.rust_grammar.specs.Whole.{rule, whole}
use Rattle.rust_grammar.specs.Rule as rules
use Rattle.rust_productions.specs.Reads.{On}
use Rattle.rust_productions.proofs.ByHand.{completes-wrap, reads-call, reads-then}
use Rattle.rust_productions.proofs.grammar.macros.macro_rules.Goals as goal

pub returns-clause-completes : goal.returns-clause-completes
returns-clause-completes c = λ cond. completes-wrap (reads-then cond (c.take_contextual.ensures.reads cond) (reads-then cond (c.take.ensures.reads cond) (reads-then cond (reads-call cond (c.name.ensures.gives cond)) (c.macro_tokens.ensures.reads cond)))) c.complete.ensures.closes

pub complete-requires : goal.complete-requires
complete-requires c = (c.macro_tokens.ensures.reads On).does.innermost _ ((c.name.ensures.gives On).does.innermost _ ((c.take.ensures.reads On).does.innermost _ ((c.take_contextual.ensures.reads On).does.innermost _ (c.requires.innermost))))

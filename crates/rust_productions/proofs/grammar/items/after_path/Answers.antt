-- Each path reads what the rule comes to there.
use Rattle.rust_grammar.specs.Expressions.{expressions}
use Rattle.rust_grammar.specs.Items.{items}
use Rattle.rust_grammar.specs.Meaning.{begins_below, look_of}
use Rattle.rust_grammar.specs.Notation.{any_of, is_longer, no_longer, longest, one_of, row}
use Rattle.rust_grammar.specs.Paths.{paths}
use Rattle.rust_grammar.specs.Patterns.{patterns}
use Rattle.rust_grammar.specs.Rule.{begins, in_mode, from_start, is_silent, passes, shift, there_at}
use Rattle.rust_grammar.specs.Statements.{statements}
use Rattle.rust_grammar.specs.Types.{types}
use Rattle.rust_grammar.specs.Whole.{rule, whole}
use Rattle.rust_productions.specs.Reads.{On}
use Rattle.rust_productions.proofs.ByHand.{completes-look, completes-wrap, reads-then}
use Rattle.rust_productions.proofs.Choices.{completes-here}
use Rattle.rust_productions.proofs.Facts.{nothing, saw-so, ◌and◌}
use Rattle.rust_productions.proofs.grammar.items.after_path.Goals as goal

pub complete-requires : goal.complete-requires
complete-requires c = (c.macro_tokens.ensures.reads On).does.innermost _ ((c.take.ensures.reads On).does.innermost _ (c.at.ensures.peeks.same.innermost _ c.requires))

pub returns-then-at-clause-completes : goal.returns-then-at-clause-completes
unfolding look_of begins_below whole rule items statements expressions patterns types paths there_at shift passes is_silent begins in_mode from_start row one_of any_of no_longer longest is_longer
returns-then-at-clause-completes c = λ cond. completes-here (saw-so (c.at.ensures.sees cond) c.if-at.true and nothing) (completes-look c.at.ensures.peeks.same (completes-wrap (reads-then cond (c.take.ensures.reads cond) (c.macro_tokens.ensures.reads cond)) c.complete.ensures.closes))

pub complete-requires-2 : goal.complete-requires-2
complete-requires-2 c = (c.error.ensures.reads On).does.innermost _ (c.at.ensures.peeks.same.innermost _ c.requires)

pub returns-clause-completes : goal.returns-clause-completes
unfolding look_of begins_below whole rule items statements expressions patterns types paths there_at shift passes is_silent begins in_mode from_start row one_of any_of no_longer longest is_longer
returns-clause-completes c = λ cond. completes-here (saw-so (c.at.ensures.sees cond) c.if-at.false and nothing) (completes-look c.at.ensures.peeks.same (completes-wrap (c.error.ensures.reads cond) c.complete-2.ensures.closes))
